pub mod NetLemmas
pub mod GoLemmas
pub mod DoneLemmas
pub mod TellLemmas
pub mod TurnLemmas
pub mod WayLemmas
pub mod CountWays
pub mod OrderLemmas
pub mod FallLemmas
pub mod AtLemmas
mod RunLemmas

pub mod WayLemmas
pub mod TellLemmas
pub mod KnownLemmas

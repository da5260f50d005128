pub mod MarkLemmas
pub mod ReadLemmas
pub mod LoopLemmas
pub mod NumberLemmas
pub mod FoundLemmas
mod WorkedLoops
pub mod RunsLemmas
pub mod NeedsLemmas

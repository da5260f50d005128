pub mod SearchLemmas
pub mod AscendLemmas
pub mod GatherLemmas
pub mod RightLemmas
pub mod EvaluateLemmas
pub mod CycleLemmas
pub mod ConeLemmas
pub mod LawLemmas
pub mod UnsetLemmas
pub mod WorkedSlots
mod WorkedCycles

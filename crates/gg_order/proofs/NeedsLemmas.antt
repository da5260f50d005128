pub mod ReachLemmas
pub mod ReachedLemmas
pub mod MarkedInLemmas
pub mod AddLemmas
pub mod WalkLemmas
pub mod NeedLemmas
pub mod WorkedUnits
pub mod WorkedNeeds

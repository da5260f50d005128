pub mod RenameLemmas
pub mod BackLemmas
pub mod LocalLemmas
pub mod AlongLemmas
pub mod RunLemmas
pub mod FormedLemmas
pub mod PlaceLemmas
pub mod StepLemmas
pub mod FrameLemmas
pub mod BuildLemmas
pub mod PartLemmas
pub mod WorkedParts
pub mod ClockLemmas
pub mod MovedLemmas
mod WorkedCopies
mod WorkedMoved
pub mod DomainLemmas

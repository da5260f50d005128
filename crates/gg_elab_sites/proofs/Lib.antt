pub mod AmongLemmas
pub mod ClockLemmas
pub mod ConnectionLemmas
pub mod DigestLemmas
pub mod FlatLemmas
pub mod FollowLemmas
pub mod FreshLemmas
pub mod ListLemmas
pub mod NameLemmas
pub mod OneLemmas
pub mod OrderLemmas
pub mod PassingLemmas
pub mod SiteLemmas
pub mod StopLemmas
pub mod TyLemmas
mod WorkedCircuits
mod WorkedCounter
mod WorkedHierarchy
mod WorkedParts
pub mod WorkedStops
pub mod WorkedText
pub mod PassLemmas
pub mod CountLemmas
mod WorkedRows

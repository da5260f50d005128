pub mod NamesLemmas
pub mod ChildLemmas
pub mod ClockedLemmas
pub mod DriverLemmas
pub mod EachTreeLemmas
pub mod ElementLemmas
pub mod EndLemmas
pub mod FieldLemmas
pub mod HeldMemoryLemmas
pub mod HoldsLemmas
pub mod InstanceLemmas
pub mod KeptLemmas
pub mod OwnLemmas
pub mod PairwiseLemmas
pub mod PlaceLemmas
pub mod RangeLemmas
pub mod WellFormedLemmas
pub mod ScopeOfTreeLemmas
pub mod StopLemmas
pub mod StopOutLemmas
pub mod StopOwnLemmas
pub mod StopPartLemmas
pub mod ThereLemmas
pub mod TreeJoinLemmas
pub mod TreeLemmas
pub mod TreePartLemmas
pub mod VisibleLemmas
mod WorkedStopTree
mod WorkedTree
mod WorkedHeld

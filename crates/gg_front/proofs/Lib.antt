pub mod AgreementLemmas
pub mod EachMeaningLemmas
pub mod FaultLemmas
pub mod LoopLemmas
pub mod MeaningLemmas
pub mod TreeLemmas
mod WorkedRows
pub mod CopyBelowLemmas
pub mod CopyClockLemmas
pub mod CopyClosedLemmas
pub mod CopyDriverLemmas
pub mod CopyFieldLemmas
pub mod CopyInputLemmas
pub mod CopyInsideLemmas
pub mod CopyInstanceLemmas
pub mod CopyLemmas
pub mod CopyLineLemmas
pub mod CopyPlaceLemmas
pub mod CopyRankLemmas
pub mod LikeSites
pub mod SpeltLemmas
pub mod BytesLemmas
pub mod PathLemmas
pub mod FreshLemmas
pub mod HeldLemmas
pub mod PortLemmas
mod WorkedPaths

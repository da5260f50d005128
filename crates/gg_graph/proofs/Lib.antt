pub mod RingLemmas
pub mod RotationLemmas
pub mod StageLemmas
pub mod StepLemmas
pub mod ListLemmas
pub mod WorkedRows

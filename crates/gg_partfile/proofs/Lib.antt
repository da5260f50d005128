pub mod FaultLemmas
pub mod KeyOrder
pub mod ListSteps
pub mod OnceLemmas
pub mod RequestLemmas
pub mod SizeLemmas
mod WorkedRows
mod WorkedShapes

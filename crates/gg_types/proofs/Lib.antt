pub mod LiteralLemmas
mod LiteralRows
pub mod PlaceLemmas
pub mod ClockLemmas
pub mod InputLemmas
pub mod OwnLemmas
pub mod StepLemmas
pub mod WidthLemmas
mod WorkedRows
mod WorkedModules
mod WorkedClocks

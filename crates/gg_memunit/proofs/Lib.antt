pub mod PortLemmas
pub mod UnitLemmas
pub mod DependLemmas
pub mod ThroughLemmas
pub mod WorkedRows
pub mod WorkedCycles
pub mod WorkedPiece

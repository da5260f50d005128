pub mod TopClockLemmas
pub mod WorkedTree
pub mod WorkedScopes
pub mod WorkedTreeClocks

pub mod PhaseLemmas
pub mod WorkedEdges

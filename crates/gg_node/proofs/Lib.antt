pub mod EmptyLemmas
pub mod OneLemmas
pub mod WorkedRows

pub mod AlongLemmas
pub mod TableLemmas
pub mod PortLemmas
pub mod BlockLemmas
pub mod ScopeLemmas
pub mod FindLemmas
pub mod HeldLemmas
mod WorkedRows

pub mod BeginLemmas
pub mod OrderLemmas

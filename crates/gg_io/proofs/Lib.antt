pub mod EndingLemmas
pub mod EndsLemmas
pub mod OrderLemmas
pub mod WritingLemmas
mod WorkedEndings
mod WorkedLoads

mod PatternLaws
pub mod ResultLaws
pub mod PathLemmas
mod WorkedRows
mod WorkedLimits

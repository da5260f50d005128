pub mod LogLemmas
pub mod FrontLemmas
pub mod LineLemmas
pub mod OpeningLemmas
pub mod WorkedRows
pub mod StepsFileLemmas

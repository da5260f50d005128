pub mod Depth
pub mod DigitRuns
pub mod Expressions
pub mod ExpressionsSpelt
pub mod FieldLaws
pub mod Leaves
pub mod NamesSpelt
pub mod RowLaws
pub mod RowsRead
pub mod RowsSpelt
pub mod WordLaws
pub mod WordNames
mod WorkedFields
mod WorkedRows
mod WorkedSpelling

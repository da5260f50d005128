-- The definitions for the contracts of the crate.
pub mod Rows
pub mod Printed
pub mod Sums
pub mod CircuitText
pub mod PartitionText
pub mod TraceText
pub mod SummaryText
pub mod inside

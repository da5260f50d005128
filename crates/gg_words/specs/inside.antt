-- Definitions that no promise of the program reaches: for single functions, and for proofs.
pub mod Line
pub mod Meaning
pub mod Range

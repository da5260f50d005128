-- Definitions that no promise of the program reaches: for single functions, and for proofs.
pub mod Ends
pub mod FaultText
pub mod Fronts
pub mod NextToken
pub mod Bytes
pub mod Lines

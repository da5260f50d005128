-- Definitions that no promise of the program reaches: for single functions, and for proofs.
pub mod Counted
pub mod Told
pub mod FaultText
pub mod Faults
pub mod Judged

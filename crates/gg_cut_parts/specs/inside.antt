-- Definitions that no promise of the program reaches: for single functions, and for proofs.
pub mod Domains
pub mod Draft
pub mod Innermost
pub mod MovedPart

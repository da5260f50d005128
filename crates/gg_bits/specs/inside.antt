-- Definitions that no promise of the program reaches: for single functions, and for proofs.
pub mod AddErrorText
pub mod BadText
pub mod Firsts
pub mod Shape
pub mod Spelling

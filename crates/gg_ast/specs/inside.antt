-- Definitions that no promise of the program reaches: for single functions, and for proofs.
pub mod Steps
pub mod TermOf
pub mod Names
pub mod Places
pub mod Term
pub mod Tree
pub mod Words

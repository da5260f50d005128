-- Definitions that no promise of the program reaches: for single functions, and for proofs.
pub mod Declares
pub mod Tables
pub mod Memory
pub mod Modules
pub mod Namespace
pub mod Repetitions

-- Definitions that no promise of the program reaches: for single functions and for proofs.
pub mod Log
pub mod Stopping
pub mod Table
pub mod Spelling
pub mod Words

-- Definitions that no promise of the program reaches: for single functions, and for proofs.
pub mod Named
pub mod Places
pub mod Typed
pub mod Clocks
pub mod Memories
pub mod Types

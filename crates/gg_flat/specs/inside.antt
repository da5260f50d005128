-- Definitions that no promise of the program reaches: for single functions, and for proofs.
pub mod Along
pub mod InOrder
pub mod Line
pub mod Named
pub mod Ports
pub mod Renaming
pub mod Run
pub mod Served
pub mod Settled

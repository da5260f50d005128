-- Definitions that no promise of the program reaches: for single functions, and for proofs.
pub mod Lined
pub mod Parted
pub mod Places
pub mod Cells
pub mod Fields
pub mod Ports
pub mod Table

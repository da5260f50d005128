-- Definitions that no promise of the program reaches: for single functions and for proofs.
pub mod Begin
pub mod Bridges
pub mod Groups
pub mod Hosts
pub mod Node
pub mod Wires
pub mod Alone
pub mod Build
pub mod Built
pub mod CutLayout
pub mod Each
pub mod Given

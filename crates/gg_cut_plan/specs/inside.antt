-- Definitions that no promise of the program reaches: for single functions, and for proofs.
pub mod Named
pub mod Owners
pub mod Bridges
pub mod Channels
pub mod Direct
pub mod Listed
pub mod Machines
pub mod Plan
pub mod Ports
pub mod Solves

-- Definitions that no promise of the program reaches: for single functions and for proofs.
pub mod Apart
pub mod Assigned
pub mod HostSeats
pub mod LaterLaws
pub mod LinkedHosts
pub mod Making
pub mod Opened
pub mod Turns

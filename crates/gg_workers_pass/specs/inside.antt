-- Definitions that no promise of the program reaches: for single functions and for proofs.
pub mod Chosen
pub mod Rows
pub mod SeatLists
pub mod Seats
pub mod Pass
pub mod Tries

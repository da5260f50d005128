-- Definitions that no promise of the program reaches: for single functions and for proofs.
pub mod Runs
pub mod Bridges
pub mod Case
pub mod HandFault
pub mod Commands
pub mod Outcome
pub mod Partition
pub mod Replay
pub mod Replayed
pub mod Run
pub mod Stepped

-- Definitions that no promise of the program reaches: for single functions, and for proofs.
pub mod Echo
pub mod JoinedParts
pub mod JoinedRuns
pub mod All
pub mod Hosted
pub mod Joined
pub mod Model
pub mod Ports
pub mod Turned
pub mod Watched

-- Definitions that no promise of the program reaches: for single functions, and for proofs.
pub mod Fault
pub mod Places
pub mod Groups
pub mod NeedsMarks
pub mod Walk
pub mod AccessLaws
pub mod AgreeLaws
pub mod Lent
pub mod RunLaws
pub mod SettledLaws
pub mod Marks

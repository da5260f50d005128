-- Definitions that no promise of the program reaches: for single functions, and for proofs.
pub mod Beginning
pub mod Ends
pub mod CanSplit
pub mod IsShare
pub mod Share
pub mod Spread
pub mod Again
pub mod StandAgain
pub mod Apart
pub mod Closed
pub mod CutChannels
pub mod Longest
pub mod OwnersByPath

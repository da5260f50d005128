-- Definitions that no promise of the program reaches: for single functions and for proofs.
pub mod Gathered
pub mod StatesHeld
pub mod Draft
pub mod Heading
pub mod OneSnap
pub mod Parts
pub mod Places
pub mod Snap
pub mod TextWhole
pub mod Whole

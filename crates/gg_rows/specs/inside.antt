-- Definitions that no promise of the program reaches: for single functions and for proofs.
pub mod Folded
pub mod NetOfPlan
pub mod RunPrinted
pub mod RunTaken
pub mod Taken
pub mod Trays
pub mod Window
pub mod Printed
pub mod Rows
pub mod Sums

-- Definitions that no promise of the program reaches: for single functions and for proofs.
pub mod Parted
pub mod Queue
pub mod Readings
pub mod Stations
pub mod TrayLaws
pub mod Fits
pub mod LayoutOf
pub mod Leads
pub mod MarkingLaws
pub mod ProgressLaws
pub mod Net
pub mod Network
pub mod Step
pub mod Counts
pub mod Measure

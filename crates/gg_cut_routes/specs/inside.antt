-- Definitions that no promise of the program reaches: for single functions, and for proofs.
pub mod Routable
pub mod RoutedCuts
pub mod Routes
pub mod Share
pub mod Tables

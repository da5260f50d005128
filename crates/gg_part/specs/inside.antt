-- Definitions that no promise of the program reaches: for single functions, and for proofs.
pub mod Choice
pub mod Clocking
pub mod Domains
pub mod Local
pub mod Numbers
pub mod PartsMove
pub mod RunsOfParts
pub mod StandsAgain
pub mod Building
pub mod Part
pub mod PartRun

pub mod Part
pub mod PartRun
pub mod Building
pub mod Copies
pub mod KeepsToTree
pub mod Moved
pub mod inside

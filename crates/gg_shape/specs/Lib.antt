pub mod Faults
pub mod Shape
pub mod Memories
pub mod Rings
pub mod Judged
pub mod FaultText
pub mod inside

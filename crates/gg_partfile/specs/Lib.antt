pub mod Fault
pub mod Keys
pub mod Partition
pub mod Request
pub mod Shapes
pub mod Size
pub mod inside

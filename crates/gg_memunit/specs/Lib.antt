pub mod MemoryUnit
pub mod inside

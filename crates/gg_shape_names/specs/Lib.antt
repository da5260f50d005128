pub mod Scope
pub mod Along
pub mod Memory
pub mod Namespace
pub mod Repetitions
pub mod Modules
pub mod inside

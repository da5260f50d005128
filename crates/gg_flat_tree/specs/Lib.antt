pub mod Tree
pub mod Scoped
pub mod OutputPorts
pub mod Clocked
pub mod inside

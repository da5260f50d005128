pub mod Bytes
pub mod Tokens
pub mod Lines
pub mod inside

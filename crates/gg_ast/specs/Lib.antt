pub mod Term
pub mod Row
pub mod Tree
pub mod Rows
pub mod Places
pub mod Names
pub mod Words
pub mod inside

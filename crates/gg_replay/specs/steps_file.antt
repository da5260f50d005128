pub mod Naming
pub mod Words
pub mod Steps
pub mod Cause
pub mod Spelling

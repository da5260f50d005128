pub mod Value
pub mod Shape
pub mod ResultType
pub mod Meaning
pub mod Spelling
pub mod Limits
pub mod Lists
pub mod inside

pub mod Reference
pub mod Links
pub mod Made
pub mod Follows
pub mod fitting
pub mod whole
pub mod text
pub mod inside

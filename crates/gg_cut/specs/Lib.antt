pub mod Made
pub mod existence
pub mod inside

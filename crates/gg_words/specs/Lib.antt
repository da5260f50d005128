-- The definitions that the contracts of the command line name.
pub mod Line
pub mod Number
pub mod Unexpected
pub mod Meaning
pub mod Range
pub mod inside

-- The definitions that the front end's contracts name.
pub mod Accepted
pub mod Fault
pub mod Meaning
pub mod inside

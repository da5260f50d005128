pub mod Text
pub mod Causes
pub mod FaultText
pub mod inside

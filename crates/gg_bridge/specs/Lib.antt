pub mod Hosted
pub mod Ports
pub mod Model
pub mod Joined
pub mod Turned
pub mod All
pub mod inside

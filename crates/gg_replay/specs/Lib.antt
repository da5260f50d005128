pub mod ReplayText
pub mod steps_file
pub mod inside

pub mod Design
pub mod Found
pub mod Loop
pub mod Marks
pub mod runs
pub mod needs
pub mod inside

pub mod Marking
pub mod Goes
pub mod Steps
pub mod Counts
pub mod Measure

pub mod Lines
pub mod Table
pub mod Known
pub mod Standing
pub mod FaultText

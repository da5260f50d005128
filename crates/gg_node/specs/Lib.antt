pub mod Machine
pub mod Token
pub mod Step
pub mod inside

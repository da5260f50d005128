pub mod Forms
pub mod inside

pub mod Built
pub mod Each
pub mod CutLayout

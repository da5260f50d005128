pub mod CycleLemmas
pub mod RunLemmas

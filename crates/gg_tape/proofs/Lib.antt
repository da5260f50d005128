mod TypeLemmas
mod RunLemmas
mod TellLemmas
mod CodeLemmas
mod RegisterLemmas
pub mod TapeLemmas
mod CellsLemmas

mod NumberLemmas
mod PipeLemmas
mod GatherLemmas
mod AloneLemmas
mod PlannedLemmas
mod SaveLemmas
mod WholeLemmas
mod HolderLemmas
mod AllLemmas
mod SizeLemmas
mod EndLemmas
mod StandLemmas
mod TokenLemmas
mod EndedLemmas
mod BeginLemmas
pub mod TextLemmas

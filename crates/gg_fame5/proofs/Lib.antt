pub mod TokenLemmas
pub mod ForkLemmas
pub mod LaneLemmas
pub mod EmptyLemmas
pub mod OpeningLemmas
pub mod SharedLemmas
pub mod WorkedPair
pub mod WorkedMemories
pub mod WorkedThreads
mod WorkedToggle

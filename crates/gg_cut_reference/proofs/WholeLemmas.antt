pub mod NameLemmas
pub mod SeenLemmas
pub mod PlanLemmas
pub mod LeftLemmas
pub mod PortLemmas
pub mod StateLemmas
pub mod RunLemmas
pub mod WorkedWhole

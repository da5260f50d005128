pub mod LineLemmas
pub mod NeedLemmas
pub mod PlanLemmas
pub mod PlanTextLemmas
pub mod SameCutLemmas
mod WorkedCheck

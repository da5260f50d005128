pub mod BuildLemmas
pub mod TableLemmas
pub mod PipingLemmas
pub mod FewLemmas

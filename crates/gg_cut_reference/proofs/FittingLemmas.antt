pub mod FittingLemmas
pub mod AttachLemmas
pub mod OpenLemmas
pub mod NameLemmas
pub mod PortLemmas

pub mod HostLemmas
pub mod LeaderLemmas
pub mod NameLemmas
pub mod PortLemmas
pub mod WireLemmas

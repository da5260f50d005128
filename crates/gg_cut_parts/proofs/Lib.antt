pub mod DraftFollowerLemmas
pub mod DraftLemmas
pub mod FollowerLemmas
pub mod MachineLemmas
pub mod MovedPartLemmas
pub mod MovedUnitLemmas
pub mod PathLemmas
pub mod PlaceLemmas
pub mod RegisterLemmas
pub mod RoutedLemmas
pub mod TimedLemmas
pub mod TableLemmas
pub mod FollowLemmas
pub mod DomainTimes
mod WorkedDomains

pub mod NumberLemmas
pub mod LinkLemmas
pub mod ListedLemmas
pub mod WiredLemmas
pub mod SideLemmas
pub mod PortLemmas
pub mod GivenLemmas
pub mod FitLemmas
pub mod RankLemmas
pub mod CopyLemmas
pub mod NeedLemmas
pub mod RingLemmas
pub mod PlanLemmas
pub mod OpeningLemmas
pub mod ZeroLemmas
mod WorkedNetwork
mod WorkedFork
pub mod ShownLemmas
pub mod SeenLemmas
pub mod ServeLemmas
pub mod BeginLemmas
pub mod AlikeLemmas
pub mod StateLemmas
pub mod DoLemmas
pub mod EdgeLemmas
pub mod SolvedLemmas
pub mod WithinLemmas
pub mod StillLemmas
pub mod WordLemmas
pub mod BackLemmas
pub mod MemoryPartLemmas
pub mod ChosenLemmas
pub mod AloneLemmas
pub mod StandLemmas
pub mod BodyLemmas
mod WorkedAlone
pub mod TurnedLemmas
pub mod PlaceLemmas
pub mod BridgeLemmas
pub mod RowLemmas
pub mod RunLemmas
pub mod BridgeDoLemmas
pub mod SolveLemmas
mod WorkedBridge
pub mod AscendingLemmas
pub mod BeforeLemmas
pub mod WireLemmas
pub mod TurnLemmas
pub mod ReachLemmas
pub mod ChannelLemmas
pub mod MemoryLemmas
pub mod OutNeedLemmas
pub mod OneLemmas
pub mod LayoutLemmas
mod WorkedLayout

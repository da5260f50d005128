pub mod FaultRows
pub mod ConnectedLemmas
pub mod FlatLemmas
pub mod PlaceLemmas
pub mod UnconnectedLemmas
pub mod WorkedCircuits
mod WorkedRows
mod WorkedMemories
mod WorkedRings

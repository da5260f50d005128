pub mod BridgesLemmas
pub mod CircuitsLemmas
mod PortLemmas
pub mod WorkersLemmas

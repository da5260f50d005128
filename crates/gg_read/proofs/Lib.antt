pub mod Builds
pub mod EveryText
pub mod FaultLines
pub mod LineSteps
pub mod NamesSpelt
pub mod NextStages
pub mod TextSteps
pub mod TokenCounts
mod WorkedDepth
mod WorkedFaults
mod WorkedForms
mod WorkedMemories
mod WorkedPlaces
mod WorkedSpelling
mod WorkedText

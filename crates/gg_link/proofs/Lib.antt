pub mod StreamLemmas
pub mod ViewLemmas
mod WorkedSeats

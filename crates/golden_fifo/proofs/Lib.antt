pub mod FifoLemmas
mod WorkedFifo

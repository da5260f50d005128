pub mod HandLemmas

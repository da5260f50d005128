pub mod OptionalHostLemmas

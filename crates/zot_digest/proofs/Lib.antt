pub mod DigestLemmas
pub mod OrderLemmas

pub mod MemoryLemmas
pub mod NoteLemmas
pub mod PipeLemmas
pub mod StatusLemmas
pub mod StorageLemmas
pub mod VerifyLemmas
pub mod WordLemmas

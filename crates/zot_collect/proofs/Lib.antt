pub mod TestLemmas
pub mod SetLemmas
pub mod PlaceLemmas
pub mod SpreadLemmas
pub mod WalkLemmas
pub mod LawLemmas
pub mod RegistryLemmas

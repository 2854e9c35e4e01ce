pub mod ListingLemmas
pub mod MomentLemmas
pub mod ObjectLemmas
pub mod StreamLemmas
pub mod WalkLemmas
pub mod WholeLemmas

pub mod PlainLemmas
pub mod WalkLemmas
pub mod ListingLemmas

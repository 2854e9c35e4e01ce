pub mod EndingLemmas
pub mod SegmentLemmas
pub mod LineLemmas
pub mod ManifestLemmas
pub mod NameLemmas
pub mod RouteLemmas
pub mod ValidLemmas
pub mod OneLemmas

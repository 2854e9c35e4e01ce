pub mod KeptLemmas
pub mod MarkLemmas
pub mod PatternLemmas
pub mod PlaceLemmas
pub mod RankLemmas

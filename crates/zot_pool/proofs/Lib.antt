pub mod UpstreamLemmas
pub mod ListLemmas
pub mod PoolLemmas
pub mod OpeningLemmas
pub mod SeamLemmas

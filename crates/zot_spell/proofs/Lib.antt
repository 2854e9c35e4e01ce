pub mod AlikeLemmas
pub mod BodyLemmas
pub mod CutLemmas
pub mod FitLemmas
pub mod PlainLemmas
pub mod RequestLemmas
pub mod SplitLemmas

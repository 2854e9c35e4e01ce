pub mod EntryLemmas
pub mod ViewLemmas
pub mod RequestLemmas
pub mod ConnectionLemmas
pub mod OpeningLemmas
pub mod ClosingLemmas

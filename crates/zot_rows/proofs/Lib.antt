pub mod HistoryLemmas
pub mod SeatLemmas
pub mod ListingLemmas
pub mod AnswerLemmas
pub mod OpeningLemmas

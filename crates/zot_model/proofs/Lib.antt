pub mod AloneLemmas
pub mod FitLemmas
pub mod HistoryLemmas
pub mod KeptLemmas
pub mod PageLemmas
pub mod PushLemmas

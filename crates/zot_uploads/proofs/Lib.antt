pub mod TableLemmas
pub mod CaseLemmas

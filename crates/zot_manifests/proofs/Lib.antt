pub mod CheckLemmas
pub mod IndexLemmas
pub mod TagLemmas
pub mod TableLemmas
pub mod SetLemmas
pub mod TagIndexLemmas
pub mod BackLemmas

pub mod MediaLemmas
pub mod FieldLemmas
pub mod DescriptorLemmas
pub mod EachLemmas
pub mod ReferenceLemmas
pub mod OrderLemmas

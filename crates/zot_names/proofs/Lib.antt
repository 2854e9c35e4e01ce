pub mod ComponentLemmas
pub mod NameLemmas
pub mod ByteLemmas
pub mod UploadLemmas
pub mod GlobLemmas
pub mod TryLemmas

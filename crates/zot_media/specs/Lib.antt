pub mod Media
pub mod Document
pub mod Fields
pub mod Descriptors
pub mod Manifest
pub mod References
pub mod Referrers
pub mod Answers

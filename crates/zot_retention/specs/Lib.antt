pub mod Patterns
pub mod Policies
pub mod Kept
pub mod Ranks

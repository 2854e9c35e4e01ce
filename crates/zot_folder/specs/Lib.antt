pub mod Answers
pub mod Held
pub mod Listing
pub mod Paths
pub mod Steps
pub mod Trees
pub mod Walks

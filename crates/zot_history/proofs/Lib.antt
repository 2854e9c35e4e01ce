pub mod Histories
pub mod Prefixes
pub mod Runs

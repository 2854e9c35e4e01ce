pub mod Pool
pub mod Shards
pub mod Holdings
pub mod Listing
pub mod Opening
pub mod Answers
pub mod Places
pub mod Holders

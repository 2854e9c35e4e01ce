pub mod Faults
pub mod Upstreams
pub mod Pools
pub mod Answers
pub mod Opening

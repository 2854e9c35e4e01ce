pub mod Accepted
pub mod Faults
pub mod Moments
pub mod Objects
pub mod Passing
pub mod PathWalks
pub mod Streams
pub mod Whole

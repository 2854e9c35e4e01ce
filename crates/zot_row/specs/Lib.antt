pub mod Turns
pub mod Refusals
pub mod Stages
pub mod Doing
pub mod Going

pub mod Causes
pub mod Configured
pub mod Files
pub mod Hosts
pub mod Parts
pub mod Scratch

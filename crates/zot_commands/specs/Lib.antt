pub mod Memory
pub mod PipeEndings
pub mod Program
pub mod Storage
pub mod Verify

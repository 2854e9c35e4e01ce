pub mod Faults
pub mod Forwarding
pub mod Peers

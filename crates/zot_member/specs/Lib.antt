pub mod Places
pub mod Answering
pub mod Asking
pub mod Neighbours

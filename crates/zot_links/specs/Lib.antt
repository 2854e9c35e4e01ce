pub mod Records
pub mod Meaning
pub mod Promotion
pub mod Changes
pub mod Orders
pub mod Holding
pub mod Opening
pub mod Aims

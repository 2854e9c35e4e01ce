pub mod Configured
pub mod Entries
pub mod Views
pub mod Connections
pub mod Parts
pub mod Opening

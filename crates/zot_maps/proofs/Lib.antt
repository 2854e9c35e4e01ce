pub mod Maps
pub mod Entries

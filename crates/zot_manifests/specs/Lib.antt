pub mod Table
pub mod Codes
pub mod Check
pub mod Index
pub mod Tags
pub mod Replacing

pub mod Histories
pub mod Listing
pub mod Agreed
pub mod Rows
pub mod Seats
pub mod Opening

pub mod Calls
pub mod Fakes
pub mod Given
pub mod Owners
pub mod Split

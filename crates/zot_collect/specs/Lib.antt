pub mod Marks
pub mod Retire
pub mod Registry

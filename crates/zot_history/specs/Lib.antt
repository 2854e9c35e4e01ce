pub mod History
pub mod Run

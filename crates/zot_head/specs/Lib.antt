pub mod Chunked
pub mod Fields
pub mod Found
pub mod Front
pub mod Limits
pub mod Lines
pub mod Progress
pub mod Spans

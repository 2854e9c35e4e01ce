pub mod Name
pub mod Reading
pub mod Tag
pub mod Upload
pub mod Glob
pub mod Tries

pub mod Reading
pub mod Details
pub mod Pages

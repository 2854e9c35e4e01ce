pub mod Fields
pub mod Heads
pub mod Bodies
pub mod Spelling
pub mod Alike
pub mod Wire

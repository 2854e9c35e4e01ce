pub mod Digest
pub mod Hasher
pub mod ByteMap

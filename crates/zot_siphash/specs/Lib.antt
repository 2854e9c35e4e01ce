pub mod Owners
pub mod SipHash

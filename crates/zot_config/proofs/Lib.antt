pub mod AddressLemmas
pub mod ReadLemmas
pub mod WalkLemmas
pub mod CountLemmas
pub mod OneLemmas
pub mod TreeLemmas

pub mod ForwardLemmas
pub mod PeerLemmas

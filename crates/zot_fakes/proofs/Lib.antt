mod MapLemmas
mod OwnerLemmas
mod SourceLemmas
mod SplitLemmas

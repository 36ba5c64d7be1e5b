pub mod ChainLemmas
pub mod LastAttempt
pub mod SameChains

pub mod DisplayerLemmas
pub mod Lists
pub mod RunnerLemmas

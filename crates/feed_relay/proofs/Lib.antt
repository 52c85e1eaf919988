pub mod CommitLemmas
pub mod FirstLemmas
pub mod PullingLemmas
pub mod ServingLemmas

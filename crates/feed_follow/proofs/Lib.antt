pub mod BodyLemmas
pub mod CodingLemmas
pub mod HeadLemmas
pub mod OnceLemmas
pub mod PushLemmas
pub mod Carrying

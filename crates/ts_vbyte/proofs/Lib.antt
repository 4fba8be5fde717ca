pub mod Vectors
pub mod SpellingLemmas
pub mod ReadLemmas

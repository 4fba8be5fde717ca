pub mod Examples
pub mod PermutationLemmas
pub mod MapLemmas

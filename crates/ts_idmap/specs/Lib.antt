pub mod IdMap
pub mod Permutation

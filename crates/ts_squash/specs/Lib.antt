pub mod NewNumbers
pub mod Squashed

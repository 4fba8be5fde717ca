pub mod Upto
pub mod Rolled
pub mod Waiting
pub mod Sums

pub mod Rank
pub mod Select
pub mod BitArray
pub mod Ranked
pub mod BitKinds
pub mod Extends
pub mod Vector

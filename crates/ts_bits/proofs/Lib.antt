pub mod Ranks
pub mod WordBits
pub mod Bytes
pub mod Arrays
pub mod Counts
pub mod Lookups
pub mod BitKinds
pub mod Packing

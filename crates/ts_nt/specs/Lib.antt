pub mod Items
pub mod Limits
pub mod LineRead
pub mod Parts
pub mod Reading
pub mod Terms
pub mod TripleLine
pub mod TripleText

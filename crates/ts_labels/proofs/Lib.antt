pub mod FileLaws
pub mod PlaceLaws
pub mod Vectors

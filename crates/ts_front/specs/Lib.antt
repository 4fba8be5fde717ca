pub mod Shared
pub mod Dictionary
pub mod Made
pub mod Pieces
pub mod Reading
pub mod Building

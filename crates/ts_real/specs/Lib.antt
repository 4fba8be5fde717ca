pub mod Entry
pub mod Reading
pub mod Real
pub mod Saying
pub mod Writing

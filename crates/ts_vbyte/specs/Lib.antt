pub mod Buffer
pub mod Spelling

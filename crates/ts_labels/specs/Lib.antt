pub mod LabelFile
pub mod Labels
pub mod Moves
pub mod Place

pub mod Sequence
pub mod WaveletTree
pub mod Nodes
pub mod Vector
pub mod Control

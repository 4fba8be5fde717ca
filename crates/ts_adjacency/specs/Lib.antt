pub mod Rows
pub mod Adjacency

pub mod Examples
pub mod FourRows
pub mod Pass
pub mod Reached
pub mod Search

pub mod RowLemmas
pub mod EdgeLemmas

pub mod BlankLaws
mod Characters
pub mod FindsLaws
mod HexDigits
mod ItemLaws
pub mod LineLaws
pub mod LiteralLaws
pub mod VerbatimFronts
pub mod VerbatimLaws
pub mod NodeLaws
pub mod PrintLaws
pub mod Printing
pub mod DelimitedLaws
mod ReadsLaws
pub mod ScalarLaws
pub mod Seams
pub mod TermLaws
pub mod TripleLaws
pub mod TypeLaws
mod Vectors

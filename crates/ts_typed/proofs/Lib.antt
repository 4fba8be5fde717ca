pub mod Decimal
pub mod Values

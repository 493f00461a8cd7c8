pub mod Decimal
pub mod Numerals
pub mod DecimalSteps
pub mod Claims

pub mod Columns
pub mod Hex

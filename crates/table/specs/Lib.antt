pub mod Limits
pub mod Columns

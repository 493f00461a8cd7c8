pub mod Text
pub mod Place
pub mod Rows
pub mod Units

pub mod Braced
pub mod Entries
pub mod Examples
pub mod Claims
pub mod BracedSteps

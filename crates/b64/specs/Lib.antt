pub mod Lengths
pub mod B64
pub mod Table
pub mod Runs
pub mod B64Steps
pub mod RunSteps
pub mod Claims

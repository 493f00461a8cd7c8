pub mod Judging
pub mod PlainSteps

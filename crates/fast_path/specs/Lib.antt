pub mod Contents
pub mod Walk
pub mod WalkSteps
pub mod Claims

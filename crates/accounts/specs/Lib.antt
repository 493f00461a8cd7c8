pub mod Lines
pub mod Listing
pub mod Feeding
pub mod FeedingSteps
pub mod Batches
pub mod Claims

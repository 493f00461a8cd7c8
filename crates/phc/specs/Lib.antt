pub mod Records
pub mod Writing
pub mod Batches
pub mod Claims

pub mod Accepted
pub mod PlainLaws

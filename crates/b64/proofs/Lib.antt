pub mod TableRules
pub mod B64Laws
pub mod Chunks
pub mod B64Code
pub mod RunLaws
pub mod B64Examples
pub mod Claims

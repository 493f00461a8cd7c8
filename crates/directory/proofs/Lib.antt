pub mod Prefixes
pub mod Texts
pub mod ReaderLaws
pub mod WriterLaws
pub mod Examples
pub mod Claims

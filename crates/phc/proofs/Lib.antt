pub mod CodeLaws
pub mod SizeLaws
pub mod RecordLaws
pub mod RecordAllLaws
pub mod WrittenBack
pub mod Refusals
pub mod JudgeLaws
pub mod Claims

pub mod TextLines
pub mod LineLaws
pub mod RowLaws
pub mod FeedLaws
pub mod CallLaws
pub mod BatchLaws
pub mod BatchRuns
pub mod Claims

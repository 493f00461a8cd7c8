pub mod ColumnLaws
pub mod HexLaws

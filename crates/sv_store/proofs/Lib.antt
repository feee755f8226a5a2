pub mod CellLaws
pub mod ChangeLaws
pub mod InitLaws
pub mod NextLaws
pub mod RowLaws
pub mod StoreLaws
pub mod TakeLaws

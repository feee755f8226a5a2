pub mod LeaveLaws
pub mod OnceLaws
pub mod RowLaws

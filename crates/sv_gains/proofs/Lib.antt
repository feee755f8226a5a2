pub mod FlatLaws
pub mod GainLaws
pub mod RowLaws
pub mod ShortLaws
pub mod SystemLaws

pub mod HeldLaws
pub mod QueryLaws
pub mod RestLaws
pub mod RowsLaws

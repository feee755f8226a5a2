pub mod IndexLaws
pub mod PoolLaws
pub mod SearchLaws

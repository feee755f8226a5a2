pub mod CaseLaws
pub mod FirstLaws
pub mod LabelLaws
pub mod MoveLaws
pub mod PlainLaws
pub mod SideLaws
pub mod TestLaws

pub mod CauseLaws
pub mod MissingLaws
pub mod PassLaws

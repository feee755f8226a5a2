-- Initial rows fit the schema, and no two stand at one place.
pub use Rattle.sv_effect.specs.Initial.{ValuesFit, InitFits, AreDistinct}

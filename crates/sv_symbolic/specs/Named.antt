-- Forms, facts and effects name only the symbols that were brought in.
pub use Rattle.sv_linear.specs.Named.{IsSymbol, TermsName, ValueNames, WriteNames, WritesName, EffectsName, IsFact, AreFacts}

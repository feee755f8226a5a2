-- Values are of types, and arguments fit parameters: one for each, of its type.
use Rattle.std.specs.Prelude.{ℤ, pos, List, [], ◌∷◌}
use Rattle.sv_value.specs.declared.values.Val.{Val}
use Rattle.sv_value.specs.declared.values.Val.TheVariants as vals
use Rattle.sv_app.specs.declared.apps.Ident.{Ident}
use Rattle.sv_app.specs.declared.requests.Arg.{Arg}
use Rattle.sv_app.specs.declared.requests.Arg.TheVariants as args
use Rattle.sv_app.specs.declared.schemas.Ty.{Ty}
use Rattle.sv_app.specs.declared.schemas.Ty.TheVariants as types

-- the number in a value; a text counts as zero
abbrev pub number_in : Val → ℤ
number_in (vals.Int n) = n
number_in (vals.Text t) = pos 0

abbrev pub HasType : Ty → Val → Type 0
HasType types.Int (vals.Int n) = Unit {0}
HasType types.Text (vals.Text t) = Unit {0}
HasType _ _ = ⊥

abbrev pub ArgFits : Ty → Arg → Type 0
ArgFits types.Int (args.Int n) = Unit {0}
ArgFits types.Text (args.Text bytes) = Unit {0}
ArgFits types.Ints (args.Ints ns) = Unit {0}
ArgFits _ _ = ⊥

abbrev pub ArgsFit : List (Ident × Ty) → List Arg → Type 0
ArgsFit [] [] = Unit {0}
ArgsFit (param ∷ params) (arg ∷ more) = ArgFits param.1 arg × ArgsFit params more
ArgsFit _ _ = ⊥

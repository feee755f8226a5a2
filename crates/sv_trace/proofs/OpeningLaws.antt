-- The begin of a run, and its end.
use Rattle.std.proofs.Common.{◌≡◌, ◌∙◌, inl, inr, ℕ, zero, suc, ◌+◌, ◌<◌, ◌≤◌, List, [], ◌∷◌, ◌++◌, length, map, reverse, Some, None, slice_get, refl, sym, ap, subst, arith}
use Rattle.std.specs.FinMap.{empty, get, get-empty}
use Rattle.std.specs.List.{All, flat_map}
use Rattle.std.specs.Option.{option_map}
use Rattle.std.proofs.lemmas.Grind.{reverse_onto}
use Rattle.std.proofs.lemmas.List.Elements.{All-nil, All-cons}
use Rattle.std.proofs.lemmas.Option.{slice_get_within, slice_get-map}
use Rattle.sv_app.specs.declared.apps.Ident.{Ident}
use Rattle.sv_app.specs.declared.names.Declared.{Declared}
use Rattle.sv_app.specs.declared.names.Known.{Known}
use Rattle.sv_app.specs.declared.names.Meaning.{Meaning}
use Rattle.sv_app.specs.declared.names.Meaning.TheVariants.{Parameter}
use Rattle.sv_app.specs.declared.places.Place.{Place}
use Rattle.sv_app.specs.declared.requests.Arg.{Arg}
use Rattle.sv_app.specs.declared.requests.Arg.TheVariants as args
use Rattle.sv_app.specs.declared.schemas.Ty.{Ty}
use Rattle.sv_app.specs.declared.schemas.Ty.TheVariants as types
use Rattle.sv_app.specs.Fitting.{ArgFits, ArgsFit}
use Rattle.sv_app.specs.Paths.{Names, parameter_types}
use Rattle.sv_app.specs.Scopes.{parameter, opening}
use Rattle.sv_app.specs.Shaped.{Shaped}
use Rattle.sv_app.specs.Slots.{item}
use Rattle.sv_app.specs.Statements.{block_statements}
use Rattle.sv_app.specs.Tables.{Row, Tables, place_cmp}
use Rattle.sv_app.specs.Trees.{Transaction}
use Rattle.sv_app.specs.TxnNames.{plain_name, declared_by, declares}
use Rattle.sv_app.specs.TxnNames as txn_names
use Rattle.sv_app.specs.TxnNumbers.{numbered_name, numbered_block, numbered_parameter, numbered_txn}
use Rattle.sv_app.specs.TxnTyping.{block_faults, txn_faults}
use Rattle.sv_app.specs.Typing.{repeats}
use Rattle.sv_app.specs.Units.{block_loops, units, loop_variables, unit_of}
use Rattle.sv_app.proofs.AcceptedLaws.{front_none, back_none, each_none}
use Rattle.sv_effect.specs.Fits.{EffectFits}
use Rattle.sv_effect.specs.Run.{Stand, argument, instance_of, started}
use Rattle.sv_effect.specs.RunValues.{nothing}
use Rattle.sv_trace.specs.Standing.{Frame, IsFrame, names_in, type_of_val, type_of_got, types_at, IsValue, IsRow, Means, BlockIn, Sees, RowIs, Holds, Passes}
use Rattle.sv_trace.proofs.BodyLaws.{block_suits}
use Rattle.sv_trace.proofs.DeclareLaws.{block_declares, block_lists, after, HereFrom, here_split, here_number, agree_same, block_stays}
use Rattle.sv_trace.proofs.LoopLaws.{whole_shaped}
use Rattle.sv_trace.proofs.NamingLaws.{all, Agree, KnownIs, AllKnown}
use Rattle.sv_app.proofs.SchemaLaws.{same_at}
use Rattle.sv_trace.proofs.UnitLaws.{Each, units_found}

after_length : (k : ℕ) (ds : List Declared) → after k ds ≡ k + length ds
after_length k [] = omega arith
after_length k (d ∷ ds) = let e : after (suc k) ds ≡ suc k + length ds = after_length (suc k) ds in omega (arith, e)

pub slice_left : {A : Type 0} (xs ys : List A) (n : ℕ) (x : A) → slice_get xs n ≡ Some x → slice_get (xs ++ ys) n ≡ Some x
slice_left [] ys n x at = absurd cc
slice_left (z ∷ xs) ys zero x at = at
slice_left (z ∷ xs) ys (suc n) x at = slice_left xs ys n x at

here_all : (f : Frame) (k : ℕ) (ds : List Declared) → ((j : ℕ) → slice_get ds j ≡ slice_get (declares f.txn) (k + j)) → HereFrom f k ds
here_all f k [] at = tt
here_all f k (d ∷ ds) at = (
  (let e : k ≡ (k + 0) = omega arith in ap (slice_get (declares f.txn)) e) ∙ sym (at 0),
  here_all f (suc k) ds (λ j. at (suc j) ∙ (let e : (k + suc j) ≡ (suc k + j) = omega arith in ap (slice_get (declares f.txn)) e)),
)

each_at : {A : Type 0} (P : A → Type 0) (xs : List A) → ((n : ℕ) (x : A) → slice_get xs n ≡ Some x → P x) → Each P xs
each_at P [] at = tt
each_at P (x ∷ xs) at = (at 0 x refl, each_at P xs (λ n. at (suc n)))

each_append : {A : Type 0} (P : A → Type 0) (xs ys : List A) → Each P xs → Each P ys → Each P (xs ++ ys)
each_append P [] ys one two = two
each_append P (x ∷ xs) ys one two = (one.0, each_append P xs ys one.1 two)

each_reversed : {A B : Type 0} (P : A → Type 0) (g : B → A) (xs : List B) → Each (λ x. P (g x)) xs → Each P (reverse (map g xs))
each_reversed P g [] each = tt
each_reversed P g (x ∷ xs) each = subst (Each P) (sym (reverse_onto (map g xs) (g x) [])) (each_append P (reverse (map g xs)) (g x ∷ []) (each_reversed P g xs each.1) (each.0, tt))

all_known : (f : Frame) (k : ℕ) (known : List Known) → Each (KnownIs f k) known → AllKnown f k known
all_known f k [] each = tt
all_known f k (x ∷ known) each = (each.0, all_known f k known each.1)

parameter_type : (params : List (Ident × Ty)) (n : ℕ) (p : Ident × Ty) → slice_get params n ≡ Some p → item types.Int (parameter_types params) n ≡ p.1
parameter_type [] n p at = absurd cc
parameter_type (q ∷ params) zero p at = let same : q ≡ p = cc in ap (λ (x : Ident × Ty). x.1) same
parameter_type (q ∷ params) (suc n) p at = parameter_type params n p at

-- an argument is of its parameter's type
argument_type : (params : List (Ident × Ty)) (arguments : List Arg) (n : ℕ) (p : Ident × Ty) → ArgsFit params arguments → slice_get params n ≡ Some p → IsValue (Parameter p.1)
    → type_of_val (item nothing (map argument arguments) n) ≡ p.1
argument_type [] arguments n p fits at value = absurd cc
argument_type (q ∷ params) [] n p fits at value = absurd fits
argument_type (q ∷ params) (a ∷ arguments) zero p fits at value =
    let same : q ≡ p = cc in
    one p.1 a (subst (λ (x : Ident × Ty). ArgFits x.1 a) same fits.0) value
  where
    one : (ty : Ty) (a : Arg) → ArgFits ty a → IsValue (Parameter ty) → type_of_val (argument a) ≡ ty
    one types.Int (args.Int n) fits value = refl
    one types.Int (args.Text t) fits value = absurd fits
    one types.Int (args.Ints ns) fits value = absurd fits
    one types.Text (args.Int n) fits value = absurd fits
    one types.Text (args.Text t) fits value = refl
    one types.Text (args.Ints ns) fits value = absurd fits
    one types.Ints a fits value = absurd value
argument_type (q ∷ params) (a ∷ arguments) (suc n) p fits at value = argument_type params arguments n p fits.1 at value

-- what one of the names means, of all of which something holds
means_of : (Q : Known → Type 0) (R : Meaning → Type 0) (known : List Known) (x : ℕ) → Each Q known → Means R known x → (k : Known) × Q k × (k.name.num ≡ x) × R k.meaning
means_of Q R [] x each means = absurd means
means_of Q R (k ∷ known) x each (inl here) = (k, each.0, here.0, here.1)
means_of Q R (k ∷ known) x each (inr more) = means_of Q R known x each.1 more

module _ (f : Frame) (is : IsFrame f) where
  faultless : txn_faults f.schema f.txn ≡ []
  faultless = each_none (λ txn. txn_faults f.schema txn) f.txns f.number f.txn (back_none (repeats (map (λ (t : Transaction). t.name) f.txns)) _ is.accepted.typed) is.among

  pub once : repeats (txn_names.names_of f.txn) ≡ []
  once = front_none (repeats (txn_names.names_of f.txn)) (block_faults (opening f.schema f.txn.params) f.txn.body) faultless

  pub right : block_faults (opening f.schema f.txn.params) f.txn.body ≡ []
  right = back_none (repeats (txn_names.names_of f.txn)) (block_faults (opening f.schema f.txn.params) f.txn.body) faultless

  itself : numbered_txn f.schema f.txns f.txn ≡ f.txn
  itself = same_at (numbered_txn f.schema f.txns) f.txns f.number f.txn is.accepted.names is.among

  pub body_own : numbered_block (all f) f.txn.body ≡ f.txn.body
  body_own = ap (λ (t : Transaction). t.body) itself

  params_own : map (numbered_parameter (all f)) f.txn.params ≡ f.txn.params
  params_own = ap (λ (t : Transaction). t.params) itself

  abbrev pub first : List Declared
  first = map (λ (p : Ident × Ty). plain_name p.0) f.txn.params

  declares_are : declares f.txn ≡ first ++ block_declares f.txn.body
  declares_are = ap (λ ds. first ++ ds) (block_lists f.txn.body)

  pub here : HereFrom f 0 first × HereFrom f (after 0 first) (block_declares f.txn.body)
  here = here_split f 0 first (block_declares f.txn.body) (here_all f 0 (first ++ block_declares f.txn.body) (λ j. let e : j ≡ (0 + j) = omega arith in (λ i. slice_get (sym declares_are i) (e i))))

  abbrev begin : Names
  begin = record { types = parameter_types f.txn.params; tables = [] }

  agree : Agree (after 0 first) begin (names_in f)
  agree = block_stays f once f.txn.body begin (after 0 first) body_own here.1

  param_at : (n : ℕ) (p : Ident × Ty) → slice_get f.txn.params n ≡ Some p → (p.0.num ≡ n) × KnownIs f (after 0 first) (parameter p)
  param_at n p at =
      let own : numbered_name (all f) p.0 ≡ p.0 = ap (λ (x : Ident × Ty). x.0) (same_at (numbered_parameter (all f)) f.txn.params n p params_own at) in
      let declared : slice_get (declares f.txn) n ≡ Some (plain_name p.0) =
      slice_left first (flat_map declared_by (block_statements f.txn.body)) n (plain_name p.0) (slice_get-map (λ (x : Ident × Ty). plain_name x.0) f.txn.params n ∙ ap (λ o. option_map (λ (x : Ident × Ty). plain_name x.0) o) at) in
      let number : p.0.num ≡ n = here_number f once n (plain_name p.0) declared own in
      let within : n < length first = slice_get_within first n (plain_name p.0) (slice_get-map (λ (x : Ident × Ty). plain_name x.0) f.txn.params n ∙ ap (λ o. option_map (λ (x : Ident × Ty). plain_name x.0) o) at) in
      let below : p.0.num < after 0 first = omega (arith, within, number, after_length 0 first) in (
        number,
        record {
          own = own;
          below = below;
          meaning = sym (agree p.0.num below).0 ∙ ap (item types.Int (parameter_types f.txn.params)) number ∙ parameter_type f.txn.params n p at;
        },
      )

  pub known : AllKnown f (after 0 first) (reverse (map parameter f.txn.params))
  known = all_known f (after 0 first) (reverse (map parameter f.txn.params)) (each_reversed (KnownIs f (after 0 first)) parameter f.txn.params (each_at (λ p. KnownIs f (after 0 first) (parameter p)) f.txn.params (λ n p at. (param_at n p at).1)))

  pub body_in : BlockIn f (opening f.schema f.txn.params) f.txn.body
  body_in = record {
    frame = is;
    outside = refl;
    suits = block_suits f is.accepted.tables once f.txn.body (reverse (map parameter f.txn.params)) begin (after 0 first) known body_own here.1 right agree
        (agree_same (after (after 0 first) (block_declares f.txn.body)) (names_in f)) (units_found f once (after 0 first) body_own here.1);
  }

  -- each loop of the body is the unit of its number
  pub loops_are_units : Each (λ l. slice_get (units f.txn.body) (unit_of (loop_variables f.txn.body) l.variable) ≡ Some l.body) (block_loops f.txn.body)
  loops_are_units = units_found f once (after 0 first) body_own here.1

  opening_sees : Sees f (opening f.schema f.txn.params) (started f.args empty).scope
  opening_sees = record { values = values; rows = rows }
    where
      Typed : Known → Type 0
      Typed k = IsValue k.meaning → type_of_val (item nothing (map argument f.args) k.name.num) ≡ item types.Int (names_in f).types k.name.num

      typed : Each Typed (reverse (map parameter f.txn.params))
      typed = each_reversed Typed parameter f.txn.params (each_at (λ p. Typed (parameter p)) f.txn.params (λ n p at value. one n p at value))
        where
          one : (n : ℕ) (p : Ident × Ty) → slice_get f.txn.params n ≡ Some p → IsValue (Parameter p.1) → type_of_val (item nothing (map argument f.args) p.0.num) ≡ item types.Int (names_in f).types p.0.num
          one n p at value =
              let here = param_at n p at in
              ap (λ m. type_of_val (item nothing (map argument f.args) m)) here.0 ∙ argument_type f.txn.params f.args n p is.fits at value ∙ sym here.1.meaning

      values : (x : ℕ) → Means IsValue (reverse (map parameter f.txn.params)) x → type_of_val (item nothing (map argument f.args) x) ≡ item types.Int (names_in f).types x
      values x means =
          let k = means_of Typed IsValue (reverse (map parameter f.txn.params)) x typed means in
          subst (λ n. type_of_val (item nothing (map argument f.args) n) ≡ item types.Int (names_in f).types n) k.2 (k.1 k.3)

      NoRow : Known → Type 0
      NoRow k = IsRow k.meaning → ⊥

      no_rows : Each NoRow (reverse (map parameter f.txn.params))
      no_rows = each_reversed NoRow parameter f.txn.params (each_at (λ p. NoRow (parameter p)) f.txn.params (λ n p at row. row))

      rows : (r : ℕ) → Means IsRow (reverse (map parameter f.txn.params)) r → map type_of_got (item [] [] r) ≡ types_at f.schema (item 0 (names_in f).tables r)
      rows r means = let k = means_of NoRow IsRow (reverse (map parameter f.txn.params)) r no_rows means in absurd (k.1 k.3)

  -- on tables whose rows fit
  pub begins_on : (t : Tables) → ((p : Place) (row : Row) → get t p ≡ Some row → RowIs f.schema p row.values) → Holds f (opening f.schema f.txn.params) (started f.args t)
  begins_on t rows = record {
    sees = record { values = opening_sees.values; rows = opening_sees.rows };
    tables = rows;
    effects = All-nil (EffectFits f.schema);
    few = omega arith;
    shaped = All-nil (Shaped f.schema f.txn);
  }

  pub begins : Holds f (opening f.schema f.txn.params) (started f.args empty)
  begins = begins_on empty (λ p row found. let bad : None ≡ Some row = sym (get-empty place_cmp p) ∙ found in absurd cc)

-- a run that came to the end of the body: its trace is shaped, and its changes fit
pub completes_on : (f : Frame) (t : Tables) (st : Stand) → Passes f (opening f.schema f.txn.params) f.txn.body (started f.args t) st
    → All (Shaped f.schema f.txn) (instance_of st.scope.progress ∷ st.instances) × All (EffectFits f.schema) st.effects × (length st.effects ≤ 64)
completes_on f t st passes = (
  All-cons (Shaped f.schema f.txn) (instance_of st.scope.progress) st.instances (whole_shaped f 0 0 f.txn.body st.scope.progress refl passes.along) passes.holds.shaped,
  passes.holds.effects,
  passes.holds.few,
)

pub completes : (f : Frame) (st : Stand) → Passes f (opening f.schema f.txn.params) f.txn.body (started f.args empty) st
    → All (Shaped f.schema f.txn) (instance_of st.scope.progress ∷ st.instances) × All (EffectFits f.schema) st.effects × (length st.effects ≤ 64)
completes f st passes = completes_on f empty st passes

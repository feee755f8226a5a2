-- What updates and inserts write.
use Rattle.std.proofs.Common.{◌≡◌, ℕ, zero, suc, ℤ, pos, ◌-ℤ◌, neg_ℤ, int_le, ◌==◌, ◌&&◌, if◌then◌else◌, Bool, true, false, List, [], ◌∷◌, ◌++◌, map, Option, Some, None, slice_get, refl, sym, ap, subst, ◌∙◌, append_assoc}
use Rattle.std.proofs.lemmas.List.{map-append}
use Rattle.sv_value.specs.declared.values.Val.{Val}
use Rattle.sv_value.specs.declared.values.Val.TheVariants.{Int}
use Rattle.sv_app.specs.declared.apps.Ident.{Ident}
use Rattle.sv_app.specs.declared.gots.Got.{Got}
use Rattle.sv_app.specs.declared.schemas.Column.{Column}
use Rattle.sv_app.specs.declared.schemas.Merge.{Merge}
use Rattle.sv_app.specs.declared.schemas.Merge.TheVariants as merges
use Rattle.sv_app.specs.declared.schemas.Ty.TheVariants as types
use Rattle.sv_app.specs.Accepted.{AcceptedSchema}
use Rattle.sv_app.specs.Kinds.{is_grow_only}
use Rattle.sv_app.specs.Paths.{columns_at, column_type, merge_in}
use Rattle.sv_app.specs.Schema.{Declaration}
use Rattle.sv_app.specs.Scopes.{Scope}
use Rattle.sv_app.specs.Slots.{item}
use Rattle.sv_app.specs.Symbols.{is_key_column}
use Rattle.sv_app.specs.Trees.{Term, Old}
use Rattle.sv_effect.specs.declared.ops.Write.{Write}
use Rattle.sv_effect.specs.declared.ops.Write.TheVariants as writes
use Rattle.sv_effect.specs.RunChanges.{step, delta_to, set_of, merge_of, sets_made, kept_to, insert_of, inserts, writes_of_columns}
use Rattle.sv_effect.specs.RunChanges as changes
use Rattle.sv_effect.specs.RunValues.{nothing, Scope as Values, with_progress, put, narrow, Gives, then_value, val_of, column, read_old, value_of}
use Rattle.sv_trace.specs.Standing.{Frame, names_in, type_of_got, SetsSuit, behind_set, Sees}
use Rattle.sv_trace.proofs.TermLaws.{then_gives, same_value, same_scope, OldIs, sees_alone, read_type}
use Rattle.sv_trace.proofs.UpdateLaws.{counter_type}
use Rattle.sv_trace.proofs.WriteLaws.{AreFrom, from_next, from_here}
use Rattle.sv_app.specs.Fitting.{number_in}
use Rattle.sv_linear.specs.Effects.{SymValue, SymWrite, Delta, Set, linear}
use Rattle.sv_linear.specs.Forms.{sub}
use Rattle.sv_symbolic.specs.Drawn.{write_on, writes_on}
use Rattle.sv_symbolic.specs.Sketches.{Drawing, Sketch, Drawn, Draws, then_draws, zero_form, draw_form, draw_old, draw_symbol, draw_term}
use Rattle.sv_symbolic.specs.Routes.{draw_delta, draw_set, draw_sets, draw_insert, draw_inserts, first_write, first_writes}
use Rattle.sv_app.specs.Writes.{writes_at, in_order}
use Rattle.sv_linear.specs.Effects as syms
use Rattle.sv_linear.specs.Forms as forms
use Rattle.sv_linear.proofs.FormLaws.{sub_value}
use Rattle.sv_symbolic.proofs.Relation.{Stands, Has, Agrees, Grows, Drew, StandAll, WroteOne, Wrote}
use Rattle.sv_symbolic.proofs.DrawLaws.{drew_none, drew_then, drew_form, drew_symbol, draws_term, has_grown, linear_stands}

pub drew_given : (inside : Type 0) → {A V : Type 0} (draw : Sketch → Drawn A) (v w : V) (P : V → List Val → A → Type 0) (s : Values) (d : Drawing) (y z : Values) → Gives v y ≡ Gives w z → Drew inside draw (P v) s d y → Drew inside draw (P w) s d z
drew_given inside draw v w P s d y z is drew = subst (λ q. Drew inside draw (P w) s d q) (same_scope v w y z is) (subst (λ q. Drew inside draw (P q) s d y) (same_value v w y z is) drew)

tape_grown : (s z : Values) (rest : List Val) (g : Grows s z) → z.progress.tape ++ rest ≡ s.progress.tape ++ (g.more ++ rest)
tape_grown s z rest g = ap (λ l. l ++ rest) g.tape ∙ append_assoc s.progress.tape g.more rest

one_grown : (w : Write) (f : SymWrite) (s z : Values) → Grows s z → WroteOne w s.progress.tape f → WroteOne w z.progress.tape f
one_grown w f s z g one = record { on = λ rest. ap (λ l. write_on l f) (tape_grown s z rest g) ∙ one.on (g.more ++ rest) }

pub all_grown : (vs : List Val) (fs : List SymValue) (s z : Values) → Grows s z → StandAll vs s.progress.tape fs → StandAll vs z.progress.tape fs
all_grown vs fs s z g all = record { on = λ rest. ap (λ l. map (λ f. syms.value_of f l) fs) (tape_grown s z rest g) ∙ all.on (g.more ++ rest) }

wrote_more : (c : ℕ) (w : Write) (ws : List (ℕ × Write)) (tape : List Val) (f : SymWrite) (fs : List (ℕ × SymWrite)) → WroteOne w tape f → Wrote ws tape fs → Wrote ((c, w) ∷ ws) tape ((c, f) ∷ fs)
wrote_more c w ws tape f fs one more = record { on = λ rest. λ i. (c, one.on rest i) ∷ more.on rest i }

-- a counter goes from a value to another
step_is : (n : ℤ) (s : Values) (w : Write) (z : Values) → step (narrow n) s ≡ Gives w z → Gives (writes.Delta n) s ≡ Gives w z
step_is n s w z is = by_test (int_le (neg_ℤ (pos 9223372036854775808)) n && int_le n (pos 9223372036854775807)) is
  where
    by_test : (b : Bool) → step (if b then Some n else None) s ≡ Gives w z → Gives (writes.Delta n) s ≡ Gives w z
    by_test true e = e
    by_test false e = absurd cc

delta_wrote : (tape : List Val) (n : ℤ) (f : SymValue) → Stands tape f (Int n) → WroteOne (writes.Delta n) tape (Delta (linear f))
delta_wrote tape n f s = record { on = λ rest. ap (λ m. writes.Delta m) (linear_stands tape rest f _ s) }

drew_delta : (inside : Type 0) → (v now : SymValue) (m n : Val) (s : Values) (d : Drawing) (w : Write) (z : Values) → Stands s.progress.tape v m → Stands s.progress.tape now n → Agrees inside s d → delta_to m n s ≡ Gives w z
    → Drew inside (draw_delta v now) (WroteOne w) s d z
drew_delta inside v now m n s d w z p q agrees is =
    let e : ℤ = number_in m -ℤ number_in n in
    let says : (rest : List Val) → forms.value (sub (linear v) (linear now)) (s.progress.tape ++ rest) ≡ e = λ rest. sub_value (linear v) (linear now) (s.progress.tape ++ rest) ∙ (λ i. linear_stands s.progress.tape rest v m p i -ℤ linear_stands s.progress.tape rest now n q i) in
    let first = drew_form inside (sub (linear v) (linear now)) e s d says agrees in
    let go : SymValue → Sketch → Drawn SymWrite = λ x k. Draws (Delta (linear x)) k in
    drew_given inside (draw_delta v now) (writes.Delta e) w WroteOne s d s z (step_is e s w z is)
    (drew_then inside (draw_form (sub (linear v) (linear now))) go (Has _) (WroteOne (writes.Delta e)) s d s s first
    (drew_none inside (Delta (linear first.is)) (WroteOne (writes.Delta e)) s first.after (delta_wrote s.progress.tape e first.is first.says) first.agrees))

set_wrote : (tape : List Val) (v : Val) (f : SymValue) → Stands tape f v → WroteOne (writes.Set v) tape (Set f)
set_wrote tape v f s = record { on = λ rest. ap (λ m. writes.Set m) (s.on rest) }

drew_set : (inside : Type 0) → (f : SymValue) (v : Val) (s : Values) (d : Drawing) (w : Write) (z : Values) → Stands s.progress.tape f v → Agrees inside s d → Gives (writes.Set v) s ≡ Gives w z → Drew inside (λ k. Draws (Set f) k) (WroteOne w) s d z
drew_set inside f v s d w z stands agrees is = drew_given inside (λ k. Draws (Set f) k) (writes.Set v) w WroteOne s d s z is (drew_none inside (Set f) (WroteOne (writes.Set v)) s d (set_wrote s.progress.tape v f stands) agrees)

module _ (f : Frame) (at : Scope) (t : Ident) (table : Declaration) (accepted : AcceptedSchema f.schema) (declared : slice_get f.schema t.num ≡ Some table) where
  draws_set : (name : Ident) (v : Val) (form : SymValue) (s : Values) (d : Drawing) (w : Write) (z : Values) (m : Merge) → Sees f (behind_set at t) s → OldIs f (behind_set at t) t.num s.old → Stands s.progress.tape form v
      → merge_of table.columns name.num ≡ m → Agrees (Unit {0}) s d → set_of m name.num v s ≡ Gives w z → Drew (Unit {0}) (draw_set m name.num form) (WroteOne w) s d z
  draws_set name v form s d w z merges.Plain sees old stands merged agrees is = drew_set (Unit {0}) form v s d w z stands agrees is
  draws_set name v form s d w z merges.Lww sees old stands merged agrees is = drew_set (Unit {0}) form v s d w z stands agrees is
  draws_set name v form s d w z merges.Fresh sees old stands merged agrees is = drew_set (Unit {0}) form v s d w z stands agrees is
  draws_set name v form s d w z merges.NumDelta sees old stands merged agrees is =
      let g = then_gives (read_old name.num s) (delta_to v) w z is in
      let now = draws_term (Unit {0}) f (behind_set at t) t.num (Old name name.spot) s d g.value g.scope sees old (λ i. tt) (λ none. let bad : Some t ≡ None = none in cc) agrees g.first in
      let integer : column_type f.schema t.num name.num ≡ types.Int = counter_type f.schema t.num table name.num accepted declared merged in
      let here : Drew (Unit {0}) (draw_old name.num types.Int) (Has g.value) s d g.scope = subst (λ ty. Drew (Unit {0}) (draw_old name.num ty) (Has g.value) s d g.scope) integer now in
      drew_then (Unit {0}) (draw_old name.num types.Int) (draw_delta form) (Has g.value) (WroteOne w) s d g.scope z here
      (drew_delta (Unit {0}) form here.is v g.value g.scope here.after w z (has_grown s g.scope form v here.grows stands) here.says here.agrees g.last)

  pub draws_sets : (sets : List (Ident × Term)) (s : Values) (d : Drawing) (ws : List (ℕ × Write)) (z : Values) → Sees f (behind_set at t) s → OldIs f (behind_set at t) t.num s.old → SetsSuit f (behind_set at t) t sets → Agrees (Unit {0}) s d
      → sets_made table.columns sets s ≡ Gives ws z → Drew (Unit {0}) (draw_sets f.schema (names_in f) t.num sets) (Wrote ws) s d z
  draws_sets [] s d ws z sees old suit agrees is = drew_given (Unit {0}) (λ k. Draws [] k) [] ws Wrote s d s z is (drew_none (Unit {0}) [] (Wrote []) s d (record { on = λ rest. refl }) agrees)
  draws_sets (set ∷ sets) s d ws z sees old suit agrees is =
      let c : ℕ = set.0.num in
      let g = then_gives (value_of set.1 s) (λ v u. then_value (set_of (merge_of table.columns c) c v u) (λ w y. then_value (sets_made table.columns sets y) (λ vs q. Gives ((c, w) ∷ vs) q))) ws z is in
      let h = then_gives (set_of (merge_of table.columns c) c g.value g.scope) (λ w y. then_value (sets_made table.columns sets y) (λ vs q. Gives ((c, w) ∷ vs) q)) ws z g.last in
      let k = then_gives (sets_made table.columns sets h.scope) (λ vs q. Gives ((c, h.value) ∷ vs) q) ws z h.last in
      let old_later : (y : Values) → Grows s y → OldIs f (behind_set at t) t.num y.old = λ y grows. subst (λ (q : Values). OldIs f (behind_set at t) t.num q.old) (sym grows.alone) old in
      let first = draws_term (Unit {0}) f (behind_set at t) t.num set.1 s d g.value g.scope sees old (λ i. tt) suit.0 agrees g.first in
      let sees_first = sees_alone f (behind_set at t) s g.scope sees first.grows.alone in
      let merge_is : Merge = merge_in (slice_get (columns_at (slice_get f.schema t.num)) c) in
      let merged : merge_of table.columns c ≡ merge_is = ap (λ o. merge_in (slice_get (columns_at o) c)) (sym declared) in
      let second = draws_set set.0 g.value first.is g.scope first.after h.value h.scope merge_is sees_first (old_later g.scope first.grows) first.says merged first.agrees
      (subst (λ m. set_of m c g.value g.scope ≡ Gives h.value h.scope) merged h.first) in
      let old_second = subst (λ (q : Values). OldIs f (behind_set at t) t.num q.old) (sym second.grows.alone) (old_later g.scope first.grows) in
      let rest = draws_sets sets h.scope second.after k.value k.scope (sees_alone f (behind_set at t) g.scope h.scope sees_first second.grows.alone) old_second suit.2 second.agrees k.first in
      let says = wrote_more c h.value k.value k.scope.progress.tape second.is rest.is (one_grown h.value second.is h.scope k.scope rest.grows second.says) rest.says in
      let last : Drew (Unit {0}) (λ q. Draws ((c, second.is) ∷ rest.is) q) (Wrote ws) k.scope rest.after z = drew_given (Unit {0}) (λ q. Draws ((c, second.is) ∷ rest.is) q) ((c, h.value) ∷ k.value) ws Wrote k.scope rest.after k.scope z k.last
      (drew_none (Unit {0}) ((c, second.is) ∷ rest.is) (Wrote ((c, h.value) ∷ k.value)) k.scope rest.after says rest.agrees) in
      let end : SymWrite → List (ℕ × SymWrite) → Sketch → Drawn (List (ℕ × SymWrite)) = λ w vs q. Draws ((c, w) ∷ vs) q in
      let go : SymWrite → Sketch → Drawn (List (ℕ × SymWrite)) = λ w y. then_draws (draw_sets f.schema (names_in f) t.num sets y) (end w) in
      drew_then (Unit {0}) (draw_term f.schema (names_in f) t.num set.1) (λ v u. then_draws (draw_set merge_is c v u) go) (Has g.value) (Wrote ws) s d g.scope z first
      (drew_then (Unit {0}) (draw_set merge_is c first.is) go (WroteOne h.value) (Wrote ws) g.scope first.after h.scope z second
      (drew_then (Unit {0}) (draw_sets f.schema (names_in f) t.num sets) (end second.is) (Wrote k.value) (Wrote ws) h.scope second.after k.scope z rest last))

-- in column order
to_column : (c : ℕ) (ws : List (ℕ × SymWrite)) (tape : List Val) → writes_on tape (writes_at c ws) ≡ writes_at c (writes_on tape ws)
to_column c [] tape = refl
to_column c (w ∷ ws) tape = by_test (w.0 == c) (to_column c ws tape)
  where
    by_test : (b : Bool) → writes_on tape (writes_at c ws) ≡ writes_at c (writes_on tape ws) → writes_on tape (if b then w ∷ [] else writes_at c ws) ≡ (if b then (w.0, write_on tape w.1) ∷ [] else writes_at c (writes_on tape ws))
    by_test true ih = refl
    by_test false ih = ih

pub ordered_on : (table : Declaration) (c : ℕ) (columns : List Column) (ws : List (ℕ × SymWrite)) (tape : List Val) → writes_on tape (in_order table c columns ws) ≡ in_order table c columns (writes_on tape ws)
ordered_on table c [] ws tape = refl
ordered_on table c (column ∷ columns) ws tape =
    map-append (λ w. (w.0, write_on tape w.1)) (if is_key_column table.key c then [] else writes_at c ws) (in_order table (suc c) columns ws)
    ∙ (λ i. front (is_key_column table.key c) i ++ ordered_on table (suc c) columns ws tape i)
  where
    front : (b : Bool) → writes_on tape (if b then [] else writes_at c ws) ≡ (if b then [] else writes_at c (writes_on tape ws))
    front true = refl
    front false = to_column c ws tape

-- what is written first
first_wrote : (m : Merge) (v : Val) (f : SymValue) (tape : List Val) → Stands tape f v → WroteOne (changes.first_write m v) tape (first_write m f)
first_wrote merges.NumDelta v f tape s = record { on = λ rest. ap (λ n. writes.Delta n) (linear_stands tape rest f v s) }
first_wrote merges.Plain v f tape s = set_wrote tape v f s
first_wrote merges.Lww v f tape s = set_wrote tape v f s
first_wrote merges.Fresh v f tape s = set_wrote tape v f s

first_stands : (vs tape : List Val) (v : Val) (f : SymValue) (fs : List SymValue) → StandAll (v ∷ vs) tape (f ∷ fs) → Stands tape f v × StandAll vs tape fs
first_stands vs tape v f fs all = (record { on = λ rest. head (all.on rest) }, record { on = λ rest. tail (all.on rest) })
  where
    head : {x y : Val} {xs ys : List Val} → x ∷ xs ≡ y ∷ ys → x ≡ y
    head e = cc

    tail : {x y : Val} {xs ys : List Val} → x ∷ xs ≡ y ∷ ys → xs ≡ ys
    tail e = cc

pub firsts_wrote : (cs : List (ℕ × Column)) (vs : List Val) (fs : List SymValue) (tape : List Val) → StandAll vs tape fs → Wrote (writes_of_columns cs vs) tape (first_writes cs fs)
firsts_wrote [] vs fs tape all = record { on = λ rest. refl }
firsts_wrote (c ∷ cs) [] [] tape all = record { on = λ rest. refl }
firsts_wrote (c ∷ cs) [] (f ∷ fs) tape all = absurd (let bad : map (λ g. syms.value_of g (tape ++ [])) (f ∷ fs) ≡ [] = all.on [] in cc)
firsts_wrote (c ∷ cs) (v ∷ vs) [] tape all = absurd (let bad : [] ≡ v ∷ vs = all.on [] in cc)
firsts_wrote (c ∷ cs) (v ∷ vs) (f ∷ fs) tape all =
    let both = first_stands vs tape v f fs all in
    wrote_more c.0 (changes.first_write c.1.merge v) (writes_of_columns cs vs) tape (first_write c.1.merge f) (first_writes cs fs) (first_wrote c.1.merge v f tape both.0) (firsts_wrote cs vs fs tape both.1)

-- inserts
item_on : (fs : List SymValue) (c : ℕ) (tape : List Val) → syms.value_of (item zero_form fs c) tape ≡ item nothing (map (λ f. syms.value_of f tape) fs) c
item_on [] zero tape = refl
item_on [] (suc c) tape = refl
item_on (f ∷ fs) zero tape = refl
item_on (f ∷ fs) (suc c) tape = item_on fs c tape

item_stands : (vs tape : List Val) (fs : List SymValue) (c : ℕ) → StandAll vs tape fs → Stands tape (item zero_form fs c) (item nothing vs c)
item_stands vs tape fs c all = record { on = λ rest. item_on fs c (tape ++ rest) ∙ ap (λ l. item nothing l c) (all.on rest) }

insert_draws : (k : Column) (grows : Bool) (m : Merge) (v : Val) (form : SymValue) (got : Got) (s : Values) (d : Drawing) (w : Write) (z : Values) → k.merge ≡ m → (k.merge ≡ merges.NumDelta → k.ty ≡ types.Int) → type_of_got got ≡ k.ty
    → Stands s.progress.tape form v → Agrees ⊥ s d → insert_of grows m v got s ≡ Gives w z → Drew ⊥ (draw_insert grows m form) (WroteOne w) s d z
insert_draws k true merges.NumDelta v form got s d w z merged integer typed stands agrees is =
    drew_given ⊥ (λ x. Draws (Delta (linear form)) x) (writes.Delta (number_in v)) w WroteOne s d s z is
    (drew_none ⊥ (Delta (linear form)) (WroteOne (writes.Delta (number_in v))) s d (record { on = λ rest. ap (λ n. writes.Delta n) (linear_stands s.progress.tape rest form v stands) }) agrees)
insert_draws k false merges.NumDelta v form got s d w z merged integer typed stands agrees is = by_kept (val_of got) refl is
  where
    by_kept : (o : Option Val) → val_of got ≡ o → kept_to v o s ≡ Gives w z → Drew ⊥ (λ x. then_draws (draw_symbol types.Int x) (draw_delta form)) (WroteOne w) s d z
    by_kept None found is = absurd cc
    by_kept (Some old) found is =
        let after : Values = with_progress s (put old s.progress) in
        let first = drew_symbol ⊥ types.Int old s d (read_type got old found ∙ typed ∙ integer merged) agrees in
        drew_then ⊥ (draw_symbol types.Int) (draw_delta form) (Has old) (WroteOne w) s d after z first
        (drew_delta ⊥ form first.is v old after first.after w z (has_grown s after form v first.grows stands) first.says first.agrees is)
insert_draws k true merges.Plain v form got s d w z merged integer typed stands agrees is = drew_set ⊥ form v s d w z stands agrees is
insert_draws k false merges.Plain v form got s d w z merged integer typed stands agrees is = drew_set ⊥ form v s d w z stands agrees is
insert_draws k true merges.Lww v form got s d w z merged integer typed stands agrees is = drew_set ⊥ form v s d w z stands agrees is
insert_draws k true merges.Fresh v form got s d w z merged integer typed stands agrees is = drew_set ⊥ form v s d w z stands agrees is
insert_draws k false merges.Fresh v form got s d w z merged integer typed stands agrees is = drew_set ⊥ form v s d w z stands agrees is
insert_draws k false merges.Lww v form got s d w z merged integer typed stands agrees is = drew_set ⊥ form v s d w z stands agrees is

module _ (t : Declaration) (vs : List Val) (fs : List SymValue) (kept : List Got) (integers : (c : ℕ) (k : Column) → slice_get t.columns c ≡ Some k → k.merge ≡ merges.NumDelta → k.ty ≡ types.Int)
    (kept_typed_at : (c : ℕ) (k : Column) → slice_get t.columns c ≡ Some k → type_of_got (column kept c) ≡ k.ty) where
  pub inserts_draw : (c : ℕ) (columns : List Column) (s : Values) (d : Drawing) (ws : List (ℕ × Write)) (z : Values) → AreFrom t c columns → StandAll vs s.progress.tape fs → Agrees ⊥ s d → inserts t vs kept c columns s ≡ Gives ws z
      → Drew ⊥ (draw_inserts t fs c columns) (Wrote ws) s d z
  inserts_draw c [] s d ws z from all agrees is = drew_given ⊥ (λ k. Draws [] k) [] ws Wrote s d s z is (drew_none ⊥ [] (Wrote []) s d (record { on = λ rest. refl }) agrees)
  inserts_draw c (k ∷ columns) s d ws z from all agrees is = by_key (is_key_column t.key c) is (λ u e ls y. inserts_draw (suc c) columns u e ls y (from_next t c k columns from))
    where
      here : slice_get t.columns c ≡ Some k
      here = from_here t c k columns from

      go : SymWrite → List (ℕ × SymWrite) → Sketch → Drawn (List (ℕ × SymWrite))
      go w ls q = Draws ((c, w) ∷ ls) q

      Rest : Type 0
      Rest = (u : Values) (e : Drawing) (ls : List (ℕ × Write)) (y : Values) → StandAll vs u.progress.tape fs → Agrees ⊥ u e → inserts t vs kept (suc c) columns u ≡ Gives ls y → Drew ⊥ (draw_inserts t fs (suc c) columns) (Wrote ls) u e y

      by_key : (b : Bool)
          → (if b then inserts t vs kept (suc c) columns s else then_value (insert_of (is_grow_only t.kind) k.merge (item nothing vs c) (column kept c) s) (λ w u. then_value (inserts t vs kept (suc c) columns u) (λ ls y. Gives ((c, w) ∷ ls) y))) ≡ Gives ws z
          → Rest → Drew ⊥ (λ q. if b then draw_inserts t fs (suc c) columns q else then_draws (draw_insert (is_grow_only t.kind) k.merge (item zero_form fs c) q) (λ w u. then_draws (draw_inserts t fs (suc c) columns u) (go w))) (Wrote ws) s d z
      by_key true is more = more s d ws z all agrees is
      by_key false is more =
          let g = then_gives (insert_of (is_grow_only t.kind) k.merge (item nothing vs c) (column kept c) s) (λ w u. then_value (inserts t vs kept (suc c) columns u) (λ ls y. Gives ((c, w) ∷ ls) y)) ws z is in
          let h = then_gives (inserts t vs kept (suc c) columns g.scope) (λ ls y. Gives ((c, g.value) ∷ ls) y) ws z g.last in
          let first = insert_draws k (is_grow_only t.kind) k.merge (item nothing vs c) (item zero_form fs c) (column kept c) s d g.value g.scope refl (integers c k here) (kept_typed_at c k here) (item_stands vs s.progress.tape fs c all) agrees g.first in
          let rest = more g.scope first.after h.value h.scope (all_grown vs fs s g.scope first.grows all) first.agrees h.first in
          let says = wrote_more c g.value h.value h.scope.progress.tape first.is rest.is (one_grown g.value first.is g.scope h.scope rest.grows first.says) rest.says in
          let last : Drew ⊥ (go first.is rest.is) (Wrote ws) h.scope rest.after z = drew_given ⊥ (go first.is rest.is) ((c, g.value) ∷ h.value) ws Wrote h.scope rest.after h.scope z h.last
          (drew_none ⊥ ((c, first.is) ∷ rest.is) (Wrote ((c, g.value) ∷ h.value)) h.scope rest.after says rest.agrees) in
          drew_then ⊥ (draw_insert (is_grow_only t.kind) k.merge (item zero_form fs c)) (λ w u. then_draws (draw_inserts t fs (suc c) columns u) (go w)) (WroteOne g.value) (Wrote ws) s d g.scope z first
          (drew_then ⊥ (draw_inserts t fs (suc c) columns) (go first.is) (Wrote h.value) (Wrote ws) g.scope first.after h.scope z rest last)

-- Evaluation stays in its instance: the number and the unit stand.
use Rattle.std.proofs.Common.{◌≡◌, ◌∙◌, ℕ, suc, ◌==◌, ◌&&◌, ◌||◌, not, if◌then◌else◌, Bool, true, false, List, [], ◌∷◌, ◌++◌, Option, Some, None, refl}
use Rattle.std.specs.List.{list_any}
use Rattle.std.specs.Prelude.{ℤ, ◌+ℤ◌, ◌-ℤ◌, ◌*ℤ◌, neg_ℤ}
use Rattle.sv_value.specs.declared.values.Val.{Val}
use Rattle.sv_app.specs.declared.apps.Ident.{Ident}
use Rattle.sv_app.specs.declared.gots.Got.{Got}
use Rattle.sv_app.specs.declared.instances.Source.{Source}
use Rattle.sv_app.specs.declared.instances.Source.TheVariants as sources
use Rattle.sv_app.specs.declared.schemas.Column.{Column}
use Rattle.sv_app.specs.declared.schemas.Merge.{Merge}
use Rattle.sv_app.specs.declared.schemas.Merge.TheVariants as merges
use Rattle.sv_app.specs.Fitting.{number_in}
use Rattle.sv_app.specs.Kinds.{is_grow_only}
use Rattle.sv_app.specs.Schema.{Declaration}
use Rattle.sv_app.specs.Slots.{item}
use Rattle.sv_app.specs.Symbols.{is_known, is_factor, is_key_column}
use Rattle.sv_app.specs.Trees.{Term, Number, Words, Variable, Field, Old, Minus, Sum, Difference, Product, Test, Compare, Negation, Both, Either}
use Rattle.sv_effect.specs.declared.ops.Write.{Write}
use Rattle.sv_effect.specs.RunChanges.{step, delta_to, set_of, merge_of, sets_made, kept_to, insert_of, inserts}
use Rattle.sv_effect.specs.RunValues.{nothing, Progress, Scope, put, brought, brought_old, with_progress, narrow, Evaluated, Leaves, Gives, then_value, integer, val_of, column, as_read, read_old, negated, added, subtracted, multiplied, compared, value_of, values_of, truth_of}

abbrev pub Tag : Type 0
Tag = ℕ × ℕ

abbrev pub tag_of : Progress → Tag
tag_of p = (p.number, p.unit)

abbrev pub tag : Scope → Tag
tag s = tag_of s.progress

abbrev pub Still : {A : Type 0} → Scope → Evaluated A → Type 0
Still s Leaves = Unit {0}
Still s (Gives v z) = tag z ≡ tag s

still_from : {A : Type 0} (s z : Scope) (x : Evaluated A) → tag z ≡ tag s → Still z x → Still s x
still_from s z Leaves same still = tt
still_from s z (Gives v q) same still = still ∙ same

then_still : {A B : Type 0} (x : Evaluated A) (go : A → Scope → Evaluated B) (s : Scope) → Still s x → ((v : A) (z : Scope) → Still z (go v z)) → Still s (then_value x go)
then_still Leaves go s still each = tt
then_still (Gives v z) go s still each = still_from s z (go v z) still (each v z)

integer_still : (o : Option ℤ) (s : Scope) → Still s (integer o s)
integer_still None s = tt
integer_still (Some n) s = refl

brings_still : (source : Source) (v : Val) (p : Progress) → tag_of (brought source v p) ≡ tag_of p
brings_still source v p = by (is_known source p.known)
  where
    by : (b : Bool) → tag_of (if b then p else put v (record p { known = p.known ++ source ∷ [] })) ≡ tag_of p
    by true = refl
    by false = refl

brings_old_still : (c : ℕ) (v : Val) (p : Progress) → tag_of (brought_old c v p) ≡ tag_of p
brings_old_still c v p = by (list_any (λ d. c == d) p.known_old)
  where
    by : (b : Bool) → tag_of (if b then p else put v (record p { known_old = p.known_old ++ c ∷ [] })) ≡ tag_of p
    by true = refl
    by false = refl

reads_still : (o : Option Val) (after : Val → Progress) (s : Scope) → ((v : Val) → tag_of (after v) ≡ tag s) → Still s (as_read o after s)
reads_still None after s each = tt
reads_still (Some v) after s each = each v

read_old_still : (c : ℕ) (s : Scope) → Still s (read_old c s)
read_old_still c s = reads_still (val_of (column s.old c)) (λ v. brought_old c v s.progress) s (λ v. brings_old_still c v s.progress)

multiplied_still : (is_symbol : Bool) (v w : Val) (s : Scope) → Still s (multiplied is_symbol v w s)
multiplied_still is_symbol v w s = then_still (integer (narrow (number_in v *ℤ number_in w)) s) (λ u q. Gives u (if is_symbol then with_progress q (put u q.progress) else q)) s
    (integer_still (narrow (number_in v *ℤ number_in w)) s) (λ u q. by is_symbol u q)
  where
    by : (b : Bool) (u : Val) (q : Scope) → tag (if b then with_progress q (put u q.progress) else q) ≡ tag q
    by true u q = refl
    by false u q = refl

pub value_still : (e : Term) (s : Scope) → Still s (value_of e s)
value_still (Number n at) s = refl
value_still (Words t at) s = refl
value_still (Variable x at) s = brings_still (sources.Variable x.num) (item nothing s.values x.num) s.progress
value_still (Field r c at) s = reads_still (val_of (column (item [] s.rows r.num) c.num)) (λ v. brought (sources.Column r.num c.num) v s.progress) s (λ v. brings_still (sources.Column r.num c.num) v s.progress)
value_still (Old c at) s = read_old_still c.num s
value_still (Minus a at) s = then_still (value_of a s) negated s (value_still a s) (λ v z. integer_still (narrow (neg_ℤ (number_in v))) z)
value_still (Sum a b at) s = then_still (value_of a s) (λ v u. then_value (value_of b u) (added v)) s (value_still a s)
    (λ v u. then_still (value_of b u) (added v) u (value_still b u) (λ w z. integer_still (narrow (number_in v +ℤ number_in w)) z))
value_still (Difference a b at) s = then_still (value_of a s) (λ v u. then_value (value_of b u) (subtracted v)) s (value_still a s)
    (λ v u. then_still (value_of b u) (subtracted v) u (value_still b u) (λ w z. integer_still (narrow (number_in v -ℤ number_in w)) z))
value_still (Product a b at) s =
    let is_symbol : Bool = not (is_factor a || is_factor b) in
    then_still (value_of a s) (λ v u. then_value (value_of b u) (multiplied is_symbol v)) s (value_still a s)
    (λ v u. then_still (value_of b u) (multiplied is_symbol v) u (value_still b u) (λ w z. multiplied_still is_symbol v w z))

pub values_still : (es : List Term) (s : Scope) → Still s (values_of es s)
values_still [] s = refl
values_still (e ∷ es) s = then_still (value_of e s) (λ v u. then_value (values_of es u) (λ vs z. Gives (v ∷ vs) z)) s (value_still e s)
    (λ v u. then_still (values_of es u) (λ vs z. Gives (v ∷ vs) z) u (values_still es u) (λ vs z. refl))

pub truth_still : (t : Test) (s : Scope) → Still s (truth_of t s)
truth_still (Compare a r b) s = then_still (value_of a s) (λ v u. then_value (value_of b u) (compared r v)) s (value_still a s)
    (λ v u. then_still (value_of b u) (compared r v) u (value_still b u) (λ w z. refl))
truth_still (Negation t) s = then_still (truth_of t s) (λ h u. Gives (not h) u) s (truth_still t s) (λ h u. refl)
truth_still (Both t q) s = then_still (truth_of t s) (λ h u. then_value (truth_of q u) (λ k z. Gives (h && k) z)) s (truth_still t s)
    (λ h u. then_still (truth_of q u) (λ k z. Gives (h && k) z) u (truth_still q u) (λ k z. refl))
truth_still (Either t q) s = then_still (truth_of t s) (λ h u. then_value (truth_of q u) (λ k z. Gives (h || k) z)) s (truth_still t s)
    (λ h u. then_still (truth_of q u) (λ k z. Gives (h || k) z) u (truth_still q u) (λ k z. refl))

delta_still : (new old : Val) (s : Scope) → Still s (delta_to new old s)
delta_still new old s = by (narrow (number_in new -ℤ number_in old))
  where
    by : (o : Option ℤ) → Still s (step o s)
    by None = tt
    by (Some d) = refl

set_still : (m : Merge) (c : ℕ) (v : Val) (s : Scope) → Still s (set_of m c v s)
set_still merges.Plain c v s = refl
set_still merges.Lww c v s = refl
set_still merges.Fresh c v s = refl
set_still merges.NumDelta c v s = then_still (read_old c s) (delta_to v) s (read_old_still c s) (λ old z. delta_still v old z)

pub sets_still : (columns : List Column) (sets : List (Ident × Term)) (s : Scope) → Still s (sets_made columns sets s)
sets_still columns [] s = refl
sets_still columns (set ∷ sets) s =
    let c : ℕ = set.0.num in
    then_still (value_of set.1 s) (λ v u. then_value (set_of (merge_of columns c) c v u) (λ w z. then_value (sets_made columns sets z) (λ ws q. Gives ((c, w) ∷ ws) q))) s (value_still set.1 s)
    (λ v u. then_still (set_of (merge_of columns c) c v u) (λ w z. then_value (sets_made columns sets z) (λ ws q. Gives ((c, w) ∷ ws) q)) u (set_still (merge_of columns c) c v u)
    (λ w z. then_still (sets_made columns sets z) (λ ws q. Gives ((c, w) ∷ ws) q) z (sets_still columns sets z) (λ ws q. refl)))

kept_still : (v : Val) (o : Option Val) (s : Scope) → Still s (kept_to v o s)
kept_still v None s = tt
kept_still v (Some old) s = by (narrow (number_in v -ℤ number_in old))
  where
    by : (o : Option ℤ) → Still s (step o (with_progress s (put old s.progress)))
    by None = tt
    by (Some d) = refl

insert_still : (grows : Bool) (m : Merge) (v : Val) (kept : Got) (s : Scope) → Still s (insert_of grows m v kept s)
insert_still true merges.NumDelta v kept s = refl
insert_still false merges.NumDelta v kept s = kept_still v (val_of kept) s
insert_still true merges.Plain v kept s = refl
insert_still false merges.Plain v kept s = refl
insert_still true merges.Lww v kept s = refl
insert_still false merges.Lww v kept s = refl
insert_still true merges.Fresh v kept s = refl
insert_still false merges.Fresh v kept s = refl

pub inserts_still : (table : Declaration) (vs : List Val) (kept : List Got) (c : ℕ) (columns : List Column) (s : Scope) → Still s (inserts table vs kept c columns s)
inserts_still table vs kept c [] s = refl
inserts_still table vs kept c (k ∷ columns) s = by (is_key_column table.key c) (inserts_still table vs kept (suc c) columns)
  where
    rest : Scope → Evaluated (List (ℕ × Write))
    rest u = inserts table vs kept (suc c) columns u

    by : (b : Bool) → ((u : Scope) → Still u (rest u)) → Still s (if b then rest s else then_value (insert_of (is_grow_only table.kind) k.merge (item nothing vs c) (column kept c) s)
        (λ w u. then_value (rest u) (λ ws z. Gives ((c, w) ∷ ws) z)))
    by true more = more s
    by false more = then_still (insert_of (is_grow_only table.kind) k.merge (item nothing vs c) (column kept c) s) (λ w u. then_value (rest u) (λ ws z. Gives ((c, w) ∷ ws) z)) s
        (insert_still (is_grow_only table.kind) k.merge (item nothing vs c) (column kept c) s)
        (λ w u. then_still (rest u) (λ ws z. Gives ((c, w) ∷ ws) z) u (more u) (λ ws z. refl))

-- What expressions and conditions are on a path, in forms of the symbols that are brought in on the way, and the facts that its choices give.
use Rattle.std.specs.Prelude.{ℕ, suc, ◌==◌, ◌&&◌, ◌||◌, not, if◌then◌else◌, pos, Bool, true, false, List, [], ◌∷◌, ◌++◌, length}
use Rattle.std.specs.List.{list_any}
use Rattle.sv_app.specs.declared.instances.Source.{Source}
use Rattle.sv_app.specs.declared.instances.Source.TheVariants as sources
use Rattle.sv_app.specs.declared.schemas.Ty.{Ty}
use Rattle.sv_app.specs.declared.schemas.Ty.TheVariants as types
use Rattle.sv_app.specs.declared.txns.Rel.{Rel}
use Rattle.sv_app.specs.Paths.{Names, Way, put, column_type}
use Rattle.sv_app.specs.Schema.{Declaration}
use Rattle.sv_app.specs.Slots.{item}
use Rattle.sv_app.specs.Symbols.{is_same_source, is_known, is_factor}
use Rattle.sv_app.specs.Trees.{Term, Number, Words, Variable, Field, Old, Minus, Sum, Difference, Product, Test, Compare, Negation, Both, Either}
use Rattle.sv_bounds.specs.declared.systems.Diff.{Diff}
use Rattle.sv_linear.specs.Effects.{SymValue, TextIs, SymEffect, linear, symbol_of}
use Rattle.sv_linear.specs.Effects as syms
use Rattle.sv_linear.specs.Facts.{facts_of}
use Rattle.sv_linear.specs.Forms.{Form, add, sub, scale, minus, number, is_narrow}

-- what is drawn of a path beside the way: the forms of sources and of the columns of a row that is being updated, the latest first, the facts and the
-- effects so far, and whether all forms have 64 bits
pub record Drawing : Type 0 where
  pub sources : List (Source × SymValue)
  pub olds : List (ℕ × SymValue)
  pub facts : List Diff
  pub effects : List SymEffect
  pub narrow : Bool

-- a place on a path: the way to it, and what is drawn
pub record Sketch : Type 0 where
  pub way : Way
  pub drawing : Drawing

abbrev pub zero_form : SymValue
zero_form = syms.Number (number (pos 0))

-- the latest form of a source
abbrev pub form_of : List (Source × SymValue) → Source → SymValue
form_of [] q = zero_form
form_of (e ∷ es) q = if is_same_source q e.0 then e.1 else form_of es q

abbrev pub old_of : List (ℕ × SymValue) → ℕ → SymValue
old_of [] c = zero_form
old_of (e ∷ es) c = if c == e.0 then e.1 else old_of es c

abbrev pub with_source : Source → SymValue → Drawing → Drawing
with_source source v d = record d { sources = (source, v) ∷ d.sources }

abbrev pub with_old : ℕ → SymValue → Drawing → Drawing
with_old c v d = record d { olds = (c, v) ∷ d.olds }

abbrev pub noting : Form → Drawing → Drawing
noting f d = record d { narrow = d.narrow && is_narrow f }

-- symbols count from 1
abbrev pub next_symbol : Ty → Way → SymValue
next_symbol ty w = symbol_of ty (suc (length w.symbols))

-- what something is on the path, and the sketch behind it
pub data Drawn (A : Type 0) : Type 0 where
  Draws : A → Sketch → Drawn A

abbrev pub then_draws : {A B : Type 0} → Drawn A → (A → Sketch → Drawn B) → Drawn B
then_draws (Draws v k) go = go v k

-- a source that isn't known is brought in
abbrev pub draw_source : Source → Ty → Sketch → Drawn SymValue
draw_source source ty k = if is_known source k.way.known then Draws (form_of k.drawing.sources source) k
    else Draws (next_symbol ty k.way) (record {
      way = put ty (record k.way { known = k.way.known ++ source ∷ [] });
      drawing = with_source source (next_symbol ty k.way) k.drawing;
    })

abbrev pub draw_old : ℕ → Ty → Sketch → Drawn SymValue
draw_old c ty k = if list_any (λ d. c == d) k.way.known_old then Draws (old_of k.drawing.olds c) k
    else Draws (next_symbol ty k.way) (record {
      way = put ty (record k.way { known_old = k.way.known_old ++ c ∷ [] });
      drawing = with_old c (next_symbol ty k.way) k.drawing;
    })

-- a symbol that is no source's: a product, a kept value or a drawn key
abbrev pub draw_symbol : Ty → Sketch → Drawn SymValue
draw_symbol ty k = Draws (next_symbol ty k.way) (record { way = put ty k.way; drawing = k.drawing })

abbrev pub draw_form : Form → Sketch → Drawn SymValue
draw_form f k = Draws (syms.Number f) (record { way = k.way; drawing = noting f k.drawing })

-- a side that is a number or a negated number is a form without symbols
abbrev pub scaled : Bool → Form → Form → Form
scaled true f g = scale f.plus g
scaled false f g = scale g.plus f

abbrev pub draw_product : Bool → Bool → SymValue → SymValue → Sketch → Drawn SymValue
draw_product true right v w k = draw_form (scaled true (linear v) (linear w)) k
draw_product false true v w k = draw_form (scaled false (linear v) (linear w)) k
draw_product false false v w k = draw_symbol types.Int k

abbrev pub draw_term : List Declaration → Names → ℕ → Term → Sketch → Drawn SymValue
draw_term schema names table (Number n at) k = Draws (syms.Number (number n)) k
draw_term schema names table (Words t at) k = Draws (TextIs t) k
draw_term schema names table (Variable x at) k = draw_source (sources.Variable x.num) (item types.Int names.types x.num) k
draw_term schema names table (Field r c at) k = draw_source (sources.Column r.num c.num) (column_type schema (item 0 names.tables r.num) c.num) k
draw_term schema names table (Old c at) k = draw_old c.num (column_type schema table c.num) k
draw_term schema names table (Minus a at) k = then_draws (draw_term schema names table a k) (λ v. draw_form (minus (linear v)))
draw_term schema names table (Sum a b at) k = then_draws (draw_term schema names table a k) (λ v u. then_draws (draw_term schema names table b u) (λ w. draw_form (add (linear v) (linear w))))
draw_term schema names table (Difference a b at) k = then_draws (draw_term schema names table a k) (λ v u. then_draws (draw_term schema names table b u) (λ w. draw_form (sub (linear v) (linear w))))
draw_term schema names table (Product a b at) k = then_draws (draw_term schema names table a k) (λ v u. then_draws (draw_term schema names table b u) (draw_product (is_factor a) (is_factor b) v))

-- from left to right
abbrev pub draw_terms : List Declaration → Names → List Term → Sketch → Drawn (List SymValue)
draw_terms schema names [] k = Draws [] k
draw_terms schema names (e ∷ es) k = then_draws (draw_term schema names 0 e k) (λ v u. then_draws (draw_terms schema names es u) (λ vs z. Draws (v ∷ vs) z))

-- a condition along the choices: there are too few, or it holds or doesn't
pub data Tried : Type 0 where
  Short : Tried
  Tells : Bool → Sketch → Tried

abbrev pub then_tried : Tried → (Bool → Sketch → Tried) → Tried
then_tried Short go = Short
then_tried (Tells holds k) go = go holds k

abbrev pub drawn_then : {A : Type 0} → Drawn A → (A → Sketch → Tried) → Tried
drawn_then (Draws v k) go = go v k

-- each comparison takes a choice and gives its facts
abbrev pub draw_choice : List Bool → Rel → SymValue → SymValue → Sketch → Tried
draw_choice [] r v w k = Short
draw_choice (holds ∷ left) r v w k = Tells holds (record { way = record k.way { left = left }; drawing = record k.drawing { facts = k.drawing.facts ++ facts_of r holds v w } })

abbrev pub draw_test : List Declaration → Names → Test → Sketch → Tried
draw_test schema names (Compare a r b) k = drawn_then (draw_term schema names 0 a k) (λ v u. drawn_then (draw_term schema names 0 b u) (λ w z. draw_choice z.way.left r v w z))
draw_test schema names (Negation t) k = then_tried (draw_test schema names t k) (λ h z. Tells (not h) z)
draw_test schema names (Both t q) k = then_tried (draw_test schema names t k) (λ h y. then_tried (draw_test schema names q y) (λ g z. Tells (h && g) z))
draw_test schema names (Either t q) k = then_tried (draw_test schema names t k) (λ h y. then_tried (draw_test schema names q y) (λ g z. Tells (h || g) z))

-- What joins a run and its sketch: on the tape so far, and on each that goes on from it, forms have the values of the run.
use Rattle.std.proofs.Common.{◌≡◌, ℕ, ◌==◌, Bool, true, List, [], ◌++◌, map, unwrap_or}
use Rattle.std.specs.List.{list_any}
use Rattle.sv_value.specs.declared.values.Val.{Val}
use Rattle.sv_app.specs.declared.gots.Got.{Got}
use Rattle.sv_app.specs.declared.instances.Source.{Source}
use Rattle.sv_app.specs.declared.instances.Source.TheVariants as sources
use Rattle.sv_app.specs.Slots.{item}
use Rattle.sv_app.specs.Symbols.{is_known}
use Rattle.sv_effect.specs.declared.ops.Write.{Write}
use Rattle.sv_effect.specs.RunValues.{nothing, Progress, Scope as Values, with_progress, val_of, column}
use Rattle.sv_trace.specs.Standing.{way_of}
use Rattle.sv_linear.specs.Effects.{SymValue, SymWrite, value_of}
use Rattle.sv_linear.specs.Facts.{facts_hold}
use Rattle.sv_symbolic.specs.Drawn.{write_on, writes_on}
use Rattle.sv_symbolic.specs.Sketches.{Drawing, Sketch, Drawn, Draws, Tried, Tells, form_of, old_of}

pub record Stands (tape : List Val) (f : SymValue) (v : Val) : Type 0 where
  pub on : (rest : List Val) → value_of f (tape ++ rest) ≡ v

-- what stands in a row, as a value
abbrev pub val_in : Got → Val
val_in got = unwrap_or (val_of got) nothing

-- what a source has now
abbrev pub read_in : Source → List Val → List (List Got) → Val
read_in (sources.Variable x) values rows = item nothing values x
read_in (sources.Column r c) values rows = val_in (column (item [] rows r) c)

abbrev pub is_known_old : ℕ → List ℕ → Bool
is_known_old c known = list_any (λ d. c == d) known

-- known sources have their forms' values, those of the row that is being updated while this goes on, and the facts hold
pub record Agrees (inside : Type 0) (s : Values) (d : Drawing) : Type 0 where
  pub sources : (q : Source) → is_known q s.progress.known ≡ true → Stands s.progress.tape (form_of d.sources q) (read_in q s.values s.rows)
  pub olds : inside → (c : ℕ) → is_known_old c s.progress.known_old ≡ true → Stands s.progress.tape (old_of d.olds c) (val_in (column s.old c))
  pub facts : (rest : List Val) → facts_hold (s.progress.tape ++ rest) d.facts

abbrev pub sketch_at : List Bool → Progress → Drawing → Sketch
sketch_at left p d = record { way = way_of left p; drawing = d }

-- evaluation changed the progress alone: the tape has grown, in the same instance, with no choice
pub record Grows (s z : Values) : Type 0 where
  pub alone : z ≡ with_progress s z.progress
  pub unit : z.progress.unit ≡ s.progress.unit
  pub number : z.progress.number ≡ s.progress.number
  pub choices : z.progress.choices ≡ s.progress.choices
  pub more : List Val
  pub tape : z.progress.tape ≡ s.progress.tape ++ more

-- what was drawn says something of the tape behind it
pub record Drew {A : Type 0} (inside : Type 0) (draw : Sketch → Drawn A) (Says : List Val → A → Type 0) (s : Values) (d : Drawing) (z : Values) : Type 0 where
  pub is : A
  pub after : Drawing
  pub draws : (left : List Bool) → draw (sketch_at left s.progress d) ≡ Draws is (sketch_at left z.progress after)
  pub says : Says z.progress.tape is
  pub agrees : Agrees inside z after
  pub grows : Grows s z
  pub effects : after.effects ≡ d.effects

abbrev pub Has : Val → List Val → SymValue → Type 0
Has v tape f = Stands tape f v

-- forms of a list of values
pub record StandAll (vs : List Val) (tape : List Val) (fs : List SymValue) : Type 0 where
  pub on : (rest : List Val) → map (λ f. value_of f (tape ++ rest)) fs ≡ vs

-- the same instance, some choices and some of the tape later
pub record Later (p q : Progress) (grown : List Bool) : Type 0 where
  pub unit : q.unit ≡ p.unit
  pub number : q.number ≡ p.number
  pub choices : q.choices ≡ p.choices ++ grown
  pub more : List Val
  pub tape : q.tape ≡ p.tape ++ more

-- a condition was evaluated
pub record Tries (draw : Sketch → Tried) (h : Bool) (s : Values) (d : Drawing) (z : Values) : Type 0 where
  pub grown : List Bool
  pub after : Drawing
  pub tells : (left : List Bool) → draw (sketch_at (grown ++ left) s.progress d) ≡ Tells h (sketch_at left z.progress after)
  pub agrees : Agrees ⊥ z after
  pub alone : z ≡ with_progress s z.progress
  pub later : Later s.progress z.progress grown
  pub effects : after.effects ≡ d.effects

-- writes have the values of the run's
pub record WroteOne (w : Write) (tape : List Val) (f : SymWrite) : Type 0 where
  pub on : (rest : List Val) → write_on (tape ++ rest) f ≡ w

pub record Wrote (ws : List (ℕ × Write)) (tape : List Val) (fs : List (ℕ × SymWrite)) : Type 0 where
  pub on : (rest : List Val) → writes_on (tape ++ rest) fs ≡ ws

-- The row that a change starts from, and the store that it leaves.
use Rattle.std.proofs.Common.{◌≡◌, ℕ, List, get_or, set, sym, ap, subst, ◌∙◌}
use Rattle.std.specs.Prelude.{unwrap_or}
use Rattle.std.specs.List.{insert}
use Rattle.sv_value.specs.declared.stamps.Stamp.{Stamp}
use Rattle.sv_app.specs.declared.places.Place.{Place}
use Rattle.sv_app.specs.Schema.{Declaration}
use Rattle.sv_effect.specs.declared.ops.RowEffect.{RowEffect}
use Rattle.sv_effect.specs.StampedTables.{row_of}
use Rattle.sv_effect.specs.RowChange.{changed, is_annotated, zero_row}
use Rattle.sv_effect.specs.Applied.{place_of}
use Rattle.sv_store.specs.declared.rows.KeptRow.{KeptRow}
use Rattle.sv_store.specs.Stored.{Stored, stored_in, Keeps, IsAt, IsGapFor, with_row}
use Rattle.sv_store.specs.Standing.{standing, left_by}
use Rattle.sv_store.proofs.RowLaws.{read_row}
use Rattle.sv_store.proofs.StoreLaws.{there, not_there, stored_set, stored_insert, keeps_set}

pub kept_standing : (rows : List KeptRow) (cap : ℕ) (s : Stored) (table : Declaration) (e : RowEffect) (at : ℕ) (read : KeptRow) → stored_in rows cap ≡ s → Keeps rows cap
    → IsAt rows (place_of e) at → read ≡ get_or rows at read → standing table e s.tables ≡ row_of read.row
kept_standing rows cap s table e at read view keeps is_at reads =
    ap (λ o. unwrap_or o (zero_row table e.key)) (there rows cap s (place_of e) at view keeps.rising is_at)
    ∙ ap (λ r. row_of r.row) (sym (read_row rows at is_at.row read is_at.stands reads))

pub new_standing : (rows : List KeptRow) (cap : ℕ) (s : Stored) (table : Declaration) (e : RowEffect) (at : ℕ) → stored_in rows cap ≡ s → IsGapFor rows (place_of e) at
    → standing table e s.tables ≡ zero_row table e.key
new_standing rows cap s table e at view gap = ap (λ o. unwrap_or o (zero_row table e.key)) (not_there rows cap s (place_of e) at view gap)

place_read : (rows : List KeptRow) (at : ℕ) (read : KeptRow) (p : Place) → (is_at : IsAt rows p at) → read ≡ get_or rows at read → read.place ≡ p
place_read rows at read p is_at reads = ap (λ r. r.place) (read_row rows at is_at.row read is_at.stands reads) ∙ is_at.is

pub changed_set : (rows : List KeptRow) (cap : ℕ) (s : Stored) (table : Declaration) (stamp : Stamp) (e : RowEffect) (at : ℕ) (read new : KeptRow) → stored_in rows cap ≡ s → Keeps rows cap
    → IsAt rows (place_of e) at → read ≡ get_or rows at read → new.place ≡ read.place → row_of new.row ≡ changed (is_annotated table.kind) stamp e (row_of read.row)
    → stored_in (set rows at new) cap ≡ with_row s (place_of e) (left_by table stamp e s.tables)
changed_set rows cap s table stamp e at read new view keeps is_at reads place row =
    stored_set rows cap s at new (place_of e) view keeps.rising is_at (place ∙ place_read rows at read (place_of e) is_at reads)
    ∙ ap (with_row s (place_of e)) (row ∙ ap (changed (is_annotated table.kind) stamp e) (sym (kept_standing rows cap s table e at read view keeps is_at reads)))

pub keeps_changed : (rows : List KeptRow) (cap at : ℕ) (read new : KeptRow) (p : Place) → Keeps rows cap → IsAt rows p at → read ≡ get_or rows at read → new.place ≡ read.place → Keeps (set rows at new) cap
keeps_changed rows cap at read new p keeps is_at reads place = keeps_set rows cap at new p keeps is_at (place ∙ place_read rows at read p is_at reads)

pub changed_insert : (rows : List KeptRow) (cap : ℕ) (s : Stored) (table : Declaration) (stamp : Stamp) (e : RowEffect) (at : ℕ) (new : KeptRow) → stored_in rows cap ≡ s
    → IsGapFor rows (place_of e) at → new.place ≡ place_of e → row_of new.row ≡ changed (is_annotated table.kind) stamp e (zero_row table e.key)
    → stored_in (insert rows at new) cap ≡ with_row s (place_of e) (left_by table stamp e s.tables)
changed_insert rows cap s table stamp e at new view gap place row =
    stored_insert rows cap s at new view (subst (λ p. IsGapFor rows p at) (sym place) gap)
    ∙ (λ i. with_row s (place i) (row i))
    ∙ ap (λ r. with_row s (place_of e) (changed (is_annotated table.kind) stamp e r)) (sym (new_standing rows cap s table e at view gap))

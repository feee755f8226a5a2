-- What is told of the rows behind the query, and the least key among places that were looked at.
use Rattle.std.proofs.Common.{◌≡◌, ◌⊎◌, inl, inr, ℕ, zero, suc, ◌+◌, ◌<◌, ◌≤◌, ◌==◌, ◌&&◌, ◌||◌, if◌then◌else◌, cond, Bool, true, false, List, [], ◌∷◌, ◌++◌, length, take, drop, get_or, Option, Some, None, refl, sym, ap, subst, ◌∙◌, arith, append_assoc}
use Rattle.std.specs.Prelude.{map}
use Rattle.std.specs.List.{list_any}
use Rattle.std.specs.Option.{option_map}
use Rattle.std.specs.Ordering.{is_lt}
use Rattle.std.specs.FinMap.{get}
use Rattle.std.proofs.lemmas.List.{take_more, take_all, drop_more, map-append}
use Rattle.std.proofs.lemmas.Bool.Decides.{nat_tests}
use Rattle.std.proofs.lemmas.Cmp.{eq_by_cmp_equiv}
use Rattle.std.proofs.lemmas.Map.Views.{tells_apart}
use Rattle.sv_value.specs.declared.values.Key.{Key}
use Rattle.sv_value.specs.Orders.{key_cmp}
use Rattle.sv_value.proofs.OrderLaws.{key_total}
use Rattle.sv_app.specs.declared.places.Place.{Place}
use Rattle.sv_app.specs.declared.requests.InitRow.{InitRow}
use Rattle.sv_app.specs.Schema.{Declaration}
use Rattle.sv_app.proofs.PlaceLaws.{place_total, exact_places}
use Rattle.sv_app.proofs.TestLaws.{same_test}
use Rattle.sv_effect.specs.declared.ops.Op.{Op}
use Rattle.sv_effect.specs.declared.ops.RowEffect.{RowEffect}
use Rattle.sv_effect.specs.Agrees.{place_at, seen_in, seen_at, is_present, is_after, IsNextBy, IsNextKey}
use Rattle.sv_effect.specs.Applied.{Change, place_of, changes_from, changes_of}
use Rattle.sv_effect.specs.BareTables.{bare, bare_row}
use Rattle.sv_effect.specs.Cut.{Cut, Medium, held}
use Rattle.sv_effect.specs.Reads.{SeenValue}
use Rattle.sv_effect.specs.Fits.{CountsFit}
use Rattle.sv_effect.specs.RowsFit.{RowIsOf}
use Rattle.sv_plain.specs.Stand.{TablesStand}
use Rattle.sv_effect.specs.StampedTables.{StampedRow, StampedTables}
use Rattle.sv_effect.specs.TablesOfCut.{is_place, init_place, changes_by, named_by, all_to, row_at, tables_of}
use Rattle.sv_effect.proofs.PlaceListLaws.{among}
use Rattle.sv_effect.proofs.SourceLaws.{seen_at-bare}
use Rattle.sv_effect.proofs.TableLaws.{get-tables_by}
use Rattle.sv_plain.specs.Chosen.{is_before, chosen}
use Rattle.sv_plain.proofs.RestLaws.{lower, not_lower}

-- the places that a cut names
abbrev pub places_at : List InitRow → Medium → Cut → List Place
places_at init m cut = map init_place init ++ all_to (λ o. named_by (held m cut o)) 9

among_any : (p : Place) (ps : List Place) → among p ps ≡ list_any (is_place p) ps
among_any p [] = refl
among_any p (q ∷ ps) = ap (λ b. is_place p q || b) (among_any p ps)

behind : (schema : List Declaration) (init : List InitRow) (m : Medium) (cut : Cut) (p : Place)
    → get (tables_of schema init m cut) p ≡ (if list_any (is_place p) (places_at init m cut) then Some (row_at schema init (held m cut) p) else None)
behind schema init m cut p =
    get-tables_by (places_at init m cut) (row_at schema init (held m cut)) p
    ∙ ap (λ b. if b then Some (row_at schema init (held m cut) p) else None) (among_any p (places_at init m cut))

-- what is told of a place that is named, and of another one
pub tell_row : (schema : List Declaration) (init : List InitRow) (m : Medium) (cut : Cut) (places : List Place) (p : Place) (row : StampedRow) (seen : SeenValue)
    → places ≡ places_at init m cut → list_any (is_place p) places ≡ true → row ≡ row_at schema init (held m cut) p → seen ≡ seen_in (Some (bare_row row))
    → seen_at (bare (tables_of schema init m cut)) p ≡ seen
tell_row schema init m cut places p row seen are named is told =
    seen_at-bare (tables_of schema init m cut) p
    ∙ ap (λ o. seen_in (option_map bare_row o)) (behind schema init m cut p ∙ ap (λ b. if b then Some (row_at schema init (held m cut) p) else None) (ap (list_any (is_place p)) (sym are) ∙ named))
    ∙ ap (λ r. seen_in (Some (bare_row r))) (sym is) ∙ sym told

pub tell_none : (schema : List Declaration) (init : List InitRow) (m : Medium) (cut : Cut) (places : List Place) (p : Place) (seen : SeenValue)
    → places ≡ places_at init m cut → list_any (is_place p) places ≡ false → seen ≡ seen_in None → seen_at (bare (tables_of schema init m cut)) p ≡ seen
tell_none schema init m cut places p seen are named told =
    seen_at-bare (tables_of schema init m cut) p
    ∙ ap (λ o. seen_in (option_map bare_row o)) (behind schema init m cut p ∙ ap (λ b. if b then Some (row_at schema init (held m cut) p) else None) (ap (list_any (is_place p)) (sym are) ∙ named))
    ∙ sym told

-- the row of a place that is named is one of the tables
pub row_is_of : (schema other : List Declaration) (init : List InitRow) (m : Medium) (cut : Cut) (places : List Place) (p : Place) (row : StampedRow)
    → places ≡ places_at init m cut → list_any (is_place p) places ≡ true → row ≡ row_at schema init (held m cut) p → CountsFit row.cells → TablesStand other (tables_of schema init m cut) → RowIsOf other p row
row_is_of schema other init m cut places p row are named is narrow of = record {
  counts = narrow;
  stands =
      of.rows p row (behind schema init m cut p ∙ ap (λ b. if b then Some (row_at schema init (held m cut) p) else None) (ap (list_any (is_place p)) (sym are) ∙ named) ∙ ap (λ r. Some r) (sym is));
}

not_true : (b : Bool) → (b ≡ true → ⊥) → b ≡ false
not_true true refuted = absurd (refuted refl)
not_true false refuted = refl

clash : (b : Bool) → b ≡ true → b ≡ false → ⊥
clash true e f = absurd cc
clash false e f = absurd cc

both : (a b : Bool) → (a && b) ≡ true → (a ≡ true) × (b ≡ true)
both true b e = (refl, e)
both false b e = absurd cc

either : (a b : Bool) → (a || b) ≡ true → (a ≡ true) ⊎ (b ≡ true)
either true b e = inl refl
either false b e = inr e

right : (a b : Bool) → b ≡ true → (a || b) ≡ true
right true b e = refl
right false b e = e

any_push : (p q : Place) (ps : List Place) → list_any (is_place p) (ps ++ q ∷ []) ≡ (is_place p q || list_any (is_place p) ps)
any_push p q [] = refl
any_push p q (x ∷ ps) = swap (is_place p x) (is_place p q) (list_any (is_place p) ps) (any_push p q ps)
  where
    swap : (a b c : Bool) → list_any (is_place p) (ps ++ q ∷ []) ≡ (b || c) → (a || list_any (is_place p) (ps ++ q ∷ [])) ≡ (b || (a || c))
    swap true true c e = refl
    swap true false c e = refl
    swap false b c e = e

-- whether the row of a key is present and its place among these
abbrev pub counts_in : (Place → Bool) → ℕ → List Place → Key → Bool
counts_in mark table ps key = mark (place_at table key) && list_any (is_place (place_at table key)) ps

-- one place more
next_more : (mark : Place → Bool) (table : ℕ) (after best : Option Key) (ps : List Place) (place : Place) → IsNextBy (counts_in mark table ps) after best
    → IsNextBy (counts_in mark table (ps ++ place ∷ [])) after (chosen (table == place.table && mark place) after place.key best)
next_more mark table after best ps place was = split (hit && (is_after after place.key && is_before place.key best)) refl
  where
    hit : Bool
    hit = table == place.table && mark place

    now : Key → Bool
    now = counts_in mark table (ps ++ place ∷ [])

    pushed : (key : Key) → now key ≡ (mark (place_at table key) && (is_place (place_at table key) place || list_any (is_place (place_at table key)) ps))
    pushed key = ap (λ b. mark (place_at table key) && b) (any_push (place_at table key) place ps)

    from : (key : Key) → now key ≡ true → (counts_in mark table ps key ≡ true) ⊎ ((hit ≡ true) × (key ≡ place.key))
    from key e =
        let parts = both (mark (place_at table key)) (is_place (place_at table key) place || list_any (is_place (place_at table key)) ps) (sym (pushed key) ∙ e) in
        by parts.0 (either (is_place (place_at table key) place) (list_any (is_place (place_at table key)) ps) parts.1)
      where
        by : mark (place_at table key) ≡ true → (is_place (place_at table key) place ≡ true) ⊎ (list_any (is_place (place_at table key)) ps ≡ true)
            → (counts_in mark table ps key ≡ true) ⊎ ((hit ≡ true) × (key ≡ place.key))
        by marked (inl here) =
            let same : place_at table key ≡ place = tells_apart exact_places (place_at table key) place here in
            inr ((λ i. same_test table place.table (ap (λ p. p.table) same) i && (ap mark (sym same) ∙ marked) i), ap (λ p. p.key) same)
        by marked (inr there) = inl (λ i. marked i && there i)

    kept : (key : Key) → counts_in mark table ps key ≡ true → now key ≡ true
    kept key e =
        let parts = both (mark (place_at table key)) (list_any (is_place (place_at table key)) ps) e in
        pushed key ∙ (λ i. parts.0 i && right (is_place (place_at table key) place) (list_any (is_place (place_at table key)) ps) parts.1 i)

    itself : hit ≡ true → now place.key ≡ true
    itself e =
        let parts = both (table == place.table) (mark place) e in
        let same : table ≡ place.table = grind (arith, nat_tests, parts.0) in
        let at : place_at table place.key ≡ place = ap (λ n. place_at n place.key) same in
        pushed place.key ∙ (λ i. (ap mark at ∙ parts.1) i && (is_place (at i) place || list_any (is_place (at i)) ps))
        ∙ ap (λ b. b || list_any (is_place place) ps) ((eq_by_cmp_equiv place_total).refl place)

    below : (best : Option Key) → IsNextBy (counts_in mark table ps) after best → (key : Key) → is_after after key ≡ true → is_before key best ≡ true → counts_in mark table ps key ≡ false
    below None is key a b = is key a
    below (Some other) is key a b = is.2 key a b

    through : (best : Option Key) (key : Key) → is_lt (key_cmp key place.key) ≡ true → is_before place.key best ≡ true → is_before key best ≡ true
    through None key a b = refl
    through (Some other) key a b = ap is_lt (key_total.trans key place.key other (lower (key_cmp key place.key) a) (lower (key_cmp place.key other) b))

    missed : (hit && (is_after after place.key && is_before place.key best)) ≡ false → (key : Key) → is_after after key ≡ true → is_before key best ≡ true → now key ≡ false
    missed failed key a b = not_true (now key) (λ e. by (from key e))
      where
        by : (counts_in mark table ps key ≡ true) ⊎ ((hit ≡ true) × (key ≡ place.key)) → ⊥
        by (inl counted) = clash (counts_in mark table ps key) counted (below best was key a b)
        by (inr own) = clash (hit && (is_after after place.key && is_before place.key best))
            (λ i. own.0 i && ((ap (is_after after) (sym own.1) ∙ a) i && (ap (λ k. is_before k best) (sym own.1) ∙ b) i)) failed

    stays : (best : Option Key) → IsNextBy (counts_in mark table ps) after best → ((key : Key) → is_after after key ≡ true → is_before key best ≡ true → now key ≡ false) → IsNextBy now after best
    stays None is past = λ key a. past key a refl
    stays (Some other) is past = (is.0, kept other is.1, past)

    taken : (hit && (is_after after place.key && is_before place.key best)) ≡ true → IsNextBy now after (Some place.key)
    taken fits =
        let parts = both hit (is_after after place.key && is_before place.key best) fits in
        let order = both (is_after after place.key) (is_before place.key best) parts.1 in
        (order.0, itself parts.0, λ key a less. not_true (now key) (λ e. by key a less order.1 (from key e)))
      where
        by : (key : Key) → is_after after key ≡ true → is_lt (key_cmp key place.key) ≡ true → is_before place.key best ≡ true
            → (counts_in mark table ps key ≡ true) ⊎ ((hit ≡ true) × (key ≡ place.key)) → ⊥
        by key a less first (inl counted) = clash (counts_in mark table ps key) counted (below best was key a (through best key less first))
        by key a less first (inr own) =
            clash (is_lt (key_cmp key place.key)) less (ap (λ k. is_lt (key_cmp k place.key)) own.1 ∙ not_lower (key_cmp place.key place.key) ((eq_by_cmp_equiv key_total).refl place.key))

    split : (b : Bool) → (hit && (is_after after place.key && is_before place.key best)) ≡ b → IsNextBy now after (if b then Some place.key else best)
    split true e = taken e
    split false e = stays best was (missed e)

-- the least key among the first so many places
pub record BestSoFar (mark : Place → Bool) (table : ℕ) (after : Option Key) (places : List Place) (i : ℕ) (best : Option Key) : Type 0 where
  pub least : IsNextBy (counts_in mark table (take i places)) after best

pub best_none : (mark : Place → Bool) (table : ℕ) (after : Option Key) (places : List Place) → BestSoFar mark table after places 0 None
best_none mark table after places = record { least = λ key a. none (mark (place_at table key)) }
  where
    none : (b : Bool) → (b && false) ≡ false
    none true = refl
    none false = refl

pub best_more : (mark : Place → Bool) (table : ℕ) (after best now : Option Key) (places : List Place) (i : ℕ) (place : Place) (counts : Bool) → i < length places → place ≡ get_or places i place
    → counts ≡ (table == place.table && mark place) → now ≡ chosen counts after place.key best → BestSoFar mark table after places i best → BestSoFar mark table after places (i + 1) now
best_more mark table after best now places i place counts lt is counted made was = record {
  least =
      subst (IsNextBy (counts_in mark table (take (i + 1) places)) after) (sym (made ∙ ap (λ b. chosen b after place.key best) counted))
      (subst (λ ps. IsNextBy (counts_in mark table ps) after (chosen (table == place.table && mark place) after place.key best)) (sym list)
      (next_more mark table after best (take i places) place was.least));
}
  where
    list : take (i + 1) places ≡ take i places ++ place ∷ []
    list = take_more places i place lt ∙ ap (λ y. take i places ++ y ∷ []) (sym is)

along : (p q : Key → Bool) (after next : Option Key) → ((key : Key) → q key ≡ p key) → IsNextBy p after next → IsNextBy q after next
along p q after None same is = λ key a. same key ∙ is key a
along p q after (Some next) same is = (is.0, same next ∙ is.1, λ key a l. same key ∙ is.2 key a l)

named_key : (t : StampedTables) (table : ℕ) (after next : Option Key) → IsNextBy (is_present (bare t) table) after next → IsNextKey (bare t) table after next
named_key t table after None is = is
named_key t table after (Some key) is = is

-- and among all of them
pub best_all : (schema : List Declaration) (init : List InitRow) (m : Medium) (cut : Cut) (table : ℕ) (after best : Option Key) (places : List Place) (i : ℕ) → places ≡ places_at init m cut
    → length places ≤ i → BestSoFar (λ p. (row_at schema init (held m cut) p).mark.value) table after places i best → IsNextKey (bare (tables_of schema init m cut)) table after best
best_all schema init m cut table after best places i are past so_far =
    named_key (tables_of schema init m cut) table after best
    (along (counts_in (λ p. (row_at schema init (held m cut) p).mark.value) table (take i places)) (is_present (bare (tables_of schema init m cut)) table) after best same so_far.least)
  where
    present : (b : Bool) (row : StampedRow) → (seen_in (option_map bare_row (if b then Some row else None))).present ≡ (row.mark.value && b)
    present true row = by row.mark.value
      where
        by : (m : Bool) → m ≡ (m && true)
        by true = refl
        by false = refl
    present false row = by row.mark.value
      where
        by : (m : Bool) → false ≡ (m && false)
        by true = refl
        by false = refl

    same : (key : Key) → is_present (bare (tables_of schema init m cut)) table key ≡ counts_in (λ p. (row_at schema init (held m cut) p).mark.value) table (take i places) key
    same key =
        let p : Place = place_at table key in
        ap (λ s. s.present) (seen_at-bare (tables_of schema init m cut) p ∙ ap (λ o. seen_in (option_map bare_row o)) (behind schema init m cut p))
        ∙ present (list_any (is_place p) (places_at init m cut)) (row_at schema init (held m cut) p)
        ∙ ap (λ l. (row_at schema init (held m cut) p).mark.value && list_any (is_place p) l) (sym are ∙ sym (take_all i places past))

-- the places that an operation names
of_changes : (op : Op) (n : ℕ) (es : List RowEffect) → map (λ c. place_of c.value) (changes_from op n es) ≡ map place_of es
of_changes op n [] = refl
of_changes op n (e ∷ es) = ap (λ l. place_of e ∷ l) (of_changes op (suc n) es)

pub named_next : (op : Op) (ops : List Op) → named_by (op ∷ ops) ≡ map place_of op.effects ++ named_by ops
named_next op ops = map-append (λ c. place_of c.value) (changes_of op) (changes_by ops) ∙ ap (λ l. l ++ named_by ops) (of_changes op 0 op.effects)

pub named_first : (f : ℕ → List Op) → all_to (λ o. named_by (f o)) 1 ≡ named_by (f 0)
unfolding all_to
named_first f = refl

pub named_more : (m : Medium) (cut : Cut) (site : ℕ) (start before now : List Place) (ops : List Op) (n : ℕ) → before ≡ start ++ all_to (λ o. named_by (held m cut o)) (site + 1)
    → n ≡ cut (suc site) → ops ≡ take n (m (site + 1)) → now ≡ before ++ named_by ops → now ≡ start ++ all_to (λ o. named_by (held m cut o)) (site + 1 + 1)
unfolding all_to
named_more m cut site start before now ops n was many is made =
    let one : suc (site + 1) ≡ site + 1 + 1 = omega arith in
    let next : suc site ≡ site + 1 = omega arith in
    made ∙ (λ i. was i ++ named_by (is i)) ∙ append_assoc start (all_to (λ o. named_by (held m cut o)) (site + 1)) (named_by (take n (m (site + 1))))
    ∙ ap (λ k. start ++ (all_to (λ o. named_by (held m cut o)) (site + 1) ++ named_by (take k (m (site + 1))))) (many ∙ ap cut next)
    ∙ ap (λ k. start ++ all_to (λ o. named_by (held m cut o)) k) one

pub named_start : (m : Medium) (cut : Cut) (start empty first now : List Place) (ops : List Op) → empty ≡ [] → first ≡ empty ++ start → ops ≡ take (cut 0) (m 0) → now ≡ first ++ named_by ops
    → now ≡ start ++ all_to (λ o. named_by (held m cut o)) 1
unfolding all_to
named_start m cut start empty first now ops none made is all = all ∙ (λ i. (made ∙ ap (λ l. l ++ start) none) i ++ named_by (is i))

pub op_named : (ops : List Op) (i : ℕ) (op : Op) (effects : List RowEffect) (before now whole : List Place) → i < length ops → op ≡ get_or ops i op → effects ≡ op.effects
    → now ≡ before ++ map place_of effects → before ++ named_by (drop i ops) ≡ whole → now ++ named_by (drop (i + 1) ops) ≡ whole
op_named ops i op effects before now whole lt is own made rest =
    let later : List Place = named_by (drop (i + 1) ops) in
    let split : named_by (drop i ops) ≡ map place_of op.effects ++ later =
    ap named_by (drop_more ops i op lt ∙ ap (λ y. y ∷ drop (i + 1) ops) (sym is)) ∙ named_next op (drop (i + 1) ops) in
    ap (λ l. l ++ later) (made ∙ ap (λ es. before ++ map place_of es) own) ∙ append_assoc before (map place_of op.effects) later ∙ ap (λ l. before ++ l) (sym split) ∙ rest

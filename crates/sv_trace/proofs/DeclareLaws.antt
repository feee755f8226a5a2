-- The names that a transaction declares have their places as numbers, and later declarations leave earlier ones as they are.
use Rattle.std.proofs.Common.{◌≡◌, ◌∙◌, ℕ, suc, ◌≤◌, List, [], ◌∷◌, ◌++◌, Some, slice_get, refl, sym, ap, arith}
use Rattle.std.specs.List.{flat_map}
use Rattle.std.specs.Option.{option_map, option_and_then, unwrap_or}
use Rattle.std.proofs.lemmas.Grind.{flat_map-append}
use Rattle.std.proofs.lemmas.Option.{slice_get-map}
use Rattle.sv_app.specs.declared.apps.Ident.{Ident}
use Rattle.sv_app.specs.declared.names.Declared.{Declared}
use Rattle.sv_app.specs.declared.schemas.Ty.{Ty}
use Rattle.sv_app.specs.declared.schemas.Ty.TheVariants as types
use Rattle.sv_app.specs.Paths.{Names, with_type, with_table, type_of, command_names, block_names}
use Rattle.sv_app.specs.Statements.{inner_statements, block_statements}
use Rattle.sv_app.specs.Trees.{Command, Declare, Assign, Fetch, Choose, ForRows, ForEach, Insert, Fresh, Update, Remove, Abort, Reply, Block, Finish, Then}
use Rattle.sv_app.specs.TxnNames.{plain_name, row_name, declared_by, declares, names_of}
use Rattle.sv_app.specs.TxnNumbers.{numbered_name, numbered_command, numbered_block}
use Rattle.sv_app.specs.Typing.{repeats}
use Rattle.sv_trace.specs.Standing.{Frame}
use Rattle.sv_trace.proofs.NamingLaws.{all, Agree, table_declared}
use Rattle.sv_app.proofs.SchemaLaws.{own_first, own_place}
use Rattle.sv_trace.proofs.SlotLaws.{item_other}

-- the declarations in a block, in the order of the text
abbrev mutual
  pub command_declares : Command → List Declared
  command_declares (Declare x e) = plain_name x ∷ []
  command_declares (Assign x e) = []
  command_declares (Fetch r t k) = row_name r t ∷ []
  command_declares (Choose test ys ns) = block_declares ys ++ block_declares ns
  command_declares (ForRows r t test body) = row_name r t ∷ block_declares body
  command_declares (ForEach x l body) = plain_name x ∷ block_declares body
  command_declares (Insert t es) = []
  command_declares (Fresh x t es) = plain_name x ∷ []
  command_declares (Update t k sets) = []
  command_declares (Remove t k) = []
  command_declares (Abort n) = []
  command_declares (Reply e) = []

  pub block_declares : Block → List Declared
  block_declares Finish = []
  block_declares (Then c b) = command_declares c ++ block_declares b

mutual
  command_lists : (c : Command) → flat_map declared_by (c ∷ inner_statements c) ≡ command_declares c
  command_lists (Declare x e) = refl
  command_lists (Assign x e) = refl
  command_lists (Fetch r t k) = refl
  command_lists (Choose test ys ns) = flat_map-append declared_by (block_statements ys) (block_statements ns) ∙ (λ i. block_lists ys i ++ block_lists ns i)
  command_lists (ForRows r t test body) = ap (λ l. row_name r t ∷ l) (block_lists body)
  command_lists (ForEach x l body) = ap (λ ds. plain_name x ∷ ds) (block_lists body)
  command_lists (Insert t es) = refl
  command_lists (Fresh x t es) = refl
  command_lists (Update t k sets) = refl
  command_lists (Remove t k) = refl
  command_lists (Abort n) = refl
  command_lists (Reply e) = refl

  pub block_lists : (b : Block) → flat_map declared_by (block_statements b) ≡ block_declares b
  block_lists Finish = refl
  block_lists (Then c b) = flat_map-append declared_by (c ∷ inner_statements c) (block_statements b) ∙ (λ i. command_lists c i ++ block_lists b i)

-- a number after so many more
abbrev pub after : ℕ → List Declared → ℕ
after k [] = k
after k (d ∷ ds) = after (suc k) ds

pub after_append : (k : ℕ) (xs ys : List Declared) → after k (xs ++ ys) ≡ after (after k xs) ys
after_append k [] ys = refl
after_append k (x ∷ xs) ys = after_append (suc k) xs ys

pub not_before : (k : ℕ) (ds : List Declared) → k ≤ after k ds
not_before k [] = omega arith
not_before k (d ∷ ds) = let le : suc k ≤ after (suc k) ds = not_before (suc k) ds in omega (arith, le)

-- the declarations stand in the transaction from this place on
abbrev pub HereFrom : Frame → ℕ → List Declared → Type 0
HereFrom f k [] = Unit {0}
HereFrom f k (d ∷ ds) = (slice_get (declares f.txn) k ≡ Some d) × HereFrom f (suc k) ds

pub here_split : (f : Frame) (k : ℕ) (xs ys : List Declared) → HereFrom f k (xs ++ ys) → HereFrom f k xs × HereFrom f (after k xs) ys
here_split f k [] ys here = (tt, here)
here_split f k (x ∷ xs) ys here = let rest = here_split f (suc k) xs ys here.1 in ((here.0, rest.0), rest.1)

-- names that are the same below a number
pub agree_same : (k : ℕ) (n : Names) → Agree k n n
agree_same k n i less = (refl, refl)

pub agree_then : (k : ℕ) (a b c : Names) → Agree k a b → Agree k b c → Agree k a c
agree_then k a b c p q i less = ((p i less).0 ∙ (q i less).0, (p i less).1 ∙ (q i less).1)

pub agree_fewer : (j k : ℕ) (a b : Names) → j ≤ k → Agree k a b → Agree j a b
agree_fewer j k a b le p i less = p i (omega (arith, le, less))

agree_type : (k x : ℕ) (ty : Ty) (n : Names) → x ≡ k → Agree k n (with_type x ty n)
agree_type k x ty n e i less = (sym (item_other types.Int ty x i n.types (λ same. omega (arith, e, less, same))), refl)

agree_table : (k r t : ℕ) (n : Names) → r ≡ k → Agree k n (with_table r t n)
agree_table k r t n e i less = (refl, sym (item_other 0 t r i n.tables (λ same. omega (arith, e, less, same))))

module _ (f : Frame) (once : repeats (names_of f.txn) ≡ []) where
  -- the number of a declared name is its place
  pub here_number : (k : ℕ) (d : Declared) → slice_get (declares f.txn) k ≡ Some d → numbered_name (all f) d.name ≡ d.name → d.name.num ≡ k
  here_number k d at own =
      let named : slice_get (names_of f.txn) k ≡ Some d.name = slice_get-map (λ (x : Declared). x.name) (declares f.txn) k ∙ ap (λ o. option_map (λ (x : Declared). x.name) o) at in
      ap (λ (x : Ident). x.num) (sym own) ∙ ap (λ o. unwrap_or o 0) (own_place (names_of f.txn) k d.name once named)

  pub here_table : (k : ℕ) (r t : Ident) → slice_get (declares f.txn) k ≡ Some (row_name r t) → table_declared f r ≡ Some t
  here_table k r t at = ap (λ o. option_and_then (λ (d : Declared). d.table) o) (own_first (λ (d : Declared). d.name) (declares f.txn) k (row_name r t) once at)

  mutual
    pub command_stays : (c : Command) (n : Names) (k : ℕ) → numbered_command (all f) c ≡ c → HereFrom f k (command_declares c) → Agree k n (command_names f.schema c n)
    command_stays (Declare x e) n k own here =
        let same : numbered_name (all f) x ≡ x = cc in
        agree_type k x.num (type_of f.schema n 0 e) n (here_number k (plain_name x) here.0 same)
    command_stays (Assign x e) n k own here = agree_same k n
    command_stays (Fetch r t key) n k own here =
        let same : numbered_name (all f) r ≡ r = cc in
        agree_table k r.num t.num n (here_number k (row_name r t) here.0 same)
    command_stays (Choose test ys ns) n k own here =
        let one : numbered_block (all f) ys ≡ ys = cc in
        let two : numbered_block (all f) ns ≡ ns = cc in
        let split = here_split f k (block_declares ys) (block_declares ns) here in
        let mid : Names = block_names f.schema ys n in
        agree_then k n mid (block_names f.schema ns mid) (block_stays ys n k one split.0)
        (agree_fewer k (after k (block_declares ys)) mid (block_names f.schema ns mid) (not_before k (block_declares ys)) (block_stays ns mid (after k (block_declares ys)) two split.1))
    command_stays (ForRows r t test body) n k own here =
        let same : numbered_name (all f) r ≡ r = cc in
        let inner : numbered_block (all f) body ≡ body = cc in
        let mid : Names = with_table r.num t.num n in
        agree_then k n mid (block_names f.schema body mid) (agree_table k r.num t.num n (here_number k (row_name r t) here.0 same))
        (agree_fewer k (suc k) mid (block_names f.schema body mid) (omega arith) (block_stays body mid (suc k) inner here.1))
    command_stays (ForEach x l body) n k own here =
        let same : numbered_name (all f) x ≡ x = cc in
        let inner : numbered_block (all f) body ≡ body = cc in
        let mid : Names = with_type x.num types.Int n in
        agree_then k n mid (block_names f.schema body mid) (agree_type k x.num types.Int n (here_number k (plain_name x) here.0 same))
        (agree_fewer k (suc k) mid (block_names f.schema body mid) (omega arith) (block_stays body mid (suc k) inner here.1))
    command_stays (Insert t es) n k own here = agree_same k n
    command_stays (Fresh x t es) n k own here =
        let same : numbered_name (all f) x ≡ x = cc in
        agree_type k x.num types.Int n (here_number k (plain_name x) here.0 same)
    command_stays (Update t key sets) n k own here = agree_same k n
    command_stays (Remove t key) n k own here = agree_same k n
    command_stays (Abort m) n k own here = agree_same k n
    command_stays (Reply e) n k own here = agree_same k n

    pub block_stays : (b : Block) (n : Names) (k : ℕ) → numbered_block (all f) b ≡ b → HereFrom f k (block_declares b) → Agree k n (block_names f.schema b n)
    block_stays Finish n k own here = agree_same k n
    block_stays (Then c b) n k own here =
        let one : numbered_command (all f) c ≡ c = cc in
        let two : numbered_block (all f) b ≡ b = cc in
        let split = here_split f k (command_declares c) (block_declares b) here in
        let mid : Names = command_names f.schema c n in
        agree_then k n mid (block_names f.schema b mid) (command_stays c n k one split.0)
        (agree_fewer k (after k (command_declares c)) mid (block_names f.schema b mid) (not_before k (command_declares c)) (block_stays b mid (after k (command_declares c)) two split.1))

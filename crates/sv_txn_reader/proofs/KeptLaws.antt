-- Transactions that are written with no limit passed keep what acceptance asks for.
use Rattle.std.proofs.Common.{◌≡◌, ◌∙◌, ℕ, Bool, cond, suc, ◌+◌, ◌≤◌, inl, inr, true, false, List, [], ◌∷◌, ◌++◌, length, map, Option, Some, None, refl, sym, ap, subst, arith}
use Rattle.std.specs.List.{All, filter, flat_map}
use Rattle.std.proofs.lemmas.Grind.{flat_map-append}
use Rattle.std.proofs.lemmas.List.{length-append}
use Rattle.std.proofs.lemmas.List.Elements.{All-nil, All-cons, All-append, filter-append}
use Rattle.sv_lex.specs.declared.tokens.Token.{Token}
use Rattle.sv_app.specs.declared.apps.Ident.{Ident}
use Rattle.sv_app.specs.declared.schemas.Ty.{Ty}
use Rattle.sv_app.specs.Depths.{term_depth, test_depth, depths, inner_depth, block_depth}
use Rattle.sv_app.specs.Statements.{inner_statements, block_statements}
use Rattle.sv_app.specs.Trees.{Term, Test, Command, Declare, Assign, Fetch, Choose, ForRows, ForEach, Insert, Fresh, Update, Remove, Abort, Reply, Block, Finish, Then, Transaction}
use Rattle.sv_app.specs.TxnConditions.{is_loop, is_declaration, loops_of, IsKey, KeepsStatement, KeepsTxnGrammar, IsSmallTxn, KeepsTxnLimits}
use Rattle.sv_txn_reader.specs.Grammar.{expr, keys, index, setting, others, separated, listed, where_part, looping, braced, otherwise, command, statements, more_params, params, transaction, transactions}
use Rattle.sv_txn_reader.specs.Refused.{AreRead}
use Rattle.sv_txn_reader.specs.Standing.{Standing, outside, one_statement, deeper, in_loop, behind, past_command, command_counts, block_counts}
use Rattle.sv_txn_reader.proofs.DepthLaws.{one_some, limit_kept, limit_some, expr_kept, cond_kept}

abbrev AllShallow : List ℕ → Type 0
AllShallow ds = All (λ d. d ≤ 16) ds

shallow_none : AllShallow []
shallow_none = All-nil (λ d. d ≤ 16)

shallow_more : (d : ℕ) (ds : List ℕ) → d ≤ 16 → AllShallow ds → AllShallow (d ∷ ds)
shallow_more d ds h k = All-cons (λ d. d ≤ 16) d ds h k

shallow_both : (ds es : List ℕ) → AllShallow ds → AllShallow es → AllShallow (ds ++ es)
shallow_both ds es h k = All-append (λ d. d ≤ 16) ds es h k

-- expressions that are written
keys_shallow : (k : List Term) (tokens rest : List Token) → keys 0 k tokens rest → AllShallow (map term_depth k)
keys_shallow [] tokens rest is = absurd is
keys_shallow (e ∷ []) tokens rest is = shallow_more (term_depth e) [] (expr_kept e tokens rest is) shallow_none
keys_shallow (e ∷ f ∷ []) tokens rest is =
    shallow_more (term_depth e) (term_depth f ∷ []) (expr_kept e tokens is.middle is.first) (shallow_more (term_depth f) [] (expr_kept f is.second.middle rest is.second.second) shallow_none)
keys_shallow (e ∷ f ∷ g ∷ k) tokens rest is = absurd is

keys_few : (k : List Term) (tokens rest : List Token) → keys 0 k tokens rest → IsKey k
keys_few [] tokens rest is = absurd is
keys_few (e ∷ []) tokens rest is = record { some = omega arith; few = omega arith }
keys_few (e ∷ f ∷ []) tokens rest is = record { some = omega arith; few = omega arith }
keys_few (e ∷ f ∷ g ∷ k) tokens rest is = absurd is

index_shallow : (k : List Term) (tokens rest : List Token) → index 0 k tokens rest → AllShallow (map term_depth k)
index_shallow k tokens rest is = keys_shallow k is.middle is.second.middle is.second.first

index_few : (k : List Term) (tokens rest : List Token) → index 0 k tokens rest → IsKey k
index_few k tokens rest is = keys_few k is.middle is.second.middle is.second.first

others_shallow : (vs : List Term) (tokens rest : List Token) → others (expr 0) vs tokens rest → AllShallow (map term_depth vs)
others_shallow [] tokens rest is = shallow_none
others_shallow (e ∷ vs) tokens rest is =
    shallow_more (term_depth e) (map term_depth vs) (expr_kept e is.middle is.second.middle is.second.first) (others_shallow vs is.second.middle rest is.second.second)

values_shallow : (vs : List Term) (tokens rest : List Token) → separated (expr 0) vs tokens rest → AllShallow (map term_depth vs)
values_shallow [] tokens rest is = absurd is
values_shallow (e ∷ vs) tokens rest is = shallow_more (term_depth e) (map term_depth vs) (expr_kept e tokens is.middle is.first) (others_shallow vs is.middle rest is.second)

listed_shallow : (vs : List Term) (tokens rest : List Token) → listed (expr 0) vs tokens rest → AllShallow (map term_depth vs)
listed_shallow [] tokens rest is = shallow_none
listed_shallow (e ∷ vs) tokens rest is = values_shallow (e ∷ vs) tokens rest is

values_some : (vs : List Term) (tokens rest : List Token) → separated (expr 0) vs tokens rest → 1 ≤ length vs
values_some [] tokens rest is = absurd is
values_some (e ∷ vs) tokens rest is = omega arith

abbrev set_depth : Ident × Term → ℕ
set_depth s = term_depth s.1

other_sets_shallow : (ss : List (Ident × Term)) (tokens rest : List Token) → others (setting 0) ss tokens rest → AllShallow (map set_depth ss)
other_sets_shallow [] tokens rest is = shallow_none
other_sets_shallow ((x, e) ∷ ss) tokens rest is =
    shallow_more (term_depth e) (map set_depth ss) (expr_kept e is.second.first.second.middle is.second.middle is.second.first.second.second) (other_sets_shallow ss is.second.middle rest is.second.second)

sets_shallow : (ss : List (Ident × Term)) (tokens rest : List Token) → separated (setting 0) ss tokens rest → AllShallow (map set_depth ss)
sets_shallow [] tokens rest is = absurd is
sets_shallow ((x, e) ∷ ss) tokens rest is =
    shallow_more (term_depth e) (map set_depth ss) (expr_kept e is.first.second.middle is.middle is.first.second.second) (other_sets_shallow ss is.middle rest is.second)

sets_some : (ss : List (Ident × Term)) (tokens rest : List Token) → separated (setting 0) ss tokens rest → 1 ≤ length ss
sets_some [] tokens rest is = absurd is
sets_some (s ∷ ss) tokens rest is = omega arith

-- a statement, and those in its blocks
abbrev command_statements : Command → List Command
command_statements c = c ∷ inner_statements c

-- how many begin in statements are how many there are
counted : (p : Command → Bool) (xs ys : List Command) → length (filter p (xs ++ ys)) ≡ length (filter p xs) + length (filter p ys)
counted p xs ys = ap (λ (l : List Command). length l) (filter-append p xs ys) ∙ length-append (filter p xs) (filter p ys)

-- what is kept of a block that stands there, and of a statement
pub record KeptBlock (at : Standing) (b : Block) : Type 0 where
  pub grammar : All KeepsStatement (block_statements b)
  pub shallow : All (λ d. d ≤ 16) (flat_map depths (block_statements b))
  pub statements : at.before.statements ≤ 128 → at.before.statements + length (block_statements b) ≤ 128
  pub loops : at.before.loops ≤ 15 → at.before.loops + length (loops_of b) ≤ 15
  pub variables : at.before.variables ≤ 32 → at.before.variables + length (filter is_declaration (block_statements b)) ≤ 32
  pub depth : at.depth ≤ 8 → at.depth + block_depth b ≤ 9
  pub single : at.looped ≡ true → length (loops_of b) ≡ 0
  pub counts_statements : (block_counts b).statements ≡ length (block_statements b)
  pub counts_loops : (block_counts b).loops ≡ length (loops_of b)
  pub counts_variables : (block_counts b).variables ≡ length (filter is_declaration (block_statements b))

-- the statement itself is counted before it
pub record KeptCommand (at : Standing) (c : Command) : Type 0 where
  pub grammar : All KeepsStatement (command_statements c)
  pub shallow : All (λ d. d ≤ 16) (flat_map depths (command_statements c))
  pub statements : at.before.statements ≤ 128 → at.before.statements + length (command_statements c) ≤ 129
  pub loops : at.before.loops ≤ 15 → at.before.loops + length (filter is_loop (command_statements c)) ≤ 15
  pub variables : at.before.variables ≤ 32 → at.before.variables + length (filter is_declaration (command_statements c)) ≤ 32
  pub depth : at.depth ≤ 8 → at.depth + inner_depth c ≤ 8
  pub single : at.looped ≡ true → length (filter is_loop (command_statements c)) ≡ 0
  pub counts_statements : (command_counts c).statements ≡ length (command_statements c)
  pub counts_loops : (command_counts c).loops ≡ length (filter is_loop (command_statements c))
  pub counts_variables : (command_counts c).variables ≡ length (filter is_declaration (command_statements c))
  pub some : 1 ≤ length (command_statements c)

-- a statement without blocks that is no loop, and that declares so many variables
single_kept : (v : ℕ) (at : Standing) (c : Command) → command_statements c ≡ c ∷ [] → is_loop c ≡ false → length (filter is_declaration (c ∷ [])) ≡ v → inner_depth c ≡ 0
    → command_counts c ≡ record { statements = 1; loops = 0; variables = v } → (at.before.variables ≤ 32 → at.before.variables + v ≤ 32)
    → KeepsStatement c → AllShallow (depths c) → KeptCommand at c
single_kept v at c alone no_loop declares deep counts few keeps shallow = record {
  grammar = subst (All KeepsStatement) (sym alone) (All-cons KeepsStatement c [] keeps (All-nil KeepsStatement));
  shallow = subst (λ l. AllShallow (flat_map depths l)) (sym alone) (shallow_both (depths c) [] shallow shallow_none);
  statements = λ h. let n : length (command_statements c) ≡ 1 = ap (λ (l : List Command). length l) alone in omega (arith, h, n);
  loops = λ h. omega (arith, h, loops);
  variables = λ h. let room : at.before.variables + v ≤ 32 = few h in omega (arith, room, variables);
  depth = λ h. omega (arith, h, deep);
  single = λ h. loops;
  counts_statements = ap (λ n. n.statements) counts ∙ sym (ap (λ (l : List Command). length l) alone);
  counts_loops = ap (λ n. n.loops) counts ∙ sym loops;
  counts_variables = ap (λ n. n.variables) counts ∙ sym variables;
  some = let n : length (command_statements c) ≡ 1 = ap (λ (l : List Command). length l) alone in omega (arith, n);
}
  where
    none : (p : Command → Bool) → p c ≡ false → length (filter p (c ∷ [])) ≡ 0
    none p e = rw e refl

    loops : length (filter is_loop (command_statements c)) ≡ 0
    loops = ap (λ (l : List Command). length (filter is_loop l)) alone ∙ none is_loop no_loop

    variables : length (filter is_declaration (command_statements c)) ≡ v
    variables = ap (λ (l : List Command). length (filter is_declaration l)) alone ∙ declares

-- one that declares none
flat : (at : Standing) (c : Command) → command_statements c ≡ c ∷ [] → is_loop c ≡ false → is_declaration c ≡ false → inner_depth c ≡ 0 → command_counts c ≡ record { statements = 1; loops = 0; variables = 0 }
    → KeepsStatement c → AllShallow (depths c) → KeptCommand at c
flat at c alone no_loop no_declaration deep counts keeps shallow =
    single_kept 0 at c alone no_loop (rw no_declaration refl) deep counts (λ h. omega (arith, h)) keeps shallow

-- one that declares a variable
declare_kept : (at : Standing) (c : Command) → command_statements c ≡ c ∷ [] → is_loop c ≡ false → is_declaration c ≡ true → inner_depth c ≡ 0 → command_counts c ≡ record { statements = 1; loops = 0; variables = 1 }
    → KeepsStatement c → suc at.before.variables ≤ 32 → AllShallow (depths c) → KeptCommand at c
declare_kept at c alone no_loop declares deep counts keeps few shallow =
    single_kept 1 at c alone no_loop (rw declares refl) deep counts (λ h. omega (arith, few)) keeps shallow

finish_kept : (at : Standing) → KeptBlock at Finish
finish_kept at = record {
  grammar = All-nil KeepsStatement;
  shallow = shallow_none;
  statements = λ h. omega (arith, h);
  loops = λ h. omega (arith, h);
  variables = λ h. omega (arith, h);
  depth = λ h. omega (arith, h);
  single = λ h. refl;
  counts_statements = refl;
  counts_loops = refl;
  counts_variables = refl;
}

choose_kept : (at : Standing) (t : Test) (ys ns : Block) → test_depth t ≤ 16 → suc at.depth ≤ 8 → KeptBlock (deeper at) ys → KeptBlock (deeper (behind at ys)) ns → KeptCommand at (Choose t ys ns)
choose_kept at t ys ns deep few y n = record {
  grammar = All-cons KeepsStatement (Choose t ys ns) (block_statements ys ++ block_statements ns) tt (All-append KeepsStatement (block_statements ys) (block_statements ns) y.grammar n.grammar);
  shallow = shallow_more (test_depth t) (flat_map depths (block_statements ys ++ block_statements ns)) deep
      (subst AllShallow (sym (flat_map-append depths (block_statements ys) (block_statements ns))) (shallow_both (flat_map depths (block_statements ys)) (flat_map depths (block_statements ns)) y.shallow n.shallow));
  statements = λ h.
      let first : at.before.statements + length (block_statements ys) ≤ 128 = y.statements h in
      let then : (at.before.statements + (block_counts ys).statements) + length (block_statements ns) ≤ 128 = n.statements (omega (arith, first, y.counts_statements)) in
      omega (arith, then, y.counts_statements, length-append (block_statements ys) (block_statements ns));
  loops = λ h.
      let first : at.before.loops + length (loops_of ys) ≤ 15 = y.loops h in
      let then : (at.before.loops + (block_counts ys).loops) + length (loops_of ns) ≤ 15 = n.loops (omega (arith, first, y.counts_loops)) in
      omega (arith, then, y.counts_loops, counted is_loop (block_statements ys) (block_statements ns));
  variables = λ h.
      let first : at.before.variables + length (filter is_declaration (block_statements ys)) ≤ 32 = y.variables h in
      let then : (at.before.variables + (block_counts ys).variables) + length (filter is_declaration (block_statements ns)) ≤ 32 = n.variables (omega (arith, first, y.counts_variables)) in
      omega (arith, then, y.counts_variables, counted is_declaration (block_statements ys) (block_statements ns));
  depth = λ h.
      let first : suc at.depth + block_depth ys ≤ 9 = y.depth few in
      let then : suc at.depth + block_depth ns ≤ 9 = n.depth few in
      omega (arith, first, then);
  single = λ h. let first : length (loops_of ys) ≡ 0 = y.single h in let then : length (loops_of ns) ≡ 0 = n.single h in omega (arith, first, then, counted is_loop (block_statements ys) (block_statements ns));
  counts_statements = omega (arith, y.counts_statements, n.counts_statements, length-append (block_statements ys) (block_statements ns));
  counts_loops = omega (arith, y.counts_loops, n.counts_loops, counted is_loop (block_statements ys) (block_statements ns));
  counts_variables = omega (arith, y.counts_variables, n.counts_variables, counted is_declaration (block_statements ys) (block_statements ns));
  some = omega arith;
}

-- a loop, over rows or over a list
record IsLoop (c : Command) (body : Block) : Type 0 where
  statements : command_statements c ≡ c ∷ block_statements body
  loop : is_loop c ≡ true
  declares : is_declaration c ≡ false
  deep : inner_depth c ≡ block_depth body
  counts_statements : (command_counts c).statements ≡ 1 + (block_counts body).statements
  counts_loops : (command_counts c).loops ≡ 1 + (block_counts body).loops
  counts_variables : (command_counts c).variables ≡ 0 + (block_counts body).variables

loop_kept : (at : Standing) (c : Command) (body : Block) → IsLoop c body → (length (loops_of body) ≡ 0 → KeepsStatement c) → AllShallow (depths c) → at.looped ≡ false → suc at.before.loops ≤ 15 → suc at.depth ≤ 8
    → KeptBlock (in_loop at) body → KeptCommand at c
loop_kept at c body is keeps shallow single loops few b = record {
  grammar = subst (All KeepsStatement) (sym is.statements) (All-cons KeepsStatement c (block_statements body) (keeps (b.single refl)) b.grammar);
  shallow = subst (λ l. AllShallow (flat_map depths l)) (sym is.statements) (shallow_both (depths c) (flat_map depths (block_statements body)) shallow b.shallow);
  statements = λ h. let then : (at.before.statements + 0) + length (block_statements body) ≤ 128 = b.statements (omega (arith, h)) in omega (arith, then, long);
  loops = λ h. let then : (at.before.loops + 1) + length (loops_of body) ≤ 15 = b.loops (omega (arith, loops)) in omega (arith, then, looped);
  variables = λ h. let then : (at.before.variables + 0) + length (filter is_declaration (block_statements body)) ≤ 32 = b.variables (omega (arith, h)) in omega (arith, then, declared);
  depth = λ h. let then : suc at.depth + block_depth body ≤ 9 = b.depth few in omega (arith, then, is.deep);
  single = λ h. let no : true ≡ false = sym h ∙ single in absurd cc;
  counts_statements = omega (arith, is.counts_statements, b.counts_statements, long);
  counts_loops = omega (arith, is.counts_loops, b.counts_loops, looped);
  counts_variables = omega (arith, is.counts_variables, b.counts_variables, declared);
  some = omega (arith, long);
}
  where
    long : length (command_statements c) ≡ suc (length (block_statements body))
    long = ap (λ (l : List Command). length l) is.statements

    here : (p : Command → Bool) (x : Bool) → p c ≡ x → length (filter p (c ∷ block_statements body)) ≡ length (cond {A = List Command} x (c ∷ filter p (block_statements body)) (filter p (block_statements body)))
    here p x e = rw e refl

    looped : length (filter is_loop (command_statements c)) ≡ suc (length (loops_of body))
    looped = ap (λ (l : List Command). length (filter is_loop l)) is.statements ∙ here is_loop true is.loop

    declared : length (filter is_declaration (command_statements c)) ≡ length (filter is_declaration (block_statements body))
    declared = ap (λ (l : List Command). length (filter is_declaration l)) is.statements ∙ here is_declaration false is.declares

then_kept : (at : Standing) (c : Command) (b : Block) → suc at.before.statements ≤ 128 → KeptCommand (one_statement at) c → KeptBlock (past_command at c) b → KeptBlock at (Then c b)
then_kept at c b few k r = record {
  grammar = All-append KeepsStatement (command_statements c) (block_statements b) k.grammar r.grammar;
  shallow = subst AllShallow (sym (flat_map-append depths (command_statements c) (block_statements b))) (shallow_both (flat_map depths (command_statements c)) (flat_map depths (block_statements b)) k.shallow r.shallow);
  statements = λ h.
      let first : (at.before.statements + 1) + length (command_statements c) ≤ 129 = k.statements (omega (arith, few)) in
      let then : (at.before.statements + (command_counts c).statements) + length (block_statements b) ≤ 128 = r.statements (omega (arith, first, k.counts_statements)) in
      omega (arith, then, k.counts_statements, length-append (command_statements c) (block_statements b));
  loops = λ h.
      let first : (at.before.loops + 0) + length (filter is_loop (command_statements c)) ≤ 15 = k.loops (omega (arith, h)) in
      let then : (at.before.loops + (command_counts c).loops) + length (loops_of b) ≤ 15 = r.loops (omega (arith, first, k.counts_loops)) in
      omega (arith, then, k.counts_loops, counted is_loop (command_statements c) (block_statements b));
  variables = λ h.
      let first : (at.before.variables + 0) + length (filter is_declaration (command_statements c)) ≤ 32 = k.variables (omega (arith, h)) in
      let then : (at.before.variables + (command_counts c).variables) + length (filter is_declaration (block_statements b)) ≤ 32 = r.variables (omega (arith, first, k.counts_variables)) in
      omega (arith, then, k.counts_variables, counted is_declaration (command_statements c) (block_statements b));
  depth = λ h.
      let first : at.depth + inner_depth c ≤ 8 = k.depth h in
      let then : at.depth + block_depth b ≤ 9 = r.depth h in
      omega (arith, first, then);
  single = λ h.
      let first : length (filter is_loop (command_statements c)) ≡ 0 = k.single h in
      let then : length (loops_of b) ≡ 0 = r.single h in
      omega (arith, first, then, counted is_loop (command_statements c) (block_statements b));
  counts_statements = omega (arith, k.counts_statements, r.counts_statements, length-append (command_statements c) (block_statements b));
  counts_loops = omega (arith, k.counts_loops, r.counts_loops, counted is_loop (command_statements c) (block_statements b));
  counts_variables = omega (arith, k.counts_variables, r.counts_variables, counted is_declaration (command_statements c) (block_statements b));
}

-- where the limit of a depth stands, and what stands inside
braced_few : (at : Standing) (inside : List Token → List Token → Type 0) (tokens rest : List Token) → braced 0 at inside tokens rest → suc at.depth ≤ 8
braced_few at inside tokens rest is = limit_kept 8 (suc at.depth) tokens is.middle is.first (one_some _ is.middle is.second.middle is.second.first)

abbrev Keeping : Standing → Block → Type 0
Keeping at b = (tokens rest : List Token) → statements 0 at b tokens rest → KeptBlock at b

else_kept : (at : Standing) (b : Block) (tokens rest : List Token) → Keeping (deeper at) b → otherwise b (braced 0 at (statements 0 (deeper at) b)) tokens rest → KeptBlock (deeper at) b
else_kept at b tokens rest kept (inl none) = subst (KeptBlock (deeper at)) (sym none.0) (finish_kept (deeper at))
else_kept at b tokens rest kept (inr is) = kept is.second.second.middle rest is.second.second.second

where_shallow : (c : Option Test) (tokens rest : List Token) (r t : Ident) (body : Block) → where_part 0 c tokens rest → AllShallow (depths (ForRows r t c body))
where_shallow None tokens rest r t body is = shallow_none
where_shallow (Some q) tokens rest r t body is = shallow_more (test_depth q) [] (cond_kept q is.middle rest is.second) shallow_none

looping_free : (at : Standing) (tokens rest : List Token) → looping 0 at tokens rest → at.looped ≡ false
looping_free at tokens rest (free, kept) = free

looping_few : (at : Standing) (tokens rest : List Token) → looping 0 at tokens rest → 1 ≤ length rest → suc at.before.loops ≤ 15
looping_few at tokens rest (free, kept) some = limit_kept 15 (suc at.before.loops) tokens rest kept some

looping_some : (at : Standing) (tokens rest : List Token) → looping 0 at tokens rest → 1 ≤ length rest → 1 ≤ length tokens
looping_some at tokens rest (free, kept) some = limit_some 15 (suc at.before.loops) tokens rest kept some

command_some : (at : Standing) (c : Command) (tokens rest : List Token) → command 0 at c tokens rest → 1 ≤ length tokens
command_some at (Declare x e) tokens rest is = one_some _ tokens is.middle is.first
command_some at (Assign x e) tokens rest is = one_some _ tokens is.first.middle is.first.first
command_some at (Fetch r t k) tokens rest is = one_some _ tokens is.middle is.first
command_some at (Choose t ys ns) tokens rest is = one_some _ tokens is.middle is.first
command_some at (ForRows r t c body) tokens rest is = looping_some at tokens is.middle is.first (one_some _ is.middle is.second.middle is.second.first)
command_some at (ForEach x l body) tokens rest is = looping_some at tokens is.middle is.first (one_some _ is.middle is.second.middle is.second.first)
command_some at (Insert t vs) tokens rest is = one_some _ tokens is.middle is.first
command_some at (Fresh x t vs) tokens rest is = one_some _ tokens is.middle is.first
command_some at (Update t k ss) tokens rest is = one_some _ tokens is.middle is.first
command_some at (Remove t k) tokens rest is = one_some _ tokens is.middle is.first
command_some at (Abort n) tokens rest is = one_some _ tokens is.middle is.first
command_some at (Reply e) tokens rest is = one_some _ tokens is.middle is.first

mutual
  command_kept : (at : Standing) (c : Command) (tokens rest : List Token) → command 0 at c tokens rest → KeptCommand at c
  command_kept at (Declare x e) tokens rest is =
      let part = is.second.second in
      declare_kept at (Declare x e) refl refl refl refl refl tt
      (limit_kept 32 (suc at.before.variables) is.middle is.second.middle is.second.first (one_some _ is.second.middle part.first.middle part.first.first))
      (shallow_more (term_depth e) [] (expr_kept e part.first.second.middle part.middle part.first.second.second) shallow_none)
  command_kept at (Assign x e) tokens rest is =
      flat at (Assign x e) refl refl refl refl refl tt (shallow_more (term_depth e) [] (expr_kept e is.first.second.middle is.middle is.first.second.second) shallow_none)
  command_kept at (Fetch r t k) tokens rest is =
      let part = is.second.second.second.second in
      flat at (Fetch r t k) refl refl refl refl refl (index_few k is.second.second.second.middle part.middle part.first) (index_shallow k is.second.second.second.middle part.middle part.first)
  command_kept at (Choose t ys ns) tokens rest is =
      choose_kept at t ys ns (cond_kept t is.middle is.second.middle is.second.first)
      (braced_few at (statements 0 (deeper at) ys) is.second.middle is.second.second.middle is.second.second.first)
      (block_kept (deeper at) ys is.second.second.first.second.middle is.second.second.middle is.second.second.first.second.second)
      (else_kept (behind at ys) ns is.second.second.middle rest (block_kept (deeper (behind at ys)) ns) is.second.second.second)
  command_kept at (ForRows r t c body) tokens rest is =
      let some = one_some _ is.middle is.second.middle is.second.first in
      let part = is.second.second.second.second.second in
      loop_kept at (ForRows r t c body) body (record { statements = refl; loop = refl; declares = refl; deep = refl; counts_statements = refl; counts_loops = refl; counts_variables = refl })
      (λ none. none) (where_shallow c is.second.second.second.second.middle part.middle r t body part.first) (looping_free at tokens is.middle is.first) (looping_few at tokens is.middle is.first some)
      (braced_few at (statements 0 (in_loop at) body) part.middle rest part.second)
      (block_kept (in_loop at) body part.second.second.middle rest part.second.second.second)
  command_kept at (ForEach x l body) tokens rest is =
      let some = one_some _ is.middle is.second.middle is.second.first in
      let part = is.second.second.second.second in
      loop_kept at (ForEach x l body) body (record { statements = refl; loop = refl; declares = refl; deep = refl; counts_statements = refl; counts_loops = refl; counts_variables = refl })
      (λ none. none) shallow_none (looping_free at tokens is.middle is.first) (looping_few at tokens is.middle is.first some)
      (braced_few at (statements 0 (in_loop at) body) part.middle rest part.second)
      (block_kept (in_loop at) body part.second.second.middle rest part.second.second.second)
  command_kept at (Insert t vs) tokens rest is =
      let part = is.second.second.second in
      flat at (Insert t vs) refl refl refl refl refl (values_some vs is.second.second.middle part.middle part.first) (values_shallow vs is.second.second.middle part.middle part.first)
  command_kept at (Fresh x t vs) tokens rest is =
      let part = is.second.second in
      let list = part.second.second.second.second in
      declare_kept at (Fresh x t vs) refl refl refl refl refl tt
      (limit_kept 32 (suc at.before.variables) is.middle is.second.middle is.second.first (one_some _ is.second.middle part.middle part.first))
      (listed_shallow vs part.second.second.second.middle list.middle list.first)
  command_kept at (Update t k ss) tokens rest is =
      let keyed = is.second.second in
      let sets = keyed.second.second in
      flat at (Update t k ss) refl refl refl refl refl
      (index_few k is.second.middle keyed.middle keyed.first, sets_some ss keyed.second.middle sets.middle sets.first)
      (shallow_both (map term_depth k) (map set_depth ss) (index_shallow k is.second.middle keyed.middle keyed.first) (sets_shallow ss keyed.second.middle sets.middle sets.first))
  command_kept at (Remove t k) tokens rest is =
      let keyed = is.second.second in
      flat at (Remove t k) refl refl refl refl refl (index_few k is.second.middle keyed.middle keyed.first) (index_shallow k is.second.middle keyed.middle keyed.first)
  command_kept at (Abort n) tokens rest is =
      flat at (Abort n) refl refl refl refl refl (limit_kept 999 n is.middle is.second.first.middle is.second.first.first (one_some _ is.second.first.middle is.second.middle is.second.first.second)) shallow_none
  command_kept at (Reply e) tokens rest is =
      flat at (Reply e) refl refl refl refl refl tt (shallow_more (term_depth e) [] (expr_kept e is.middle is.second.middle is.second.first) shallow_none)

  block_kept : (at : Standing) (b : Block) (tokens rest : List Token) → statements 0 at b tokens rest → KeptBlock at b
  block_kept at Finish tokens rest is = finish_kept at
  block_kept at (Then c b) tokens rest is =
      then_kept at c b (limit_kept 128 (suc at.before.statements) tokens is.middle is.first (command_some (one_statement at) c is.middle is.second.middle is.second.first))
      (command_kept (one_statement at) c is.middle is.second.middle is.second.first) (block_kept (past_command at c) b is.second.middle rest is.second.second)

more_params_kept : (count : ℕ) (ps : List (Ident × Ty)) (tokens rest : List Token) → count ≤ 16 → more_params 0 count ps tokens rest → count + length ps ≤ 16
more_params_kept count [] tokens rest few is = omega (arith, few)
more_params_kept count ((x, ty) ∷ ps) tokens rest few is =
    let here : suc count ≤ 16 = limit_kept 16 (suc count) is.middle is.second.middle is.second.first (one_some _ is.second.middle is.second.second.first.middle is.second.second.first.first) in
    let then : suc count + length ps ≤ 16 = more_params_kept (suc count) ps is.second.second.middle rest here is.second.second.second in
    omega (arith, then)

params_kept : (ps : List (Ident × Ty)) (tokens rest : List Token) → params 0 ps tokens rest → length ps ≤ 16
params_kept [] tokens rest is = omega arith
params_kept (p ∷ ps) tokens rest is = let then : 1 + length ps ≤ 16 = more_params_kept 1 ps is.middle rest (omega arith) is.second in omega (arith, then)

body_kept : (t : Transaction) (tokens rest : List Token) → transaction 0 t tokens rest → KeptBlock (deeper outside) t.body
body_kept t tokens rest is =
    let block = is.second.second.second.second.second in block_kept (deeper outside) t.body block.second.middle rest block.second.second

small_txn : (t : Transaction) (tokens rest : List Token) → transaction 0 t tokens rest → IsSmallTxn t
small_txn t tokens rest is =
    let kept = body_kept t tokens rest is in
    let part = is.second.second.second in
    record {
      params = params_kept t.params is.second.second.middle part.middle part.first;
      statements = let few : 0 + length (block_statements t.body) ≤ 128 = kept.statements (omega arith) in omega (arith, few);
      blocks = let deep : 1 + block_depth t.body ≤ 9 = kept.depth (omega arith) in omega (arith, deep);
      loops = let few : 0 + length (loops_of t.body) ≤ 15 = kept.loops (omega arith) in omega (arith, few);
      variables = let few : 0 + length (filter is_declaration (block_statements t.body)) ≤ 32 = kept.variables (omega arith) in omega (arith, few);
      expressions = kept.shallow;
    }

abbrev KeepsTxn : Transaction → Type 0
KeepsTxn txn = All KeepsStatement (block_statements txn.body)

txns_keep : (count : ℕ) (ts : List Transaction) (tokens rest : List Token) → transactions 0 count ts tokens rest → All KeepsTxn ts
txns_keep count [] tokens rest is = All-nil KeepsTxn
txns_keep count (t ∷ ts) tokens rest is =
    All-cons KeepsTxn t ts (body_kept t is.middle is.second.middle is.second.first).grammar (txns_keep (suc count) ts is.second.middle rest is.second.second)

txns_small : (count : ℕ) (ts : List Transaction) (tokens rest : List Token) → transactions 0 count ts tokens rest → All IsSmallTxn ts
txns_small count [] tokens rest is = All-nil IsSmallTxn
txns_small count (t ∷ ts) tokens rest is = All-cons IsSmallTxn t ts (small_txn t is.middle is.second.middle is.second.first) (txns_small (suc count) ts is.second.middle rest is.second.second)

txns_few : (count : ℕ) (ts : List Transaction) (tokens rest : List Token) → count ≤ 32 → transactions 0 count ts tokens rest → count + length ts ≤ 32
txns_few count [] tokens rest few is = omega (arith, few)
txns_few count (t ∷ ts) tokens rest few is =
    let here : suc count ≤ 32 = limit_kept 32 (suc count) tokens is.middle is.first (one_some _ is.middle is.second.first.middle is.second.first.first) in
    let then : suc count + length ts ≤ 32 = txns_few (suc count) ts is.second.middle rest here is.second.second in
    omega (arith, then)

pub read_grammar : (ts : List Transaction) (tokens rest : List Token) → AreRead ts tokens rest → KeepsTxnGrammar ts
read_grammar ts tokens rest read = txns_keep 0 ts tokens rest read.is

pub read_limits : (ts : List Transaction) (tokens rest : List Token) → AreRead ts tokens rest → KeepsTxnLimits ts
read_limits ts tokens rest read = record { count = let few : 0 + length ts ≤ 32 = txns_few 0 ts tokens rest (omega arith) read.is in omega (arith, few); each = txns_small 0 ts tokens rest read.is }

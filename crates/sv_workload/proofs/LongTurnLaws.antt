-- One turn more of the loop that looks for a list with too many elements.
use Rattle.std.proofs.Common.{◌≡◌, ◌∙◌, ℕ, zero, suc, ℤ, ◌-◌, ◌<◌, nat_eq, false, List, length, Option, Some, None, Ok, Err, refl, ap, arith}
use Rattle.std.proofs.lemmas.List.{length-append}
use Rattle.sv_lex.specs.declared.tokens.Token.{Token}
use Rattle.sv_app.specs.declared.apps.Ident.{Ident}
use Rattle.sv_app.specs.declared.refusals.Code.TheVariants.{Many}
use Rattle.sv_app.specs.declared.requests.Arg.{Arg}
use Rattle.sv_reader.specs.declared.faults.ReadFault.{ReadFault}
use Rattle.sv_reader.specs.Reading.{Read}
use Rattle.sv_workload.specs.Reading.{integer_at, argument_at, comma_after, from_read, long_in, list_long, long_args, long_among, left_of, opening_at, long_call, long_fault, or_else}
use Rattle.sv_workload.proofs.CallLaws.{argument_law}
use Rattle.sv_workload.proofs.LongLaws.{comma_law}

pub long_less : (tokens : List Token) (a : Arg) (rest : List Token) → comma_after argument_at tokens ≡ Ok (a, rest) → length rest < length tokens
long_less tokens a rest e =
    let took = (comma_law argument_law).took tokens a rest e in
    omega (arith, ap length took.whole, length-append took.front rest, ap length took.is.whole, length-append took.is.front took.is.back, ap length took.is.then.only)

fuel_same : (n k : ℕ) (tokens : List Token) → length tokens < n → length tokens < k → long_args n tokens ≡ long_args k tokens
fuel_same zero k tokens ln lk = absurd (omega (arith, ln))
fuel_same (suc n) zero tokens ln lk = absurd (omega (arith, lk))
fuel_same (suc n) (suc k) tokens ln lk = ap (or_else (list_long tokens)) (by_read (λ r m l. fuel_same n k r m l) (comma_after argument_at tokens) refl)
  where
    by_read : ((r : List Token) → length r < n → length r < k → long_args n r ≡ long_args k r) → (read : Read Arg) → comma_after argument_at tokens ≡ read
        → from_read read (λ r. long_args n r) ≡ from_read read (λ r. long_args k r)
    by_read same (Err fault) e = refl
    by_read same (Ok (a, rest)) e = let lt = long_less tokens a rest e in same rest (omega (arith, lt, ln)) (omega (arith, lt, lk))

no_list : (tokens : List Token) → left_of (list_long tokens) ≡ None → list_long tokens ≡ None
no_list tokens e = by_list (list_long tokens) e
  where
    by_list : (l : Option (List Token)) → left_of l ≡ None → l ≡ None
    by_list None e = refl
    by_list (Some here) e = absurd cc

pub long_more : (tokens : List Token) (a : Arg) (rest : List Token) → left_of (list_long tokens) ≡ None → comma_after argument_at tokens ≡ Ok (a, rest) → long_among tokens ≡ long_among rest
unfolding long_among
long_more tokens a rest l e = let lt = long_less tokens a rest e in
    ap (λ o. or_else o (from_read (comma_after argument_at tokens) (λ r. long_args (length tokens) r))) (no_list tokens l)
    ∙ ap (λ (read : Read Arg). from_read read (λ r. long_args (length tokens) r)) e ∙ fuel_same (length tokens) (suc (length rest)) rest lt (omega arith)

pub long_here : (tokens : List Token) (left : ℕ) → left_of (list_long tokens) ≡ Some left → left_of (long_among tokens) ≡ Some left
unfolding long_among
long_here tokens left e = by_list (list_long tokens) e
  where
    by_list : (l : Option (List Token)) → left_of l ≡ Some left → left_of (or_else l (from_read (comma_after argument_at tokens) (λ r. long_args (length tokens) r))) ≡ Some left
    by_list None e = absurd cc
    by_list (Some here) e = e

pub long_stop : (tokens : List Token) (fault : ReadFault) → left_of (list_long tokens) ≡ None → comma_after argument_at tokens ≡ Err fault → left_of (long_among tokens) ≡ None
unfolding long_among
long_stop tokens fault l e = ap left_of (ap (λ o. or_else o (from_read (comma_after argument_at tokens) (λ r. long_args (length tokens) r))) (no_list tokens l)
    ∙ ap (λ (read : Read Arg). from_read read (λ r. long_args (length tokens) r)) e)

found_there : (found : Option (List Token)) (left : ℕ) → left_of found ≡ Some left → long_fault found ≡ Some (record { code = Many; left = left })
found_there None left e = absurd cc
found_there (Some here) left e = let same : length here ≡ left = cc in ap (λ n. let f : Option ReadFault = Some (record { code = Many; left = n }) in f) same

found_none : (found : Option (List Token)) → left_of found ≡ None → long_fault found ≡ None
found_none None e = refl
found_none (Some here) e = absurd cc

pub fault_there : (tokens : List Token) (txn : Ident) (r : List Token) (left : ℕ) → opening_at tokens ≡ Ok (txn, r) → left_of (long_among r) ≡ Some left → long_fault (long_call tokens) ≡ Some (record { code = Many; left = left })
unfolding long_call
fault_there tokens txn r left o e = ap (λ (read : Read Ident). long_fault (from_read read (λ r. long_among r))) o ∙ found_there (long_among r) left e

pub fault_none : (tokens : List Token) (txn : Ident) (r : List Token) → opening_at tokens ≡ Ok (txn, r) → left_of (long_among r) ≡ None → long_fault (long_call tokens) ≡ None
unfolding long_call
fault_none tokens txn r o e = ap (λ (read : Read Ident). long_fault (from_read read (λ r. long_among r))) o ∙ found_none (long_among r) e

pub fault_stop : (tokens : List Token) (fault : ReadFault) → opening_at tokens ≡ Err fault → long_fault (long_call tokens) ≡ None
unfolding long_call
fault_stop tokens fault o = ap (λ (read : Read Ident). long_fault (from_read read (λ r. long_among r))) o

pub long_next : (count : ℕ) (tokens : List Token) (n : ℤ) (rest : List Token) → nat_eq count 0 ≡ false → comma_after integer_at tokens ≡ Ok (n, rest) → long_in count tokens ≡ long_in (count - 1) rest
long_next zero tokens n rest z e = absurd cc
long_next (suc count) tokens n rest z e = ap (λ (read : Read ℤ). from_read read (λ r. long_in count r)) e ∙ ap (λ k. long_in k rest) (let same : count ≡ suc count - 1 = omega arith in same)

pub ruleset elements = (long_next)

pub ruleset turns = (long_less, long_more, long_here, long_stop)

pub ruleset faults = (fault_there, fault_none, fault_stop)

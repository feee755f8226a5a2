-- Packets and steps: each reading reads just the tokens that the grammar gives.
use Rattle.std.proofs.Common.{◌≡◌, ◌∙◌, ℕ, List, ◌++◌, Option, Some, None, refl, sym, ap, subst, codes}
use Rattle.sv_lex.specs.declared.marks.Mark.TheVariants.{Semi}
use Rattle.sv_lex.specs.declared.tokens.Token.{Token}
use Rattle.sv_lex.specs.declared.tokens.TokenKind.{TokenKind}
use Rattle.sv_lex.specs.declared.tokens.TokenKind.TheVariants.{Name, Number, Text, Mark}
use Rattle.sv_reader.specs.Grammar.{◌·◌, word, mark, name}
use Rattle.sv_reader.specs.Reading.{Read, ◌>>=◌, by_word, token_at}
use Rattle.sv_reader.proofs.KindLaws.{token_of}
use Rattle.sv_reader.proofs.MadeLaws.{Made, take_last, take_plain, skip_last}
use Rattle.sv_reader.proofs.PartLaws.{chosen, name_law}
use Rattle.sv_reader.proofs.AnswerLaws.{anything}
use Rattle.sv_reader.proofs.ReadLaws.{Plain, leaf, Then, follow, same_plain}
use Rattle.sv_workload.specs.declared.written.Color.{Color}
use Rattle.sv_workload.specs.declared.written.Color.TheVariants as colors
use Rattle.sv_workload.specs.declared.written.Verb.{Verb}
use Rattle.sv_workload.specs.declared.written.Verb.TheVariants as verbs
use Rattle.sv_workload.specs.Grammar.{number, call, packet, line}
use Rattle.sv_workload.specs.Reading.{verb_named, color_named, packet_tail, packet_at, closing, line_tail, line_at}
use Rattle.sv_workload.specs.Written.{Sent, Blue, Red, Line, Ask, Order, Deliver, Settle, Catch, Show, Cut, Move}
use Rattle.sv_workload.proofs.CallLaws.{call_law}
use Rattle.sv_workload.proofs.SettingLaws.{count_law}
use Rattle.sv_reader.proofs.MatterLaws.{bare}

pub named : {A : Type 0} (meaning : List ℕ → Option A) (spelled : A → List ℕ) → ((bytes : List ℕ) (a : A) → meaning bytes ≡ Some a → bytes ≡ spelled a)
    → (k : TokenKind) (a : A) → by_word meaning k ≡ Some a → k ≡ Name (spelled a)
named meaning spelled back (Name bytes) a e = ap Name (back bytes a e)
named meaning spelled back (Number n) a e = absurd cc
named meaning spelled back (Text bytes) a e = absurd cc
named meaning spelled back (Mark m) a e = absurd cc

-- a word that means something
spelled_law : {A : Type 0} (meaning : List ℕ → Option A) (spelled : A → List ℕ) (sample : A) → ((bytes : List ℕ) (a : A) → meaning bytes ≡ Some a → bytes ≡ spelled a) → ((a : A) → meaning (spelled a) ≡ Some a)
    → Plain bare anything (λ a. word (spelled a)) (token_at (λ token. by_word meaning token.kind))
spelled_law {A} meaning spelled sample back there = same_plain (leaf bare anything (λ token. by_word meaning token.kind) (token_of (Name (spelled sample))) sample (there sample))
    (λ a l m. record { token = m.token; only = m.only; holds = named meaning spelled back m.token.kind a m.holds })
    (λ a l w. record { token = w.token; only = w.only; holds = ap (by_word meaning) w.holds ∙ there a })

abbrev pub verb_word : Verb → List ℕ
verb_word verbs.Ask = codes "ask"
verb_word verbs.Order = codes "order"
verb_word verbs.Deliver = codes "deliver"
verb_word verbs.Settle = codes "settle"
verb_word verbs.Catch = codes "catch"
verb_word verbs.Show = codes "show"
verb_word verbs.Cut = codes "cut"
verb_word verbs.Move = codes "move"

pub verb_back : (bytes : List ℕ) (v : Verb) → verb_named bytes ≡ Some v → bytes ≡ verb_word v
verb_back bytes v e =
    chosen bytes (codes "ask") verbs.Ask _ v (λ x. bytes ≡ verb_word x) (λ is. is)
    (chosen bytes (codes "order") verbs.Order _ v (λ x. bytes ≡ verb_word x) (λ is. is)
    (chosen bytes (codes "deliver") verbs.Deliver _ v (λ x. bytes ≡ verb_word x) (λ is. is)
    (chosen bytes (codes "settle") verbs.Settle _ v (λ x. bytes ≡ verb_word x) (λ is. is)
    (chosen bytes (codes "catch") verbs.Catch _ v (λ x. bytes ≡ verb_word x) (λ is. is)
    (chosen bytes (codes "show") verbs.Show _ v (λ x. bytes ≡ verb_word x) (λ is. is)
    (chosen bytes (codes "cut") verbs.Cut _ v (λ x. bytes ≡ verb_word x) (λ is. is)
    (chosen bytes (codes "move") verbs.Move None v (λ x. bytes ≡ verb_word x) (λ is. is) (λ none. absurd cc)))))))) e

pub verb_there : (v : Verb) → verb_named (verb_word v) ≡ Some v
verb_there verbs.Ask = refl
verb_there verbs.Order = refl
verb_there verbs.Deliver = refl
verb_there verbs.Settle = refl
verb_there verbs.Catch = refl
verb_there verbs.Show = refl
verb_there verbs.Cut = refl
verb_there verbs.Move = refl

abbrev pub color_word : Color → List ℕ
color_word colors.Blue = codes "blue"
color_word colors.Red = codes "red"

pub color_back : (bytes : List ℕ) (c : Color) → color_named bytes ≡ Some c → bytes ≡ color_word c
color_back bytes c e =
    chosen bytes (codes "blue") colors.Blue _ c (λ x. bytes ≡ color_word x) (λ is. is)
    (chosen bytes (codes "red") colors.Red None c (λ x. bytes ≡ color_word x) (λ is. is) (λ none. absurd cc)) e

pub color_there : (c : Color) → color_named (color_word c) ≡ Some c
color_there colors.Blue = refl
color_there colors.Red = refl

-- packets

abbrev Packet : Color → Sent → List Token → Type 0
Packet colors.Blue = Made (λ (x : ℕ × ℕ). Blue x.0 x.1) (λ x. number x.0 · number x.1)
Packet colors.Red = Made Red number

packet_tail_law : (c : Color) → Plain bare anything (Packet c) (packet_tail c)
packet_tail_law colors.Blue = take_plain Blue count_law (λ site. take_last (Blue site) count_law)
packet_tail_law colors.Red = take_last Red count_law

packet_join : (c : Color) (sent : Sent) (front back : List Token) → word (color_word c) front → Packet c sent back → packet sent (front ++ back)
packet_join colors.Blue sent front back w t = subst (λ x. packet x (front ++ back)) (sym t.made) (record { front = front; back = back; whole = refl; first = w; then = t.is })
packet_join colors.Red sent front back w t = subst (λ x. packet x (front ++ back)) (sym t.made) (record { front = front; back = back; whole = refl; first = w; then = t.is })

packet_split : (sent : Sent) (l : List Token) → packet sent l → Then (λ c. word (color_word c)) Packet sent l
packet_split (Blue site seq) l is = record {
  head = colors.Blue;
  parts = record { front = is.front; back = is.back; whole = is.whole; first = is.first; then = record { «from» = (site, seq); is = is.then; made = refl } };
}
packet_split (Red slot) l is = record {
  head = colors.Red;
  parts = record { front = is.front; back = is.back; whole = is.whole; first = is.first; then = record { «from» = slot; is = is.then; made = refl } };
}

pub packet_law : Plain bare anything packet packet_at
unfolding packet_at
packet_law = same_plain (follow (spelled_law color_named color_word colors.Red color_back color_there) packet_tail_law)
    (λ sent l t. subst (λ x. packet sent x) (sym t.parts.whole) (packet_join t.head sent t.parts.front t.parts.back t.parts.first t.parts.then)) packet_split

-- steps

one_closed : {A : Type 0} {P : A → List Token → Type 0} {p : List Token → Read A} (f : A → Line) → Plain bare anything P p → Plain bare anything (Made f (λ a. P a · mark Semi)) (λ tokens. p tokens >>= λ a r. closing (f a) r)
one_closed {A} {P} {p} f law = same_plain (take_plain (λ a (last : Unit {0}). f a) law (λ a. skip_last bare anything (Mark Semi) (f a)))
    (λ l tokens m. record { «from» = m.«from».0; is = m.is; made = m.made }) (λ l tokens m. record { «from» = (m.«from», tt); is = m.is; made = m.made })

abbrev pub Tail : Verb → ℕ → Line → List Token → Type 0
Tail verbs.Ask n = Made (λ c. Ask n c) (λ c. call c · mark Semi)
Tail verbs.Order n = Made (λ (_ : Unit {0}). Order n) (λ _. mark Semi)
Tail verbs.Deliver n = Made (λ sent. Deliver n sent) (λ sent. packet sent · mark Semi)
Tail verbs.Settle n = Made (λ (_ : Unit {0}). Settle n) (λ _. mark Semi)
Tail verbs.Catch n = Made (λ (_ : Unit {0}). Catch n) (λ _. mark Semi)
Tail verbs.Show n = Made (λ table. Show n table) (λ table. name table · mark Semi)
Tail verbs.Cut n = Made (λ (_ : Unit {0}). Cut n) (λ _. mark Semi)
Tail verbs.Move n = Made (λ site. Move n site) (λ site. number site · mark Semi)

pub tail_law : (v : Verb) (n : ℕ) → Plain bare anything (Tail v n) (line_tail v n)
tail_law verbs.Ask n = one_closed (λ c. Ask n c) call_law
tail_law verbs.Order n = skip_last bare anything (Mark Semi) (Order n)
tail_law verbs.Deliver n = one_closed (λ sent. Deliver n sent) packet_law
tail_law verbs.Settle n = skip_last bare anything (Mark Semi) (Settle n)
tail_law verbs.Catch n = skip_last bare anything (Mark Semi) (Catch n)
tail_law verbs.Show n = one_closed (λ table. Show n table) (name_law bare anything)
tail_law verbs.Cut n = skip_last bare anything (Mark Semi) (Cut n)
tail_law verbs.Move n = one_closed (λ site. Move n site) count_law

abbrev Numbered : Verb → Line → List Token → Type 0
Numbered v = Then number (λ n. Tail v n)

pub line_join : (v : Verb) (n : ℕ) (l : Line) (front middle back : List Token) → word (verb_word v) front → number n middle → Tail v n l back → line l (front ++ (middle ++ back))
line_join verbs.Ask n l front middle back w m t = subst (λ x. line x (front ++ (middle ++ back))) (sym t.made)
    (record { front = front; back = middle ++ back; whole = refl; first = w; then = record { front = middle; back = back; whole = refl; first = m; then = t.is } })
line_join verbs.Order n l front middle back w m t = subst (λ x. line x (front ++ (middle ++ back))) (sym t.made)
    (record { front = front; back = middle ++ back; whole = refl; first = w; then = record { front = middle; back = back; whole = refl; first = m; then = t.is } })
line_join verbs.Deliver n l front middle back w m t = subst (λ x. line x (front ++ (middle ++ back))) (sym t.made)
    (record { front = front; back = middle ++ back; whole = refl; first = w; then = record { front = middle; back = back; whole = refl; first = m; then = t.is } })
line_join verbs.Settle n l front middle back w m t = subst (λ x. line x (front ++ (middle ++ back))) (sym t.made)
    (record { front = front; back = middle ++ back; whole = refl; first = w; then = record { front = middle; back = back; whole = refl; first = m; then = t.is } })
line_join verbs.Catch n l front middle back w m t = subst (λ x. line x (front ++ (middle ++ back))) (sym t.made)
    (record { front = front; back = middle ++ back; whole = refl; first = w; then = record { front = middle; back = back; whole = refl; first = m; then = t.is } })
line_join verbs.Show n l front middle back w m t = subst (λ x. line x (front ++ (middle ++ back))) (sym t.made)
    (record { front = front; back = middle ++ back; whole = refl; first = w; then = record { front = middle; back = back; whole = refl; first = m; then = t.is } })
line_join verbs.Cut n l front middle back w m t = subst (λ x. line x (front ++ (middle ++ back))) (sym t.made)
    (record { front = front; back = middle ++ back; whole = refl; first = w; then = record { front = middle; back = back; whole = refl; first = m; then = t.is } })
line_join verbs.Move n l front middle back w m t = subst (λ x. line x (front ++ (middle ++ back))) (sym t.made)
    (record { front = front; back = middle ++ back; whole = refl; first = w; then = record { front = middle; back = back; whole = refl; first = m; then = t.is } })

numbered_split : (v : Verb) (n : ℕ) (l : Line) (Rest : List Token → Type 0) (tokens : List Token) → ((back : List Token) → Rest back → Tail v n l back) → (word (verb_word v) · number n · Rest) tokens → Then (λ v. word (verb_word v)) Numbered l tokens
numbered_split v n l Rest tokens tail is = record {
  head = v;
  parts = record {
    front = is.front;
    back = is.back;
    whole = is.whole;
    first = is.first;
    then = record { head = n; parts = record { front = is.then.front; back = is.then.back; whole = is.then.whole; first = is.then.first; then = tail is.then.back is.then.then } };
  };
}

line_split : (l : Line) (tokens : List Token) → line l tokens → Then (λ v. word (verb_word v)) Numbered l tokens
line_split (Ask n c) tokens is = numbered_split verbs.Ask n (Ask n c) (λ l. (call c · mark Semi) l) tokens (λ back t. record { «from» = c; is = t; made = refl }) is
line_split (Order n) tokens is = numbered_split verbs.Order n (Order n) (mark Semi) tokens (λ back t. record { «from» = tt; is = t; made = refl }) is
line_split (Deliver n sent) tokens is = numbered_split verbs.Deliver n (Deliver n sent) (λ l. (packet sent · mark Semi) l) tokens (λ back t. record { «from» = sent; is = t; made = refl }) is
line_split (Settle n) tokens is = numbered_split verbs.Settle n (Settle n) (mark Semi) tokens (λ back t. record { «from» = tt; is = t; made = refl }) is
line_split (Catch n) tokens is = numbered_split verbs.Catch n (Catch n) (mark Semi) tokens (λ back t. record { «from» = tt; is = t; made = refl }) is
line_split (Show n table) tokens is = numbered_split verbs.Show n (Show n table) (λ l. (name table · mark Semi) l) tokens (λ back t. record { «from» = table; is = t; made = refl }) is
line_split (Cut n) tokens is = numbered_split verbs.Cut n (Cut n) (mark Semi) tokens (λ back t. record { «from» = tt; is = t; made = refl }) is
line_split (Move n site) tokens is = numbered_split verbs.Move n (Move n site) (λ l. (number site · mark Semi) l) tokens (λ back t. record { «from» = site; is = t; made = refl }) is

pub line_law : Plain bare anything line line_at
unfolding line_at
line_law = same_plain (follow (spelled_law verb_named verb_word verbs.Cut verb_back verb_there) (λ v. follow count_law (λ n. tail_law v n)))
    (λ l tokens t. subst (λ x. line l x) (sym (t.parts.whole ∙ ap (λ x. t.parts.front ++ x) t.parts.then.parts.whole))
    (line_join t.head t.parts.then.head l t.parts.front t.parts.then.parts.front t.parts.then.parts.back t.parts.first t.parts.then.parts.first t.parts.then.parts.then))
    line_split

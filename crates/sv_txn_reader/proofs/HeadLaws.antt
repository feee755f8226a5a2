-- What a statement begins with.
use Rattle.std.proofs.Common.{◌≡◌, ◌∙◌, ℕ, Bool, true, false, not, ◌&&◌, if◌then◌else◌, List, [], ◌∷◌, Option, Some, None, Ok, refl, sym, ap, subst, codes, bytes_eq, cond}
use Rattle.std.proofs.lemmas.Slice.Eq.{bytes_eq-Decides}
use Rattle.sv_lex.specs.declared.tokens.Token.{Token}
use Rattle.sv_lex.specs.declared.tokens.TokenKind.{TokenKind}
use Rattle.sv_lex.specs.declared.tokens.TokenKind.TheVariants.{Name, Number, Text, Mark}
use Rattle.sv_app.specs.declared.apps.Ident.{Ident}
use Rattle.sv_app.specs.declared.refusals.Code.TheVariants.{Syntax}
use Rattle.sv_app.specs.Trees.{Command, Declare, Assign, Fetch, Choose, ForRows, ForEach, Insert, Fresh, Update, Remove, Abort, Reply}
use Rattle.sv_app.specs.Words.{is_reserved}
use Rattle.sv_reader.specs.Reading.{refuse, by_word, given, is_kind, is_some, name_of, is_name, name_at, kind_at, found_at}
use Rattle.sv_reader.proofs.KindLaws.{kind_same}
use Rattle.sv_txn_reader.specs.declared.heads.Head.{Head}
use Rattle.sv_txn_reader.specs.declared.heads.Head.TheVariants as heads
use Rattle.sv_txn_reader.specs.Grammar.{word, name, command}
use Rattle.sv_txn_reader.specs.Reading.{head_named, head_at, may_begin}
use Rattle.sv_txn_reader.specs.Standing.{Standing}
use Rattle.sv_reader.proofs.AnswerLaws.{Alike}

abbrev pub head_of : Command → Head
head_of (Declare x e) = heads.Let
head_of (Assign x e) = heads.Assign
head_of (Fetch r t k) = heads.Get
head_of (Choose c ys ns) = heads.If
head_of (ForRows r t c body) = heads.For
head_of (ForEach x l body) = heads.Each
head_of (Insert t vs) = heads.Insert
head_of (Fresh x t vs) = heads.Fresh
head_of (Update t k sets) = heads.Update
head_of (Remove t k) = heads.Remove
head_of (Abort n) = heads.Abort
head_of (Reply e) = heads.Reply

-- a word with which a statement of this kind begins
abbrev pub HeadWord : Head → List ℕ → Type 0
HeadWord heads.Let w = w ≡ codes "let"
HeadWord heads.Assign w = is_reserved w ≡ false
HeadWord heads.Get w = w ≡ codes "get"
HeadWord heads.If w = w ≡ codes "if"
HeadWord heads.For w = w ≡ codes "for"
HeadWord heads.Each w = w ≡ codes "each"
HeadWord heads.Insert w = w ≡ codes "insert"
HeadWord heads.Fresh w = w ≡ codes "fresh"
HeadWord heads.Update w = w ≡ codes "update"
HeadWord heads.Remove w = w ≡ codes "remove"
HeadWord heads.Abort w = w ≡ codes "abort"
HeadWord heads.Reply w = w ≡ codes "reply"

chosen : (w wanted : List ℕ) (a : Head) (others : Option Head) (h : Head) → (w ≡ wanted → HeadWord a w) → (others ≡ Some h → HeadWord h w) → (if bytes_eq w wanted then Some a else others) ≡ Some h → HeadWord h w
chosen w wanted a others h here more e = by_test (bytes_eq w wanted) refl e
  where
    by_test : (b : Bool) → bytes_eq w wanted ≡ b → (if b then Some a else others) ≡ Some h → HeadWord h w
    by_test true t e = let same : a ≡ h = cc in subst (λ x. HeadWord x w) same (here ((bytes_eq-Decides w wanted).0 t))
    by_test false t e = more e

last_given : (w : List ℕ) (h : Head) → given (not (is_reserved w)) heads.Assign ≡ Some h → HeadWord h w
last_given w h e = by_test (is_reserved w) refl e
  where
    by_test : (b : Bool) → is_reserved w ≡ b → given (not b) heads.Assign ≡ Some h → HeadWord h w
    by_test true t e = absurd cc
    by_test false t e = let same : heads.Assign ≡ h = cc in subst (λ x. HeadWord x w) same t

pub head_is : (w : List ℕ) (h : Head) → head_named w ≡ Some h → HeadWord h w
head_is w h e =
    chosen w (codes "let") heads.Let _ h (λ e. e) (λ e. chosen w (codes "get") heads.Get _ h (λ e. e) (λ e. chosen w (codes "if") heads.If _ h (λ e. e) (λ e. chosen w (codes "for") heads.For _ h (λ e. e)
    (λ e. chosen w (codes "each") heads.Each _ h (λ e. e) (λ e. chosen w (codes "insert") heads.Insert _ h (λ e. e)
    (λ e. chosen w (codes "fresh") heads.Fresh _ h (λ e. e) (λ e. chosen w (codes "update") heads.Update _ h (λ e. e)
    (λ e. chosen w (codes "remove") heads.Remove _ h (λ e. e) (λ e. chosen w (codes "abort") heads.Abort _ h (λ e. e) (λ e. chosen w (codes "reply") heads.Reply _ h (λ e. e)
    (λ e. last_given w h e) e) e) e) e) e) e) e) e) e) e) e

-- the token that a statement of a kind begins with
pub head_token : (token : Token) (l : List Token) (h : Head) → head_at (token ∷ l) ≡ Some h → (w : List ℕ) × (token.kind ≡ Name w) × HeadWord h w
head_token token l h e = by_kind token.kind refl e
  where
    by_kind : (k : TokenKind) → token.kind ≡ k → by_word head_named k ≡ Some h → (w : List ℕ) × (token.kind ≡ Name w) × HeadWord h w
    by_kind (Name w) k e = (w, k, head_is w h e)
    by_kind (Number n) k e = absurd cc
    by_kind (Text t) k e = absurd cc
    by_kind (Mark m) k e = absurd cc

pub head_alike : (a b : List Token) → Alike a b → head_at a ≡ head_at b
head_alike [] [] alike = refl
head_alike [] (y ∷ b) alike = absurd alike
head_alike (x ∷ a) [] alike = absurd alike
head_alike (x ∷ a) (y ∷ b) alike = ap (λ (t : Token). by_word head_named t.kind) alike

-- a word that isn't reserved begins an assignment

no_word : (w wanted : List ℕ) → is_reserved wanted ≡ true → is_reserved w ≡ false → bytes_eq w wanted ≡ false
no_word w wanted reserved free = by_test (bytes_eq w wanted) refl
  where
    by_test : (b : Bool) → bytes_eq w wanted ≡ b → bytes_eq w wanted ≡ false
    by_test false t = t
    by_test true t = let same : w ≡ wanted = (bytes_eq-Decides w wanted).0 t in let bad : true ≡ false = sym reserved ∙ ap is_reserved (sym same) ∙ free in absurd cc

pub free_head : (w : List ℕ) → is_reserved w ≡ false → head_named w ≡ Some heads.Assign
unfolding is_reserved
free_head w free =
    over heads.Let (no_word w (codes "let") refl free) (over heads.Get (no_word w (codes "get") refl free)
    (over heads.If (no_word w (codes "if") refl free) (over heads.For (no_word w (codes "for") refl free)
    (over heads.Each (no_word w (codes "each") refl free) (over heads.Insert (no_word w (codes "insert") refl free)
    (over heads.Fresh (no_word w (codes "fresh") refl free) (over heads.Update (no_word w (codes "update") refl free)
    (over heads.Remove (no_word w (codes "remove") refl free) (over heads.Abort (no_word w (codes "abort") refl free)
    (over heads.Reply (no_word w (codes "reply") refl free) (ap (λ b. given (not b) heads.Assign) free)))))))))))
  where
    over : {b : Bool} (a : Head) {others found : Option Head} → b ≡ false → others ≡ found → (if b then Some a else others) ≡ found
    over {b} a {others} {found} e more = ap (λ (x : Bool). cond x (Some a) others) e ∙ more

word_head : (w : List ℕ) (h : Head) (l r : List Token) → head_named w ≡ Some h → word w l r → head_at l ≡ Some h
word_head w h l r e is = ap head_at is.next ∙ ap (λ k. by_word head_named k) is.holds ∙ e

name_head : (x : Ident) (l r : List Token) → name x l r → head_at l ≡ Some heads.Assign
name_head x l r is = ap head_at is.next ∙ ap (λ k. by_word head_named k) is.holds.0 ∙ free_head x.name is.holds.1

pub head_command : (i : ℕ) (at : Standing) (c : Command) (l r : List Token) → command i at c l r → head_at l ≡ Some (head_of c)
head_command i at (Declare x e) l r is = word_head (codes "let") heads.Let l is.middle refl is.first
head_command i at (Assign x e) l r is = name_head x l is.first.middle is.first.first
head_command i at (Fetch a t k) l r is = word_head (codes "get") heads.Get l is.middle refl is.first
head_command i at (Choose c ys ns) l r is = word_head (codes "if") heads.If l is.middle refl is.first
head_command i at (ForRows a t c body) l r is = ap head_at is.first.1.0 ∙ word_head (codes "for") heads.For is.middle is.second.middle refl is.second.first
head_command i at (ForEach x s body) l r is = ap head_at is.first.1.0 ∙ word_head (codes "each") heads.Each is.middle is.second.middle refl is.second.first
head_command i at (Insert t vs) l r is = word_head (codes "insert") heads.Insert l is.middle refl is.first
head_command i at (Fresh x t vs) l r is = word_head (codes "fresh") heads.Fresh l is.middle refl is.first
head_command i at (Update t k sets) l r is = word_head (codes "update") heads.Update l is.middle refl is.first
head_command i at (Remove t k) l r is = word_head (codes "remove") heads.Remove l is.middle refl is.first
head_command i at (Abort n) l r is = word_head (codes "abort") heads.Abort l is.middle refl is.first
head_command i at (Reply e) l r is = word_head (codes "reply") heads.Reply l is.middle refl is.first

no_loop : (b : Bool) → not (b && false) ≡ true
no_loop true = refl
no_loop false = refl

-- a loop stands in no loop
pub command_begins : (i : ℕ) (at : Standing) (c : Command) (l r : List Token) → command i at c l r → may_begin at.looped (Some (head_of c)) ≡ true
command_begins i at (ForRows a t c body) l r is = ap (λ b. not (b && true)) is.first.0
command_begins i at (ForEach x s body) l r is = ap (λ b. not (b && true)) is.first.0
command_begins i at (Declare x e) l r is = no_loop at.looped
command_begins i at (Assign x e) l r is = no_loop at.looped
command_begins i at (Fetch a t k) l r is = no_loop at.looped
command_begins i at (Choose c ys ns) l r is = no_loop at.looped
command_begins i at (Insert t vs) l r is = no_loop at.looped
command_begins i at (Fresh x t vs) l r is = no_loop at.looped
command_begins i at (Update t k sets) l r is = no_loop at.looped
command_begins i at (Remove t k) l r is = no_loop at.looped
command_begins i at (Abort n) l r is = no_loop at.looped
command_begins i at (Reply e) l r is = no_loop at.looped

-- names, read and not read

pub name_misplaced : (l : List Token) → is_name l ≡ false → name_at l ≡ refuse Syntax l
name_misplaced [] e = refl
name_misplaced (token ∷ l) e = by_name (name_of token) refl e
  where
    by_name : (found : Option Ident) → name_of token ≡ found → is_some found ≡ false → found_at (name_of token) token l ≡ refuse Syntax (token ∷ l)
    by_name None n e = ap (λ (x : Option Ident). found_at x token l) n
    by_name (Some x) n e = absurd cc

pub name_read : (token : Token) (l : List Token) → is_name (token ∷ l) ≡ true → (x : Ident) × (name_at (token ∷ l) ≡ Ok (x, l))
name_read token l e = by_name (name_of token) refl e
  where
    by_name : (found : Option Ident) → name_of token ≡ found → is_some found ≡ true → (x : Ident) × (name_at (token ∷ l) ≡ Ok (x, l))
    by_name None n e = absurd cc
    by_name (Some x) n e = (x, ap (λ (y : Option Ident). found_at y token l) n)

pub kind_read : (k : TokenKind) (token : Token) (l : List Token) → token.kind ≡ k → kind_at k (token ∷ l) ≡ Ok (token.spot, l)
kind_read k token l e = ap (λ b. found_at (given b token.spot) token l) (ap (λ x. is_kind k x) e ∙ kind_same k)

-- A reading has an end for each token start that has one.
use Rattle.std.proofs.Common.{◌≡◌, ℕ, suc, ◌+◌, Bool, false, cond, List, [], ◌∷◌, length, Option, Some, None, refl, sym, ap, subst, ◌∙◌, arith}
use Rattle.std.specs.Prelude.{IfSome}
use Rattle.std.proofs.lemmas.List.Sums.{sum_by-cons}
use Rattle.jx_lex.specs.declared.alphabet.state.LexState.{LexState}
use Rattle.jx_lex.specs.declared.alphabet.state.LexState.TheVariants.{Gap}
use Rattle.jx_lex.specs.declared.alphabet.state.TokenEnd.{TokenEnd}
use Rattle.jx_lex.specs.declared.alphabet.state.TokenEnd.TheVariants.{Before, After}
use Rattle.jx_lex.specs.declared.alphabet.mark.Mark.{Mark}
use Rattle.jx_lex.specs.declared.alphabet.mark.MarkKind.{MarkKind}
use Rattle.jx_lex.specs.declared.alphabet.mark.MarkKind.TheVariants as mark
use Rattle.jx_lex.specs.Counts.{number_of, is_string, is_scalar}
use Rattle.jx_lex.specs.Lex.{LexExit, Track, lex, with_mark, with_end, on_next, after_step, stops_at}
use Rattle.jx_lex.specs.Lex as reading
use Rattle.jx_lex.specs.Moves.{move}
use Rattle.jx_lex.specs.Seen.{Leaves, Takes, has_end}
use Rattle.jx_lex.specs.TokenStates.{in_token}
use Rattle.jx_lex.proofs.Turns.{takes, told}

abbrev one_if : Bool → ℕ
one_if b = cond b 1 0

-- one token start more
pub number_of-more : (test : MarkKind → Bool) (m : Mark) (marks : List Mark) → number_of test (m ∷ marks) ≡ one_if (test m.kind) + number_of test marks
number_of-more test m marks = sum_by-cons (λ (m : Mark). cond (test m.kind) 1 0) m marks

-- ---- one byte

-- a byte shows the end of the token that it stands in or after, and leaves one open where one begins with it
abbrev Balances : LexState → Option TokenEnd → Option MarkKind → LexState → Type 0
Balances s end begin t = (marks : List Mark) (ends : List ℕ) (at left : ℕ) → length ends + left ≡ number_of has_end marks + one_if (in_token t)
    → length (with_end end at ends) + left ≡ number_of has_end (with_mark begin at marks) + one_if (in_token s)

begun : (k : MarkKind) (at : ℕ) (marks : List Mark) → number_of has_end (with_mark (Some k) at marks) ≡ one_if (has_end k) + number_of has_end marks
begun k at marks = number_of-more has_end (record { kind = k; at = at }) marks

one_more : (e : TokenEnd) (at : ℕ) (ends : List ℕ) → length (with_end (Some e) at ends) ≡ suc (length ends)
one_more Before at ends = refl
one_more After at ends = refl

balances : (s t : LexState) (end : Option TokenEnd) (begin : Option MarkKind) → Takes (λ inside. in_token s ≡ inside) end begin
    → ((new : Bool → Type 0) → Leaves (λ inside. inside ≡ in_token s) new begin end → new (in_token t)) → Balances s end begin t
balances s t None None asks after marks ends at left h =
    let e : in_token t ≡ in_token s = after (λ inside. inside ≡ in_token s) (λ inside w. w) in
    h ∙ ap (λ b. number_of has_end marks + one_if b) e
balances s t None (Some k) asks after marks ends at left h =
    let f : one_if (in_token s) ≡ 0 = ap one_if asks in
    let g : one_if (in_token t) ≡ one_if (has_end k) = ap one_if (after (λ inside. inside ≡ has_end k) refl) in
    let more = begun k at marks in
    let same : length (with_end None at ends) ≡ length ends = refl in
    omega arith
balances s t (Some e) None asks after marks ends at left h =
    let f : one_if (in_token s) ≡ 1 = ap one_if asks in
    let g : one_if (in_token t) ≡ 0 = ap one_if (after (λ inside. inside ≡ false) refl) in
    let more = one_more e at ends in
    let same : number_of has_end (with_mark None at marks) ≡ number_of has_end marks = refl in
    omega arith
balances s t (Some e) (Some k) asks after marks ends at left h =
    let f : one_if (in_token s) ≡ 1 = ap one_if asks in
    let g : one_if (in_token t) ≡ one_if (has_end k) = ap one_if (after (λ inside. inside ≡ has_end k) refl) in
    let more = begun k at marks in
    let shown = one_more e at ends in
    omega arith

byte_balances : (s t : LexState) (b : ℕ) → (move s b).next ≡ Some t → Balances s (move s b).end (move s b).begin t
byte_balances s t b e =
    balances s t (move s b).end (move s b).begin (takes (λ inside. in_token s ≡ inside) s b refl)
    (λ new leaves. subst (λ (o : Option LexState). IfSome o (λ u. new (in_token u))) e (told (λ inside. inside ≡ in_token s) new s b refl leaves))

-- ---- all bytes

abbrev IsBalanced : LexState → LexState → Track → Type 0
IsBalanced s t track = track.exit ≡ reading.state t → length track.ends + one_if (in_token t) ≡ number_of has_end track.marks + one_if (in_token s)

on_balanced : (s t : LexState) (at b : ℕ) (rest : LexState → Track) → ((n : LexState) → IsBalanced n t (rest n)) → (next : Option LexState) → (move s b).next ≡ next
    → IsBalanced s t (after_step (move s b) at (on_next next at rest))
on_balanced s t at b rest more None e = λ exit. absurd cc
on_balanced s t at b rest more (Some n) e = λ exit. byte_balances s n b e (rest n).marks (rest n).ends at (one_if (in_token t)) (more n exit)

balanced : (s t : LexState) (at : ℕ) (bytes : List ℕ) → IsBalanced s t (lex s at bytes)
unfolding lex
balanced s t at [] = λ e. let same : s ≡ t = cc in ap (λ (x : LexState). 0 + one_if (in_token x)) (sym same)
balanced s t at (b ∷ bytes) = on_balanced s t at b (λ n. lex n (suc at) bytes) (λ n. balanced n t (suc at) bytes) (move s b).next refl

-- ---- which tokens have an end

has_end-split : (k : MarkKind) → one_if (has_end k) ≡ one_if (is_string k) + one_if (is_scalar k)
has_end-split mark.String = refl
has_end-split mark.Number = refl
has_end-split mark.True = refl
has_end-split mark.False = refl
has_end-split mark.Null = refl
has_end-split mark.OpenArray = refl
has_end-split mark.CloseArray = refl
has_end-split mark.OpenObject = refl
has_end-split mark.CloseObject = refl
has_end-split mark.Colon = refl
has_end-split mark.Comma = refl

-- a token with an end is a string, a number or a literal
pub number_of-has_end : (marks : List Mark) → number_of has_end marks ≡ number_of is_string marks + number_of is_scalar marks
number_of-has_end [] = refl
number_of-has_end (m ∷ marks) =
    let here = has_end-split m.kind in
    let more = number_of-has_end marks in
    omega (arith, number_of-more)

-- ---- from between tokens to between tokens

-- as many ends as token starts with one
pub ends-counted : (at : ℕ) (bytes : List ℕ) → (lex Gap at bytes).exit ≡ reading.state Gap → length (lex Gap at bytes).ends ≡ number_of has_end (lex Gap at bytes).marks
ends-counted at bytes e = let all = balanced Gap Gap at bytes e in omega arith

-- What is tallied, token by token.
use Rattle.std.proofs.Common.{◌≡◌, ℕ, List, [], ◌∷◌, ◌++◌, refl, sym, ◌∙◌, ap, Bool, true}
use Rattle.std.specs.Prelude.{◌||◌}
use Rattle.std.proofs.lemmas.List.Sums.{fold-append}
use Rattle.jx_lex.specs.declared.alphabet.mark.Mark.{Mark}
use Rattle.jx_lex.specs.declared.alphabet.mark.MarkKind.{MarkKind}
use Rattle.jx_lex.specs.declared.alphabet.mark.MarkKind.TheVariants as kind
use Rattle.jx_lex.specs.Seen.{Awaits, Grows, has_end}
use Rattle.jx_run.specs.Reader.{Outcome, in_front, reads}
use Rattle.jx_run.specs.Reading as text
use Rattle.jx_run.specs.Telling.{AwaitsBehind}
use Rattle.jx_file_index.specs.declared.sum.Sum.{Sum}
use Rattle.jx_file_index.specs.Chunks.{has_some}
use Rattle.jx_file_index.specs.Sums.{joined, noted, nothing, sum_of}
use Rattle.jx_file_build.specs.inside.Tallied.{Tells}

some_more : {A : Type 0} (xs : List A) (x : A) → has_some (xs ++ x ∷ []) ≡ true
some_more [] x = refl
some_more (y ∷ ys) x = refl

-- ---- what the marks and ends of a chunk come to

module _ (ms : List Mark) (es : List ℕ) (s : Sum) (b n : Bool) (t : Tells ms es s b n) where
  pub tells_mark : (m : Mark) (next : Sum) → next ≡ noted m.kind s → Tells (ms ++ m ∷ []) es next true n
  tells_mark m next is = record {
    sum_is = is ∙ ap (noted m.kind) t.sum_is ∙ sym (fold-append (λ s mark. noted mark.kind s) nothing ms (m ∷ []));
    begins_is = sym (some_more ms m);
    ends_is = t.ends_is;
  }

  pub tells_end : (at : ℕ) → Tells ms (es ++ at ∷ []) s b true
  tells_end at = record { sum_is = t.sum_is; begins_is = t.begins_is; ends_is = sym (some_more es at) }

-- the mark of a token changes no sum
pub token_stays : (k : MarkKind) (s : Sum) → has_end k ≡ true → s ≡ noted k s
token_stays kind.String s h = refl
token_stays kind.Number s h = refl
token_stays kind.True s h = refl
token_stays kind.False s h = refl
token_stays kind.Null s h = refl
token_stays kind.OpenArray s h = absurd cc
token_stays kind.OpenObject s h = absurd cc
token_stays kind.CloseArray s h = absurd cc
token_stays kind.CloseObject s h = absurd cc
token_stays kind.Colon s h = absurd cc
token_stays kind.Comma s h = absurd cc

pub tells_token : (s : Sum) (b n : Bool) (m : Mark) (at : ℕ) → has_end m.kind ≡ true → Grows (λ ms es. Tells ms es s b n) (λ ms es. Tells ms es s true true) (m ∷ []) (at ∷ [])
tells_token s b n m at token = λ ms es t. tells_end (ms ++ m ∷ []) es s true n (tells_mark ms es s b n t m s (token_stays m.kind s token)) at

-- of two parts, one after the other
some_of_both : {A : Type 0} (xs ys : List A) → has_some (xs ++ ys) ≡ (has_some xs || has_some ys)
some_of_both [] ys = refl
some_of_both (x ∷ xs) ys = refl

pub tells_joined : (ms more : List Mark) (es others : List ℕ) (s t both : Sum) (b c n o : Bool) (begins ended : Bool) → Tells ms es s b n → Tells more others t c o → both ≡ joined s t
    → ((xs ys : List Mark) → sum_of (xs ++ ys) ≡ joined (sum_of xs) (sum_of ys)) → begins ≡ (b || c) → ended ≡ (n || o) → Tells (ms ++ more) (es ++ others) both begins ended
tells_joined ms more es others s t both b c n o begins ended left right is law begins_are ended_are = record {
  sum_is = is ∙ ap (λ (x : Sum). joined x t) left.sum_is ∙ ap (λ (x : Sum). joined (sum_of ms) x) right.sum_is ∙ sym (law ms more);
  begins_is = begins_are ∙ ap (λ (x : Bool). x || c) left.begins_is ∙ ap (λ (x : Bool). has_some ms || x) right.begins_is ∙ sym (some_of_both ms more);
  ends_is = ended_are ∙ ap (λ (x : Bool). x || o) left.ends_is ∙ ap (λ (x : Bool). has_some es || x) right.ends_is ∙ sym (some_of_both es others);
}

-- ---- what sinks await

-- a sink that takes token starts and ends in any order
pub nothing_awaited : (came : Outcome) → AwaitsBehind (λ inside. Unit {0}) came
nothing_awaited (in_front n) = tt
nothing_awaited (reads (text.went s e o)) = tt
nothing_awaited (reads (text.stopped at)) = tt
nothing_awaited (reads (text.too_deep at)) = tt

-- a sink beside one that does
pub both_await : (other : Awaits) (came : Outcome) → AwaitsBehind other came → AwaitsBehind (λ inside. Unit {0} × other inside) came
both_await other (in_front n) turn = (tt, turn)
both_await other (reads (text.went s e o)) turn = (tt, turn)
both_await other (reads (text.stopped at)) turn = turn
both_await other (reads (text.too_deep at)) turn = turn

pub other_awaits : (other : Awaits) (came : Outcome) → AwaitsBehind (λ inside. Unit {0} × other inside) came → AwaitsBehind other came
other_awaits other (in_front n) turn = turn.1
other_awaits other (reads (text.went s e o)) turn = turn.1
other_awaits other (reads (text.stopped at)) turn = turn
other_awaits other (reads (text.too_deep at)) turn = turn

-- Where the marks of a reading stand.
use Rattle.std.proofs.Common.{◌≡◌, ℕ, suc, ◌+◌, ◌≤◌, ◌<◌, List, [], ◌∷◌, ◌++◌, length, drop, Bool, true, false, Option, None, Some, refl, arith}
use Rattle.std.specs.Prelude.{if◌then◌else◌, ◌==◌}
use Rattle.std.specs.List.{AllByRecursion}
use Rattle.jx_lex.specs.declared.alphabet.mark.Mark.{Mark}
use Rattle.jx_lex.specs.declared.alphabet.mark.MarkKind.{MarkKind}
use Rattle.jx_lex.specs.declared.alphabet.state.LexState.{LexState}
use Rattle.jx_lex.specs.declared.alphabet.state.LexState.TheVariants.{Gap}
use Rattle.jx_lex.specs.Lex.{lex, Track, on_next, with_mark}
use Rattle.jx_lex.specs.Moves.{move}
use Rattle.jx_run.specs.declared.texts.settings.FrontMark.{FrontMark}
use Rattle.jx_run.specs.declared.texts.settings.FrontMark.TheVariants as on_mark
use Rattle.jx_run.specs.Front.{agreed}
use Rattle.jx_run.specs.Settings.{byte_order_mark}
use Rattle.jx_run.specs.Telling.{no_tokens, tokens_by}

pub record Between (low high : ℕ) (m : Mark) : Type 0 where
  pub from : low ≤ m.at
  pub to : m.at < high

marked : (low high : ℕ) (k : Option MarkKind) (at : ℕ) (ms : List Mark) → low ≤ at → at < high → AllByRecursion (Between low high) ms → AllByRecursion (Between low high) (with_mark k at ms)
marked low high None at ms a b h = h
marked low high (Some k) at ms a b h = (record { from = a; to = b }, h)

on : (low high : ℕ) (n : Option LexState) (at : ℕ) (more : LexState → Track) → ((t : LexState) → AllByRecursion (Between low high) (more t).marks) → AllByRecursion (Between low high) (on_next n at more).marks
on low high None at more h = tt
on low high (Some t) at more h = h t

-- in the bytes that were read
pub lex_between : (s : LexState) (at : ℕ) (xs : List ℕ) (low high : ℕ) → low ≤ at → at + length xs ≤ high → AllByRecursion (Between low high) (lex s at xs).marks
unfolding lex
lex_between s at [] low high a b = tt
lex_between s at (x ∷ xs) low high a b =
    marked low high ((move s x).begin) at _ a (omega (arith, b))
    (on low high ((move s x).next) at (λ t. lex t (suc at) xs) (λ t. lex_between t (suc at) xs low high (omega (arith, a)) (omega (arith, b))))

-- ---- of a text's first bytes

all_of_three : (a b : Bool) (high : ℕ) (x y z : Track) → AllByRecursion (Between 0 high) x.marks → AllByRecursion (Between 0 high) y.marks → AllByRecursion (Between 0 high) z.marks
    → AllByRecursion (Between 0 high) (if a then x else (if b then y else z)).marks
all_of_three true b high x y z h k l = h
all_of_three false true high x y z h k l = k
all_of_three false false high x y z h k l = l

behind_mark : (bytes : List ℕ) → AllByRecursion (Between 0 (length bytes)) (lex Gap 3 (drop 3 bytes)).marks
unfolding lex
behind_mark [] = tt
behind_mark (a ∷ []) = tt
behind_mark (a ∷ b ∷ []) = tt
behind_mark (a ∷ b ∷ c ∷ bytes) = lex_between Gap 3 bytes 0 (length (a ∷ b ∷ c ∷ bytes)) (omega arith) (omega arith)

pub tokens_between : (m : FrontMark) (bytes : List ℕ) → AllByRecursion (Between 0 (length bytes)) (tokens_by m bytes).marks
tokens_between on_mark.Refused bytes = lex_between Gap 0 bytes 0 (length bytes) (omega arith) (omega arith)
tokens_between on_mark.Ignored bytes =
    let n : ℕ = 0 + agreed bytes byte_order_mark in
    all_of_three (n == 3) (n == 0) (length bytes) (lex Gap 3 (drop 3 bytes)) (lex Gap 0 bytes) no_tokens (behind_mark bytes) (lex_between Gap 0 bytes 0 (length bytes) (omega arith) (omega arith)) tt

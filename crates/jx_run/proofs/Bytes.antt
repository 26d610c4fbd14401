-- The bytes of a completion are below 256.
use Rattle.std.proofs.Common.{◌≡◌, ℕ, ◌<◌, List, [], ◌∷◌, ◌++◌, Bool, true, false, cond, refl, arith}
use Rattle.std.specs.Prelude.{nat_lt, All}
use Rattle.std.proofs.lemmas.Bool.Decides.{nat_tests}
use Rattle.std.proofs.lemmas.List.Elements.{All-nil, All-cons, All-append}
use Rattle.jx_lex.specs.declared.alphabet.state.LexState.{LexState}
use Rattle.jx_lex.specs.declared.alphabet.state.LexState.TheVariants as state
use Rattle.jx_reduce.specs.declared.table.expect.Expect.{Expect}
use Rattle.jx_reduce.specs.declared.table.expect.Expect.TheVariants as expect
use Rattle.jx_reduce.specs.declared.table.holder.Holder.{Holder}
use Rattle.jx_reduce.specs.declared.table.holder.Holder.TheVariants as holder
use Rattle.jx_run.specs.inside.Closing.{finish, fill, shut, completion}

abbrev are_bytes : List ℕ → Bool
are_bytes [] = true
are_bytes (b ∷ t) = cond (nat_lt b 256) (are_bytes t) false

abbrev pub AreBytes : List ℕ → Type 0
AreBytes xs = All (λ b. b < 256) xs

by_test : (xs : List ℕ) → are_bytes xs ≡ true → AreBytes xs
by_test [] h = All-nil (λ b. b < 256)
by_test (b ∷ t) h = pick (nat_lt b 256) refl h (λ r. by_test t r)
  where
    pick : (c : Bool) → nat_lt b 256 ≡ c → cond c (are_bytes t) false ≡ true → (are_bytes t ≡ true → AreBytes t) → AreBytes (b ∷ t)
    pick true q r more = All-cons (λ b. b < 256) b t (grind (arith, nat_tests)) (more r)
    pick false q r more = absurd cc

finish_bytes : (s : LexState) → are_bytes (finish s) ≡ true
finish_bytes state.Gap = refl
finish_bytes _ = refl

fill_bytes : (e : Expect) → are_bytes (fill e) ≡ true
fill_bytes expect.After = refl
fill_bytes _ = refl

shut_bytes : (o : List Holder) → are_bytes (shut o) ≡ true
shut_bytes [] = refl
shut_bytes (holder.Array ∷ o) = shut_bytes o
shut_bytes (holder.Object ∷ o) = shut_bytes o
shut_bytes (holder.Bottom ∷ o) = refl

pub completion-bytes : (s : LexState) (e : Expect) (o : List Holder) → AreBytes (completion s e o)
completion-bytes s e o =
    All-append (λ b. b < 256) (finish s) (fill e ++ shut o) (by_test (finish s) (finish_bytes s))
    (All-append (λ b. b < 256) (fill e) (shut o) (by_test (fill e) (fill_bytes e)) (by_test (shut o) (shut_bytes o)))

-- What may stand next where a reader goes on.
use Rattle.std.proofs.Common.{◌≡◌, ℕ, length, sym, ◌∙◌, ap, Some}
use Rattle.jx_lex.specs.declared.alphabet.state.LexState.{LexState}
use Rattle.jx_reduce.specs.declared.table.expect.Expect.{Expect}
use Rattle.jx_reduce.specs.declared.table.whole.Whole.{Whole}
use Rattle.jx_reduce.specs.declared.table.whole.Whole.TheVariants as whole
use Rattle.jx_reduce.specs.Read.{Reading}
use Rattle.jx_reduce.specs.Whole.{whole_of}
use Rattle.jx_run.specs.Reader.{Outcome, reads, expect_behind, state_behind}
use Rattle.jx_run.specs.ReaderInside.{outcome_at}
use Rattle.jx_run.specs.Reading as text
use Rattle.jx_run.specs.declared.readers.progress.Progress.{Progress}
use Rattle.jx_run.specs.declared.readers.progress.Progress.TheVariants.{Going}

-- a stack that goes on stands where the reading does
pub standing_went : (r : Reading) (p : Progress) (w : Whole) (s : LexState) (e : Expect) (n : ℕ) (before : Outcome) → p ≡ Going s → w ≡ whole.Went e n → w ≡ whole_of r → outcome_at p r ≡ Some before
    → (s ≡ state_behind before) × (e ≡ expect_behind before)
standing_went (Reading.went f o) p w s e n before goes is of came =
    let same : whole.Went e n ≡ whole.Went f (length o) = sym is ∙ of in
    let first : e ≡ f = cc in
    let out : Some (reads (text.went s f o)) ≡ Some before = ap (λ (q : Progress). outcome_at q (Reading.went f o)) (sym goes) ∙ came in
    let here : reads (text.went s f o) ≡ before = cc in
    (ap state_behind here, first ∙ ap expect_behind here)
standing_went (Reading.stopped at) p w s e n before goes is of came = let same : whole.Went e n ≡ whole.Stopped at = sym is ∙ of in absurd cc
standing_went (Reading.too_deep at) p w s e n before goes is of came = let same : whole.Went e n ≡ whole.TooDeep at = sym is ∙ of in absurd cc

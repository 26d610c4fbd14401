use Rattle.std.proofs.Common.{◌≡◌, ℕ, length, sym, ap, ◌∙◌, rules}
use Rattle.std.specs.Prelude.{reverse}
use Rattle.std.proofs.lemmas.List.{length-reverse}
use Rattle.jx_lex.specs.declared.alphabet.lex_exit.LexExit.TheVariants as exit
use Rattle.jx_reduce.specs.declared.table.whole.Whole.TheVariants as whole
use Rattle.jx_reduce.specs.Read.{Reading}
use Rattle.jx_run.specs.Laws.{verdict_of}
use Rattle.jx_run.specs.Whole.{verdict_from}
use Rattle.jx_run.proofs.RunVerdict.{same_verdict}
use Rattle.jx_edit.specs.inside.Places.{PlaceValue, came_to}
use Rattle.jx_edit.proofs.reading.place.Place.verdict.Goals as goal

pub returns : goal.returns
returns c =
    let state = c.self.inside.state in
    let expect = c.self.inside.expect in
    let hs = c.self.inside.holders.items in
    let standing : c.len.result ≡ length (reverse hs) = let count : c.len.result ≡ length hs = search rules in count ∙ sym (length-reverse hs) in
    c.verdict_from.ensures
    ∙ ap (λ (n : ℕ). verdict_from (exit.State state) (whole.Went expect n)) standing
    ∙ sym (same_verdict (exit.State state) (Reading.went expect (reverse hs)))
    ∙ ap (λ (p : PlaceValue). verdict_of (came_to p)) c.self.view_is

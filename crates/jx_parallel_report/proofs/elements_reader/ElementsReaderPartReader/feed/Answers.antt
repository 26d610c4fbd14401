use Rattle.std.proofs.Common.{◌≡◌, ◌-◌, ◌<◌, ◌≤◌, ℕ, List, ◌++◌, length, subst, ◌∙◌, arith}
use Rattle.std.specs.Prelude.{slice_range}
use Rattle.std.proofs.lemmas.List.Edits.{length-between}
use Rattle.std.proofs.lemmas.Result.{on_ok_weaker}
use Rattle.jx_ndjson_report.proofs.Takes.{three_parts}
use Rattle.jx_parallel_report.specs.inside.Elements.{HasRead, IsPart}
use Rattle.jx_parallel_report.proofs.elements_reader.ElementsReaderPartReader.feed.Goals as goal

pub returns : goal.returns
returns c =
    let bytes : List ℕ = c.args.bytes.now in
    let rule = c.args.rule.now in
    let i = c.in-Some.span.start in
    let j = c.in-Some.span.end in
    let low : i < j = c.in-Some.ensures.ordered in
    let high : j ≤ length bytes = c.in-Some.ensures.within in
    let mid = slice_range bytes i j in
    let first = c.go_on-2.new.self in
    record {
      read = on_ok_weaker c.go_on-3.result
          (λ reads xs given h.
          let h1 = c.in_ok-go_on-2.ensures.read rule xs h in
          let before = xs ++ slice_range bytes 0 i in
          let at : c.end-at.result ≡ length before = c.end-at.ensures ∙ c.elements_of_two_parts.ensures.reached rule.depth before h1.judged first.reader first.open_ended h1.read in
          subst (λ (l : List ℕ). HasRead rule l c.go_on-3.new.self) (three_parts xs bytes i j (omega (arith, low)) high)
          (reads rule _ (c.in_ok-take_in.ensures.taken before mid h1 (length-between bytes i j high) (subst (λ (n : ℕ). IsPart rule n mid c.in_ok-part.part) at c.in_ok-part.ensures))))
          c.go_on-3.ensures.read;
    }

use Rattle.std.proofs.Common.{◌≡◌, ℕ, suc, ◌+◌, ◌*◌, ◌<◌, List, [], ◌∷◌, ◌++◌, ap, arith, length, take, ◌∙◌}
use Rattle.std.specs.Prelude.{slice_range}
use Rattle.std.specs.List.{flat_map}
use Rattle.std.proofs.lemmas.List.{length-append, take_all}
use Rattle.jx_file_lines.specs.declared.line_index.LineEntry.{LineEntry}
use Rattle.jx_file_lines.specs.Spelling.{spelt_entry}
use Rattle.jx_file_lines.proofs.Decodings.{one_more, spelt_long}
use Rattle.jx_file_lines.proofs.decoding.entries_of.Goals as goal

pub returns : goal.returns
returns c = λ es fits is.
    let l : length c.args.bytes.now ≡ length (flat_map spelt_entry es) = ap length is in
    let h = spelt_long es in
    let r = c.requires in
    c.loop-n.invariant.reads es fits is ∙ take_all c.loop-n.n es (omega (arith, l, h, r))

pub loop-n-preserved : goal.loop-n-preserved
loop-n-preserved c =
    let old = c.loop-n.entries.items in
    let entry = c.entry_of.result in
    let n = c.loop-n.n in
    let items = c.in_ok-push.ensures.items in
    let long : length c.push.new.self.items ≡ length (old ++ entry ∷ []) = ap length items in
    let more : length (old ++ entry ∷ []) ≡ length old + 1 = length-append old (entry ∷ []) in
    let was = c.loop-n.invariant.count in
    record {
      count = omega (arith, long, more, was);
      reads = λ es fits is.
          let l : length c.args.bytes.now ≡ length (flat_map spelt_entry es) = ap length is in
          let h = spelt_long es in
          let r = c.requires in
          let test = c.loop-n-test.true in
          let low : n < length es = omega (arith, l, h, r, test) in
          items
          ∙ ap (λ (xs : List LineEntry). xs ++ entry ∷ []) (c.loop-n.invariant.reads es fits is)
          ∙ one_more es n entry fits low (λ x f q. c.entry_of.ensures x f (ap (λ (xs : List ℕ). slice_range xs (16 * n) (16 * n + 16)) is ∙ q))
          ∙ ap (λ (k : ℕ). take k es) (let e : suc n ≡ n + 1 = omega arith in e);
    }

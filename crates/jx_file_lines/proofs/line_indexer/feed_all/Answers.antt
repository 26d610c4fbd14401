use Rattle.std.proofs.Common.{◌≡◌, ◌-◌, ◌++◌, ◌∙◌, ap, arith, append_assoc, drop, length, subst, sym, take, ℕ, List}
use Rattle.std.proofs.lemmas.List.{length-drop, take_rest}
use Rattle.std.proofs.Math.Seq.{take-add}
use Rattle.jx_file_lines.specs.Feeding.{AreEntered}
use Rattle.jx_file_lines.proofs.line_indexer.feed_all.Goals as goal

pub slices-preserved : goal.slices-preserved
slices-preserved c =
    let slice = c.args.slice.now in
    let size = c.args.size in
    let at = c.slices.at in
    let len = c.in_ok-at.field-0 in
    let was = c.slices.invariant in
    let low = was.within in
    let all : take (length slice - at) (drop at slice) ≡ drop at slice = take_rest slice at in
    let l : length (take (length slice - at) (drop at slice)) ≡ length (drop at slice) = ap (λ (xs : List ℕ). length xs) all in
    let d : length (drop at slice) ≡ length slice - at = length-drop at slice in
    let fits = c.in_ok-at.ensures.within in
    record {
      within = omega (arith, low, fits, l, d);
      short = c.in_ok-at.ensures.short;
      entered = λ bytes h.
          subst (λ (xs : List ℕ). AreEntered size xs c.feed_once.new.entries.items c.feed_once.new.part.items)
          (ap (λ (xs : List ℕ). (bytes ++ take at slice) ++ take len xs) all
          ∙ append_assoc bytes (take at slice) (take len (drop at slice))
          ∙ ap (λ (xs : List ℕ). bytes ++ xs) (sym (take-add at len slice)))
          (c.in_ok-at.ensures.entered (bytes ++ take at slice) (was.entered bytes h));
    }

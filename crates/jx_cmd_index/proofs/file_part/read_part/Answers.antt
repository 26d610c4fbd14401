use Rattle.std.specs.Prelude.{Option}
use Rattle.std.proofs.Common.{◌≡◌, ℕ, ◌+◌, List, ◌++◌, length, take, drop, sym, subst, ap, ◌∙◌, rules}
use Rattle.std.proofs.lemmas.List.{places, with_items_is}
use lib.Seq.{take-add}
use Rattle.jx_cmd_index.specs.Offsets.{StandThere}
use Rattle.jx_cmd_index.proofs.FileParts.{there_on, front_length}
use Rattle.jx_cmd_index.proofs.file_part.read_part.Goals as goal

pub reads-preserved : goal.reads-preserved
reads-preserved g c =
    let known = g.F.ReadAt.content c.args.file.now in
    let grown = c.read_on.new.buffer in
    let filled = c.reads.filled in
    let count = c.in-Ok.count in
    let start = c.args.span.start in
    let kept : take filled grown ≡ take filled c.reads.buffer.items = c.in-Ok.ensures.front ∙ ap (take filled) c.deref_mut.ensures.value in
    let all = with_items_is c.reads.buffer grown (search (rules, places)) in
    let seam : take filled c.reads.buffer.items ++ take count (drop filled grown) ≡ take (filled + count) grown = ap (λ l. l ++ take count (drop filled grown)) (sym kept) ∙ sym (take-add filled count grown) in
    let long : length (take filled c.reads.buffer.items) ≡ filled = front_length filled c.reads.buffer.items (search (rules, places)) in
    let here : StandThere known (start + length (take filled c.reads.buffer.items)) (take count (drop filled grown)) =
    subst (λ (n : ℕ). StandThere known (start + n) (take count (drop filled grown))) (sym long) (subst (λ (o : Option (List ℕ)). StandThere o (start + filled) (take count (drop filled grown))) c.reads.invariant.kept c.in-Ok.ensures.there) in
    record {
      filled = search (rules, places);
      long = search (rules, places);
      unfailed = search rules;
      kept = search rules;
      there = subst (λ (l : List ℕ). StandThere known start l) (seam ∙ ap (take (filled + count)) (sym all)) (there_on known start _ _ c.reads.invariant.there here);
    }

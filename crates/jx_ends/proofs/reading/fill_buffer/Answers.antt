use Rattle.std.proofs.Common.{◌≡◌, ◌+◌, ◌++◌, take, drop, sym, subst, ap, ◌∙◌, rules}
use lib.Seq.{take-add}
use Rattle.std.specs.Io.KnownBytes.{Consumes}
use Rattle.std.proofs.KnownBytes.{Consumes-trans}
use Rattle.std.proofs.lemmas.List.{places, with_items_is}
use Rattle.jx_ends.proofs.reading.fill_buffer.Goals as goal

pub loop-filled-preserved : goal.loop-filled-preserved
loop-filled-preserved g c =
    let grown = c.read_at.new.text in
    let filled = c.loop-filled.filled in
    let count = c.in-Ok.count in
    let kept : take filled grown ≡ take filled c.loop-filled.buffer.items =
    c.in-Ok.ensures.front ∙ ap (take filled) c.deref_mut.ensures.value ∙ c.make_room_within.ensures.front in
    let all = with_items_is c.make_room_within.new.buffer grown (search (rules, places)) in
    let seam = ap (λ l. l ++ take count (drop filled grown)) (sym kept) ∙ sym (take-add filled count grown) ∙ ap (take (filled + count)) (sym all) in
    let more = Consumes-trans _ _ _ _ _ c.loop-filled.invariant.3 c.in-Ok.ensures.ok in
    (search (rules, places), search rules, search rules, subst (Consumes _ _) seam more)

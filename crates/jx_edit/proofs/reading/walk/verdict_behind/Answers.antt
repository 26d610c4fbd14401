use Rattle.std.proofs.Common.{arith, ap, sym, ◌∙◌, ◌-◌, length}
use Rattle.jx_run.specs.Laws.{verdict_of}
use Rattle.jx_edit.specs.inside.Chunks.{ChunkValue}
use Rattle.jx_edit.specs.inside.Places.{PlaceValue, came_to, origin}
use Rattle.jx_edit.proofs.Links.{none_behind, last_place}
use Rattle.jx_edit.proofs.reading.walk.verdict_behind.Goals as goal

pub returns-then-count-eq0 : goal.returns-then-count-eq0
returns-then-count-eq0 c = c.verdict.ensures ∙ ap (λ (p : PlaceValue). verdict_of (came_to p)) (c.requires ∙ sym (none_behind origin c.args.chunks.now (omega arith)))

pub returns : goal.returns
returns c =
    c.verdict-2.ensures
    ∙ ap (λ (p : PlaceValue). verdict_of (came_to p))
    (c.place-place.ensures.place ∙ ap (λ (x : ChunkValue). x.to) c.index-chunks-last.is
    ∙ sym (last_place origin c.args.chunks.now (length c.args.chunks.now - 1) c.index-chunks-last.result (omega arith)))

use Rattle.std.proofs.Common.{List, length, ap, sym, subst, ◌∙◌}
use Rattle.std.specs.Prelude.{slice_range}
use Rattle.jx_maps.specs.inside.Bundle.{Bundle, ReadsOn, StandIn}
use Rattle.jx_maps.specs.Follow.{SegmentValue}
use Rattle.jx_maps.proofs.SideBySide.{written}
use Rattle.jx_maps.proofs.side_by_side.go_on.Goals as goal

pub returns-clause-read : goal.returns-clause-read
returns-clause-read c =
    let w = slice_range c.args.text.now c.args.from c.in_ok-end.end in
    let new = c.read_apart.new.segments in
    let segments = c.bundle.inside.segments in
    let len = c.deref_mut.ensures.len in
    let value = c.deref_mut.ensures.value in
    let back = written new segments.items segments.len (c.read_apart.auto.segments ∙ len) (sym (ap length value) ∙ len) in
    subst (λ (ps : List SegmentValue). ReadsOn c.args.from w c.args.bundle.segments ps) (sym back)
    (subst (λ (ps : List SegmentValue). ReadsOn c.args.from w ps new) (value ∙ ap (λ (b : Bundle). b.segments) c.bundle.view_is) c.in_ok-end.ensures.read)

pub returns-clause-stand : goal.returns-clause-stand
returns-clause-stand c = subst (λ (ps : List SegmentValue). StandIn c.live_of-live.result ps) c.deref.ensures.value c.live_of-live.ensures

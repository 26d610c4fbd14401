use Rattle.std.proofs.Common.{ap, sym, ◌∙◌}
use Rattle.std.specs.Prelude.{slice_range}
use Rattle.jx_maps.specs.Follow.{SegmentValue}
use Rattle.jx_maps.proofs.Spans.{reads-differ, cut-back}
use Rattle.jx_maps.proofs.two_tracks.may_have_met.Goals as goal

pub returns-clause-read : goal.returns-clause-read
returns-clause-read c = λ no.
    let w = slice_range c.args.text.now c.args.from c.args.to in
    let p = c.args.first.now in
    let q = c.args.second.now in
    rw (c.in_ok-read_span.ensures, c.in_ok-read_span-2.ensures)
    (reads-differ w c.args.from p q (λ e.
    c.may_lead_alike.ensures c.if-may_lead_alike.false
    (c.next.ensures ∙ ap (λ (r : SegmentValue). r.next) c.in_ok-read_span.ensures ∙ e ∙ sym (ap (λ (r : SegmentValue). r.next) c.in_ok-read_span-2.ensures) ∙ sym c.next-2.ensures)))

pub returns-then-may_lead_alike-clause-back : goal.returns-then-may_lead_alike-clause-back
returns-then-may_lead_alike-clause-back c = λ yes.
    let w = slice_range c.args.text.now c.args.from c.args.to in
    let p = c.args.first.now in
    let q = c.args.second.now in (
      rw (c.go_back.ensures, c.in_ok-read_span.ensures, c.marks-marks.ensures, c.ends-ends.ensures, c.next-next.ensures) (cut-back c.args.from w p),
      rw (c.go_back-then-may_lead_alike.ensures, c.in_ok-read_span-2.ensures, c.marks-others.ensures, c.ends-other_ends.ensures, c.next-other.ensures) (cut-back c.args.from w q),
    )

use Rattle.std.proofs.Common.{◌∙◌, ap, sym}
use Rattle.std.specs.Prelude.{slice_range}
use Rattle.jx_maps.specs.declared.link.Link.{Link}
use Rattle.jx_maps.specs.Follow.{SegmentValue}
use Rattle.jx_lex.specs.Lex.{lex}
use Rattle.jx_maps.specs.inside.Passing.{read_bytes}
use Rattle.jx_lex.specs.Seen.{TokenLists}
use Rattle.jx_maps.specs.inside.Step.{link_at}
use Rattle.jx_maps.proofs.Passing.{closed-span}
use Rattle.jx_maps.proofs.Spans.{read-lex}
use Rattle.jx_maps.proofs.lane.Lane.read_span.Goals as goal

pub returns-in_ok-exit : goal.returns-in_ok-exit
returns-in_ok-exit c =
    let w = slice_range c.args.text.now c.args.from c.args.to in
    let p : SegmentValue = record { marks = c.self.inside.tokens.marks; ends = c.self.inside.tokens.ends; next = c.self.inside.next } in
    let t = lex c.in-State.state c.args.from w in
    let e = c.in_ok-exit.ensures in
    ap (λ (g : Link). record { marks = c.read.new.self.marks; ends = c.read.new.self.ends; next = g }) (c.of-self-inside.ensures ∙ ap link_at e.exit)
    ∙ ap (λ (k : TokenLists). record { marks = k.marks; ends = k.ends; next = link_at t.exit }) e.tokens
    ∙ sym (read-lex w c.args.from p c.in-State.state c.in-State.is)
    ∙ ap (λ (q : SegmentValue). read_bytes c.args.from w q) c.self.view_is

pub returns-in_default : goal.returns-in_default
returns-in_default c =
    closed-span c.args.from (slice_range c.args.text.now c.args.from c.args.to) c.args.self.now (λ s e. c.in_default.not-State s (ap (λ (p : SegmentValue). p.next) c.self.view_is ∙ e))

use Rattle.std.proofs.Common.{arith, ◌∙◌, ap, sym, subst}
use Rattle.jx_edit.specs.inside.Chunks.{ChunkValue}
use Rattle.jx_edit.specs.inside.Leads.{reading_in, IsLedWithin}
use Rattle.jx_edit.proofs.Links.{walked_linked, walked_on, stopped_at, too_deep_at}
use Rattle.jx_edit.proofs.reading.walk.go_on.Goals as goal

pub returns-then-is_linked-clause-reached : goal.returns-then-is_linked-clause-reached
returns-then-is_linked-clause-reached c =
    walked_linked c.args.depth c.args.start c.args.chunks.now c.args.number c.index-chunks-number.result c.requires.number c.index-chunks-number.is c.requires.walked
    (ap (λ (x : ChunkValue). x.linked) c.index-chunks-number.is ∙ sym c.is_linked.ensures ∙ c.if-is_linked.true)

pub link_at-requires-clause-within : goal.link_at-requires-clause-within
link_at-requires-clause-within c = subst (IsLedWithin c.args.depth) c.in-On.is c.in_ok-led.ensures.within

pub link_at-requires-clause-leads : goal.link_at-requires-clause-leads
link_at-requires-clause-leads c = sym c.in_ok-led.ensures.reads ∙ ap reading_in c.in-On.is

pub returns-in-On-clause-reached : goal.returns-in-On-clause-reached
returns-in-On-clause-reached c =
    walked_on c.args.depth c.args.start c.args.chunks.now c.link_at.new.chunks c.args.number c.in-On.place c.requires.number c.requires.walked
    (sym (ap reading_in c.in-On.is) ∙ c.in_ok-led.ensures.reads) c.link_at.ensures.linked c.link_at.ensures.bytes c.link_at.ensures.place c.link_at.ensures.on

pub returns-in-Stopped-clause-reached : goal.returns-in-Stopped-clause-reached
returns-in-Stopped-clause-reached c =
    stopped_at c.reader_and_grammar.ensures.first_fault c.args.depth c.args.start c.args.chunks.now c.args.number c.in-Stopped.at c.args.offset c.saturating_add.result c.requires.number
    c.requires.walked c.requires.fits (sym (ap reading_in c.in-Stopped.is) ∙ c.in_ok-led.ensures.reads) c.requires.offset (omega arith)

pub returns-in-TooDeep-clause-reached : goal.returns-in-TooDeep-clause-reached
returns-in-TooDeep-clause-reached c =
    too_deep_at c.reader_and_grammar.ensures.first_fault c.args.depth c.args.start c.args.chunks.now c.args.number c.in-TooDeep.at c.args.offset c.saturating_add-in-TooDeep.result c.requires.number
    c.requires.walked c.requires.fits (sym (ap reading_in c.in-TooDeep.is) ∙ c.in_ok-led.ensures.reads) c.requires.offset (omega arith)

use Rattle.std.proofs.Common.{ap, sym, ◌∙◌}
use Rattle.jx_edit.specs.inside.Leads.{reading_in}
use Rattle.jx_edit.proofs.Stood.{stood}
use Rattle.jx_edit.proofs.reading.standing.stand_behind.Goals as goal

pub returns-in-On : goal.returns-in-On
returns-in-On c = λ start.
    stood c.args.depth start c.args.chunks.now c.args.at c.front_of-before.result.before c.front_of-before.result.offset c.front_of-before.result.bytes.now c.place_behind-from.result.now c.in-On.place c.requires.linked
    (c.are_linked.ensures c.if-not-are_linked.false) c.front_of-before.ensures c.place_behind-from.ensures.place (sym (ap reading_in c.in-On.is) ∙ c.in_ok-led.ensures.reads)

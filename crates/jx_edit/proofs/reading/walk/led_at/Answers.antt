use Rattle.std.proofs.Common.{arith}
use Rattle.jx_edit.specs.inside.Leads.{reading_in}
use Rattle.jx_edit.proofs.Links.{place_none, place_before, none_open, few_open, leads_from, within_from}
use Rattle.jx_edit.proofs.reading.walk.led_at.Goals as goal

pub follow-requires : goal.follow-requires
follow-requires c = record { within = none_open c.args.first.now c.index-chunks-number.result.depth c.requires.start }

pub follow-requires-2 : goal.follow-requires-2
follow-requires-2 c = record {
  within =
      few_open c.args.depth c.args.chunks.now c.args.number c.index-chunks-last.result c.index-chunks-number-2.result c.place-place.result.now (omega arith) c.requires.number
      c.index-chunks-last.is c.index-chunks-number-2.is c.requires.linked c.place-place.ensures.within;
}

pub returns-then-number-eq0-clause-reads : goal.returns-then-number-eq0-clause-reads
returns-then-number-eq0-clause-reads c =
    leads_from c.args.depth c.args.chunks.now c.args.number c.index-chunks-number.result c.args.first.now (reading_in c.in_ok-led.led) c.requires.number c.index-chunks-number.is
    c.requires.linked (place_none c.args.chunks.now c.args.number c.args.first.now (omega arith) c.requires.start) c.in_ok-led.ensures.reads

pub returns-then-number-eq0-clause-within : goal.returns-then-number-eq0-clause-within
returns-then-number-eq0-clause-within c =
    within_from c.args.depth c.args.chunks.now c.args.number c.index-chunks-number.result c.in_ok-led.led c.requires.number c.index-chunks-number.is c.requires.linked c.in_ok-led.ensures.within

pub returns-clause-reads : goal.returns-clause-reads
returns-clause-reads c =
    leads_from c.args.depth c.args.chunks.now c.args.number c.index-chunks-number-2.result c.place-place.result.now (reading_in c.in_ok-led-2.led) c.requires.number c.index-chunks-number-2.is
    c.requires.linked
    (place_before c.args.chunks.now c.args.number c.index-chunks-last.result c.place-place.result.now (omega arith) (omega arith) c.index-chunks-last.is c.place-place.ensures.place)
    c.in_ok-led-2.ensures.reads

pub returns-clause-within : goal.returns-clause-within
returns-clause-within c =
    within_from c.args.depth c.args.chunks.now c.args.number c.index-chunks-number-2.result c.in_ok-led-2.led c.requires.number c.index-chunks-number-2.is c.requires.linked c.in_ok-led-2.ensures.within

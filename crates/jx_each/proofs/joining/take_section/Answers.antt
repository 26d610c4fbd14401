use Rattle.std.proofs.Common.{rules, ◌≡◌, ◌≤◌, ◌∙◌, arith, length}
use Rattle.jx_each.specs.Sections.{IsSection}
use Rattle.jx_each.specs.inside.Paths.{aim_of}
use Rattle.jx_each.proofs.Joins.{fronts, goes_on, joins}
use Rattle.jx_each.proofs.joining.take_section.Goals as goal

pub returns-then-not-is_same-clause-made : goal.returns-then-not-is_same-clause-made
returns-then-not-is_same-clause-made c =
    let from = c.args.from in
    let low : from.at ≤ c.args.section.span.start = omega (arith, c.if-start-from.false) in
    goes_on (aim_of c.args.target.now) from.stand c.in_ok-stand.stand c.args.lines.now.items c.args.part.now.items c.make_all.new.lines.items c.make_all.new.part.items c.args.bytes.now from.at c.args.section.span.start low c.in_ok-stand.ensures.made

pub returns-clause-made : goal.returns-clause-made
returns-clause-made c =
    let from = c.args.from in
    let s = c.args.section in
    let h = c.requires.section in
    let xs = c.args.bytes.now in
    let low : from.at ≤ s.span.start = omega (arith, c.if-start-from.false) in
    let high : s.span.end ≤ length xs = omega (arith, c.if-bytes-section.false) in
    let here : IsSection (aim_of c.args.target.now) xs s = fronts (aim_of c.args.target.now) xs h.slice s h.front h.section high in
    let first : c.in_ok-stand.stand ≡ s.first = search rules in
    let front : c.make_all.new.part.items ≡ s.front.items = search rules in
    joins (aim_of c.args.target.now) xs s c.in_ok-stand.stand c.make_all.new.lines.items c.make_all.new.part.items c.extend_from_slice.new.self.items here first front (search rules)
    ∙ goes_on (aim_of c.args.target.now) from.stand c.in_ok-stand.stand c.args.lines.now.items c.args.part.now.items c.make_all.new.lines.items c.make_all.new.part.items xs from.at s.span.start low c.in_ok-stand.ensures.made

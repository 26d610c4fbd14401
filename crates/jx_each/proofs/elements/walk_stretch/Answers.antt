use Rattle.std.proofs.Common.{◌≡◌, ℕ, ◌+◌, ◌-◌, List, length, take, arith, sym, ap, subst, ◌∙◌}
use Rattle.std.specs.Prelude.{slice_range}
use Rattle.jx_each.specs.inside.Blocks.{place_at}
use Rattle.jx_each.specs.inside.Stretches.{IsLed}
use Rattle.jx_each.proofs.Ending.{copied_at, made_at, written}
use Rattle.jx_each.proofs.elements.walk_stretch.Goals as goal

pub end_elements-reach-requires-clause-long : goal.end_elements-reach-requires-clause-long
end_elements-reach-requires-clause-long c =
    let l = copied_at c.args.lines.now.items c.deref_mut.result.now c.args.bytes.now c.args.view.base c.args.from c.args.to c.requires.room c.requires.order (c.deref_mut.ensures.value ∙ c.in_ok-push_stretch.ensures) in
    l.0.long

pub end_elements-reach-requires-clause-copied : goal.end_elements-reach-requires-clause-copied
end_elements-reach-requires-clause-copied c =
    let l = copied_at c.args.lines.now.items c.deref_mut.result.now c.args.bytes.now c.args.view.base c.args.from c.args.to c.requires.room c.requires.order (c.deref_mut.ensures.value ∙ c.in_ok-push_stretch.ensures) in
    l.0.rest

pub end_elements-reach-requires-clause-begin : goal.end_elements-reach-requires-clause-begin
end_elements-reach-requires-clause-begin c =
    let l = copied_at c.args.lines.now.items c.deref_mut.result.now c.args.bytes.now c.args.view.base c.args.from c.args.to c.requires.room c.requires.order (c.deref_mut.ensures.value ∙ c.in_ok-push_stretch.ensures) in
    let count : length c.deref_mut.result.now - (c.args.to - c.args.from) ≡ length c.args.lines.now.items = l.2 in
    omega (arith, count, c.requires.begin)

pub returns-clause-led : goal.returns-clause-led
returns-clause-led c =
    let reach = c.end_elements-reach.result in
    let ys = c.end_elements-reach.new.made in
    let l = copied_at c.args.lines.now.items c.deref_mut.result.now c.args.bytes.now c.args.view.base c.args.from c.args.to c.requires.room c.requires.order (c.deref_mut.ensures.value ∙ c.in_ok-push_stretch.ensures) in
    let count : c.len.result ≡ length ys = c.len.ensures ∙ sym c.deref_mut.ensures.len ∙ sym c.end_elements-reach.ensures.length in
    let cut : c.truncate.new.self.items ≡ made_at ys reach.at c.args.to =
    c.truncate.ensures.items
    ∙ ap (take (c.len.result - (c.args.to - reach.at))) (written c.push_stretch.new.part.len c.push_stretch.new.part.items c.deref_mut.result.now ys c.deref_mut.ensures.value c.deref_mut.ensures.len c.end_elements-reach.ensures.length)
    ∙ ap (λ (m : ℕ). take (m - (c.args.to - reach.at)) ys) count in
    subst (λ (out : List ℕ). IsLed (place_at c.args.view.inside c.args.view.words c.args.from) c.args.nest out (slice_range c.args.bytes.now (c.args.view.base + c.args.from) (c.args.view.base + reach.at)) (place_at c.args.view.inside c.args.view.words reach.at) reach.nest c.truncate.new.self.items) l.1
    (subst (λ (out : List ℕ). IsLed (place_at c.args.view.inside c.args.view.words c.args.from) c.args.nest (made_at c.deref_mut.result.now c.args.from c.args.to) (slice_range c.args.bytes.now (c.args.view.base + c.args.from) (c.args.view.base + reach.at)) (place_at c.args.view.inside c.args.view.words reach.at) reach.nest out) (sym cut)
    c.end_elements-reach.ensures.led)

use Rattle.std.specs.Prelude.{slice_range}
use Rattle.std.proofs.Common.{◌≡◌, ℕ, ◌+◌, List, length, take, ap, subst, sym, ◌∙◌, arith, refl}
use Rattle.std.proofs.lemmas.List.{take_at}
use Rattle.jx_lex.specs.inside.Bits.{bit}
use Rattle.jx_lex.proofs.Bits.{bit-none}
use Rattle.jx_each.specs.inside.Blocks.{place_at}
use Rattle.jx_each.specs.inside.Stretches.{IsLed}
use Rattle.jx_each.proofs.Deepening.{packed_whole}
use Rattle.jx_each.proofs.Ending.{written}
use Rattle.jx_each.proofs.elements.push_packed.Goals as goal

pub returns-then-view-eq0-clause-led : goal.returns-then-view-eq0-clause-led
returns-then-view-eq0-clause-led c =
    let a = c.args in
    packed_whole a.bytes.now a.view.base a.view.inside a.view.words (omega (arith, c.requires.room)) c.requires.told a.nest.height a.high c.requires.deep a.nest refl a.lines.now.items
    c.push_stretch.new.part.items c.requires.begin (λ k _ _. ap (λ (m : ℕ). bit m k) c.if-view-eq0.true ∙ bit-none k) c.in_ok-push_stretch.ensures

pub returns-clause-led : goal.returns-clause-led
returns-clause-led c =
    let a = c.args in
    let out : List ℕ = a.lines.now.items in
    let packed = c.pack-squeezed.result in
    let ys = c.pack-squeezed.new.made in
    let at = packed.reach.at in
    let count : length out ≡ c.len-start.result = sym (c.len-start.ensures ∙ a.lines.now.ok.0) in
    let front : take c.len-start.result c.deref_mut.result.now ≡ out =
    ap (take c.len-start.result) (c.deref_mut.ensures.value ∙ c.in_ok-extend_from_slice.ensures.items) ∙ take_at out _ c.len-start.result count in
    let cut : c.truncate.new.self.items ≡ take packed.len ys =
    c.truncate.ensures.items
    ∙ ap (take packed.len) (written c.extend_from_slice.new.self.len c.extend_from_slice.new.self.items c.deref_mut.result.now ys c.deref_mut.ensures.value c.deref_mut.ensures.len c.pack-squeezed.ensures.length) in
    subst (λ (l : List ℕ). IsLed (place_at a.view.inside a.view.words 0) a.nest l (slice_range a.bytes.now a.view.base (a.view.base + at)) (place_at a.view.inside a.view.words at) packed.reach.nest c.truncate.new.self.items) front
    (subst (λ (l : List ℕ). IsLed (place_at a.view.inside a.view.words 0) a.nest (take c.len-start.result c.deref_mut.result.now) (slice_range a.bytes.now a.view.base (a.view.base + at)) (place_at a.view.inside a.view.words at) packed.reach.nest l) (sym cut)
    c.pack-squeezed.ensures.led)

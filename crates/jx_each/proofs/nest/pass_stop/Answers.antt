use Rattle.std.proofs.Common.{◌≡◌, ◌+◌, ◌∷◌, ◌++◌, [], take, sym, subst, ap, ◌∙◌, ℕ, List, arith, length}
use Rattle.std.proofs.lemmas.List.{length-take-le, take_more, take_more_set}
use Rattle.jx_compact.specs.declared.place.Place.{Place}
use Rattle.jx_compact.specs.declared.place.Place.TheVariants.{Between}
use Rattle.jx_each.specs.Turns.{height_next}
use Rattle.jx_each.specs.declared.nest.Nest.{Nest}
use Rattle.jx_each.specs.inside.Stretches.{IsLed, IsStretch}
use Rattle.jx_each.proofs.Leading.{led_border, led_stretch}
use Rattle.jx_each.proofs.Stretching.{one_stretch}
use Rattle.jx_each.proofs.nest.pass_stop.Goals as goal

pub returns-then-is_within-clause-led : goal.returns-then-is_within-clause-led
returns-then-is_within-clause-led c =
    let out = take c.args.at c.args.made.now in
    let b = c.args.byte in
    let high : height_next Between c.args.nest.height b ≡ c.height_next.result = sym c.height_next.ensures.value in
    let long : length out ≡ c.args.at = length-take-le c.args.at c.args.made.now (omega (arith, c.requires.within)) in
    let more : take (c.args.at + 1) c.args.made.now ≡ out ++ (b ∷ []) = take_more c.args.made.now c.args.at 0 c.requires.within ∙ ap (λ (x : ℕ). out ++ x ∷ []) c.requires.byte in
    subst (λ (l : List ℕ). IsLed Between c.args.nest out (b ∷ []) Between (record { begin = c.args.nest.begin; height = c.height_next.result }) l) (sym more)
    (led_stretch Between Between c.args.nest c.height_next.result out (b ∷ []) (omega (arith, long, c.requires.begin))
    (subst (λ (k : ℕ). IsStretch Between c.args.nest.height (b ∷ []) Between k) high
    (subst (λ (q : Place). IsStretch Between c.args.nest.height (b ∷ []) q (height_next Between c.args.nest.height b)) c.requires.outside.0
    (one_stretch Between c.args.nest.height b (c.is_within.ensures.turn c.if-is_within.true) c.requires.outside.1))))

pub returns-then-nest-at-clause-led : goal.returns-then-nest-at-clause-led
returns-then-nest-at-clause-led c =
    let out = take c.args.at c.args.made.now in
    let long : length out ≡ c.args.at = length-take-le c.args.at c.args.made.now (omega (arith, c.requires.within)) in
    let one = c.is_within.ensures.near c.if-is_within.false in
    let to : Nest = record { begin = c.args.at + 1; height = c.args.nest.height } in
    subst (λ (l : List ℕ). IsLed Between c.args.nest out (c.args.byte ∷ []) Between to l) (sym (take_more_set c.args.made.now c.args.at 10 c.requires.within))
    (subst (λ (b : ℕ). IsLed Between c.args.nest out (b ∷ []) Between to (out ++ 10 ∷ [])) (sym c.if-byte-eq44.true)
    (led_border c.args.nest to out (omega (arith, long, c.if-nest-at.true)) one one (omega (arith, long))))

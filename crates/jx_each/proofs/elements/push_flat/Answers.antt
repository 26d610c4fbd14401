use Rattle.std.proofs.Common.{◌≡◌, ℕ, ◌+◌, ◌≤◌, List, ◌++◌, length, map, nat_lt, refl, ap, ◌∙◌, arith, length-append}
use Rattle.std.specs.Simd.Lanes.{chunk}
use Rattle.std.proofs.lemmas.Bool.{ltb-true}
use Rattle.std.proofs.lemmas.List.{length-map}
use Rattle.std.proofs.lemmas.Simd.{length-chunk}
use Rattle.jx_each.specs.inside.Flat.{fed}
use Rattle.jx_each.proofs.Feeding.{led_flat}
use Rattle.jx_each.proofs.elements.push_flat.Goals as goal

pub returns-then-end-eq0-clause-led : goal.returns-then-end-eq0-clause-led
returns-then-end-eq0-clause-led c =
    let r = c.requires in
    let out = c.args.lines.now.items in
    led_flat c.args.bytes.now c.args.view.base c.args.view.inside c.args.view.words (omega (arith, r.room)) r.told c.args.nest out (nat_lt c.args.nest.begin (length out)) c.args.end r.flat r.high r.begin
    (ltb-true c.args.nest.begin (length out)) c.extend_from_slice.new.self.items _ (c.in_ok-extend_from_slice.ensures.items ∙ ap (λ (l : List ℕ). out ++ l) c.with_feeds.ensures) refl
    (λ _. refl) (λ some. absurd (omega (arith, some, c.if-end-eq0.true)))

pub returns-else-end-eq0-clause-led : goal.returns-else-end-eq0-clause-led
returns-else-end-eq0-clause-led c =
    let r = c.requires in
    let out = c.args.lines.now.items in
    let v = chunk c.args.view.base 64 c.args.bytes.now in
    let room : c.args.view.base + 64 ≤ length c.args.bytes.now = omega (arith, r.room) in
    let is : c.extend_from_slice.new.self.items ≡ out ++ map fed v = c.in_ok-extend_from_slice.ensures.items ∙ ap (λ (l : List ℕ). out ++ l) c.with_feeds.ensures in
    let long : c.len.result ≡ length out + length (map fed v) = c.len.ensures ∙ c.extend_from_slice.new.self.ok.0 ∙ ap length is ∙ length-append out (map fed v) in
    let all : length (map fed v) ≡ length v = length-map v fed in
    let block : length v ≡ 64 = length-chunk c.args.view.base 64 c.args.bytes.now room in
    led_flat c.args.bytes.now c.args.view.base c.args.view.inside c.args.view.words room r.told c.args.nest out (nat_lt c.args.nest.begin (length out)) c.args.end r.flat r.high r.begin
    (ltb-true c.args.nest.begin (length out)) c.extend_from_slice.new.self.items _ is refl
    (λ none. absurd (c.if-end-eq0.false none)) (λ _. omega (arith, long, all, block, r.flat.within))

use Rattle.std.proofs.Common.{arith, ap, length, subst, sym, rules, take, ◌≡◌, ◌∙◌, ◌++◌, ◌-◌, ◌/◌, List}
use Rattle.std.specs.Prelude.{replicate}
use Rattle.jx_edit.specs.inside.Chunks.{ChunkValue, replaced}
use Rattle.jx_edit.specs.inside.Sums.{AreSumsBut}
use Rattle.jx_edit.specs.declared.chunking.sums.Sum.{Sum}
use Rattle.jx_edit.proofs.Groups.{kept_items, length_replaced, sums_exchanged, sums_moved}
use Rattle.jx_edit.proofs.chunking.patch.put.Goals as goal

pub renew-requires-clause-others : goal.renew-requires-clause-others
renew-requires-clause-others c =
    let cs = c.args.chunks.now.items in
    let made = c.args.made.items in
    let first = c.args.first in
    let last = c.args.last in
    let count : c.len.result ≡ length made = search rules in
    let groups : c.len-then-len-last.result ≡ length c.args.sums.now.items = search rules in
    let same : length made ≡ last - first = omega (arith, count, c.if-len-last.true) in
    let put = c.exchange.ensures ∙ ap (λ (xs : List ChunkValue). replaced first last made xs) c.deref_mut.ensures.value in
    let many : length c.exchange.new.chunks ≡ length c.deref_mut.result.now =
    omega (arith, ap length put, length_replaced cs made first last c.requires.order c.requires.within, same, ap length c.deref_mut.ensures.value, c.requires.order, c.requires.within) in
    let is =
    c.deref.ensures.value
    ∙ kept_items c.args.chunks.now.len cs c.deref_mut.result.now c.exchange.new.chunks c.deref_mut.ensures.value (omega (arith, c.deref_mut.ensures.len)) many
    ∙ put in
    subst (λ (ss : List Sum). AreSumsBut (first / 64) c.min-end.result c.deref.result.now ss) (sym c.deref_mut-then-len-last.ensures.value)
    (sums_exchanged cs c.deref.result.now made c.args.sums.now.items first last (first / 64) c.min-end.result c.requires.order c.requires.within same is (omega arith)
    (λ i low high. omega (arith, low, high, c.min-end.ensures, groups)) c.requires.sums)

pub unreachable-requires : goal.unreachable-requires
unreachable-requires c =
    let count : c.len-2.result ≡ length c.args.made.items = search rules in
    let total : c.len-3.result ≡ length c.replace.new.chunks.items = search rules in
    let groups : c.args.sums.now.len ≡ length c.args.sums.now.items = search rules in
    omega (
      arith,
      c.in-Err.ensures.full,
      c.in_ok-reserve.ensures.ok,
      c.in_ok-reserve.ensures.len,
      c.groups_for.ensures.enough,
      c.groups_for-end.ensures.few,
      count,
      total,
      groups,
      ap length c.in_ok-replace.ensures.ok,
      length_replaced c.args.chunks.now.items c.args.made.items c.args.first c.args.last c.requires.order c.requires.within,
      c.requires.order,
      c.requires.within,
      c.requires.sums.covers,
    )

pub renew-requires-2-clause-others : goal.renew-requires-2-clause-others
renew-requires-2-clause-others c =
    let total : c.len-3.result ≡ length c.replace.new.chunks.items = search rules in
    let groups : c.args.sums.now.len ≡ length c.args.sums.now.items = search rules in
    let end = c.groups_for-end.result in
    sums_moved c.args.chunks.now.items c.deref-2.result.now c.args.made.items c.args.sums.now.items c.deref_mut-2.result.now c.args.first c.args.last (c.args.first / 64) end
    c.reserve.new.self.len c.unknown.result c.requires.order c.requires.within (c.deref-2.ensures.value ∙ c.in_ok-replace.ensures.ok) (omega arith)
    (omega (arith, c.groups_for-end.ensures.enough, total, ap length c.deref-2.ensures.value)) (omega (arith, c.in_ok-reserve.ensures.len, groups))
    (c.deref_mut-2.ensures.value ∙ c.in-Ok.ensures.items
    ∙ ap (λ (xs : List Sum). take end xs ++ replicate (end - c.reserve.new.self.len) c.unknown.result) c.in_ok-reserve.ensures.items)
    c.requires.sums

-- The bytes so far are walked over; behind the first stop they end outside of strings.
use Rattle.std.proofs.Common.{◌≡◌, ◌+◌, ◌-◌, ◌<◌, ◌≤◌}
use Rattle.jx_compact.specs.declared.place.Place.TheVariants.{Between}
use Rattle.jx_each.specs.inside.Blocks.{place_at}
use Rattle.jx_each.specs.inside.Stretches.{IsWalked}
use Rattle.jx_each.proofs.deep.walk_block.Given as goal

abbrev pub invariant-loop-at : goal.invariant-loop-at
invariant-loop-at l = record {
  within : l.at ≤ 64;
  order : l.start ≤ l.fn.walk.end + l.at;
  first : l.at ≡ 0 → 1 < l.height;
  outside : 0 < l.at → place_at l.inside l.words l.at ≡ Between;
  high : l.height ≤ l.fn.walk.height + l.at;
  walked : IsWalked l.takes l.bytes l.fn.walk l.initial.part.items
      (record { start = l.start; end = l.fn.walk.end + l.at; place = place_at l.inside l.words l.at; height = l.height }) l.part.items;
}

abbrev pub decreases-loop-at : goal.decreases-loop-at
decreases-loop-at l = 64 - l.at

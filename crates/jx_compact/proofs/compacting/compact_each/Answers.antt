use Rattle.std.proofs.Common.{◌≡◌, ℕ, suc, ◌+◌, ◌<◌, List, ◌∷◌, ◌++◌, length, drop, get_or, sym, ◌∙◌, ap, arith, add-one}
use Rattle.std.proofs.Math.Seq.{drop-cons}
use Rattle.jx_compact.specs.declared.place.Place.{Place}
use Rattle.jx_compact.specs.Compact.{compact_from, kept, next, place_behind}
use Rattle.jx_compact.proofs.Compacts.{one_more}
use Rattle.jx_compact.proofs.compacting.compact_each.Goals as goal

pub loop-byte-preserved : goal.loop-byte-preserved
loop-byte-preserved c =
    let xs : List ℕ = c.args.bytes.now in
    let i : ℕ = c.loop-byte.byte-index in
    let b : ℕ = get_or xs i 0 in
    let place : Place = c.loop-byte.place in
    let out : List ℕ = c.loop-byte.out.items in
    let within : i < length xs = omega arith in
    let more : i + 1 ≡ suc i = add-one i in
    record {
      items =
          ap (λ (x : List ℕ). x ++ compact_from c.next-place.result (drop (i + 1) xs)) c.push_kept.ensures.items
          ∙ ap (λ (p : Place). (out ++ kept place b) ++ compact_from p (drop (i + 1) xs)) c.next-place.ensures
          ∙ one_more place out (drop (i + 1) xs) b
          ∙ ap (λ (k : ℕ). out ++ compact_from place (b ∷ drop k xs)) more
          ∙ ap (λ (r : List ℕ). out ++ compact_from place r) (sym (drop-cons xs i 0 within))
          ∙ c.loop-byte.invariant.items;
      behind =
          ap (λ (p : Place). place_behind p (drop (i + 1) xs)) c.next-place.ensures
          ∙ ap (λ (k : ℕ). place_behind (next place b) (drop k xs)) more
          ∙ ap (λ (r : List ℕ). place_behind place r) (sym (drop-cons xs i 0 within))
          ∙ c.loop-byte.invariant.behind;
      room = omega (arith, c.push_kept.ensures.len, c.push_kept.ensures.room, c.loop-byte.invariant.room);
      grown = omega (arith, c.push_kept.ensures.room, c.loop-byte.invariant.grown);
    }

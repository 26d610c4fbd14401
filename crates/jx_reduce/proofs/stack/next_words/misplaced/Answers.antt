use Rattle.std.proofs.Common.{◌<◌, ◌^◌, ◌∙◌, ap, sym, not, bit_and, bit_or}
use Rattle.std.specs.Prelude.{◌||◌, ◌&&◌}
use Rattle.std.proofs.lemmas.Nat.{or_lt}
use Rattle.std.proofs.lemmas.Bool.{or_left, or_right}
use Rattle.jx_lex.specs.inside.Bits.{bit}
use Rattle.jx_lex.proofs.Bits.{bit-and, bit-or}
use Rattle.jx_block.proofs.WordsTell.{and_but, neither}
use Rattle.jx_reduce.proofs.BlockBits.{bit-or_3, bit-none_of_3}
use Rattle.jx_reduce.proofs.stack.next_words.misplaced.Goals as goal

pub returns : goal.returns
unfolding bit
returns c k lt none =
    let t = c.args.kinds.now in
    let v = c.args.value in
    let n = c.args.name in
    let f = c.args.first in
    let either : bit_or v n < 2 ^ 64 = or_lt 64 v n c.ranges.value.fits c.ranges.name.fits in
    let after = bit-none_of_3 v n f k (or_lt 64 (bit_or v n) f either c.ranges.first.fits) lt in
    let p = neither _ c.against-6.result k none in
    let q = neither _ c.against-5.result k p.0 in
    let r = neither _ c.against-4.result k q.0 in
    let s = neither _ c.against-3.result k r.0 in
    let u = neither c.against.result c.against-2.result k s.0 in
    let three = bit-or_3 t.scalars t.open_arrays t.open_objects k in
    record {
      comma = λ set. sym after ∙ c.against.ensures k lt u.0 set;
      colon = λ set. sym (and_but f (bit_or v n) k either lt ∙ ap (λ b. not b && bit f k) (bit-or v n k)) ∙ c.against-2.ensures k lt u.1 set;
      string = λ set. sym (bit-or v n k) ∙ c.against-3.ensures k lt s.1 set;
      scalar = λ set. c.against-4.ensures k lt r.1 (three ∙ or_left _ _ (or_left (bit t.scalars k) (bit t.open_arrays k) set));
      open_array = λ set. c.against-4.ensures k lt r.1 (three ∙ or_left _ _ (or_right (bit t.scalars k) (bit t.open_arrays k) set));
      open_object = λ set. c.against-4.ensures k lt r.1 (three ∙ or_right _ (bit t.open_objects k) set);
      close_array = λ set. sym (bit-or _ _ k ∙ (λ i. bit-and v f k i || after i)) ∙ c.against-5.ensures k lt q.1 set;
      close_object = λ set. sym (bit-or _ _ k ∙ (λ i. (and_but (bit_and n f) v k c.ranges.value.fits lt ∙ ap (λ b. not (bit v k) && b) (bit-and n f k)) i || after i)) ∙ c.against-6.ensures k lt p.1 set;
    }

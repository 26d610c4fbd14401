use Rattle.std.proofs.Common.{◌≡◌, ◌+◌, ◌-◌, ◌++◌, length, take, drop, sym, ap, ◌∙◌, arith}
use Rattle.std.specs.Simd.Lanes.{chunk}
use Rattle.std.proofs.lemmas.Simd.{length-chunk, take_more_put_chunk}
use Rattle.jx_each.proofs.elements.put_block.Goals as goal

pub returns-clause-copied : goal.returns-clause-copied
returns-clause-copied c =
    let a = c.args in
    let v = chunk a.from 64 a.bytes.now in
    let long : length v ≡ 64 = length-chunk a.from 64 a.bytes.now c.requires.bytes in
    let n : a.from + 64 - a.from ≡ 64 = omega arith in
    take_more_put_chunk a.at a.made.now v (a.at + 64) (omega (arith, long)) c.requires.room
    ∙ ap (λ m. take a.at a.made.now ++ take m (drop a.from a.bytes.now)) (sym n)

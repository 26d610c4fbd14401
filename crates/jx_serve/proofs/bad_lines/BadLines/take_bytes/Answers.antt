use Rattle.std.proofs.Common.{◌≡◌, ◌≤◌, arith, length, refl, take, subst, List, ℕ}
use Rattle.std.proofs.lemmas.List.{length-take-le}
use Rattle.jx_serve.specs.inside.LineTables.{HasBad}
use Rattle.jx_serve.proofs.LineTables.{taken_more}
use Rattle.jx_serve.proofs.bad_lines.BadLines.take_bytes.Goals as goal

pub loop-at-preserved : goal.loop-at-preserved
loop-at-preserved c =
    let bytes : List ℕ = c.args.document.now.bytes in
    let at : ℕ = c.loop-at.at in
    let n : ℕ = c.in_ok-at.field-0 in
    let piece : List ℕ = c.chunk_at-piece.result.now in
    let near : ℕ = c.min-near.result in
    let least = c.min-near.ensures in
    let below = c.loop-at-test.true in
    let within : near ≤ length piece = omega (arith, least) in
    let short : length (take near piece) ≡ near = length-take-le near piece within in
    let low : n ≤ length (take near piece) = c.in_ok-at.ensures.within in
    let end = c.in_ok-at.ensures.end in
    let before = c.loop-at.invariant.end in
    record {
      within = omega (arith, low, short, least, below);
      end = omega (arith, end, before);
      bad = λ settings h.
          subst (λ (l : List ℕ). HasBad settings l c.take_line.new.self.bad.items c.take_line.new.self.reader)
          (taken_more bytes piece (take near piece) at near n c.chunk_at-piece.ensures.part within refl low)
          (c.in_ok-at.ensures.bad settings (take at bytes) (c.loop-at.invariant.bad settings h));
    }

use Rattle.std.proofs.Common.{◌≡◌, ◌∷◌, [], arith, true, sym, ◌∙◌}
use Rattle.jx_maps.specs.inside.Bundle.{is_apart}
use Rattle.jx_maps.proofs.ReadingOn.{reads-none, reads-step}
use Rattle.jx_lex.proofs.Slices.{slice-none}
use Rattle.jx_maps.proofs.two_tracks.read_pair.Goals as goal

pub loop-i-init : goal.loop-i-init
loop-i-init c =
    let b = c.requires in
    record { low = omega arith; high = b.0; read = rw (slice-none c.args.text.now c.args.from) (reads-none c.args.from (c.args.first.now ∷ c.args.second.now ∷ [])) }

pub loop-i-preserved : goal.loop-i-preserved
loop-i-preserved c =
    let v = c.loop-i.invariant in
    let b = c.in_ok-i.ensures.bounds in
    let to = c.requires.1 in
    let from = v.low in
    let apart : is_apart c.loop-i.first.next c.loop-i.second.next ≡ true = rw (← c.next.ensures, ← c.next-in-loop-i.ensures) (sym c.are_apart.ensures ∙ c.if-are_apart.true) in
    record {
      low = omega (arith, b, from);
      high = b.1;
      read = reads-step c.args.text.now c.args.from c.loop-i.i c.in_ok-i.i c.args.first.now c.args.second.now c.loop-i.first c.loop-i.second c.read.new.self c.read-in-loop-i.new.self
          c.read_plain.new.first c.read_plain.new.second v.low (omega (arith, to, c.loop-i-test.true)) b.0 (omega (arith, b, to)) v.read apart c.in_ok-read.ensures c.in_ok-read-2.ensures c.in_ok-i.ensures.read;
    }

use Rattle.std.proofs.Common.{arith, refl}
use Rattle.jx_maps.proofs.SideBySide.{apart-step}
use Rattle.jx_maps.proofs.ReadingOn.{reads-none}
use Rattle.jx_lex.proofs.Slices.{slice-none}
use Rattle.jx_maps.proofs.side_by_side.read_apart.Goals as goal

pub loop-i-init : goal.loop-i-init
loop-i-init c =
    let b = c.requires in
    record { low = omega arith; high = b.0; read = rw (slice-none c.args.text.now c.args.from) (reads-none c.args.from c.args.segments.now) }

pub loop-i-preserved : goal.loop-i-preserved
loop-i-preserved c =
    let v = c.loop-i.invariant in
    let b = c.still_end-i.ensures.bounds in
    let fits = c.requires.1 in
    let from = v.low in
    record {
      low = omega (arith, b, from);
      high = b.1;
      read = apart-step c.args.text.now c.args.from c.loop-i.i c.still_end-i.result c.args.segments.now c.loop-i.segments c.read_each.new.segments
          v.low (omega (arith, fits, c.loop-i-test.true)) b.0 (omega (arith, b, fits)) v.read (c.if-are_many_apart.ensures refl) c.in_ok-read_each.ensures c.still_end-i.ensures.kept;
    }

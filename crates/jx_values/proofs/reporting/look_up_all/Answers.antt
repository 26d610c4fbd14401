use Rattle.std.specs.Prelude.{map, string_bytes}
use Rattle.std.proofs.Common.{rules}
use Rattle.jx_values.proofs.Looks.{looks_on}
use Rattle.jx_values.proofs.reporting.look_up_all.Goals as goal

pub loop-preserved : goal.loop-preserved
loop-preserved g c = record {
  reader = search rules;
  looked = looks_on c.args.settings.now (map string_bytes c.args.spelt.now) (g.S.Source.remaining c.args.reader.now) (g.S.Source.remaining c.loop.reader) (g.S.Source.remaining c.read.new.self) _ c.loop.values c.read-in-Ok.new.self c.loop.invariant.looked c.in-Ok.ensures.bytes.0 c.in_ok-read-in-Ok.ensures;
}

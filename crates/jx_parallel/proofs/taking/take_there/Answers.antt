use Rattle.std.proofs.Common.{List, ℕ, subst}
use Rattle.std.specs.Prelude.{Option}
use Rattle.jx_parallel.specs.Parts.{GoesOn}
use Rattle.jx_parallel.proofs.GoesOn.{and_then}
use Rattle.jx_parallel.proofs.taking.take_there.Goals as goal

pub returns-clause-read : goal.returns-clause-read
returns-clause-read g c =
    let has = g.L.PartReader.has_read c.args.rule.now in
    and_then (g.F.SharedAt.content c.args.file.now) has c.args.reader.now c.read_to.new.reader c.take.new.reader c.in_ok-read_to.ensures.read
    (subst (λ (known : Option (List ℕ)). GoesOn known has c.read_to.new.reader c.take.new.reader) c.requires.text c.in_ok-take.ensures)

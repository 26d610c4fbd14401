use Rattle.std.proofs.Common.{refl, subst, sym}
use Rattle.jx_line_values.specs.inside.ValuesTeller.{HasRead, ValuesTellerValue}
use Rattle.jx_line_values.proofs.Tells.{read_more}
use Rattle.jx_line_values.proofs.values_teller.ValuesTeller.go_on.Goals as goal

pub returns : goal.returns
returns c = λ task before gave h.
    let i = c.self.inside in
    let old : ValuesTellerValue = record { task = i.task.now; cutter = i.cutter; end = i.end } in
    read_more task before c.args.bytes.now gave old _ (subst (λ (v : ValuesTellerValue). HasRead task before gave v) (sym c.self.view_is) h) refl refl c.in_ok-feed.ensures

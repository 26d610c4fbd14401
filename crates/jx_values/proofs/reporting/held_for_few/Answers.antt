use Rattle.std.specs.Prelude.{String, map, string_bytes}
use Rattle.std.specs.declared.alloc.Global.{Global}
use Rattle.std.proofs.Common.{◌<◌, ◌≤◌, ℕ, List, subst}
use Rattle.std.proofs.lemmas.Result.{err_from_is_err_and}
use Rattle.jx_ends.specs.declared.report_fault.ReportFault.TheVariants as fault
use Rattle.jx_ends.proofs.Faults.{same_fault}
use Rattle.jx_report.specs.Reports.{greatest_length}
use Rattle.jx_values.specs.inside.Kept.{AreValuesRead}
use Rattle.jx_values.proofs.reporting.held_for_few.Goals as goal

pub returns-in_err-count_pieces-clause-pieces : goal.returns-in_err-count_pieces-clause-pieces
returns-in_err-count_pieces-clause-pieces g c = λ is.
    let p = err_from_is_err_and c.from_residual-in_err-count_pieces.result c.from_residual-in_err-count_pieces.ensures.1 in
    let all = c.in_ok-look_up_all.ensures.ok in
    record {
      text = all.text;
      read = all.read;
      many =
          subst (λ (n : ℕ). greatest_length c.args.task.now.piece < n) (c.end.ensures c.args.task.now.settings _ all.text all.looked)
          (c.count_pieces.ensures.pieces
          (same_fault c.count_pieces.result c.from_residual-in_err-count_pieces.result c.in_err-count_pieces.field-0.0 p.0 fault.Pieces c.in_err-count_pieces.was p.1 p.2 is));
    }

pub returns-clause-ok : goal.returns-clause-ok
returns-clause-ok g c =
    let all = c.in_ok-look_up_all.ensures.ok in
    record {
      text = all.text;
      read = all.read;
      few = subst (λ (n : ℕ). n ≤ greatest_length c.args.task.now.piece) (c.end.ensures c.args.task.now.settings _ all.text all.looked) c.in_ok-count_pieces.ensures.few;
      answer = c.in_ok-held.ensures all.text
          (subst (λ (ps : List (String Global)). AreValuesRead c.args.task.now.settings (map string_bytes ps) all.text c.look_up_all.new.values) c.as_slice-spelt.ensures.value all.looked);
    }

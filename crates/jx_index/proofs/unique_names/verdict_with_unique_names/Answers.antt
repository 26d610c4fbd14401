use Rattle.std.proofs.Common.{ℕ, Option, length, refl, sym}
use Rattle.std.proofs.lemmas.Result.{IfErr-at_err, IfOk-at_ok}
use Rattle.jx_run.specs.declared.texts.verdict.Refusal.{Refusal}
use Rattle.jx_run.specs.declared.texts.verdict.Verdict.TheVariants.{Accepted, Refused}
use Rattle.jx_run.specs.Text.{IsText}
use Rattle.jx_run.specs.Tree.{Tree}
use Rattle.jx_run.specs.Verdict.{Judged}
use Rattle.jx_index.specs.ByNames.{no_text}
use Rattle.jx_index.specs.Repeats.{IsLeast, IsRepeat}
use Rattle.jx_index.specs.Rows.{rows}
use Rattle.jx_index.specs.Settled.{rest_from}
use Rattle.jx_index.proofs.RowsAlone.{unless_repeated}
use Rattle.jx_index.proofs.unique_names.verdict_with_unique_names.Goals as goal

pub returns-in-Refused : goal.returns-in-Refused
returns-in-Refused g c = record { verdict = no_text (c.in-Refused.ensures.verdict c.args.settings.now refl) }

pub returns-in-Err : goal.returns-in-Err
returns-in-Err g c =
    let text = c.args.text.now in
    let settings = c.args.settings.now in
    let start = c.in-Skip.count in
    record {
      verdict =
          no_text
          (c.index_behind_a_front.ensures.verdict settings text start (Refused c.in-Err.refusal) (sym c.in-Skip.ensures.value)
          (IfErr-at_err (λ (f : Refusal). Judged start (rest_from start text) settings.depth (Refused f)) c.in-Err.is c.in_ok-read.ensures.refused));
    }

pub returns-in-Ok : goal.returns-in-Ok
returns-in-Ok g c =
    let text = c.args.text.now in
    let settings = c.args.settings.now in
    let start = c.in-Skip.count in
    let read = c.in_ok-read.ensures in
    record {
      verdict =
          unless_repeated settings text start (λ i k. c.index_behind_a_front.ensures.index settings text start i (sym c.in-Skip.ensures.value) k) c.requires.unique c.in-Ok.name
          (IfOk-at_ok (λ (name : Option ℕ). Judged start (rest_from start text) settings.depth Accepted) c.in-Ok.is read.accepted)
          (IfOk-at_ok (λ (name : Option ℕ). (limit : ℕ) (tree : Tree) → IsText text start (length text) limit tree → IsLeast (IsRepeat text (rows tree)) name) c.in-Ok.is read.name)
          c.accepted_unless.result c.accepted_unless.ensures;
    }

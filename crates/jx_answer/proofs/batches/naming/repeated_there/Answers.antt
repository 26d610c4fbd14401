use Rattle.std.proofs.Common.{ℕ, Option, sym, subst}
use Rattle.std.proofs.lemmas.Result.{IfErr-at_err, IfOk-at_ok}
use Rattle.jx_run.specs.declared.texts.verdict.Refusal.{Refusal}
use Rattle.jx_run.specs.declared.texts.verdict.Verdict.TheVariants.{Accepted, Refused}
use Rattle.jx_run.specs.Text.{IsText}
use Rattle.jx_run.specs.Tree.{Tree}
use Rattle.jx_run.specs.Verdict.{Judged}
use Rattle.std.specs.Prelude.{length, slice_range}
use Rattle.jx_index.specs.Repeats.{IsLeast, IsRepeat}
use Rattle.jx_index.specs.Rows.{rows}
use Rattle.jx_answer.proofs.NamedThere.{never_refused, repeats_there}
use Rattle.jx_answer.proofs.batches.naming.repeated_there.Goals as goal

pub returns-in-Ok : goal.returns-in-Ok
returns-in-Ok c =
    let bytes = c.args.bytes.now in
    let depth = c.args.depth in
    let all = Judged 0 (slice_range bytes 0 (length bytes)) depth in
    let judged = IfOk-at_ok (λ (name : Option ℕ). all Accepted) c.in-Ok.is c.in_ok-read.ensures.accepted in
    let least = IfOk-at_ok (λ (name : Option ℕ). (limit : ℕ) (tree : Tree) → IsText bytes 0 (length bytes) limit tree → IsLeast (IsRepeat bytes (rows tree)) name) c.in-Ok.is c.in_ok-read.ensures.name in
    λ input end tree stands fits d.
    subst (λ (name : Option ℕ). IsLeast (IsRepeat input (rows tree)) name) (sym c.name_behind.ensures)
    (repeats_there c.unique_tree.ensures.one_tree c.args.at end depth input bytes c.in-Ok.name judged least stands fits tree d)

pub returns-in-Err : goal.returns-in-Err
returns-in-Err c =
    let bytes = c.args.bytes.now in
    let depth = c.args.depth in
    let judged = IfErr-at_err (λ (r : Refusal). Judged 0 (slice_range bytes 0 (length bytes)) depth (Refused r)) c.in-Err.is c.in_ok-read.ensures.refused in
    λ input end tree stands fits d. absurd (never_refused c.reader_and_grammar.ensures.sound c.reader_and_grammar.ensures.complete c.args.at depth bytes _ judged tree d)

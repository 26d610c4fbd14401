use Rattle.std.proofs.Common.{◌≤◌, ◌<◌, ℕ, map, sym, subst, rules}
use Rattle.std.specs.Prelude.{string_bytes}
use Rattle.jx_task.specs.declared.task.Task.{Task}
use Rattle.jx_report.specs.Elements.{judged_lines, exit_past_judged}
use Rattle.jx_report.specs.Output.{Output}
use Rattle.jx_report.specs.Reports.{greatest_length}
use Rattle.jx_ends.specs.declared.exit.Exit.TheVariants.{Good}
use Rattle.jx_report.specs.inside.Batches.{IsReadingOf}
use Rattle.jx_words.specs.inside.Lines.{verdict_exit, verdict_line}
use Rattle.jx_report.specs.inside.Replies.{reply_exit, reply_output}
use Rattle.jx_words.proofs.Verdicts.{says_verdict}
use Rattle.jx_report.proofs.Answers.{judged_output}
use Rattle.jx_report.proofs.reading.Reading.into_reply.Goals as goal

pub returns-then-is_err-clause-pieces : goal.returns-then-is_err-clause-pieces
returns-then-is_err-clause-pieces c = λ is text h.
    let many : greatest_length c.args.command.now.piece < c.end.result = search rules in
    subst (λ (n : ℕ). greatest_length c.args.command.now.piece < n) (c.end.ensures.length c.args.command.now.task c.args.command.now.settings text h) many

pub returns-in_ok-elements-in-Elements-clause-ok : goal.returns-in_ok-elements-in-Elements-clause-ok
returns-in_ok-elements-in-Elements-clause-ok c = λ text h.
    let task = c.args.command.now.task in
    let settings = c.args.command.now.settings in
    let taken = subst (IsReadingOf task settings text) c.in-Elements.is h in
    let elements = c.in_ok-elements-in-Elements.elements.items in
    let few : c.end.result ≤ greatest_length c.args.command.now.piece = search rules in (
      subst (λ (n : ℕ). n ≤ greatest_length c.args.command.now.piece) (c.end.ensures.length task settings text h) few,
      subst (λ (t : Task). Output t settings text (judged_lines elements) (exit_past_judged Good elements)) (sym taken.0)
          (judged_output text settings elements (c.in_ok-elements-in-Elements.ensures settings text taken.1)),
    )

pub returns-in_ok-reply-in-Pointers-clause-ok : goal.returns-in_ok-reply-in-Pointers-clause-ok
returns-in_ok-reply-in-Pointers-clause-ok c = λ text h.
    let task = c.args.command.now.task in
    let settings = c.args.command.now.settings in
    let was = subst (IsReadingOf task settings text) c.in-Pointers.is h in
    let reply = c.in_ok-reply-in-Pointers.reply in
    let few : c.end.result ≤ greatest_length c.args.command.now.piece = search rules in (
      subst (λ (n : ℕ). n ≤ greatest_length c.args.command.now.piece) (c.end.ensures.length task settings text h) few,
      subst (λ (t : Task). Output t settings text (reply_output reply) (reply_exit reply)) (sym was.task_is)
          (c.in_ok-reply-in-Pointers.ensures settings (map string_bytes was.spelt.items) text was.looked_up),
    )

pub returns-in_ok-verdict-in-Names-clause-ok : goal.returns-in_ok-verdict-in-Names-clause-ok
returns-in_ok-verdict-in-Names-clause-ok c = λ text h.
    let task = c.args.command.now.task in
    let settings = c.args.command.now.settings in
    let was = subst (IsReadingOf task settings text) c.in-Names.is h in
    let verdict = c.in_ok-verdict-in-Names.verdict in
    let few : c.end.result ≤ greatest_length c.args.command.now.piece = search rules in (
      subst (λ (n : ℕ). n ≤ greatest_length c.args.command.now.piece) (c.end.ensures.length task settings text h) few,
      subst (λ (t : Task). Output t settings text (verdict_line verdict) (verdict_exit verdict)) (sym was.0) (verdict, c.in_ok-verdict-in-Names.ensures.verdict settings text was.1, says_verdict verdict),
    )

use Rattle.std.proofs.Common.{subst}
use Rattle.std.specs.Prelude.{Result, Vec}
use Rattle.std.specs.declared.alloc.Global.{Global}
use Rattle.jx_run.specs.declared.texts.verdict.Refusal.{Refusal}
use Rattle.jx_words.specs.declared.pointer_answer.PointerAnswer.{PointerAnswer}
use Rattle.jx_words.specs.Answers.{AreAnswersBy}
use Rattle.jx_report.proofs.PointerReads.{says_refused}
use Rattle.jx_report.proofs.PointerReplies.{reply_is}
use Rattle.jx_report.proofs.pointer_reply.reply_of_answers.Goals as goal

pub returns-in-Err : goal.returns-in-Err
returns-in-Err c = λ settings spelt text h.
    says_refused settings spelt text c.in-Err.refusal (subst (λ (r : Result (Vec PointerAnswer Global) Refusal). AreAnswersBy settings text spelt r) c.in-Err.is h)

pub returns-in-Ok : goal.returns-in-Ok
returns-in-Ok c = λ settings spelt text h.
    reply_is settings text spelt c.in-Ok.answers (subst (λ (r : Result (Vec PointerAnswer Global) Refusal). AreAnswersBy settings text spelt r) c.in-Ok.is h)

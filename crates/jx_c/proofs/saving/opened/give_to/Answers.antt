use Rattle.std.proofs.Common.{subst, sym}
use Rattle.jx_c.specs.Opened.{AreOthers, IsOfNone}
use Rattle.jx_c.specs.declared.saving.opened.IndexWork.{IndexWork}
use Rattle.jx_c.proofs.saving.opened.give_to.Goals as goal

pub returns-in-Seeking-clause-changed : goal.returns-in-Seeking-clause-changed
returns-in-Seeking-clause-changed c = λ is. subst (λ (w : IndexWork). AreOthers c.args.saved.now w c.args.bytes.now) (sym c.in-Seeking.is) (c.give_to_walk.ensures.changed is)

pub returns-in-Seeking-clause-damaged : goal.returns-in-Seeking-clause-damaged
returns-in-Seeking-clause-damaged c = λ is. subst (λ (w : IndexWork). IsOfNone c.args.saved.now w c.args.bytes.now) (sym c.in-Seeking.is) (c.give_to_walk.ensures.damaged is)

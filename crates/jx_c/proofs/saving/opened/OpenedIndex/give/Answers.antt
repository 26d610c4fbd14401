use Rattle.std.proofs.Common.{subst}
use Rattle.jx_c.specs.Opened.{AreOthers, IsOfNone}
use Rattle.jx_c.specs.declared.saving.opened.IndexWork.{IndexWork}
use Rattle.jx_c.proofs.saving.opened.OpenedIndex.give.Goals as goal

pub returns-clause-changed : goal.returns-clause-changed
returns-clause-changed c = λ is. subst (λ (w : IndexWork). AreOthers c.args.self.now.saved w c.args.bytes.now) c.replace-work.ensures.value (c.give_to-given.ensures.changed is)

pub returns-clause-damaged : goal.returns-clause-damaged
returns-clause-damaged c = λ is. subst (λ (w : IndexWork). IsOfNone c.args.self.now.saved w c.args.bytes.now) c.replace-work.ensures.value (c.give_to-given.ensures.damaged is)

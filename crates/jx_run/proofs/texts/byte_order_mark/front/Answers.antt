use Rattle.std.proofs.Common.{sym, subst}
use Rattle.jx_run.specs.Front.{IsTold}
use Rattle.jx_run.proofs.texts.byte_order_mark.front.Goals as goal

pub returns-clause-verdict : goal.returns-clause-verdict
returns-clause-verdict c = subst (IsTold c.args.mark c.args.text.now) (sym c.seen.ensures) (c.beginning_of_a_text_by_its_front.ensures.told c.args.mark c.args.text.now)

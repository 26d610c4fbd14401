use Rattle.std.proofs.Common.{length, sym, ◌∙◌}
use Rattle.jx_run.specs.Front.{agreed}
use Rattle.jx_run.specs.Settings.{byte_order_mark}
use Rattle.jx_run.proofs.MarksAlone.{alone_here, refuses}
use Rattle.jx_run.proofs.sequences.mark_alone.is_mark_alone.Goals as goal

pub returns-in-Refused : goal.returns-in-Refused
returns-in-Refused c = record {
  alone = λ input seen within.
      let k = agreed input byte_order_mark in
      sym (alone_here input c.args.span within c.if-span-ne0.false c.if-span-ne3.false ∙ refuses k (length input) c.in-Refused.field-0 (sym seen ∙ c.in-Refused.is));
}

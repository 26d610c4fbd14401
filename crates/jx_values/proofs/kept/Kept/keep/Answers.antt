use Rattle.std.specs.Prelude.{slice_range}
use Rattle.std.proofs.Common.{◌++◌, ap, rules, sym, ◌∙◌}
use Rattle.jx_values.proofs.Keeps.{keeps_anew, keeps_more, keeps_on}
use Rattle.jx_values.proofs.kept.Kept.keep.Goals as goal

pub returns-then-wanted-base : goal.returns-then-wanted-base
returns-then-wanted-base c = λ text long h.
    keeps_anew text c.args.batch.now c.args.base c.min-skipped.result c.min-to.result c.extend_from_slice.new.self.items long (search rules) (search rules)
    (c.in_ok-extend_from_slice.ensures.items ∙ ap (λ l. l ++ slice_range c.args.batch.now c.min-skipped.result c.min-to.result) c.clear.ensures.items)

pub returns-then-len-base : goal.returns-then-len-base
returns-then-len-base c = λ text long h.
    keeps_more text c.args.batch.now c.args.base c.args.self.now.from c.min-to.result c.args.self.now.bytes.items c.extend_from_slice-then-len-base.new.self.items long h
    (sym (c.len.ensures ∙ c.args.self.now.bytes.ok.0) ∙ c.if-len-base.true) c.in_ok-extend_from_slice-2.ensures.items

pub returns : goal.returns
returns c = λ text long h. keeps_on text c.args.batch.now c.args.self.now.from c.args.self.now.bytes.items h

use Rattle.std.proofs.Common.{arith, ◌∙◌, ◌-◌, ◌++◌, ap, min, take, List, ℕ}
use Rattle.std.specs.List.{slice_range}
use Rattle.jx_run.specs.Settings.{byte_order_mark}
use Rattle.jx_edit.specs.Document.{DocumentValue}
use Rattle.jx_edit.proofs.Fronts.{copied, slice_front}
use Rattle.jx_edit.proofs.document.Document.bytes_between.Goals as goal

pub returns-then-skip-start : goal.returns-then-skip-start
returns-then-skip-start c =
    copied c.self.inside.front c.self.inside.rest.bytes c.args.start c.args.end c.skipped-skip.result c.in_ok-bytes.bytes.items c.self.invariant.short c.skipped-skip.ensures
    c.if-skip-start.true c.requires.order c.in_ok-bytes.ensures
    ∙ ap (λ (d : DocumentValue). slice_range d.bytes c.args.start c.args.end) c.self.view_is

pub returns : goal.returns
returns c =
    slice_front c.self.inside.front c.self.inside.rest.bytes c.args.start c.args.end c.min.result c.saturating_sub.result c.in_ok-bytes-2.bytes.items c.in_ok-behind.behind.items
    c.extend_from_slice.new.self.items c.self.invariant.short (omega arith) c.requires.order
    (c.min.ensures ∙ ap (min c.args.end) c.skipped-skip.ensures)
    (c.saturating_sub.ensures ∙ ap (λ (n : ℕ). c.args.end - n) c.skipped-skip.ensures)
    (c.in_ok-bytes-2.ensures.items ∙ ap (λ (n : ℕ). slice_range (take n byte_order_mark) c.args.start c.min.result) c.skipped-skip.ensures)
    c.in_ok-behind.ensures
    (c.in_ok-extend_from_slice.ensures.items ∙ ap (λ (t : List ℕ). c.in_ok-bytes-2.bytes.items ++ t) c.deref.ensures.value)
    ∙ ap (λ (d : DocumentValue). slice_range d.bytes c.args.start c.args.end) c.self.view_is

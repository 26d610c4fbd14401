use Rattle.std.proofs.Common.{◌≡◌, ◌∙◌, ℕ, List, [], length, take, true, sym, ap, subst}
use Rattle.jx_run.specs.declared.texts.settings.FrontMark.TheVariants.{Refused}
use Rattle.jx_run.specs.Elements.{part}
use Rattle.jx_ndjson.specs.Lines.{line}
use Rattle.jx_line_values.specs.inside.Adding.{IsAdded}
use Rattle.jx_line_values.proofs.InFront.{front_slice, no_bytes}
use Rattle.jx_line_values.proofs.Plain.{plain_of}
use Rattle.jx_line_values.proofs.rows_part.RowMaker.is_plain.Goals as goal

pub returns : goal.returns
returns c = λ is.
    let task = c.args.task.now in
    let row : List ℕ = c.add_line.new.ready.items in
    let told : List ℕ = c.add_line.new.told.items in
    let empty : length told ≡ 0 = ap length (sym c.deref.ensures.value) ∙ c.are_none.ensures is in
    let bytes : List ℕ = take c.args.len c.args.slice.now in
    let added = subst (λ (xs : List ℕ). IsAdded task Refused (line 1 (part 0 xs) true) c.clear.new.self.items row c.clear-2.new.self.items told) (front_slice c.args.slice.now c.args.len) c.in_ok-add_line.ensures in
    let from_row = subst (λ (xs : List ℕ). IsAdded task Refused (line 1 (part 0 bytes) true) xs row c.clear-2.new.self.items told) c.clear.ensures.items added in
    plain_of task 1 bytes row told (subst (λ (xs : List ℕ). IsAdded task Refused (line 1 (part 0 bytes) true) [] row xs told) c.clear-2.ensures.items from_row) (no_bytes told empty)

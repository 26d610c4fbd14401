use Rattle.std.proofs.Common.{◌≡◌, ◌-◌, ◌<◌, ◌≤◌, ℕ, List, [], ◌∷◌, ◌++◌, ap, arith, length, subst, take, ◌∙◌}
use Rattle.std.specs.Prelude.{slice_range}
use Rattle.jx_file_index.specs.declared.entry.Entry.{Entry}
use Rattle.jx_file_index.specs.Chunks.{IsCount}
use Rattle.jx_file_index.proofs.Counts.{first_counted, first_lowest, top_counted, top_lowest}
use Rattle.jx_file_index.proofs.index_decoding.lowest_of.Goals as goal

pub returns-then-kept-count-clause-counted : goal.returns-then-kept-count-clause-counted
returns-then-kept-count-clause-counted c =
    let i = c.args.index.now in
    let counted = subst (λ (x : ℕ). IsCount x i.size c.parts-count.result) c.bytes.ensures.value c.parts-count.ensures.counted in
    let len = c.len-kept.ensures in
    let ok = i.entries.ok.0 in
    let test = c.if-kept-count.true in
    let few : length i.entries.items < c.parts-count.result = omega (arith, len, ok, test) in
    top_counted i c.requires c.parts-count.result counted c.push.new.self.items few (c.in_ok-push.ensures.items ∙ ap (λ (ys : List Entry). ys ++ i.top ∷ []) c.new-lowest.ensures.items)

pub returns-then-kept-count-clause-lowest : goal.returns-then-kept-count-clause-lowest
returns-then-kept-count-clause-lowest c = λ es h levels.
    let i = c.args.index.now in
    let counted = subst (λ (x : ℕ). IsCount x i.size c.parts-count.result) c.bytes.ensures.value c.parts-count.ensures.counted in
    let len = c.len-kept.ensures in
    let ok = i.entries.ok.0 in
    let test = c.if-kept-count.true in
    let few : length i.entries.items < c.parts-count.result = omega (arith, len, ok, test) in
    top_lowest i c.requires c.parts-count.result counted c.push.new.self.items es few (c.in_ok-push.ensures.items ∙ ap (λ (ys : List Entry). ys ++ i.top ∷ []) c.new-lowest.ensures.items) h levels

pub returns-clause-counted : goal.returns-clause-counted
returns-clause-counted c =
    let i = c.args.index.now in
    let n = c.parts-count.result in
    let counted = subst (λ (x : ℕ). IsCount x i.size n) c.bytes.ensures.value c.parts-count.ensures.counted in
    let len = c.len-kept.ensures in
    let ok = i.entries.ok.0 in
    let test = c.if-kept-count.false in
    let many : n ≤ length i.entries.items = omega (arith, len, ok, test) in
    first_counted i c.requires n counted c.extend_from_slice.new.self.items many
    (c.in_ok-extend_from_slice.ensures.items
    ∙ ap (λ (ys : List Entry). ys ++ slice_range c.as_slice.result.now 0 n) c.new-lowest.ensures.items
    ∙ ap (λ (ys : List Entry). slice_range ys 0 n) c.as_slice.ensures.value
    ∙ ap (λ (k : ℕ). take k i.entries.items) (let e : n - 0 ≡ n = omega arith in e))

pub returns-clause-lowest : goal.returns-clause-lowest
returns-clause-lowest c = λ es h levels.
    let i = c.args.index.now in
    let n = c.parts-count.result in
    let counted = subst (λ (x : ℕ). IsCount x i.size n) c.bytes.ensures.value c.parts-count.ensures.counted in
    let len = c.len-kept.ensures in
    let ok = i.entries.ok.0 in
    let test = c.if-kept-count.false in
    let many : n ≤ length i.entries.items = omega (arith, len, ok, test) in
    first_lowest i c.requires n counted c.extend_from_slice.new.self.items es many
    (c.in_ok-extend_from_slice.ensures.items
    ∙ ap (λ (ys : List Entry). ys ++ slice_range c.as_slice.result.now 0 n) c.new-lowest.ensures.items
    ∙ ap (λ (ys : List Entry). slice_range ys 0 n) c.as_slice.ensures.value
    ∙ ap (λ (k : ℕ). take k i.entries.items) (let e : n - 0 ≡ n = omega arith in e))
    h levels

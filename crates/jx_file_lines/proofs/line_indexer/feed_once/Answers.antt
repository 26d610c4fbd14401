use Rattle.std.proofs.Common.{◌≡◌, ◌+◌, ◌++◌, ◌∷◌, [], ◌∙◌, ap, arith, length, subst, sym, take, ℕ, List}
use Rattle.std.proofs.lemmas.List.{length-append, length-take-le}
use Rattle.jx_file_lines.specs.Feeding.{AreEntered}
use Rattle.jx_file_lines.proofs.Entries.{entered_more, entered_whole, list_none, next_entry}
use Rattle.jx_file_lines.proofs.line_indexer.feed_once.Goals as goal

pub returns-then-slice-size-clause-entered : goal.returns-then-slice-size-clause-entered
returns-then-slice-size-clause-entered c = λ bytes was.
    let part = c.args.part.now.items in
    let entries = c.args.entries.now.items in
    let more = take c.args.size c.args.slice.now in
    let now = c.push_entry.new.entries.items in
    let none : part ≡ [] = list_none part c.args.part.now.len c.is_empty.result c.args.part.now.ok.0 c.is_empty.ensures c.if-is_empty.true in
    let bytes_are : part ++ more ≡ more = ap (λ (xs : List ℕ). xs ++ more) none in
    let taken : now ≡ entries ++ next_entry entries more ∷ [] = c.in_ok-push_entry.ensures in
    let is : now ≡ entries ++ next_entry entries (part ++ more) ∷ [] = taken ∙ ap (λ (xs : List ℕ). entries ++ next_entry entries xs ∷ []) (sym bytes_are) in
    let test = c.if-slice-size.true in
    let long : length more ≡ c.args.size = length-take-le c.args.size c.args.slice.now (omega (arith, test)) in
    subst (λ (xs : List ℕ). AreEntered c.args.size (bytes ++ more) now xs) (sym none)
    (entered_whole c.args.size bytes entries part was more now (ap length bytes_are ∙ long) is)

pub returns-in_ok-push_entry-2-clause-entered : goal.returns-in_ok-push_entry-2-clause-entered
returns-in_ok-push_entry-2-clause-entered c = λ bytes was.
    let part = c.args.part.now.items in
    let entries = c.args.entries.now.items in
    let more = take c.min-len.result c.args.slice.now in
    let full = c.extend_from_slice.new.self.items in
    let now = c.push_entry-then-len-size.new.entries.items in
    let items : full ≡ part ++ more = c.in_ok-extend_from_slice.ensures.items in
    let is : now ≡ entries ++ next_entry entries (part ++ more) ∷ [] =
    c.in_ok-push_entry-2.ensures ∙ ap (λ (xs : List ℕ). entries ++ next_entry entries xs ∷ []) (c.deref.ensures.value ∙ items) in
    let test = c.if-len-size.true in
    let l = c.len-2.ensures in
    let ok = c.extend_from_slice.new.self.ok.0 in
    let long : length full ≡ c.args.size = omega (arith, test, l, ok) in
    subst (λ (xs : List ℕ). AreEntered c.args.size (bytes ++ more) now xs) (sym c.clear.ensures.items)
    (entered_whole c.args.size bytes entries part was more now (ap length (sym items) ∙ long) is)

pub returns-else-len-size-clause-entered : goal.returns-else-len-size-clause-entered
returns-else-len-size-clause-entered c = λ bytes was.
    let part = c.args.part.now.items in
    let more = take c.min-len.result c.args.slice.now in
    let full = c.extend_from_slice.new.self.items in
    let items : full ≡ part ++ more = c.in_ok-extend_from_slice.ensures.items in
    let test = c.if-len-size.false in
    let l = c.len-2.ensures in
    let ok = c.extend_from_slice.new.self.ok.0 in
    let p : length (part ++ more) ≡ length part + length more = length-append part more in
    let n : length full ≡ length (part ++ more) = ap length items in
    let min_is = c.min-len.ensures in
    let had = c.len.ensures in
    let had_ok = c.args.part.now.ok.0 in
    let few : length more ≡ c.min-len.result = length-take-le c.min-len.result c.args.slice.now (omega (arith, min_is)) in
    let s = was.short in
    entered_more c.args.size bytes c.args.entries.now.items part was more full items (omega (arith, test, l, ok, p, n, min_is, had, had_ok, few, s))

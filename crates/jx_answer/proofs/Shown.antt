-- The elements of an input, by what a run over the whole of it shows.
use Rattle.std.proofs.Common.{◌≡◌, ℕ, ◌+◌, ◌<◌, List, [], ◌∷◌, ◌++◌, length, sym, ap, subst, ◌∙◌, append_assoc, arith}
use Rattle.std.specs.Prelude.{All, slice_range}
use Rattle.std.specs.List.{AllZip}
use Rattle.std.proofs.lemmas.List.Elements.{filter-append, All-filter}
use Rattle.jx_run.specs.Elements.{Part, part, part_span, before_separator, after_separators, elements, filled, has_bytes}
use Rattle.jx_run.specs.SeqRun.{IsMarked, MarkedValue}
use Rattle.jx_run.specs.Started.{StartedValue}
use Rattle.jx_run.specs.TextRun.{TextRunValue, IsTextRun, text_span}
use Rattle.jx_run.specs.Tree.{span}
use Rattle.jx_run.specs.MarkAlone.{part_of}
use Rattle.jx_answer.specs.declared.element.Element.{Element}
use Rattle.jx_answer.specs.Sequence.{IsElement, AreElements}
use Rattle.jx_answer.specs.inside.Pushed.{IsReadable, IsShown, PushesEach, PushesFilled, unmarked}
use Rattle.jx_answer.proofs.Pushing.{unmarked_is}
use Rattle.jx_answer.proofs.Readable.{IsMarkedIn, marked_parts, all_front, all_last, all_readable, answered, AllZip-append}

module _ (input : List ℕ) (before : TextRunValue) (done : List StartedValue) (after : TextRunValue) (shown : IsShown input before done after) where
  abbrev value : MarkedValue
  value = record { done = done; after = after }

  is_marked : IsMarked before.depth (after_separators 0 input) value
  is_marked = subst (λ n. IsMarked before.depth (after_separators n input) value) shown.start shown.summary.1

  all_marked : All (IsMarkedIn input) (is_marked.between ++ is_marked.last ∷ [])
  all_marked = subst (All (IsMarkedIn input)) is_marked.parts (marked_parts input)

  last_marked : IsMarkedIn input is_marked.last
  last_marked = all_last input is_marked.between is_marked.last all_marked

  between_marked : All (IsMarkedIn input) (filled is_marked.between)
  between_marked = All-filter has_bytes (IsMarkedIn input) is_marked.between (all_front input is_marked.between is_marked.last all_marked)

  pub done_readable : All (IsReadable input) done
  done_readable = all_readable input before.depth (filled is_marked.between) done is_marked.done between_marked

  pub last_behind : 0 < after.map.start
  last_behind =
      let at = is_marked.start in
      let behind = last_marked.behind in
      omega (arith, at, behind)

  -- the part at the place of the last run is the last part
  last_is : part_of input (text_span after) ≡ is_marked.last
  last_is =
      let at = is_marked.start in
      let end : after.map.end ≡ is_marked.last.at + length is_marked.last.bytes = is_marked.after.long ∙ ap (λ n. n + length is_marked.last.bytes) at in
      ap (λ n. part n (slice_range input n after.map.end)) at ∙ ap (λ n. part is_marked.last.at (slice_range input is_marked.last.at n)) end
      ∙ ap (part is_marked.last.at) last_marked.lies.bytes

  pub last_read : IsTextRun (slice_range input after.map.start after.map.end) after
  last_read = subst (λ (b : List ℕ). IsTextRun b after) (sym (ap (λ (p : Part). p.bytes) last_is)) is_marked.after

  first_place : part_span (part 0 (before_separator input)) ≡ text_span before
  first_place =
      ap (λ n. span n (n + length (before_separator input))) (sym shown.start) ∙ ap (span before.map.start) (sym shown.summary.0.long)

  -- the elements of the input, those behind separators parted as the run parts them
  parts_are : elements 0 input ≡ filled (part 0 (before_separator input) ∷ []) ++ (filled is_marked.between ++ filled (is_marked.last ∷ []))
  parts_are =
      filter-append has_bytes (part 0 (before_separator input) ∷ []) (after_separators 0 input)
      ∙ ap (λ ps. filled (part 0 (before_separator input) ∷ []) ++ ps) (ap filled is_marked.parts ∙ filter-append has_bytes is_marked.between (is_marked.last ∷ []))

  pub shown_elements : (one two three : List Element) → one ≡ [] ++ unmarked (text_span before) → PushesEach input done one two
      → PushesFilled input after.depth (part_of input (text_span after)) two three → AreElements input before.depth three
  shown_elements one two three h each last =
      let R = IsElement input before.depth in
      let middle = answered input before.depth (filled is_marked.between) done each.more is_marked.done between_marked each.each in
      let end = subst (λ (p : Part). AllZip R (filled (p ∷ [])) last.more) last_is
      (subst (λ (d : ℕ). AllZip (IsElement input d) (filled (part_of input (text_span after) ∷ [])) last.more) is_marked.depth last.each) in
      let all = AllZip-append R (filled (part 0 (before_separator input) ∷ [])) (filled is_marked.between ++ filled (is_marked.last ∷ []))
      (unmarked (text_span before)) (each.more ++ last.more) (unmarked_is input before.depth (before_separator input) (text_span before) first_place)
      (AllZip-append R (filled is_marked.between) (filled (is_marked.last ∷ [])) each.more last.more middle end) in
      let items : three ≡ unmarked (text_span before) ++ (each.more ++ last.more) =
      (last.new_is ∙ ap (λ (xs : List Element). xs ++ last.more) (each.new_is ∙ ap (λ (xs : List Element). xs ++ each.more) h)
      ∙ append_assoc (unmarked (text_span before)) each.more last.more) in
      subst (λ (ps : List Part). AllZip R ps three) (sym parts_are)
      (subst (λ (es : List Element). AllZip R (filled (part 0 (before_separator input) ∷ []) ++ (filled is_marked.between ++ filled (is_marked.last ∷ []))) es) (sym items) all)

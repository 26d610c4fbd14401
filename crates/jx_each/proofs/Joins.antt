-- How lines that were made apart are joined.
use Rattle.std.specs.Prelude.{All, IfSome, Option, Some, None, if◌then◌else◌, nat_lt, slice_range}
use Rattle.std.proofs.Common.{◌≡◌, ℕ, ◌+◌, ◌-◌, ◌≤◌, List, [], ◌++◌, length, take, drop, Bool, true, false, refl, sym, ap, ◌∙◌, arith}
use Rattle.std.proofs.lemmas.List.{append-nil, drop-take, length-take, take_min}
use Rattle.std.proofs.lemmas.List.Folds.{drop_split}
use Rattle.jx_lex.proofs.Running.{take-again}
use Rattle.jx_each.specs.declared.stand.LineStand.{LineStand}
use Rattle.jx_each.specs.Machine.{Aim, Made, run}
use Rattle.jx_each.proofs.Dues.{run_append}
use Rattle.jx_each.proofs.Taking.{run_given, with_given}
use Rattle.jx_each.specs.declared.section.Section.{Section}
use Rattle.jx_each.specs.Sections.{IsSection}
use Rattle.jx_each.specs.inside.Fronted.{IsFronted}
use Rattle.jx_each.specs.inside.Fronts.{sound_part}

abbrev pub made : LineStand → List ℕ → List ℕ → Made
made stand lines part = record { stand = stand; lines = lines; part = part }

-- the rest makes what all make
pub goes_on : (aim : Aim) (s t : LineStand) (lines part longer rest xs : List ℕ) (at to : ℕ) → at ≤ to → made t longer rest ≡ run aim (made s lines part) (slice_range xs at to)
    → run aim (made t longer rest) (drop to xs) ≡ run aim (made s lines part) (drop at xs)
goes_on aim s t lines part longer rest xs at to le is =
    ap (λ (m : Made). run aim m (drop to xs)) is
    ∙ sym (run_append aim (made s lines part) (slice_range xs at to) (drop to xs))
    ∙ ap (run aim (made s lines part)) (sym (drop_split xs at to le))

-- behind a section
pub joins : (aim : Aim) (xs : List ℕ) (s : Section) (stand : LineStand) (lines part longer : List ℕ) → IsSection aim xs s → stand ≡ s.first → part ≡ s.front.items → longer ≡ lines ++ s.lines.items
    → run aim (made s.last longer s.part.items) (drop s.span.end xs) ≡ run aim (made stand lines part) (drop s.span.start xs)
joins aim xs s stand lines part longer h first front is =
    let w : List ℕ = slice_range xs s.span.start s.span.end in
    goes_on aim stand s.last lines part longer s.part.items xs s.span.start s.span.end h.ordered
    (ap (λ (l : List ℕ). made s.last l s.part.items) is
    ∙ ap (with_given lines) h.made
    ∙ sym (run_given aim lines (made s.first [] s.front.items) w)
    ∙ ap (λ (l : List ℕ). run aim (made s.first l s.front.items) w) (append-nil lines)
    ∙ ap (λ (t : LineStand). run aim (made t lines s.front.items) w) (sym first)
    ∙ ap (λ (p : List ℕ). run aim (made stand lines p) w) (sym front))

-- ---- a section of a slice is one of its front

cut : (xs : List ℕ) (from to n : ℕ) → from ≤ to → to ≤ n → slice_range (take n xs) from to ≡ slice_range xs from to
cut xs from to n low high =
    let e : n ≡ from + (n - from) = omega (arith, low, high) in
    ap (λ (k : ℕ). take (to - from) (drop from (take k xs))) e
    ∙ ap (λ (l : List ℕ). take (to - from) l) (drop-take from (n - from) xs)
    ∙ take-again (to - from) (n - from) (drop from xs) (omega (arith, low, high))

pub fronts : (aim : Aim) (xs slice : List ℕ) (s : Section) → xs ≡ take (length xs) slice → IsSection aim slice s → s.span.end ≤ length xs → IsSection aim xs s
fronts aim xs slice s is h le = record {
  ordered = h.ordered;
  within = le;
  made = h.made ∙ ap (run aim (made s.first [] s.front.items)) (sym (ap (λ (l : List ℕ). slice_range l s.span.start s.span.end) is ∙ cut slice s.span.start s.span.end (length xs) h.ordered le));
  height = h.height;
  count = h.count;
}

-- what is sound of a slice is its front
pub sound_fronts : (slice : List ℕ) (before count after : ℕ) → sound_part slice before count after ≡ take (length (sound_part slice before count after)) slice
sound_fronts slice before count after = pick (nat_lt before count)
  where
    n : ℕ
    n = after - count

    pick : (m : Bool) → (if m then [] else take n slice) ≡ take (length (if m then [] else take n slice)) slice
    pick true = refl
    pick false = sym (ap (λ (k : ℕ). take k slice) (length-take n slice) ∙ take_min n slice)

pub all_fronted : (aim : Aim) (slice xs : List ℕ) (v : List (Option Section)) → xs ≡ take (length xs) slice → All (λ (s : Option Section). IfSome s (IsSection aim slice)) v → All (λ (s : Option Section). IfSome s (IsFronted aim xs)) v
all_fronted aim slice xs v is h k d low = some _ (h k d low)
  where
    some : (s : Option Section) → IfSome s (IsSection aim slice) → IfSome s (IsFronted aim xs)
    some None x = x
    some (Some s) x = record { slice = slice; front = is; section = x }

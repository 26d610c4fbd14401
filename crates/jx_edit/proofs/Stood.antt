-- Where a reading stands behind some bytes of a text in chunks.
use Rattle.std.proofs.Common.{◌≡◌, ℕ, ◌+◌, ◌-◌, ◌*◌, ◌≤◌, List, length, min, take, drop, ap, sym, ◌∙◌, arith, inl, inr}
use Rattle.std.proofs.lemmas.Bool.{cases_lt}
use Rattle.std.specs.List.{slice_range}
use Rattle.jx_run.specs.Front.{front_of}
use Rattle.jx_run.specs.Reading.{read_text}
use Rattle.jx_run.specs.ReaderInside.{shifted}
use Rattle.jx_run.specs.declared.texts.settings.Front.{Front}
use Rattle.jx_run.specs.declared.texts.settings.Front.TheVariants as seen
use Rattle.jx_run.specs.declared.texts.settings.Settings.{Settings}
use Rattle.jx_run.proofs.ReaderSteps.{fed_went}
use Rattle.jx_edit.specs.inside.Chunks.{text_of, ChunkValue, ChunkedValue, IsFront}
use Rattle.jx_edit.specs.inside.Fronts.{skipped, with_front, IsFronted}
use Rattle.jx_edit.specs.inside.Links.{place_behind, AreLinked, IsWalked}
use Rattle.jx_edit.specs.inside.Places.{PlaceValue, came_to, origin, read_on}
use Rattle.jx_edit.specs.inside.Sums.{AreLinkedBelow, AreLinkedFrom}
use Rattle.jx_edit.proofs.Fronts.{slice_behind}
use Rattle.jx_edit.proofs.Links.{walked_none, walked_over}

-- ---- chunks that are linked

pub linked_below : (cs : List ChunkValue) (g count place : ℕ) → place ≡ min ((g + 1) * 64) count → AreLinkedFrom cs (g * 64) place → AreLinkedBelow cs count (g * 64) ((g + 1) * 64)
linked_below cs g count place is on = λ k low high less. on k low (omega (arith, is, high, less))

pub linked_by_sum : (cs : List ChunkValue) (g count : ℕ) → AreLinkedFrom cs (g * 64) ((g + 1) * 64) → AreLinkedBelow cs count (g * 64) ((g + 1) * 64)
linked_by_sum cs g count on = λ k low high less. on k low high

pub none_below : (cs : List ChunkValue) (g count first : ℕ) → first ≡ min (g * 64) count → AreLinkedFrom cs (g * 64) first
none_below cs g count first is = λ k low high. absurd (omega (arith, is, low, high))

pub next_linked : (cs : List ChunkValue) (g count : ℕ) → AreLinkedBelow cs count 0 (g * 64) → AreLinkedBelow cs count (g * 64) ((g + 1) * 64) → AreLinkedBelow cs count 0 ((g + 1) * 64)
next_linked cs g count before here = λ k low high less. elim (cases_lt k (g * 64)) [
  | inl under ↦ before k low under less
  | inr past ↦ here k (omega (arith, past)) high less
]

pub groups_linked : (cs : List ChunkValue) (all count : ℕ) → count ≤ all → AreLinkedBelow cs count 0 all → AreLinkedFrom cs 0 count
groups_linked cs all count enough on = λ k low high. on k low (omega (arith, enough, high)) high

-- ---- the place behind bytes

pub stood : (limit start : ℕ) (cs : List ChunkValue) (at before offset : ℕ) (bytes : List ℕ) (p to : PlaceValue) → AreLinked limit origin cs → AreLinkedFrom cs 0 before
    → IsFront cs at before offset bytes → p ≡ place_behind origin (take before cs) → came_to to ≡ read_on limit p bytes → read_text limit start (take at (text_of cs)) ≡ came_to to
stood limit start cs at before offset bytes p to linked on front from leads =
    let q : PlaceValue = place_behind origin (take before cs) in
    let walked : IsWalked limit start before cs = walked_over limit start cs 0 before (omega arith) (walked_none limit start cs linked) on in
    ap (read_text limit start) front.text
    ∙ fed_went limit start (text_of (take before cs)) bytes q.state q.expect q.holders walked.reads
    ∙ ap (shifted (start + length (text_of (take before cs)))) (ap (λ (x : PlaceValue). read_on limit x bytes) (sym from) ∙ sym leads)

-- ---- in a document

-- the text begins behind what is skipped, and was read up to an offset
pub record StoodBefore (s : Settings) (text : List ℕ) (skip at : ℕ) (p : PlaceValue) : Type 0 where
  pub begins : front_of s.mark text ≡ seen.Skip skip
  pub reading : read_text s.depth skip (slice_range text skip at) ≡ came_to p

pub stood_before : (s : Settings) (f : Front) (rest : ChunkedValue) (text : List ℕ) (skip at : ℕ) (p : PlaceValue) → IsFronted s f rest → with_front f rest.bytes ≡ text → f ≡ seen.Skip skip → skip ≤ at
    → ((start : ℕ) → read_text rest.depth start (take (at - skip) rest.bytes) ≡ came_to p) → StoodBefore s text skip at p
stood_before s f rest text skip at p h is front low reads =
    let none : skipped f ≡ skip = ap skipped front in
    let from : skip - skipped f ≡ 0 = omega (arith, none) in
    let whole : slice_range rest.bytes (skip - skipped f) (at - skipped f) ≡ slice_range text skip at =
    slice_behind f rest.bytes skip at h.short (omega (arith, none)) low ∙ ap (λ (t : List ℕ). slice_range t skip at) is in
    let count : (at - skipped f) - (skip - skipped f) ≡ at - skip = omega (arith, none) in
    let same : slice_range rest.bytes (skip - skipped f) (at - skipped f) ≡ take (at - skip) rest.bytes =
    ap (λ (n : ℕ). take n (drop (skip - skipped f) rest.bytes)) count ∙ ap (λ (n : ℕ). take (at - skip) (drop n rest.bytes)) from in
    record {
      begins = ap (front_of s.mark) (sym is) ∙ sym h.seen ∙ front;
      reading = ap (read_text s.depth skip) (sym whole ∙ same) ∙ ap (λ (d : ℕ). read_text d skip (take (at - skip) rest.bytes)) (sym h.depth) ∙ reads skip;
    }

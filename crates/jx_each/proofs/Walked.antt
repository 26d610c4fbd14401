-- How walks over blocks follow one another, and what is copied of them.
use Rattle.std.specs.Prelude.{if◌then◌else◌, slice_range}
use Rattle.std.proofs.Common.{◌≡◌, ℕ, ◌≤◌, List, [], ◌++◌, drop, Bool, true, false, sym, ap, subst, ◌∙◌}
use Rattle.std.proofs.lemmas.List.{append-nil}
use Rattle.std.proofs.lemmas.List.Folds.{drop_split}
use Rattle.jx_lex.proofs.Slices.{slice-none, slice-split}
use Rattle.jx_compact.specs.declared.place.Place.{Place}
use Rattle.jx_each.specs.declared.deep.Walk.{Walk}
use Rattle.jx_each.specs.declared.stand.LineStand.{LineStand}
use Rattle.jx_each.specs.declared.stand.Stage.{Stage}
use Rattle.jx_each.specs.declared.stand.Stage.TheVariants.{Array}
use Rattle.jx_each.specs.Machine.{Aim, Made, run}
use Rattle.jx_each.specs.inside.Stretches.{IsCopied, IsPassed, IsStretch, IsWalked, spot, waiting}
use Rattle.jx_each.proofs.Dues.{run_append}
use Rattle.jx_each.proofs.Stretching.{parts_join}

-- nothing waits between a place and itself
none_waits : (takes : Bool) (part xs : List ℕ) (from : ℕ) → part ++ (if takes then slice_range xs from from else []) ≡ part
none_waits true part xs from = ap (λ (w : List ℕ). part ++ w) (slice-none xs from) ∙ append-nil part
none_waits false part xs from = append-nil part

wait_join : (takes : Bool) (part xs : List ℕ) (i j k : ℕ) → i ≤ j → j ≤ k → (part ++ (if takes then slice_range xs i j else [])) ++ (if takes then slice_range xs j k else []) ≡ part ++ (if takes then slice_range xs i k else [])
wait_join takes part xs i j k low high =
    parts_join takes part (slice_range xs i j) (slice_range xs j k)
    ∙ ap (λ (w : List ℕ). part ++ (if takes then w else [])) (sym (slice-split xs i j k low high))

pub walked_none : (takes : Bool) (xs : List ℕ) (walk : Walk) (part : List ℕ) → IsWalked takes xs walk part walk part
walked_none takes xs walk part = record {
  runs = λ aim stage lines. ap (run aim (spot walk.place walk.height stage takes lines (part ++ waiting takes xs walk))) (slice-none xs walk.end);
}

pub walked_then : {takes : Bool} {a b c : Walk} {part mid longer : List ℕ} (xs : List ℕ) → a.end ≤ b.end → b.end ≤ c.end → IsWalked takes xs a part b mid → IsWalked takes xs b mid c longer → IsWalked takes xs a part c longer
walked_then {takes} {a} {b} {c} {part} {mid} {longer} xs low high x y = record {
  runs = λ aim stage lines.
      let m : Made = spot a.place a.height stage takes lines (part ++ waiting takes xs a) in
      ap (run aim m) (slice-split xs a.end b.end c.end low high)
      ∙ run_append aim m (slice_range xs a.end b.end) (slice_range xs b.end c.end)
      ∙ ap (λ (z : Made). run aim z (slice_range xs b.end c.end)) (x.runs aim stage lines)
      ∙ y.runs aim stage lines;
}

-- a stretch waits to be copied too
pub walked_stretch : {takes : Bool} {a b : Walk} {part longer : List ℕ} {q : Place} {k : ℕ} (xs : List ℕ) (j : ℕ) → a.end ≤ b.end → b.start ≤ b.end → b.end ≤ j → IsStretch b.place b.height (slice_range xs b.end j) q k
    → IsWalked takes xs a part b longer → IsWalked takes xs a part (record { start = b.start; end = j; place = q; height = k }) longer
walked_stretch {takes} {a} {b} {part} {longer} {q} {k} xs j low order high s x =
    let c : Walk = record { start = b.start; end = j; place = q; height = k } in
    walked_then {takes = takes} {a = a} {b = b} {c = c} {part = part} {mid = longer} {longer = longer} xs low high x (record {
      runs = λ aim stage lines.
          s.runs aim stage takes lines (longer ++ waiting takes xs b)
          ∙ ap (spot q k stage takes lines) (wait_join takes longer xs b.start b.end j order high);
    })

-- what waits is copied, and the blanks behind it are not
pub walked_blanks : {takes : Bool} {a b : Walk} {part longer : List ℕ} (xs pushed : List ℕ) (j : ℕ) → a.end ≤ b.end → b.end ≤ j → pushed ≡ longer ++ waiting takes xs b → IsPassed b.place (slice_range xs b.end j)
    → IsWalked takes xs a part b longer → IsWalked takes xs a part (record { start = j; end = j; place = b.place; height = b.height }) pushed
walked_blanks {takes} {a} {b} {part} {longer} xs pushed j low high is passed x =
    let c : Walk = record { start = j; end = j; place = b.place; height = b.height } in
    walked_then {takes = takes} {a = a} {b = b} {c = c} {part = part} {mid = longer} {longer = pushed} xs low high x (record {
      runs = λ aim stage lines.
          passed.runs aim b.height stage takes lines (longer ++ waiting takes xs b)
          ∙ ap (spot b.place b.height stage takes lines) (sym is ∙ sym (none_waits takes pushed xs j));
    })

-- all of a walk
pub walked_copied : {takes : Bool} {b : Walk} {part longer : List ℕ} (xs pushed : List ℕ) (p : Place) (h from : ℕ) → pushed ≡ longer ++ waiting takes xs b → IsWalked takes xs (record { start = from; end = from; place = p; height = h }) part b longer
    → IsCopied takes p h (slice_range xs from b.end) part b.place b.height pushed
walked_copied {takes} {b} {part} {longer} xs pushed p h from is x = record {
  runs = λ aim stage lines.
      ap (λ (l : List ℕ). run aim (spot p h stage takes lines l) (slice_range xs from b.end)) (sym (none_waits takes part xs from))
      ∙ x.runs aim stage lines
      ∙ ap (spot b.place b.height stage takes lines) (sym is);
}

-- the rest makes what all make
pub blocks_on : (aim : Aim) (s t : LineStand) (q : Place) (k : ℕ) (lines part more longer xs : List ℕ) (at end : ℕ) (all : Made) → t ≡ record { place = q; height = k; stage = s.stage; takes = s.takes } → at ≤ end
    → run aim (record { stand = s; lines = lines; part = part }) (slice_range xs at end) ≡ spot q k s.stage s.takes more longer
    → run aim (record { stand = s; lines = lines; part = part }) (drop at xs) ≡ all
    → run aim (record { stand = t; lines = more; part = longer }) (drop end xs) ≡ all
blocks_on aim s t q k lines part more longer xs at end all is le x made =
    let m : Made = record { stand = s; lines = lines; part = part } in
    ap (λ (u : LineStand). run aim (record { stand = u; lines = more; part = longer }) (drop end xs)) is
    ∙ ap (λ (z : Made). run aim z (drop end xs)) (sym x)
    ∙ sym (run_append aim m (slice_range xs at end) (drop end xs))
    ∙ ap (run aim m) (sym (drop_split xs at end le))
    ∙ made

-- where they stand in an array
pub elements_on : (aim : Aim) (s : LineStand) (q : Place) (k : ℕ) (lines part more longer w : List ℕ) → s.stage ≡ Array → s.takes ≡ true
    → run aim (spot s.place s.height Array true lines part) w ≡ spot q k Array true more longer
    → run aim (record { stand = s; lines = lines; part = part }) w ≡ spot q k s.stage s.takes more longer
elements_on aim s q k lines part more longer w stage takes x =
    subst (λ (r : Stage). run aim (spot s.place s.height r s.takes lines part) w ≡ spot q k r s.takes more longer) (sym stage)
    (subst (λ (t : Bool). run aim (spot s.place s.height Array t lines part) w ≡ spot q k Array t more longer) (sym takes) x)

-- The run over part of a text sequence, whose bytes stand further on.
use Rattle.std.proofs.Common.{◌≡◌, ℕ, suc, ◌+◌, ◌^◌, ◌<◌, ◌≤◌, List, [], ◌∷◌, ◌++◌, length, map, sym, ◌∙◌, ap, subst, arith, Option, None, Some, Bool, true, false, cond}
use Rattle.std.specs.List.{AllZip}
use Rattle.std.proofs.lemmas.List.{map-append}
use Rattle.jx_run.specs.declared.sequences.element_verdict.JudgedElement.{JudgedElement}
use Rattle.jx_run.specs.Elements.{Part, part, is_separator, before_separator, after_separators, filled, has_bytes}
use Rattle.jx_run.specs.ElementsRun.{PartRunValue, MarkedElementsValue, IsPartRun, last_part}
use Rattle.jx_run.specs.inside.MarkedElements.{AreMarked, IsSummaryOf}
use Rattle.jx_run.specs.ElementVerdict.{IsJudgedElement}
use Rattle.jx_run.specs.inside.Moved.{moved}
use Rattle.jx_run.proofs.LawProofs.{Verdicts}
use Rattle.jx_run.proofs.Moves.{moved_part, parts_moved, element_moved, before-short}
use Rattle.jx_run.proofs.Parts.{last-ends}

-- a part behind a separator, which ends by an offset
record EndsBy (n : ℕ) (p : Part) : Type 0 where
  pub marked : 0 < p.at
  pub ends : p.at + length p.bytes ≤ n

abbrev AllEndBy : ℕ → List Part → Type 0
AllEndBy n [] = Unit {0}
AllEndBy n (p ∷ ps) = EndsBy n p × AllEndBy n ps

parts_end : (at : ℕ) (xs : List ℕ) (n : ℕ) → at + length xs ≤ n → AllEndBy n (after_separators at xs)
parts_end at [] n low = tt
parts_end at (b ∷ xs) n low = pick (is_separator b) (parts_end (suc at) xs n (omega (arith, low)))
  where
    pick : (m : Bool) → AllEndBy n (after_separators (suc at) xs) → AllEndBy n (cond m (part (suc at) (before_separator xs) ∷ after_separators (suc at) xs) (after_separators (suc at) xs))
    pick true rest = (record { marked = omega arith; ends = let h = before-short xs in omega (arith, h, low) }, rest)
    pick false rest = rest

first_end : (n : ℕ) (ps qs : List Part) → AllEndBy n (ps ++ qs) → AllEndBy n ps
first_end n [] qs h = tt
first_end n (p ∷ ps) qs h = (h.0, first_end n ps qs h.1)

moved_between : Verdicts → (limit by n : ℕ) (ps : List Part) (es : List JudgedElement) → by + n < 2 ^ 64 → AllEndBy n ps → AllZip (IsJudgedElement limit) (filled ps) es
    → AllZip (IsJudgedElement limit) (filled (map (moved_part by) ps)) (map (moved by) es)
moved_between law limit by n [] [] low q z = tt
moved_between law limit by n [] (e ∷ es) low q z = absurd z
moved_between law limit by n (p ∷ ps) es low q z = pick (has_bytes p) es (λ es z. moved_between law limit by n ps es low q.1 z) z
  where
    pick : (f : Bool) (es : List JudgedElement) → ((es : List JudgedElement) → AllZip (IsJudgedElement limit) (filled ps) es → AllZip (IsJudgedElement limit) (filled (map (moved_part by) ps)) (map (moved by) es))
        → AllZip (IsJudgedElement limit) (cond f (p ∷ filled ps) (filled ps)) es
        → AllZip (IsJudgedElement limit) (cond f (moved_part by p ∷ filled (map (moved_part by) ps)) (filled (map (moved_part by) ps))) (map (moved by) es)
    pick true [] rest z = absurd z
    pick true (e ∷ es) rest z =
        let ends = (q.0).ends in
        let fit : by + (p.at + length p.bytes) < 2 ^ 64 = omega (arith, ends, low) in
        (element_moved law limit by p e (q.0).marked fit z.0, rest es z.1)
    pick false es rest z = rest es z

-- what stands behind the first separator
pub marked_shifts : Verdicts → (limit by start at : ℕ) (xs : List ℕ) (m new : MarkedElementsValue) → by + (start + length xs) < 2 ^ 64 → at ≡ by + start → AreMarked limit (after_separators start xs) m
    → new.done ≡ map (moved by) m.done → new.after.outcomes.start ≡ by + m.after.outcomes.start → new.after.outcomes.depth ≡ m.after.outcomes.depth
    → ((bytes : List ℕ) → IsPartRun bytes m.after → IsPartRun bytes new.after) → AreMarked limit (after_separators at xs) new
marked_shifts law limit by start at xs m new low there h done place deep of =
    let marked = h.marked in
    let all : AllEndBy (start + length xs) (h.between ++ h.last ∷ []) = subst (AllEndBy (start + length xs)) h.parts (parts_end start xs (start + length xs) (omega arith)) in
    record {
      between = map (moved_part by) h.between;
      last = moved_part by h.last;
      parts = ap (λ n. after_separators n xs) there ∙ parts_moved by start xs ∙ ap (map (moved_part by)) h.parts ∙ map-append (moved_part by) h.between (h.last ∷ []);
      done = subst (λ es. AllZip (IsJudgedElement limit) (filled (map (moved_part by) h.between)) es) (sym done)
          (moved_between law limit by (start + length xs) h.between m.done low (first_end (start + length xs) h.between (h.last ∷ []) all) h.done);
      marked = omega (arith, marked);
      start = place ∙ ap (λ n. by + n) h.start;
      depth = deep ∙ h.depth;
      after = of h.last.bytes h.after;
    }

-- where no separator stands, none stands further on
pub plain_shifts : (by start at : ℕ) (xs : List ℕ) → at ≡ by + start → after_separators start xs ≡ [] → after_separators at xs ≡ []
plain_shifts by start at xs there h = ap (λ n. after_separators n xs) there ∙ parts_moved by start xs ∙ ap (map (moved_part by)) h

-- where the bytes end
pub run_ends : (bytes : List ℕ) (before : PartRunValue) (m : Option MarkedElementsValue) → IsSummaryOf bytes before m → (last_part before m).outcomes.end ≡ before.outcomes.start + length bytes
run_ends bytes before None h = h.1.outcomes.long
run_ends bytes before (Some m) h =
    let start = h.1.start in
    let long = h.1.after.outcomes.long in
    let ends = last-ends bytes before.outcomes.start h.1.between h.1.last h.1.parts in
    omega (arith, start, long, ends)

-- the bytes before the first separator end no later
pub before_ends : (bytes : List ℕ) (before : PartRunValue) (m : Option MarkedElementsValue) → IsSummaryOf bytes before m → before.outcomes.end ≤ before.outcomes.start + length bytes
before_ends bytes before None h = let long = h.1.outcomes.long in omega (arith, long)
before_ends bytes before (Some m) h =
    let long = h.0.outcomes.long in
    let short = before-short bytes in
    omega (arith, long, short)

-- The spans of the elements that a run shows.
use Rattle.std.proofs.Common.{◌≡◌, ℕ, ◌+◌, ◌<◌, ◌≤◌, List, [], ◌∷◌, ◌++◌, length, map, Bool, true, false, cond, refl, sym, ap, ◌∙◌, arith, Option, None, Some}
use Rattle.std.specs.List.{AllZip}
use Rattle.std.specs.Prelude.{nat_lt}
use Rattle.std.proofs.lemmas.Bool.Decides.{nat_tests}
use Rattle.std.proofs.lemmas.List.{map-append}
use Rattle.std.proofs.lemmas.List.Elements.{filter-append}
use Rattle.jx_summary.specs.declared.span.Span.{Span}
use Rattle.jx_run.specs.Elements.{Part, part, part_span, before_separator, after_separators, filled, has_bytes, elements}
use Rattle.jx_run.specs.SeqRun.{MarkedValue, IsReading, IsSummary, filled_span, element_spans}
use Rattle.jx_run.specs.Started.{StartedValue}
use Rattle.jx_run.specs.TextRun.{TextRunValue, IsTextRun, text_span}
use Rattle.jx_run.specs.Tree.{span}
use Rattle.jx_run.proofs.Parts.{unmarked-before}
use Rattle.jx_run.proofs.SeqReading.{these}

-- ---- the elements of the bytes of a run

elements_plain : (at : ℕ) (bytes : List ℕ) → after_separators at bytes ≡ [] → elements at bytes ≡ filled (part at bytes ∷ [])
elements_plain at bytes h =
    ap (λ ps. filled (part at (before_separator bytes) ∷ ps)) h ∙ ap (λ t. filled (part at t ∷ [])) (unmarked-before bytes at h)

elements_marked : (at : ℕ) (bytes : List ℕ) (between : List Part) (last : Part) → after_separators at bytes ≡ between ++ last ∷ []
    → elements at bytes ≡ filled (part at (before_separator bytes) ∷ []) ++ (filled between ++ filled (last ∷ []))
elements_marked at bytes between last h =
    filter-append has_bytes (part at (before_separator bytes) ∷ []) (after_separators at bytes)
    ∙ ap (λ ps. filled (part at (before_separator bytes) ∷ []) ++ ps) (ap filled h ∙ filter-append has_bytes between (last ∷ []))

-- ---- their spans

this_span : (b : Bool) (p : Part) → map part_span (these b p) ≡ cond b (part_span p ∷ []) []
this_span true p = refl
this_span false p = refl

same_test : (at n : ℕ) → nat_lt 0 n ≡ nat_lt at (at + n)
same_test at n = pick (nat_lt 0 n) (nat_lt at (at + n)) refl refl
  where
    pick : (a b : Bool) → nat_lt 0 n ≡ a → nat_lt at (at + n) ≡ b → a ≡ b
    pick true true h k = refl
    pick true false h k =
        let x : 0 < n = grind (arith, nat_tests) in
        let y : at + n ≤ at = grind (arith, nat_tests) in
        absurd (omega arith)
    pick false true h k =
        let x : n ≤ 0 = grind (arith, nat_tests) in
        let y : at < at + n = grind (arith, nat_tests) in
        absurd (omega arith)
    pick false false h k = refl

one_span : (p : Part) → map part_span (filled (p ∷ [])) ≡ filled_span (part_span p)
one_span p =
    this_span (has_bytes p) p ∙ ap (λ b. cond b (part_span p ∷ []) []) (same_test p.at (length p.bytes))

run_span : (run : TextRunValue) (at : ℕ) (bytes : List ℕ) → run.map.start ≡ at → IsTextRun bytes run → part_span (part at bytes) ≡ text_span run
run_span run at bytes e h =
    ap (λ n. span n (n + length bytes)) (sym e) ∙ ap (span run.map.start) (sym h.long)

started_spans : (limit : ℕ) (ps : List Part) (ss : List StartedValue) → AllZip (IsReading limit) ps ss → map part_span ps ≡ map (λ (s : StartedValue). s.span) ss
started_spans limit [] [] h = refl
started_spans limit [] (s ∷ ss) h = absurd h
started_spans limit (p ∷ ps) [] h = absurd h
started_spans limit (p ∷ ps) (s ∷ ss) h =
    let here : part_span p ≡ s.span = ap (λ n. span n (n + length p.bytes)) (sym (h.0).start) ∙ ap (span s.span.start) (sym (h.0).of.long) in
    let rest : map part_span ps ≡ map (λ (s : StartedValue). s.span) ss = started_spans limit ps ss h.1 in
    ap (λ (x : Span). x ∷ map part_span ps) here ∙ ap (λ xs. s.span ∷ xs) rest

pub places_are : (bytes : List ℕ) (before : TextRunValue) (m : Option MarkedValue) → IsSummary bytes before m
    → map part_span (elements before.map.start bytes) ≡ element_spans before m
places_are bytes before None h =
    ap (map part_span) (elements_plain before.map.start bytes h.0)
    ∙ one_span (part before.map.start bytes)
    ∙ ap filled_span (run_span before before.map.start bytes refl h.1)
places_are bytes before (Some m) h =
    let k = h.1 in
    let first = filled (part before.map.start (before_separator bytes) ∷ []) in
    ap (map part_span) (elements_marked before.map.start bytes k.between k.last k.parts)
    ∙ map-append part_span first (filled k.between ++ filled (k.last ∷ []))
    ∙ ap (λ xs. xs ++ map part_span (filled k.between ++ filled (k.last ∷ [])))
    (one_span (part before.map.start (before_separator bytes)) ∙ ap filled_span (run_span before before.map.start (before_separator bytes) refl h.0))
    ∙ ap (λ xs. filled_span (text_span before) ++ xs)
    (map-append part_span (filled k.between) (filled (k.last ∷ []))
    ∙ ap (λ xs. xs ++ map part_span (filled (k.last ∷ []))) (started_spans before.depth (filled k.between) m.done k.done)
    ∙ ap (λ xs. map (λ (s : StartedValue). s.span) m.done ++ xs) (one_span k.last ∙ ap filled_span (run_span m.after k.last.at k.last.bytes k.start k.after)))

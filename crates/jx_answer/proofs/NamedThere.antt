-- What a rule on names makes of the verdict on an element, from the bytes at its span.
use Rattle.std.proofs.Common.{◌≡◌, ℕ, suc, ◌+◌, ◌-◌, ◌^◌, ◌<◌, ◌≤◌, List, [], ◌∷◌, length, drop, min, Option, Bool, true, false, cond, refl, sym, ap, subst, ◌∙◌, arith}
use Rattle.std.specs.Prelude.{slice_range}
use Rattle.std.specs.List.{AllZip}
use Rattle.std.specs.Option.{option_map}
use Rattle.std.proofs.lemmas.List.{length-take}
use Rattle.jx_summary.specs.declared.span.Span.{Span}
use Rattle.jx_run.specs.declared.sequences.element_verdict.ElementVerdict.TheVariants as verdict
use Rattle.jx_run.specs.declared.sequences.element_verdict.JudgedElement.{JudgedElement}
use Rattle.jx_run.specs.declared.texts.settings.NameRule.{NameRule}
use Rattle.jx_run.specs.declared.texts.settings.NameRule.TheVariants.{Any, Unique}
use Rattle.jx_run.specs.declared.texts.settings.Settings.{Settings}
use Rattle.jx_run.specs.declared.texts.verdict.Refusal.{Refusal}
use Rattle.jx_run.specs.declared.texts.verdict.Verdict.TheVariants.{Accepted, Refused}
use Rattle.jx_run.specs.Elements.{Part, part, is_separator, before_separator, after_separators, parts, has_bytes, filled, elements}
use Rattle.jx_run.specs.ElementVerdict.{IsClosedText, IsJudgedElement, IsVerdictOn}
use Rattle.jx_run.specs.Laws.{Accepts, IsAccepting}
use Rattle.jx_run.specs.MarkAlone.{part_of}
use Rattle.jx_run.specs.Reading.{TextReading, went, stopped, too_deep, read_text}
use Rattle.jx_run.specs.ReaderInside.{offset_at, shifted}
use Rattle.jx_run.specs.Text.{IsDocument, IsText}
use Rattle.jx_run.specs.Tree.{Tree}
use Rattle.jx_run.specs.Verdict as by
use Rattle.jx_run.specs.Verdict.{Judged, cut_short, IsNoText}
use Rattle.jx_run.proofs.ReaderSteps.{read-shift, slice_all}
use Rattle.jx_run.proofs.Moves.{before-short}
use Rattle.jx_run.proofs.VerdictLaws.{tree_in}
use Rattle.jx_index.specs.ByNames.{IsRefusedName, RefusesName, judged_unless}
use Rattle.jx_index.specs.Repeats.{IsLeast, IsRepeat}
use Rattle.jx_index.specs.Rows.{rows}
use Rattle.jx_index.proofs.RefusedNames.{left_so}
use Rattle.jx_answer.specs.Named.{IsNamed}
use Rattle.jx_answer.proofs.MovedRows.{inner_slice, least_behind}
use Rattle.jx_answer.proofs.MovedTrees.{document_moved, moved_tree, text_names}

-- ---- a text is one wherever it stands

abbrev pub Sound : Type 0
Sound = (limit at : ℕ) (bytes : List ℕ) → Accepts limit at bytes → (tree : Tree) × IsDocument at bytes limit tree

abbrev pub Complete : Type 0
Complete = (limit at : ℕ) (bytes : List ℕ) (tree : Tree) → IsDocument at bytes limit tree → Accepts limit at bytes

abbrev pub OneTree : Type 0
OneTree = (at limit : ℕ) (bytes : List ℕ) (x y : Tree) → IsDocument at bytes limit x → IsDocument at bytes limit y → x ≡ y

accepting_stays : (by : ℕ) (r : TextReading) → IsAccepting (shifted by r) → IsAccepting r
accepting_stays by (went s e o) h = h
accepting_stays by (stopped at) h = absurd h
accepting_stays by (too_deep at) h = absurd h

text_at_start : Sound → Complete → (by limit : ℕ) (bytes : List ℕ) (tree : Tree) → IsDocument by bytes limit tree → (t : Tree) × IsDocument 0 bytes limit t
text_at_start sound complete by limit bytes tree d =
    sound limit 0 bytes (accepting_stays by (read_text limit 0 bytes) (subst IsAccepting (read-shift limit by _ _ _ bytes) (complete limit by bytes tree d)))

no_text_of : {at limit : ℕ} {bytes : List ℕ} {r : Refusal} → Judged at bytes limit (Refused r) → IsNoText at bytes limit
no_text_of (cut_short n x) = n
no_text_of (by.too_deep n x lt b) = n
no_text_of (by.stopped n x lt b) = n

-- bytes that are refused from 0 on are no text from another offset on
pub never_refused : Sound → Complete → (by limit : ℕ) (bytes : List ℕ) (r : Refusal) → Judged 0 (slice_range bytes 0 (length bytes)) limit (Refused r) → (tree : Tree)
    → IsDocument by bytes limit tree → ⊥
never_refused sound complete by limit bytes r judged tree d =
    let t = text_at_start sound complete by limit bytes tree d in
    no_text_of judged t.0 (subst (λ (b : List ℕ). IsDocument 0 b limit t.0) (sym (slice_all bytes)) t.1)

-- ---- the first name that is repeated

pub repeats_there : OneTree → (by end limit : ℕ) (input bytes : List ℕ) (name : Option ℕ) → Judged 0 (slice_range bytes 0 (length bytes)) limit Accepted
    → ((limit : ℕ) (tree : Tree) → IsText bytes 0 (length bytes) limit tree → IsLeast (IsRepeat bytes (rows tree)) name)
    → slice_range input by end ≡ bytes → by + length bytes < 2 ^ 64 → (tree : Tree) → IsDocument by bytes limit tree → IsLeast (IsRepeat input (rows tree)) (option_map (offset_at by) name)
repeats_there one by end limit input bytes name judged least stands fits tree d =
    let t = tree_in judged in
    let whole : IsDocument 0 bytes limit t.0 = subst (λ (b : List ℕ). IsDocument 0 b limit t.0) (slice_all bytes) t.1 in
    let from : by + 0 ≡ by = omega arith in
    let there : IsDocument by bytes limit (moved_tree by t.0) = subst (λ (n : ℕ). IsDocument n bytes limit (moved_tree by t.0)) from (document_moved by 0 limit bytes t.0 whole) in
    subst (λ (s : Tree). IsLeast (IsRepeat input (rows s)) (option_map (offset_at by) name)) (one by limit bytes (moved_tree by t.0) tree there d)
    (least_behind by end input bytes stands fits t.0 (text_names whole.reads) name (least limit t.0 t.1))

-- ---- one element

module _ (settings : Settings) (input : List ℕ) (j : JudgedElement) where
  pub left_named : ((settings.names ≡ Unique) × (j.verdict ≡ verdict.Accepted) → ⊥) → IsNamed settings input j j
  left_named other h = left_so settings input (part_of input j.span) j h other

  -- where the rule refuses a name of a text with the bytes at its span
  pub named_there : settings.names ≡ Unique → j.verdict ≡ verdict.Accepted → (bytes : List ℕ) → slice_range input j.span.start j.span.end ≡ bytes → (name : Option ℕ)
      → ((tree : Tree) → IsDocument j.span.start bytes settings.depth tree → IsLeast (IsRepeat input (rows tree)) name) → IsNamed settings input j (judged_unless name j)
  named_there unique accepted bytes stands name least h =
      let p = part_of input j.span in
      let is : IsVerdictOn p settings.depth verdict.Accepted = subst (IsVerdictOn p settings.depth) accepted h.verdict_is in
      let text : IsClosedText p settings.depth = is.1 in
      let there : IsDocument j.span.start bytes settings.depth text.tree = subst (λ (b : List ℕ). IsDocument j.span.start b settings.depth text.tree) stands text.accepted.is_text in
      let refused : RefusesName settings.names input (rows text.tree) name = subst (λ (rule : NameRule). RefusesName rule input (rows text.tree) name) (sym unique) (least text.tree there) in
      let all : IsRefusedName settings input p verdict.Accepted name = (text, refused) in
      record {
        told = j;
        judged = h;
        name = name;
        refused = subst (λ (v : _). IsRefusedName settings input p v name) (sym accepted) all;
        by_names = refl;
      }

-- a slice is no longer than its offsets say
pub slice_short : (input bytes : List ℕ) (at end : ℕ) → slice_range input at end ≡ bytes → at < 2 ^ 64 → end < 2 ^ 64 → at + length bytes < 2 ^ 64
slice_short input bytes at end stands low high =
    let cut : length (slice_range input at end) ≡ min (end - at) (length (drop at input)) = length-take (end - at) (drop at input) in
    let same : length (slice_range input at end) ≡ length bytes = ap length stands in
    omega (arith, cut, same, low, high)

-- ---- the elements of a part

-- it lies between two offsets
pub record Between (low high : ℕ) (s : Span) : Type 0 where
  pub from : low ≤ s.start
  pub ordered : s.start ≤ s.end
  pub to : s.end ≤ high

abbrev AllIn : ℕ → ℕ → List Part → Type 0
AllIn low high [] = Unit {0}
AllIn low high (p ∷ ps) = (low ≤ p.at) × (p.at + length p.bytes ≤ high) × AllIn low high ps

after_in : (low high at : ℕ) (xs : List ℕ) → low ≤ at → at + length xs ≤ high → AllIn low high (after_separators at xs)
after_in low high at [] h k = tt
after_in low high at (b ∷ xs) h k = pick (is_separator b) (after_in low high (suc at) xs (omega (arith, h)) (omega (arith, k)))
  where
    pick : (m : Bool) → AllIn low high (after_separators (suc at) xs) → AllIn low high (cond m (part (suc at) (before_separator xs) ∷ after_separators (suc at) xs) (after_separators (suc at) xs))
    pick true rest = (omega (arith, h), let short = before-short xs in omega (arith, short, k), rest)
    pick false rest = rest

filled_in : (low high : ℕ) (ps : List Part) → AllIn low high ps → AllIn low high (filled ps)
filled_in low high [] h = tt
filled_in low high (p ∷ ps) h = pick (has_bytes p) (filled_in low high ps h.2)
  where
    pick : (f : Bool) → AllIn low high (filled ps) → AllIn low high (cond f (p ∷ filled ps) (filled ps))
    pick true rest = (h.0, h.1, rest)
    pick false rest = rest

-- what stands there is still to be named, and it lies in the part
pub record IsNext (low high : ℕ) (told e : JudgedElement) : Type 0 where
  pub same : e ≡ told
  pub place : Between low high told.span

all_next : (limit low high : ℕ) (ps : List Part) (js : List JudgedElement) → AllIn low high ps → AllZip (IsJudgedElement limit) ps js → AllZip (IsNext low high) js js
all_next limit low high [] [] h z = tt
all_next limit low high [] (j ∷ js) h z = absurd z
all_next limit low high (p ∷ ps) [] h z = absurd z
all_next limit low high (p ∷ ps) (j ∷ js) h z =
    let start : j.span.start ≡ p.at = ap (λ (s : Span). s.start) z.0.span_is in
    let end : j.span.end ≡ p.at + length p.bytes = ap (λ (s : Span). s.end) z.0.span_is in
    let from = h.0 in
    let to = h.1 in (
      record {
        same = refl;
        place = record { from = omega (arith, start, from); ordered = omega (arith, start, end); to = omega (arith, end, to) };
      },
      all_next limit low high ps js h.2 z.1,
    )

pub elements_next : (limit before : ℕ) (bytes : List ℕ) (js : List JudgedElement) → AllZip (IsJudgedElement limit) (elements before bytes) js
    → AllZip (IsNext before (before + length bytes)) js js
elements_next limit before bytes js z =
    let short = before-short bytes in
    all_next limit before (before + length bytes) (elements before bytes) js
    (filled_in before (before + length bytes) (parts before bytes) (omega arith, omega (arith, short), after_in before (before + length bytes) before bytes (omega arith) (omega arith))) z

-- the bytes at a span are those of the part that stands there
pub slice_in_part : (input part : List ℕ) (before start end : ℕ) → slice_range input before (before + length part) ≡ part → before ≤ start → start ≤ end → end ≤ before + length part
    → slice_range input start end ≡ slice_range part (start - before) (end - before)
slice_in_part input part before start end stands from ordered to =
    let a : before + (start - before) ≡ start = omega (arith, from) in
    let b : before + (end - before) ≡ end = omega (arith, from, ordered) in
    ap (λ (n : ℕ). slice_range input n end) (sym a)
    ∙ ap (λ (n : ℕ). slice_range input (before + (start - before)) n) (sym b)
    ∙ inner_slice input before (before + length part) (start - before) (end - before) (omega (arith, from, ordered)) (omega (arith, from, ordered, to))
    ∙ ap (λ (t : List ℕ). slice_range t (start - before) (end - before)) stands

-- where any names are allowed, all stay
pub all_named : (settings : Settings) (input : List ℕ) (js : List JudgedElement) → settings.names ≡ Any → AllZip (IsNamed settings input) js js
all_named settings input [] any = tt
all_named settings input (j ∷ js) any = (left_named settings input j (λ both. let same : Any ≡ Unique = sym any ∙ both.0 in absurd (cc)), all_named settings input js any)

-- what was named in every input that has the part is so in this one
pub named_all : (settings : Settings) (P : List ℕ → Type 0) (input : List ℕ) → P input → (js es : List JudgedElement) → AllZip (λ told e. (input : List ℕ) → P input → IsNamed settings input told e) js es
    → AllZip (IsNamed settings input) js es
named_all settings P input here [] [] z = tt
named_all settings P input here [] (e ∷ es) z = absurd z
named_all settings P input here (j ∷ js) [] z = absurd z
named_all settings P input here (j ∷ js) (e ∷ es) z = (z.0 input here, named_all settings P input here js es z.1)

-- Whole lines behind others.
use Rattle.std.proofs.Common.{◌≡◌, ℕ, suc, ◌+◌, ◌^◌, ◌<◌, ◌≤◌, List, [], ◌∷◌, ◌++◌, drop, length, map, true, false, refl, sym, ap, subst, ◌∙◌, append_assoc, arith}
use Rattle.std.specs.List.{AllZip}
use Rattle.std.proofs.Math.ListN.{length-map}
use Rattle.std.proofs.lemmas.List.{length-append, map-append}
use Rattle.std.proofs.lemmas.List.Elements.{filter-append}
use Rattle.std.specs.Prelude.{not, IfSome, None, Option, Some}
use Rattle.jx_run.specs.declared.texts.settings.FrontMark.{FrontMark}
use Rattle.jx_run.specs.declared.texts.settings.FrontMark.TheVariants.{Refused}
use Rattle.jx_run.specs.declared.texts.settings.Settings.{Settings}
use Rattle.jx_run.specs.Elements.{Part, part}
use Rattle.jx_run.proofs.LawProofs.{Verdicts}
use Rattle.jx_run.proofs.Moves.{moved_part}
use Rattle.jx_run.proofs.PartedJoins.{AllZip-append}
use Rattle.jx_ndjson.specs.declared.judged_line.JudgedLine.{JudgedLine}
use Rattle.jx_ndjson.specs.Answers.{IsAnswer, mark_at}
use Rattle.jx_ndjson.specs.Lines.{Line, is_line_feed, line, mark_length}
use Rattle.jx_ndjson.specs.Parts.{parts_by}
use Rattle.jx_ndjson.specs.Reading.{HasReadLines, HasTold, IsOpen, LineReaderValue, ended_from}
use Rattle.jx_ndjson.specs.Tally.{HasTaken, TallyValue, bad_of, is_accepted}
use Rattle.jx_ndjson.specs.LinesRun.{HoldLines}
use Rattle.jx_ndjson.specs.WholeLines.{AreWhole, WholeLinesValue, moved_line, unmarked}
use Rattle.jx_ndjson.proofs.Cuts.{last-ends, parts-append}
use Rattle.jx_ndjson.proofs.Fronts.{behind_front, goes_in_lines}
use Rattle.jx_ndjson.proofs.Moved.{AllEndBy, bad_moved, first_end, lines_moved, parts_end, parts_few, parts_moved, unmarked_answers}

-- ---- lines that have ended

ended-append : (n : ℕ) (ps qs : List Part) → ended_from n (ps ++ qs) ≡ ended_from n ps ++ ended_from (n + length ps) qs
ended-append n [] qs = let e : n ≡ n + 0 = omega arith in ap (λ (k : ℕ). ended_from k qs) e
ended-append n (p ∷ ps) qs =
    let e : suc n + length ps ≡ n + length (p ∷ ps) = omega arith in
    ap (λ (ls : List Line). line n p true ∷ ls) (ended-append (suc n) ps qs ∙ ap (λ (k : ℕ). ended_from (suc n) ps ++ ended_from k qs) e)

zip_long : (settings : Settings) (n : ℕ) (ps : List Part) (js : List JudgedLine) → AllZip (IsAnswer settings) (ended_from n ps) js → length js ≡ length ps
zip_long settings n [] [] z = refl
zip_long settings n [] (j ∷ js) z = absurd z
zip_long settings n (p ∷ ps) [] z = absurd z
zip_long settings n (p ∷ ps) (j ∷ js) z = ap suc (zip_long settings (suc n) ps js z.1)

-- a last part without a byte
empty_last : (at : ℕ) (bytes : List ℕ) (ended : List Part) (last : Part) → parts_by is_line_feed at bytes ≡ ended ++ last ∷ [] → length last.bytes ≡ 0 → last ≡ part (at + length bytes) []
empty_last at bytes ended last h none =
    let end = last-ends is_line_feed bytes at ended last h in
    let there : last.at ≡ at + length bytes = omega (arith, end, none) in
    ap (part last.at) (nil last.bytes none) ∙ ap (λ (n : ℕ). part n []) there
  where
    nil : (xs : List ℕ) → length xs ≡ 0 → xs ≡ []
    nil [] e = refl
    nil (x ∷ xs) e = absurd (omega (arith, e))

-- ---- behind others

module _ (law : Verdicts) where
  -- the parts of whole lines, so many bytes further on
  parts_there : (more : ℕ) (ys : List ℕ) (ended : List Part) → parts_by is_line_feed 0 ys ≡ ended ++ part (length ys) [] ∷ []
      → parts_by is_line_feed more ys ≡ map (moved_part more) ended ++ part (more + length ys) [] ∷ []
  parts_there more ys ended h =
      ap (λ (n : ℕ). parts_by is_line_feed n ys) (let e : more ≡ more + 0 = omega arith in e)
      ∙ parts_moved is_line_feed more 0 ys
      ∙ ap (map (moved_part more)) h
      ∙ map-append (moved_part more) ended (part (length ys) [] ∷ [])

  -- the parts of both
  both_parts : (at : ℕ) (xs ys : List ℕ) (ps qs : List Part) → parts_by is_line_feed at xs ≡ ps ++ part (at + length xs) [] ∷ [] → parts_by is_line_feed 0 ys ≡ qs ++ part (length ys) [] ∷ []
      → parts_by is_line_feed at (xs ++ ys) ≡ (ps ++ map (moved_part (at + length xs)) qs) ++ part (at + length xs + length ys) [] ∷ []
  both_parts at xs ys ps qs h k =
      parts-append is_line_feed xs ys at ps (part (at + length xs) []) h
      ∙ ap (λ (rs : List Part). ps ++ rs) (parts_there (at + length xs) ys qs k)
      ∙ sym (append_assoc ps (map (moved_part (at + length xs)) qs) (part (at + length xs + length ys) [] ∷ []))

  -- the answers on both
  both_answers : (settings : Settings) (more : ℕ) (ys : List ℕ) (ps qs : List Part) (told answers : List JudgedLine) → length ps + length ys < 2 ^ 64 → more + length ys < 2 ^ 64
      → parts_by is_line_feed 0 ys ≡ qs ++ part (length ys) [] ∷ [] → ((at : ℕ) → mark_at settings.mark (more + at) ≡ Refused)
      → AllZip (IsAnswer settings) (ended_from 1 ps) told → AllZip (IsAnswer (unmarked settings.depth)) (ended_from 1 qs) answers
      → AllZip (IsAnswer settings) (ended_from 1 (ps ++ map (moved_part more) qs)) (told ++ map (moved_line (length ps) more) answers)
  both_answers settings more ys ps qs told answers few low h none z y =
      let n : ℕ = length ps in
      let many : length (qs ++ part (length ys) [] ∷ []) ≤ suc (length ys) = subst (λ (rs : List Part). length rs ≤ suc (length ys)) h (parts_few is_line_feed 0 ys) in
      let long : length (qs ++ part (length ys) [] ∷ []) ≡ length qs + 1 = length-append qs (part (length ys) [] ∷ []) in
      let all_end : AllEndBy (length ys) (parts_by is_line_feed 0 ys) =
      subst (λ (k : ℕ). AllEndBy k (parts_by is_line_feed 0 ys)) (let e : 0 + length ys ≡ length ys = omega arith in e) (parts_end is_line_feed 0 ys) in
      let ends = first_end (length ys) qs (part (length ys) [] ∷ []) (subst (λ (rs : List Part). AllEndBy (length ys) rs) h all_end) in
      let behind : AllZip (IsAnswer settings) (ended_from (n + 1) (map (moved_part more) qs)) (map (moved_line n more) answers) =
      lines_moved law settings n 1 more (length ys) qs answers (omega (arith, many, long, few)) low ends none y in
      let one : n + 1 ≡ 1 + n = omega arith in
      subst (λ (ls : List Line). AllZip (IsAnswer settings) ls (told ++ map (moved_line n more) answers)) (sym (ended-append 1 ps (map (moved_part more) qs)))
      (AllZip-append (IsAnswer settings) (ended_from 1 ps) (ended_from (1 + n) (map (moved_part more) qs)) told (map (moved_line n more) answers) z
      (subst (λ (k : ℕ). AllZip (IsAnswer settings) (ended_from k (map (moved_part more) qs)) (map (moved_line n more) answers)) one behind))

  -- whole lines behind whole lines
  pub whole_joins : (limit : ℕ) (xs ys : List ℕ) (before more : List JudgedLine) (v w u : WholeLinesValue) → v.len + w.len < 2 ^ 64 → v.count ≤ v.len → AreWhole limit xs before v → AreWhole limit ys more w
      → u.len ≡ v.len + w.len → u.count ≡ v.count + w.count → u.bad ≡ v.bad ++ map (moved_line v.count v.len) w.bad
      → AreWhole limit (xs ++ ys) (before ++ map (moved_line v.count v.len) more) u
  whole_joins limit xs ys before more v w u low few h k len count bad =
      let lx = h.len_is in
      let ly = k.len_is in
      let both : length (xs ++ ys) ≡ length xs + length ys = length-append xs ys in
      let number : length h.ended ≡ v.count = sym (h.count_is ∙ zip_long (unmarked limit) 1 h.ended before h.are_answers) in
      let there : 0 + length xs ≡ v.len = omega (arith, lx) in
      record {
        ended = h.ended ++ map (moved_part v.len) k.ended;
        parts =
            both_parts 0 xs ys h.ended k.ended (h.parts ∙ ap (λ (n : ℕ). h.ended ++ part n [] ∷ []) (let e : length xs ≡ 0 + length xs = omega arith in e)) k.parts
            ∙ ap (λ (n : ℕ). (h.ended ++ map (moved_part n) k.ended) ++ part (0 + length xs + length ys) [] ∷ []) there
            ∙ ap (λ (n : ℕ). (h.ended ++ map (moved_part v.len) k.ended) ++ part n [] ∷ []) (let e : 0 + length xs + length ys ≡ length (xs ++ ys) = omega (arith, both) in e);
        are_answers =
            subst (λ (n : ℕ). AllZip (IsAnswer (unmarked limit)) (ended_from 1 (h.ended ++ map (moved_part v.len) k.ended)) (before ++ map (moved_line n v.len) more)) number
            (both_answers (unmarked limit) v.len ys h.ended k.ended before more (omega (arith, number, few, low, ly)) (omega (arith, low, ly)) k.parts (λ at. refl) h.are_answers k.are_answers);
        len_is = len ∙ (let e : v.len + w.len ≡ length (xs ++ ys) = omega (arith, lx, ly, both) in e);
        count_is = let a = h.count_is in
            let b = k.count_is in
            let c : length (before ++ map (moved_line v.count v.len) more) ≡ length before + length (map (moved_line v.count v.len) more) = length-append before (map (moved_line v.count v.len) more) in
            let d : length (map (moved_line v.count v.len) more) ≡ length more = length-map more (moved_line v.count v.len) in
            count ∙ (let e : v.count + w.count ≡ length (before ++ map (moved_line v.count v.len) more) = omega (arith, a, b, c, d) in e);
        bad_are =
            bad
            ∙ ap (λ (js : List JudgedLine). js ++ map (moved_line v.count v.len) w.bad) h.bad_are
            ∙ ap (λ (js : List JudgedLine). bad_of before ++ map (moved_line v.count v.len) js) k.bad_are
            ∙ ap (λ (js : List JudgedLine). bad_of before ++ js) (sym (bad_moved v.count v.len more))
            ∙ sym (filter-append (λ (j : JudgedLine). not (is_accepted j.verdict)) before (map (moved_line v.count v.len) more));
      }

  -- whole lines behind those that a reader has read
  lines_pass : (settings : Settings) (at : ℕ) (bytes ys : List ℕ) (told answers : List JudgedLine) (v : WholeLinesValue) (old new : LineReaderValue) → old.reader.count ≡ 0 → old.ended ≤ old.reader.start
      → old.reader.start + v.len < 2 ^ 64 → HasReadLines settings at bytes told old → AreWhole settings.depth ys answers v → ((n : ℕ) → mark_at settings.mark (old.reader.start + n) ≡ Refused)
      → ((p : Part) → IsOpen settings p old → IsOpen settings (part (old.reader.start + v.len) []) new)
      → new.ended ≡ old.ended + v.count → HasReadLines settings at (bytes ++ ys) (told ++ map (moved_line old.ended old.reader.start) answers) new
  lines_pass settings at bytes ys told answers v old new none few low h k behind opened ended =
      let read = h.goes_on.read.count in
      let last : h.last ≡ part (at + length bytes) [] = empty_last at bytes h.ended h.last h.parts (omega (arith, read, none)) in
      let start : old.reader.start ≡ at + length bytes = h.goes_on.start ∙ ap (λ (p : Part). p.at) last in
      let len = k.len_is in
      let number : length h.ended ≡ old.ended = sym h.count in
      let parts : parts_by is_line_feed at bytes ≡ h.ended ++ part (at + length bytes) [] ∷ [] = h.parts ∙ ap (λ (p : Part). h.ended ++ p ∷ []) last in
      record {
        ended = h.ended ++ map (moved_part old.reader.start) k.ended;
        last = part (old.reader.start + v.len) [];
        parts =
            both_parts at bytes ys h.ended k.ended parts k.parts
            ∙ ap (λ (n : ℕ). (h.ended ++ map (moved_part n) k.ended) ++ part (n + length ys) [] ∷ []) (sym start)
            ∙ ap (λ (n : ℕ). (h.ended ++ map (moved_part old.reader.start) k.ended) ++ part (old.reader.start + n) [] ∷ []) (sym len);
        answers =
            subst (λ (n : ℕ). AllZip (IsAnswer settings) (ended_from 1 (h.ended ++ map (moved_part old.reader.start) k.ended)) (told ++ map (moved_line n old.reader.start) answers)) number
            (both_answers settings old.reader.start ys h.ended k.ended told answers (omega (arith, number, few, low, len)) (omega (arith, low, len)) k.parts behind h.answers k.are_answers);
        count = let a = k.count_is in
            let b = zip_long (unmarked settings.depth) 1 k.ended answers k.are_answers in
            let c : length (h.ended ++ map (moved_part old.reader.start) k.ended) ≡ length h.ended + length (map (moved_part old.reader.start) k.ended) = length-append h.ended (map (moved_part old.reader.start) k.ended) in
            let d : length (map (moved_part old.reader.start) k.ended) ≡ length k.ended = length-map k.ended (moved_part old.reader.start) in
            ended ∙ (let e : old.ended + v.count ≡ length (h.ended ++ map (moved_part old.reader.start) k.ended) = omega (arith, a, b, c, d, number) in e);
        goes_on = opened h.last h.goes_on;
      }

pub passes : Verdicts → (settings : Settings) (input ys : List ℕ) (told answers : List JudgedLine) (v : WholeLinesValue) (old new : LineReaderValue) → old.in_front ≡ false → new.in_front ≡ false → old.reader.count ≡ 0
    → old.ended ≤ old.reader.start → old.reader.start + v.len < 2 ^ 64 → HasTold settings input told old → AreWhole settings.depth ys answers v
    → ((p : Part) → IsOpen settings p old → mark_at settings.mark (old.reader.start + v.len) ≡ Refused → IsOpen settings (part (old.reader.start + v.len) []) new) → new.ended ≡ old.ended + v.count
    → HasTold settings (input ++ ys) (told ++ map (moved_line old.ended old.reader.start) answers) new
passes law settings input ys told answers v old new was is none few low h k opened ended =
    goes_in_lines settings input ys told (told ++ map (moved_line old.ended old.reader.start) answers) old new h was is
    (let behind = behind_front settings input told old h was none in
    λ at before r. lines_pass law settings at before ys told answers v old new none few low r k behind (λ p o. opened p o (behind v.len)) ended)

-- ---- what a tally has taken

pub taken_whole : (settings : Settings) (input : List ℕ) (t : TallyValue) (v : WholeLinesValue) → settings.mark ≡ Refused → t.lines.reader.count ≡ 0 → HasTaken settings input [] t
    → v.len ≡ t.lines.reader.start + t.lines.reader.count → v.count ≡ t.lines.ended → v.bad ≡ t.waiting → (answers : List JudgedLine) × AreWhole settings.depth input answers v
taken_whole settings input t v mark none h len count bad =
    let k : ℕ = mark_length settings.mark input in
    let nothing : k ≡ 0 = ap (λ (m : FrontMark). mark_length m input) mark in
    let r : HasReadLines settings 0 input h.answers t.lines = subst (λ (n : ℕ). HasReadLines settings n (drop n input) h.answers t.lines) nothing h.told.reads in
    let read = r.goes_on.read.count in
    let last : r.last ≡ part (0 + length input) [] = empty_last 0 input r.ended r.last r.parts (omega (arith, read, none)) in
    let start : t.lines.reader.start ≡ 0 + length input = r.goes_on.start ∙ ap (λ (p : Part). p.at) last in
    let long = zip_long settings 1 r.ended h.answers r.answers in (
      h.answers,
      record {
        ended = r.ended;
        parts = r.parts ∙ ap (λ (p : Part). r.ended ++ p ∷ []) last ∙ ap (λ (n : ℕ). r.ended ++ part n [] ∷ []) (let e : 0 + length input ≡ length input = omega arith in e);
        are_answers = unmarked_answers settings mark (ended_from 1 r.ended) h.answers r.answers;
        len_is = len ∙ (let e : t.lines.reader.start + t.lines.reader.count ≡ length input = omega (arith, start, none) in e);
        count_is = count ∙ r.count ∙ sym long;
        bad_are = bad ∙ h.bad_are;
      },
    )

pub held_by : (settings : Settings) (input : List ℕ) (t : TallyValue) (lines : Option WholeLinesValue) → settings.mark ≡ Refused → HasTaken settings input [] t
    → IfSome lines (λ (w : WholeLinesValue). (s : Settings) (xs : List ℕ) → s.mark ≡ Refused → HasTaken s xs [] t → (answers : List JudgedLine) × AreWhole s.depth xs answers w)
    → HoldLines settings.depth input lines
held_by settings input t None mark h whole = tt
held_by settings input t (Some w) mark h whole = whole settings input mark h

-- where there are lines, they are whole
pub whole_by : (settings : Settings) (input : List ℕ) (t : TallyValue) (lines : Option WholeLinesValue) → settings.mark ≡ Refused → HasTaken settings input [] t
    → IfSome lines (λ (w : WholeLinesValue). (s : Settings) (xs : List ℕ) → s.mark ≡ Refused → HasTaken s xs [] t → (answers : List JudgedLine) × AreWhole s.depth xs answers w)
    → IfSome lines (λ (w : WholeLinesValue). (answers : List JudgedLine) × AreWhole settings.depth input answers w)
whole_by settings input t None mark h whole = tt
whole_by settings input t (Some w) mark h whole = whole settings input mark h

-- Lines are read slice by slice.
use Rattle.std.proofs.Common.{◌≡◌, ℕ, zero, suc, ◌+◌, ◌<◌, List, [], ◌∷◌, ◌++◌, length, take, Bool, true, false, cond, Some, refl, sym, ap, subst, ◌∙◌, append_assoc, append-nil, arith}
use Rattle.std.specs.Prelude.{◌&&◌, slice_get, IfOk, Ok, Err, Result}
use Rattle.std.specs.List.{AllZip}
use Rattle.std.proofs.lemmas.List.Folds.{list_all-append}
use Rattle.jx_lex.specs.Uneventful.{is_blank}
use Rattle.jx_run.specs.declared.texts.settings.Settings.{Settings}
use Rattle.jx_run.specs.Elements.{Part, part, has_bytes}
use Rattle.jx_run.specs.Reader.{HasRead, ReaderValue}
use Rattle.jx_run.specs.Unclosed.{last_open}
use Rattle.jx_run.proofs.OpenEnds.{last_open-append}
use Rattle.jx_run.proofs.PartedJoins.{AllZip-append}
use Rattle.jx_run.proofs.SeqReading.{has, has_not}
use Rattle.jx_ndjson.specs.declared.judged_line.JudgedLine.{JudgedLine}
use Rattle.jx_ndjson.specs.Answers.{IsAnswer, are_blanks}
use Rattle.jx_ndjson.specs.Lines.{Line, line, is_line_feed, lines_from, lines_of}
use Rattle.jx_ndjson.specs.Parts.{behind_each}
use Rattle.jx_ndjson.specs.Reading.{HasReadLines, IsOpen, LineReaderValue, ended_from}
use Rattle.jx_ndjson.specs.inside.Steps.{HasNoLineFeed}
use Rattle.jx_ndjson.proofs.Cuts.{last-ends, longer, none-behind, parts-append}

-- ---- the line that goes on

-- with more bytes
pub longer_line : (settings : Settings) (p : Part) (more : List ℕ) (old new : LineReaderValue) → IsOpen settings p old → new.reader.settings ≡ old.reader.settings → new.reader.start ≡ old.reader.start
    → ((xs : List ℕ) → HasRead xs old.reader → HasRead (xs ++ more) new.reader) → new.is_blank ≡ (old.is_blank && are_blanks more) → new.open_ended ≡ last_open old.open_ended more
    → IsOpen settings (longer p more) new
longer_line settings p more old new h same start reads blank opens =
    record {
      reads_by = same ∙ h.reads_by;
      start = start ∙ h.start;
      read = reads p.bytes h.read;
      blank = blank ∙ ap (λ (b : Bool). b && are_blanks more) h.blank ∙ sym (list_all-append is_blank p.bytes more);
      opens = opens ∙ ap (λ (b : Bool). last_open b more) h.opens ∙ sym (last_open-append false p.bytes more);
    }

-- the same one, whatever else there is
pub same_open : (settings : Settings) (p : Part) (old new : LineReaderValue) → new.reader ≡ old.reader → new.is_blank ≡ old.is_blank → new.open_ended ≡ old.open_ended → IsOpen settings p old → IsOpen settings p new
same_open settings p old new r b o h =
    record {
      reads_by = ap (λ (x : ReaderValue). x.settings) r ∙ h.reads_by;
      start = ap (λ (x : ReaderValue). x.start) r ∙ h.start;
      read = subst (HasRead p.bytes) (sym r) h.read;
      blank = b ∙ h.blank;
      opens = o ∙ h.opens;
    }

-- ---- all lines

pub goes_on : (settings : Settings) (at : ℕ) (bytes more : List ℕ) (told : List JudgedLine) (old new : LineReaderValue) → HasReadLines settings at bytes told old → HasNoLineFeed more → new.ended ≡ old.ended
    → ((p : Part) → IsOpen settings p old → IsOpen settings (longer p more) new) → HasReadLines settings at (bytes ++ more) told new
goes_on settings at bytes more told old new h none ended opened =
    record {
      ended = h.ended;
      last = longer h.last more;
      parts =
          parts-append is_line_feed bytes more at h.ended h.last h.parts
          ∙ ap (λ (t : List ℕ). h.ended ++ longer h.last t ∷ behind_each is_line_feed (at + length bytes) more) none
          ∙ ap (λ (ps : List Part). h.ended ++ longer h.last more ∷ ps) (none-behind is_line_feed more (at + length bytes) none);
      answers = h.answers;
      count = ended ∙ h.count;
      goes_on = opened h.last h.goes_on;
    }

-- the same reader, whatever else there is
pub same_lines : (settings : Settings) (at : ℕ) (bytes : List ℕ) (told : List JudgedLine) (old new : LineReaderValue) → new.reader ≡ old.reader → new.is_blank ≡ old.is_blank → new.open_ended ≡ old.open_ended
    → new.ended ≡ old.ended → HasReadLines settings at bytes told old → HasReadLines settings at bytes told new
same_lines settings at bytes told old new r b o n h =
    record { ended = h.ended; last = h.last; parts = h.parts; answers = h.answers; count = n ∙ h.count; goes_on = same_open settings h.last old new r b o h.goes_on }

pub reached : (settings : Settings) (at : ℕ) (bytes : List ℕ) (told : List JudgedLine) (r : LineReaderValue) → HasReadLines settings at bytes told r → r.reader.start + r.reader.count ≡ at + length bytes
reached settings at bytes told r h =
    let end = last-ends is_line_feed bytes at h.ended h.last h.parts in
    let start = h.goes_on.start in
    let long = h.goes_on.read.count in
    omega (arith, end, start, long)

length-snoc : {A : Type 0} (xs : List A) (x : A) → length (xs ++ x ∷ []) ≡ suc (length xs)
length-snoc [] x = refl
length-snoc (y ∷ xs) x = ap suc (length-snoc xs x)

ended-snoc : (n : ℕ) (ps : List Part) (p : Part) → ended_from n (ps ++ p ∷ []) ≡ ended_from n ps ++ line (n + length ps) p true ∷ []
ended-snoc n [] p = let e : n ≡ n + 0 = omega arith in ap (λ (k : ℕ). line k p true ∷ []) e
ended-snoc n (q ∷ ps) p =
    let e : suc n + length ps ≡ n + length (q ∷ ps) = omega arith in
    ap (λ (ls : List Line). line n q true ∷ ls) (ended-snoc (suc n) ps p ∙ ap (λ (k : ℕ). ended_from (suc n) ps ++ line k p true ∷ []) e)

pub whole : (p : Part) → longer p [] ≡ p
whole p = ap (part p.at) (append-nil p.bytes)

pub ends_line : (settings : Settings) (at : ℕ) (bytes : List ℕ) (told : List JudgedLine) (old new : LineReaderValue) (j : JudgedLine) → HasReadLines settings at bytes told old
    → ((p : Part) → IsOpen settings p old → IsAnswer settings (line (suc old.ended) p true) j) → ((p : Part) → IsOpen settings p old → IsOpen settings (part (old.reader.start + old.reader.count + 1) []) new)
    → new.ended ≡ suc old.ended → HasReadLines settings at (bytes ++ 0x0a ∷ []) (told ++ j ∷ []) new
ends_line settings at bytes told old new j h judged opened ended =
    let there : suc (at + length bytes) ≡ old.reader.start + old.reader.count + 1 = let e = reached settings at bytes told old h in omega (arith, e) in
    let next : Part = part (old.reader.start + old.reader.count + 1) [] in
    let number : suc old.ended ≡ 1 + length h.ended = let e = h.count in omega (arith, e) in
    record {
      ended = h.ended ++ h.last ∷ [];
      last = next;
      parts =
          parts-append is_line_feed bytes (0x0a ∷ []) at h.ended h.last h.parts
          ∙ ap (λ (p : Part). h.ended ++ p ∷ part (suc (at + length bytes)) [] ∷ []) (whole h.last)
          ∙ ap (λ (n : ℕ). h.ended ++ h.last ∷ part n [] ∷ []) there
          ∙ sym (append_assoc h.ended (h.last ∷ []) (next ∷ []));
      answers =
          subst (λ (ls : List Line). AllZip (IsAnswer settings) ls (told ++ j ∷ [])) (sym (ended-snoc 1 h.ended h.last))
          (AllZip-append (IsAnswer settings) (ended_from 1 h.ended) (line (1 + length h.ended) h.last true ∷ []) told (j ∷ []) h.answers
          (subst (λ (n : ℕ). IsAnswer settings (line n h.last true) j) number (judged h.last h.goes_on), tt));
      count = ended ∙ ap suc h.count ∙ sym (length-snoc h.ended h.last);
      goes_on = opened h.last h.goes_on;
    }

-- ---- a slice

-- the first byte, and others behind it
pub first_alone : (xs : List ℕ) (b : ℕ) → slice_get xs 0 ≡ Some b → take 1 xs ≡ b ∷ []
first_alone [] b h = absurd (cc)
first_alone (x ∷ xs) b h = let e : x ≡ b = cc in ap (λ (n : ℕ). n ∷ []) e

pub long_by : (xs : List ℕ) (b : ℕ) → slice_get xs 0 ≡ Some b → 0 < length xs
long_by [] b h = absurd (cc)
long_by (x ∷ xs) b h = omega arith

pub first_of : (xs : List ℕ) (b n : ℕ) → slice_get xs 0 ≡ Some b → 0 < n → (more : List ℕ) × (take n xs ≡ b ∷ more)
first_of [] b n h low = absurd (cc)
first_of (x ∷ xs) b zero h low = absurd (omega (arith, low))
first_of (x ∷ xs) b (suc n) h low = let e : x ≡ b = cc in (take n xs, ap (λ (k : ℕ). k ∷ take n xs) e)

-- what holds of a result where two others do
pub both_ok : {A E : Type 0} {P Q S : A → Type 0} (r : Result A E) → ((a : A) → P a → Q a → S a) → IfOk r P → IfOk r Q → IfOk r S
both_ok (Ok a) f p q = f a p q
both_ok (Err e) f p q = tt

-- ---- lines that have ended, and those behind them

pub lines-split : (n : ℕ) (ps : List Part) (p : Part) (qs : List Part) → lines_of n (ps ++ p ∷ qs) ≡ ended_from n ps ++ lines_of (n + length ps) (p ∷ qs)
lines-split n [] p qs = let e : n ≡ n + 0 = omega arith in ap (λ (k : ℕ). lines_of k (p ∷ qs)) e
lines-split n (q ∷ []) p qs =
    let e : suc n ≡ n + 1 = omega arith in
    ap (λ (k : ℕ). line n q true ∷ lines_of k (p ∷ qs)) e
lines-split n (q ∷ r ∷ ps) p qs =
    let e : suc n + length (r ∷ ps) ≡ n + length (q ∷ r ∷ ps) = omega arith in
    ap (λ (ls : List Line). line n q true ∷ ls) (lines-split (suc n) (r ∷ ps) p qs ∙ ap (λ (k : ℕ). ended_from (suc n) (r ∷ ps) ++ lines_of k (p ∷ qs)) e)

-- ---- the last line

one_line : (n : ℕ) (p : Part) (b : Bool) → has_bytes p ≡ b → lines_of n (p ∷ []) ≡ cond b (line n p false ∷ []) []
one_line n p b h = ap (λ (t : Bool). cond t (line n p false ∷ []) []) h

-- it has bytes
pub with_last : (settings : Settings) (at : ℕ) (bytes : List ℕ) (told : List JudgedLine) (r : LineReaderValue) (j : JudgedLine) → HasReadLines settings at bytes told r → (r.reader.start ≡ r.reader.start + r.reader.count → ⊥)
    → ((p : Part) → IsOpen settings p r → IsAnswer settings (line (suc r.ended) p false) j) → AllZip (IsAnswer settings) (lines_from at bytes) (told ++ j ∷ [])
with_last settings at bytes told r j h some judged =
    let long = h.goes_on.read.count in
    let filled : has_bytes h.last ≡ true = has h.last (omega (arith, long, some)) in
    let number : suc r.ended ≡ 1 + length h.ended = let e = h.count in omega (arith, e) in
    subst (λ (ls : List Line). AllZip (IsAnswer settings) ls (told ++ j ∷ []))
    (sym (ap (lines_of 1) h.parts ∙ lines-split 1 h.ended h.last [] ∙ ap (λ (ls : List Line). ended_from 1 h.ended ++ ls) (one_line (1 + length h.ended) h.last true filled)))
    (AllZip-append (IsAnswer settings) (ended_from 1 h.ended) (line (1 + length h.ended) h.last false ∷ []) told (j ∷ []) h.answers
    (subst (λ (n : ℕ). IsAnswer settings (line n h.last false) j) number (judged h.last h.goes_on), tt))

-- it has none
pub without_last : (settings : Settings) (at : ℕ) (bytes : List ℕ) (told : List JudgedLine) (r : LineReaderValue) → HasReadLines settings at bytes told r → r.reader.start ≡ r.reader.start + r.reader.count
    → AllZip (IsAnswer settings) (lines_from at bytes) (told ++ [])
without_last settings at bytes told r h none =
    let long = h.goes_on.read.count in
    let empty : has_bytes h.last ≡ false = has_not h.last (omega (arith, long, none)) in
    subst (λ (js : List JudgedLine). AllZip (IsAnswer settings) (lines_from at bytes) js) (sym (append-nil told))
    (subst (λ (ls : List Line). AllZip (IsAnswer settings) ls told)
    (sym (ap (lines_of 1) h.parts ∙ lines-split 1 h.ended h.last [] ∙ ap (λ (ls : List Line). ended_from 1 h.ended ++ ls) (one_line (1 + length h.ended) h.last false empty) ∙ append-nil (ended_from 1 h.ended)))
    h.answers)

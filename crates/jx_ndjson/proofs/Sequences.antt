-- Elements of a text sequence are answered as they end.
use Rattle.std.proofs.Common.{◌≡◌, ℕ, suc, ◌+◌, ◌<◌, ◌≤◌, List, [], ◌∷◌, ◌++◌, length, take, Bool, true, false, cond, Option, refl, sym, ap, subst, ◌∙◌, append_assoc, append-nil, arith}
use Rattle.std.specs.Prelude.{◌==◌, ◌&&◌, All, nat_lt}
use Rattle.std.specs.List.{AllZip}
use Rattle.std.proofs.lemmas.Bool.Decides.{nat_tests}
use Rattle.std.proofs.lemmas.List.Elements.{All-cons, All-head, All-tail, filter-append}
use Rattle.jx_summary.specs.declared.span.Span.{Span}
use Rattle.jx_run.specs.declared.sequences.element_verdict.JudgedElement.{JudgedElement}
use Rattle.jx_run.specs.declared.texts.settings.FrontMark.{FrontMark}
use Rattle.jx_run.specs.declared.texts.settings.FrontMark.TheVariants.{Refused, Ignored}
use Rattle.jx_run.specs.declared.texts.settings.Settings.{Settings}
use Rattle.jx_run.specs.Elements.{Part, part, is_separator, before_separator, after_separators, parts, filled, has_bytes, elements}
use Rattle.jx_run.specs.ElementVerdict.{IsJudgedElement}
use Rattle.jx_run.specs.Front.{agreed, front_of}
use Rattle.jx_run.specs.MarkAlone.{elements_by, is_mark_alone, part_of, without_mark}
use Rattle.jx_run.specs.Reader.{HasRead, ReaderValue}
use Rattle.jx_run.specs.Settings.{byte_order_mark}
use Rattle.jx_run.specs.SequenceRead.{AreRead, EndsWithSeparator, HasNoSeparator, StartsWithSeparator, listed}
use Rattle.jx_run.specs.Tree.{span}
use Rattle.jx_run.specs.Unclosed.{last_open}
use Rattle.jx_run.proofs.ElementsLie.{LiesIn, first_lies, parts_lie}
use Rattle.jx_run.proofs.PartedJoins.{AllZip-append}
use Rattle.jx_ndjson.specs.ElementReading.{AreJudgedElements, ElementReaderValue, HasToldElements}
use Rattle.jx_ndjson.specs.Elements.{all_but_last, by_mark, ended_elements}
use Rattle.jx_ndjson.specs.Parts.{before_first, behind_each, parts_by}
use Rattle.jx_ndjson.specs.inside.ElementSteps.{is_passed_by}
use Rattle.jx_ndjson.proofs.Cuts.{before-alike, longer, none-behind, parts-alike, parts-append}
use Rattle.jx_ndjson.proofs.LineLaws.{IsSplit, split_last}

-- what stands in front shows in its first three bytes
pub front_shows : ((m : FrontMark) (text more : List ℕ) → 3 ≤ length text → front_of m (text ++ more) ≡ front_of m text) → (m : FrontMark) (text : List ℕ) → front_of m (take 3 text) ≡ front_of m text
front_shows stays m [] = refl
front_shows stays m (a ∷ []) = refl
front_shows stays m (a ∷ b ∷ []) = refl
front_shows stays m (a ∷ b ∷ c ∷ more) = sym (stays m (a ∷ b ∷ c ∷ []) more (omega arith))

-- ---- parts that have ended

but_last : (ps : List Part) (p : Part) → all_but_last (ps ++ p ∷ []) ≡ ps
but_last [] p = refl
but_last (q ∷ []) p = refl
but_last (q ∷ r ∷ ps) p = ap (λ (xs : List Part). q ∷ xs) (but_last (r ∷ ps) p)

but_last_behind : (ps : List Part) (p : Part) (qs : List Part) → all_but_last (ps ++ p ∷ qs) ≡ ps ++ all_but_last (p ∷ qs)
but_last_behind [] p qs = refl
but_last_behind (q ∷ []) p qs = refl
but_last_behind (q ∷ r ∷ ps) p qs = ap (λ (xs : List Part). q ∷ xs) (but_last_behind (r ∷ ps) p qs)

-- those that stand before an ended list of parts are filled alike
filled_behind : (ps qs : List Part) → filled (ps ++ qs) ≡ filled ps ++ filled qs
filled_behind ps qs = filter-append has_bytes ps qs

ended_is : (mark : FrontMark) (input : List ℕ) (ended : List Part) (last : Part) → parts 0 input ≡ ended ++ last ∷ [] → ended_elements mark input ≡ by_mark mark (filled ended)
ended_is mark input ended last h = ap (λ (ps : List Part). by_mark mark (filled (all_but_last ps))) (parts-alike 0 input ∙ h) ∙ ap (λ (ps : List Part). by_mark mark (filled ps)) (but_last ended last)

all_are : (mark : FrontMark) (input : List ℕ) → elements_by mark input ≡ by_mark mark (elements 0 input)
all_are Refused input = refl
all_are Ignored input = refl

-- more bytes without a separator
pub still_ended : (mark : FrontMark) (input more : List ℕ) (ended : List Part) (last : Part) → parts 0 input ≡ ended ++ last ∷ [] → HasNoSeparator more → ended_elements mark (input ++ more) ≡ ended_elements mark input
still_ended mark input more ended last h none =
    let split : parts_by is_separator 0 input ≡ ended ++ last ∷ [] = parts-alike 0 input ∙ h in
    let alone : behind_each is_separator (0 + length input) more ≡ [] = none-behind is_separator more (0 + length input) (before-alike more ∙ none) in
    let q : Part = longer last (before_first is_separator more) in
    let all : parts_by is_separator 0 (input ++ more) ≡ ended ++ q ∷ [] =
    parts-append is_separator input more 0 ended last split ∙ ap (λ (ps : List Part). ended ++ q ∷ ps) alone in
    ap (λ (ps : List Part). by_mark mark (filled (all_but_last ps))) all
    ∙ ap (λ (ps : List Part). by_mark mark (filled ps)) (but_last ended q)
    ∙ sym (ended_is mark input ended last h)

-- a separator ends all that stands before it
pub all_ended : (mark : FrontMark) (input : List ℕ) (ended : List Part) (last : Part) → parts 0 input ≡ ended ++ last ∷ [] → ended_elements mark (input ++ 0x1e ∷ []) ≡ elements_by mark input
all_ended mark input ended last h =
    let split : parts_by is_separator 0 input ≡ ended ++ last ∷ [] = parts-alike 0 input ∙ h in
    let next : Part = part (suc (0 + length input)) [] in
    let whole : longer last [] ≡ last = ap (part last.at) (append-nil last.bytes) in
    let all : parts_by is_separator 0 (input ++ 0x1e ∷ []) ≡ (ended ++ last ∷ []) ++ next ∷ [] =
    parts-append is_separator input (0x1e ∷ []) 0 ended last split
    ∙ ap (λ (p : Part). ended ++ p ∷ next ∷ []) whole
    ∙ sym (append_assoc ended (last ∷ []) (next ∷ [])) in
    ap (λ (ps : List Part). by_mark mark (filled (all_but_last ps))) all
    ∙ ap (λ (ps : List Part). by_mark mark (filled ps)) (but_last (ended ++ last ∷ []) next ∙ sym h)
    ∙ sym (all_are mark input)

-- ---- a byte order mark alone

-- with others behind them
front_stays : (mark : FrontMark) (ps qs : List Part) → (rest : List Part) × (by_mark mark (ps ++ qs) ≡ by_mark mark ps ++ rest)
front_stays Refused ps qs = (qs, refl)
front_stays Ignored [] qs = (without_mark qs, refl)
front_stays Ignored (p ∷ ps) qs = (qs, pick (is_mark_alone p))
  where
    pick : (b : Bool) → cond b (ps ++ qs) (p ∷ (ps ++ qs)) ≡ cond b ps (p ∷ ps) ++ qs
    pick true = refl
    pick false = refl

one_filled : (p : Part) → is_mark_alone p ≡ false → without_mark (filled (p ∷ [])) ≡ filled (p ∷ [])
one_filled p h = pick (has_bytes p)
  where
    pick : (b : Bool) → without_mark (cond b (p ∷ []) []) ≡ cond b (p ∷ []) []
    pick true = ap (λ (m : Bool). cond m [] (p ∷ [])) h
    pick false = refl

unmarked : (ps : List Part) (p : Part) → is_mark_alone p ≡ false → without_mark (ps ++ filled (p ∷ [])) ≡ without_mark ps ++ filled (p ∷ [])
unmarked [] p h = one_filled p h
unmarked (q ∷ ps) p h = pick (is_mark_alone q)
  where
    pick : (b : Bool) → cond b (ps ++ filled (p ∷ [])) (q ∷ (ps ++ filled (p ∷ []))) ≡ cond b ps (q ∷ ps) ++ filled (p ∷ [])
    pick true = refl
    pick false = refl

-- only the first part begins at the start
behind_at : (xs : List ℕ) (at : ℕ) (ps : List Part) (l : Part) → after_separators at xs ≡ ps ++ l ∷ [] → at < l.at
behind_at [] at [] l h = absurd cc
behind_at [] at (p ∷ ps) l h = absurd cc
behind_at (b ∷ xs) at ps l h = pick (is_separator b) ps h (behind_at xs (suc at))
  where
    pick : (m : Bool) (ps : List Part) → cond m (part (suc at) (before_separator xs) ∷ after_separators (suc at) xs) (after_separators (suc at) xs) ≡ ps ++ l ∷ []
        → ((qs : List Part) (k : Part) → after_separators (suc at) xs ≡ qs ++ k ∷ [] → suc at < k.at) → at < l.at
    pick true [] h more = let e : part (suc at) (before_separator xs) ≡ l = cc in let f : suc at ≡ l.at = ap (λ (p : Part). p.at) e in omega (arith, f)
    pick true (q ∷ qs) h more = let e : after_separators (suc at) xs ≡ qs ++ l ∷ [] = cc in let f = more qs l e in omega (arith, f)
    pick false ps h more = let f = more ps l h in omega (arith, f)

none_before : (input : List ℕ) (ended : List Part) (last : Part) → parts 0 input ≡ ended ++ last ∷ [] → last.at ≡ 0 → ended ≡ []
none_before input [] last h at = refl
none_before input (p ∷ ps) last h at =
    let e : after_separators 0 input ≡ ps ++ last ∷ [] = cc in
    let f = behind_at input 0 ps last e in
    absurd (omega (arith, f, at))

mark_is : (p : Part) → is_mark_alone p ≡ true → (p.at ≡ 0) × (has_bytes p ≡ true)
mark_is p h = pick (p.at == 0) (length p.bytes == 3) refl refl h
  where
    pick : (a b : Bool) → (p.at == 0) ≡ a → (length p.bytes == 3) ≡ b → (a && (b && (agreed p.bytes byte_order_mark == 3))) ≡ true → (p.at ≡ 0) × (has_bytes p ≡ true)
    pick true true e f h = (grind (arith, nat_tests), filled_by (length p.bytes) (grind (arith, nat_tests)))
      where
        filled_by : (n : ℕ) → n ≡ 3 → nat_lt 0 n ≡ true
        filled_by n e = ap (λ (k : ℕ). nat_lt 0 k) e
    pick true false e f h = absurd cc
    pick false b e f h = absurd cc

-- ---- the last part

All-last : {A : Type 0} (P : A → Type 0) (xs : List A) (x : A) → All P (xs ++ x ∷ []) → P x
All-last P [] x h = All-head P x [] h
All-last P (y ∷ xs) x h = All-last P xs x (All-tail P y (xs ++ x ∷ []) h)

last_lies : (input : List ℕ) (ended : List Part) (last : Part) → parts 0 input ≡ ended ++ last ∷ [] → LiesIn input last
last_lies input ended last h =
    All-last (LiesIn input) ended last
    (subst (All (LiesIn input)) h
    (All-cons (LiesIn input) (part 0 (before_separator input)) (after_separators 0 input) (first_lies input 0 input refl (omega arith)) (parts_lie input 0 input refl (omega arith))))

same_part : (input : List ℕ) (last : Part) (start end : ℕ) → LiesIn input last → start ≡ last.at → end ≡ last.at + length last.bytes → part_of input (span start end) ≡ last
same_part input last start end lies s e =
    ap (λ (n : ℕ). part_of input (span n end)) s
    ∙ ap (λ (n : ℕ). part_of input (span last.at n)) e
    ∙ ap (part last.at) lies.bytes

zip_rest : {A B : Type 0} (R : A → B → Type 0) (xs us : List A) (ys vs : List B) → AllZip R xs ys → AllZip R (xs ++ us) (ys ++ vs) → AllZip R us vs
zip_rest R [] us [] vs h k = k
zip_rest R [] us (y ∷ ys) vs h k = absurd h
zip_rest R (x ∷ xs) us [] vs h k = absurd h
zip_rest R (x ∷ xs) us (y ∷ ys) vs h k = zip_rest R xs us ys vs h.1 k.1

zip_none : {A B : Type 0} (R : A → B → Type 0) (ys : List B) → AllZip R [] ys → ys ≡ []
zip_none R [] h = refl
zip_none R (y ∷ ys) h = absurd h

module _ (settings : Settings) (input : List ℕ) (told : List JudgedElement) (r : ElementReaderValue) (h : HasToldElements settings input told r) where
  abbrev R : Part → JudgedElement → Type 0
  R = IsJudgedElement settings.depth

  abbrev place : Span
  place = span r.reader.start (r.reader.start + r.reader.count)

  lies : LiesIn input h.read.last
  lies = last_lies input h.read.ended h.read.last h.read.parts

  last_is : part_of input place ≡ h.read.last
  last_is =
      let start = h.read.start in
      let long = h.read.read.count in
      same_part input h.read.last r.reader.start (r.reader.start + r.reader.count) lies start (omega (arith, start, long))

  ended_before : AllZip R (by_mark settings.mark (filled h.read.ended)) told
  ended_before = subst (λ (ps : List Part). AllZip R ps told) (ended_is settings.mark input h.read.ended h.read.last h.read.parts) h.answers

  filled_all : elements 0 input ≡ filled h.read.ended ++ filled (h.read.last ∷ [])
  filled_all = ap filled h.read.parts ∙ filled_behind h.read.ended (h.read.last ∷ [])

  -- the last element is told
  pub last_told : (e : Option JudgedElement) → is_passed_by r.mark input place ≡ false → AllZip R (elements 0 input) (h.judged ++ listed e) → AreJudgedElements settings input (told ++ listed e)
  last_told e stays z =
      let alone : AllZip R (filled (h.read.last ∷ [])) (listed e) =
      zip_rest R (filled h.read.ended) (filled (h.read.last ∷ [])) h.judged (listed e) h.read.done (subst (λ (ps : List Part). AllZip R ps (h.judged ++ listed e)) filled_all z) in
      subst (λ (ps : List Part). AllZip R ps (told ++ listed e)) (sym (all_are settings.mark input ∙ ap (by_mark settings.mark) filled_all ∙ together settings.mark (ap (λ (m : FrontMark). is_passed_by m input place) (sym h.mark) ∙ stays)))
      (AllZip-append R (by_mark settings.mark (filled h.read.ended)) (filled (h.read.last ∷ [])) told (listed e) ended_before alone)
    where
      together : (m : FrontMark) → is_passed_by m input place ≡ false → by_mark m (filled h.read.ended ++ filled (h.read.last ∷ [])) ≡ by_mark m (filled h.read.ended) ++ filled (h.read.last ∷ [])
      together Refused f = refl
      together Ignored f = unmarked (filled h.read.ended) h.read.last (sym (ap (λ (p : Part). is_mark_alone p) last_is) ∙ f)

  -- it is a byte order mark alone
  pub mark_untold : is_passed_by r.mark input place ≡ true → AreJudgedElements settings input (told ++ [])
  mark_untold goes = by_case settings.mark refl
    where
      by_case : (m : FrontMark) → settings.mark ≡ m → AreJudgedElements settings input (told ++ [])
      by_case Refused e = absurd (let f : false ≡ true = sym (ap (λ (m : FrontMark). is_passed_by m input place) (h.mark ∙ e)) ∙ goes in cc)
      by_case Ignored e =
          let alone : is_mark_alone h.read.last ≡ true = sym (ap (λ (p : Part). is_mark_alone p) last_is) ∙ sym (ap (λ (m : FrontMark). is_passed_by m input place) (h.mark ∙ e)) ∙ goes in
          let is = mark_is h.read.last alone in
          let first : h.read.ended ≡ [] = none_before input h.read.ended h.read.last h.read.parts is.0 in
          let none : told ≡ [] = zip_none R told (subst (λ (ps : List Part). AllZip R ps told) (ap (λ (m : FrontMark). by_mark m (filled h.read.ended)) e ∙ ap (λ (ps : List Part). without_mark (filled ps)) first) ended_before) in
          let all : elements_by settings.mark input ≡ [] =
          all_are settings.mark input
          ∙ ap (λ (m : FrontMark). by_mark m (elements 0 input)) e
          ∙ ap without_mark (filled_all ∙ ap (λ (ps : List Part). filled ps ++ filled (h.read.last ∷ [])) first)
          ∙ ap (λ (b : Bool). without_mark (cond b (h.read.last ∷ []) [])) is.1
          ∙ ap (λ (b : Bool). cond b [] (h.read.last ∷ [])) alone in
          subst (λ (ps : List Part). AllZip R ps (told ++ [])) (sym all) (subst (λ (js : List JudgedElement). AllZip R [] (js ++ [])) (sym none) tt)

-- ---- laws

pub elements_stay : (mark : FrontMark) (input more : List ℕ) → (rest : List Part) × (ended_elements mark (input ++ more) ≡ ended_elements mark input ++ rest)
elements_stay mark input more =
    let h : IsSplit (parts_by is_separator 0 input) = split_last (part 0 (before_first is_separator input)) (behind_each is_separator 0 input) in
    let q : Part = longer h.last (before_first is_separator more) in
    let qs : List Part = behind_each is_separator (0 + length input) more in
    let goes = front_stays mark (filled h.ended) (filled (all_but_last (q ∷ qs))) in (
      goes.0,
      ap (λ (ps : List Part). by_mark mark (filled (all_but_last ps))) (parts-append is_separator input more 0 h.ended h.last h.split)
          ∙ ap (λ (ps : List Part). by_mark mark (filled ps)) (but_last_behind h.ended q qs)
          ∙ ap (by_mark mark) (filled_behind h.ended (all_but_last (q ∷ qs)))
          ∙ goes.1
          ∙ ap (λ (ps : List Part). ps ++ goes.0) (sym (ended_is mark input h.ended h.last (sym (parts-alike 0 input) ∙ h.split))),
    )

pub elements_begin : (mark : FrontMark) (input : List ℕ) → (rest : List Part) × (elements_by mark input ≡ ended_elements mark input ++ rest)
elements_begin mark input =
    let h : IsSplit (parts_by is_separator 0 input) = split_last (part 0 (before_first is_separator input)) (behind_each is_separator 0 input) in
    let split : parts 0 input ≡ h.ended ++ h.last ∷ [] = sym (parts-alike 0 input) ∙ h.split in
    let goes = front_stays mark (filled h.ended) (filled (h.last ∷ [])) in (
      goes.0,
      all_are mark input
          ∙ ap (λ (ps : List Part). by_mark mark (filled ps)) split
          ∙ ap (by_mark mark) (filled_behind h.ended (h.last ∷ []))
          ∙ goes.1
          ∙ ap (λ (ps : List Part). ps ++ goes.0) (sym (ended_is mark input h.ended h.last split)),
    )

-- ---- steps of a reader

-- what holds of a reader's view holds of its fields
abbrev pub viewed : (settings : Settings) (input : List ℕ) (told : List JudgedElement) (r v : ElementReaderValue) → r ≡ v → HasToldElements settings input told v → HasToldElements settings input told r
viewed settings input told r v e h =
    record {
      mark = ap (λ (x : ElementReaderValue). x.mark) e ∙ h.mark;
      judged = h.judged;
      read = subst (λ (x : ElementReaderValue). AreRead settings.depth input h.judged x.reader x.open_ended) (sym e) h.read;
      answers = h.answers;
      first = λ at. ap (λ (x : ElementReaderValue). x.first) e ∙ h.first (sym (ap (λ (x : ElementReaderValue). x.reader.start) e) ∙ at);
    }

pub span_by : (start end : ℕ) (r : ElementReaderValue) → start ≡ r.reader.start → end ≡ r.reader.start + r.reader.count → span start end ≡ span r.reader.start (r.reader.start + r.reader.count)
span_by start end r s e = ap (λ (n : ℕ). span n end) s ∙ ap (span r.reader.start) e

pub begun_elements : (settings : Settings) (r : ElementReaderValue) → r.mark ≡ settings.mark → AreRead settings.depth [] [] r.reader r.open_ended → r.first ≡ [] → HasToldElements settings [] [] r
begun_elements settings r mark read first =
    record {
      mark = mark;
      judged = [];
      read = read;
      answers = subst (λ (ps : List Part). AllZip (IsJudgedElement settings.depth) ps []) (sym (none settings.mark)) tt;
      first = λ at. first;
    }
  where
    none : (m : FrontMark) → ended_elements m [] ≡ []
    none Refused = refl
    none Ignored = refl

abbrev pub GoneOn : Type 0
GoneOn = (limit : ℕ) (bytes more : List ℕ) (done : List JudgedElement) (old new : ReaderValue) (open_ended next : Bool) → AreRead limit bytes done old open_ended
    → HasNoSeparator more → new.settings ≡ old.settings → new.start ≡ old.start → ((xs : List ℕ) → HasRead xs old → HasRead (xs ++ more) new)
    → next ≡ last_open open_ended more → AreRead limit (bytes ++ more) done new next

-- more bytes of the element that goes on; the first bytes were kept before
pub longer_element : GoneOn → (settings : Settings) (input more : List ℕ) (told : List JudgedElement) (old kept new : ElementReaderValue) → HasToldElements settings input told old → HasNoSeparator more
    → kept ≡ record old { first = kept.first } → new.reader.settings ≡ kept.reader.settings → new.reader.start ≡ kept.reader.start → ((xs : List ℕ) → HasRead xs kept.reader → HasRead (xs ++ more) new.reader)
    → new.open_ended ≡ last_open kept.open_ended more → (new.reader.start ≡ 0 → new.first ≡ take 3 (input ++ more)) → new.first ≡ kept.first → new.mark ≡ kept.mark → HasToldElements settings (input ++ more) told new
longer_element law settings input more told old kept new h none same settings_are start reads opens first is mark =
    let read : AreRead settings.depth input h.judged kept.reader kept.open_ended = subst (λ (v : ElementReaderValue). AreRead settings.depth input h.judged v.reader v.open_ended) (sym same) h.read in
    record {
      mark = mark ∙ ap (λ (v : ElementReaderValue). v.mark) same ∙ h.mark;
      judged = h.judged;
      read = law settings.depth input more h.judged kept.reader new.reader kept.open_ended new.open_ended read none settings_are start reads opens;
      answers = subst (λ (ps : List Part). AllZip (IsJudgedElement settings.depth) ps told) (sym (still_ended settings.mark input more h.read.ended h.read.last h.read.parts none)) h.answers;
      first = first;
    }

abbrev pub Marked : Type 0
Marked = (limit : ℕ) (bytes more : List ℕ) (done behind : List JudgedElement) (reader : ReaderValue) → AllZip (IsJudgedElement limit) (elements 0 bytes) done
    → StartsWithSeparator more → EndsWithSeparator more → AllZip (IsJudgedElement limit) (elements (length bytes) more) behind
    → reader.settings.depth ≡ limit → reader.settings.mark ≡ Refused → reader.start ≡ length bytes + length more → HasRead [] reader
    → AreRead limit (bytes ++ more) (done ++ behind) reader false

-- a separator behind them
pub ends_element : Marked → (settings : Settings) (input : List ℕ) (told all : List JudgedElement) (old new : ElementReaderValue) → HasToldElements settings input told old → (e : Option JudgedElement)
    → AreJudgedElements settings input (told ++ listed e) → AllZip (IsJudgedElement settings.depth) (elements 0 input) all → new.mark ≡ old.mark → new.reader.settings ≡ old.reader.settings → new.reader.start ≡ suc (length input)
    → HasRead [] new.reader → new.open_ended ≡ false → HasToldElements settings (input ++ 0x1e ∷ []) (told ++ listed e) new
ends_element law settings input told all old new h e judged every mark settings_are start read opens =
    let next : AreRead settings.depth (input ++ 0x1e ∷ []) (all ++ []) new.reader false =
    law settings.depth input (0x1e ∷ []) all [] new.reader every refl ([], refl) tt
    (ap (λ (s : Settings). s.depth) settings_are ∙ h.read.depth) (ap (λ (s : Settings). s.mark) settings_are ∙ h.read.mark) (let n : new.reader.start ≡ length input + 1 = omega (arith, start) in n) read in
    record {
      mark = mark ∙ h.mark;
      judged = all ++ [];
      read = subst (AreRead settings.depth (input ++ 0x1e ∷ []) (all ++ []) new.reader) (sym opens) next;
      answers = subst (λ (ps : List Part). AllZip (IsJudgedElement settings.depth) ps (told ++ listed e)) (sym (all_ended settings.mark input h.read.ended h.read.last h.read.parts)) judged;
      first = λ at. absurd (omega (arith, start, at));
    }

-- A byte order mark in front of lines.
use Rattle.std.proofs.Common.{◌≡◌, ℕ, zero, suc, ◌+◌, ◌<◌, ◌≤◌, List, [], ◌∷◌, ◌++◌, length, take, drop, Bool, true, false, cond, refl, sym, ap, subst, ◌∙◌, append_assoc, append-nil, arith}
use Rattle.std.specs.Prelude.{◌==◌}
use Rattle.std.specs.List.{AllZip}
use Rattle.std.proofs.lemmas.Bool.Decides.{nat_tests}
use Rattle.std.proofs.lemmas.List.{drop-append-le, length-append}
use Rattle.jx_run.specs.declared.texts.settings.FrontMark.{FrontMark}
use Rattle.jx_run.specs.declared.texts.settings.FrontMark.TheVariants.{Refused, Ignored}
use Rattle.jx_run.specs.declared.texts.settings.NameRule.TheVariants.{Any}
use Rattle.jx_run.specs.declared.texts.settings.Settings.{Settings}
use Rattle.jx_run.specs.Elements.{Part, part}
use Rattle.jx_run.specs.Front.{agreed}
use Rattle.jx_run.specs.Settings.{byte_order_mark}
use Rattle.jx_run.proofs.Fronts.{none_agreed}
use Rattle.jx_ndjson.specs.declared.judged_line.JudgedLine.{JudgedLine}
use Rattle.jx_ndjson.specs.Answers.{IsAnswer, mark_at, settings_at}
use Rattle.jx_ndjson.specs.Lines.{is_line_feed, mark_length}
use Rattle.jx_ndjson.specs.Parts.{parts_by}
use Rattle.jx_ndjson.specs.Reading.{HasReadLines, HasTold, IsOpen, IsPlace, LineReaderValue, ended_from}
use Rattle.jx_ndjson.specs.inside.Steps.{is_ignored, is_next_of_mark}
use Rattle.jx_ndjson.proofs.Steps.{reached}

-- ---- the first bytes of a mark

pub data IsBegun : List ℕ → Type 0 where
  none : IsBegun []
  one : IsBegun (0xef ∷ [])
  two : IsBegun (0xef ∷ 0xbb ∷ [])

pub begun_of : (input : List ℕ) → length input < 3 → input ≡ take (length input) byte_order_mark → IsBegun input
begun_of [] low e = none
begun_of (x ∷ []) low e = subst IsBegun (sym e) one
begun_of (x ∷ y ∷ []) low e = subst IsBegun (sym e) two
begun_of (x ∷ y ∷ z ∷ w) low e = absurd (omega (arith, low))

place_in_front : (input : List ℕ) → IsBegun input → IsPlace Ignored input true
place_in_front _ none = (refl, omega arith, refl)
place_in_front _ one = (refl, omega arith, refl)
place_in_front _ two = (refl, omega arith, refl)

no_length : (mark : FrontMark) (input : List ℕ) → IsBegun input → mark_length mark input ≡ 0
no_length Refused input h = refl
no_length Ignored _ none = refl
no_length Ignored _ one = refl
no_length Ignored _ two = refl

-- another byte stands where the mark would go on
other : (input : List ℕ) (b : ℕ) (more : List ℕ) → IsBegun input → is_next_of_mark (length input) b ≡ false → mark_length Ignored (input ++ b ∷ more) ≡ 0
other _ b more none h = ap (λ (t : Bool). cond (cond t (suc (agreed more (0xbb ∷ 0xbf ∷ []))) 0 == 3) 3 0) h
other _ b more one h = ap (λ (t : Bool). cond (suc (cond t (suc (agreed more (0xbf ∷ []))) 0) == 3) 3 0) h
other _ b more two h = ap (λ (t : Bool). cond (suc (suc (cond t (suc (agreed more [])) 0)) == 3) 3 0) h

pub whole_mark : (more : List ℕ) → mark_length Ignored (byte_order_mark ++ more) ≡ 3
whole_mark more = ap (λ (n : ℕ). cond (suc (suc (suc n)) == 3) 3 0) (none_agreed more)

-- the next byte of the mark
data IsLonger : List ℕ → ℕ → Type 0 where
  longer : {input : List ℕ} {b : ℕ} → IsBegun (input ++ b ∷ []) → IsLonger input b
  ended : {input : List ℕ} {b : ℕ} → input ++ b ∷ [] ≡ byte_order_mark → IsLonger input b

next : (input : List ℕ) (b : ℕ) → IsBegun input → is_next_of_mark (length input) b ≡ true → IsLonger input b
next _ b none h = let e : b ≡ 0xef = grind (arith, nat_tests) in longer (subst (λ (x : ℕ). IsBegun (x ∷ [])) (sym e) one)
next _ b one h = let e : b ≡ 0xbb = grind (arith, nat_tests) in longer (subst (λ (x : ℕ). IsBegun (0xef ∷ x ∷ [])) (sym e) two)
next _ b two h = let e : b ≡ 0xbf = grind (arith, nat_tests) in ended (ap (λ (x : ℕ). 0xef ∷ 0xbb ∷ x ∷ []) e)

-- ---- what was told

begun_in : (settings : Settings) (input : List ℕ) (told : List JudgedLine) (r : LineReaderValue) → HasTold settings input told r → r.in_front ≡ true → (settings.mark ≡ Ignored) × IsBegun input
begun_in settings input told r h e =
    let p = subst (λ (b : Bool). IsPlace settings.mark input b) e h.place in
    (p.0, begun_of input p.1 p.2)

-- in front nothing was skipped
lines_in : (settings : Settings) (input : List ℕ) (told : List JudgedLine) (r : LineReaderValue) → HasTold settings input told r → IsBegun input → HasReadLines settings 0 input told r
lines_in settings input told r h begun =
    subst (λ (k : ℕ). HasReadLines settings k (drop k input) told r) (no_length settings.mark input begun) h.reads

told_by : (settings : Settings) (input : List ℕ) (told : List JudgedLine) (r : LineReaderValue) (k : ℕ) → mark_length settings.mark input ≡ k → HasReadLines settings k (drop k input) told r
    → IsPlace settings.mark input r.in_front → HasTold settings input told r
told_by settings input told r k e reads place =
    record { reads = subst (λ (n : ℕ). HasReadLines settings n (drop n input) told r) (sym e) reads; place = place }

-- before the first byte
first_place : (mark : FrontMark) → IsPlace mark [] (is_ignored mark)
first_place Refused = (omega arith, λ more. refl)
first_place Ignored = place_in_front [] none

pub first_settings : (s : Settings) → let first : Settings = record { depth = s.depth; mark = s.mark; names = Any } in first ≡ settings_at s 0
first_settings s = ap (λ (m : FrontMark). let t : Settings = record { depth = s.depth; mark = m; names = Any } in t) (same s.mark)
  where
    same : (m : FrontMark) → m ≡ mark_at m 0
    same Refused = refl
    same Ignored = refl

pub at_start : (settings : Settings) (r : LineReaderValue) → HasReadLines settings 0 [] [] r → r.in_front ≡ is_ignored settings.mark → HasTold settings [] [] r
at_start settings r reads e =
    told_by settings [] [] r 0 (no_length settings.mark [] none) reads (subst (IsPlace settings.mark []) (sym e) (first_place settings.mark))

-- where no mark may begin or go on
pub goes_in_lines : (settings : Settings) (input more : List ℕ) (told then : List JudgedLine) (old new : LineReaderValue) → HasTold settings input told old → old.in_front ≡ false → new.in_front ≡ false
    → ((at : ℕ) (before : List ℕ) → HasReadLines settings at before told old → HasReadLines settings at (before ++ more) then new) → HasTold settings (input ++ more) then new
goes_in_lines settings input more told then old new h was is reads =
    let p = subst (λ (b : Bool). IsPlace settings.mark input b) was h.place in
    let k = mark_length settings.mark input in
    let here : HasReadLines settings k (drop k (input ++ more)) then new =
    subst (λ (xs : List ℕ). HasReadLines settings k xs then new) (sym (drop-append-le k input more p.0)) (reads k (drop k input) h.reads) in
    let long : length (input ++ more) ≡ length input + length more = length-append input more in
    let within = p.0 in
    let same : mark_length settings.mark (input ++ more) ≡ k = p.1 more in
    told_by settings (input ++ more) then new k same here
    (subst (IsPlace settings.mark (input ++ more)) (sym is)
    (omega (arith, long, within, same), λ rest. ap (mark_length settings.mark) (append_assoc input more rest) ∙ p.1 (more ++ rest) ∙ sym same))

-- no mark is ignored behind the first byte
pub beyond : (m : FrontMark) (n : ℕ) → 0 < n → mark_at m n ≡ Refused
beyond Refused n h = refl
beyond Ignored zero h = absurd (omega (arith, h))
beyond Ignored (suc n) h = refl

covered : (k : ℕ) (xs : List ℕ) → length xs ≤ k + length (drop k xs)
covered zero xs = omega arith
covered (suc k) [] = omega arith
covered (suc k) (x ∷ xs) = let h = covered k xs in omega (arith, h)

-- nor behind lines that have ended
pub behind_front : (settings : Settings) (input : List ℕ) (told : List JudgedLine) (r : LineReaderValue) → HasTold settings input told r → r.in_front ≡ false → r.reader.count ≡ 0
    → (n : ℕ) → mark_at settings.mark (r.reader.start + n) ≡ Refused
behind_front settings input told r h is between n =
    pick settings.mark (subst (λ (b : Bool). IsPlace settings.mark input b) is h.place) (reached settings (mark_length settings.mark input) (drop (mark_length settings.mark input) input) told r h.reads)
  where
    some : (xs : List ℕ) → IsPlace Ignored xs false → 0 < length xs
    some [] p = let e : 3 ≡ 0 = p.1 byte_order_mark in absurd (omega (arith, e))
    some (x ∷ xs) p = omega arith

    pick : (m : FrontMark) → IsPlace m input false → r.reader.start + r.reader.count ≡ mark_length m input + length (drop (mark_length m input) input) → mark_at m (r.reader.start + n) ≡ Refused
    pick Refused p e = refl
    pick Ignored p e =
        let low = some input p in
        let all = covered (mark_length Ignored input) input in
        beyond Ignored (r.reader.start + n) (omega (arith, e, between, low, all))

-- behind a byte that no mark has there
pub leaves_front : (settings : Settings) (input : List ℕ) (b : ℕ) (more : List ℕ) (told then : List JudgedLine) (old new : LineReaderValue) → HasTold settings input told old → old.in_front ≡ true → new.in_front ≡ false
    → is_next_of_mark (old.reader.start + old.reader.count) b ≡ false
    → ((at : ℕ) (before : List ℕ) → HasReadLines settings at before told old → HasReadLines settings at (before ++ b ∷ more) then new) → HasTold settings (input ++ b ∷ more) then new
leaves_front settings input b more told then old new h was is differs reads =
    let p = begun_in settings input told old h was in
    let lines = lines_in settings input told old h p.1 in
    let count : old.reader.start + old.reader.count ≡ length input = let e = reached settings 0 input told old lines in omega (arith, e) in
    let not_next : is_next_of_mark (length input) b ≡ false = sym (ap (λ (n : ℕ). is_next_of_mark n b) count) ∙ differs in
    let none_there : (rest : List ℕ) → mark_length settings.mark (input ++ b ∷ rest) ≡ 0 =
    λ rest. ap (λ (m : FrontMark). mark_length m (input ++ b ∷ rest)) p.0 ∙ other input b rest p.1 not_next in
    let zero_there = none_there more in
    told_by settings (input ++ b ∷ more) then new 0 zero_there (reads 0 input lines)
    (subst (IsPlace settings.mark (input ++ b ∷ more)) (sym is)
    (omega (arith, zero_there), λ rest. ap (mark_length settings.mark) (append_assoc input (b ∷ more) rest) ∙ none_there (more ++ rest) ∙ sym zero_there))

-- ---- the next byte of a mark

-- it is not the last one
pub goes_in_front : (settings : Settings) (input : List ℕ) (b : ℕ) (told : List JudgedLine) (old mid : LineReaderValue) → HasTold settings input told old → old.in_front ≡ true → mid.in_front ≡ true
    → is_next_of_mark (old.reader.start + old.reader.count) b ≡ true
    → ((at : ℕ) (before : List ℕ) → HasReadLines settings at before told old → HasReadLines settings at (before ++ b ∷ []) told mid)
    → (mid.reader.start + mid.reader.count ≡ 3 → ⊥) → HasTold settings (input ++ b ∷ []) told mid
goes_in_front settings input b told old mid h was is is_next reads short =
    let p = begun_in settings input told old h was in
    let lines = lines_in settings input told old h p.1 in
    let count : old.reader.start + old.reader.count ≡ length input = let e = reached settings 0 input told old lines in omega (arith, e) in
    let here : is_next_of_mark (length input) b ≡ true = sym (ap (λ (n : ℕ). is_next_of_mark n b) count) ∙ is_next in
    let then : HasReadLines settings 0 (input ++ b ∷ []) told mid = reads 0 input lines in
    let end = reached settings 0 (input ++ b ∷ []) told mid then in
    by_case then p.0 (next input b p.1 here) end
  where
    by_case : HasReadLines settings 0 (input ++ b ∷ []) told mid → settings.mark ≡ Ignored → IsLonger input b → mid.reader.start + mid.reader.count ≡ 0 + length (input ++ b ∷ []) → HasTold settings (input ++ b ∷ []) told mid
    by_case then mark (longer begun) end =
        told_by settings (input ++ b ∷ []) told mid 0 (no_length settings.mark (input ++ b ∷ []) begun) then
        (subst (IsPlace settings.mark (input ++ b ∷ [])) (sym is) (subst (λ (m : FrontMark). IsPlace m (input ++ b ∷ []) true) (sym mark) (place_in_front (input ++ b ∷ []) begun)))
    by_case then mark (ended e) end = let three : length (input ++ b ∷ []) ≡ 3 = ap length e in absurd (short (omega (arith, end, three)))

-- nothing was told of its bytes
nothing_told : (settings : Settings) (input : List ℕ) (told : List JudgedLine) (r : LineReaderValue) → IsBegun input → HasReadLines settings 0 input told r → (told ≡ []) × (r.ended ≡ 0)
nothing_told settings input told r begun h =
    pick h.ended (parts_in input begun ∙ h.parts) h.answers h.count
  where
    parts_in : (input : List ℕ) → IsBegun input → part 0 input ∷ [] ≡ parts_by is_line_feed 0 input
    parts_in _ none = refl
    parts_in _ one = refl
    parts_in _ two = refl

    nothing : (told : List JudgedLine) → AllZip (IsAnswer settings) [] told → told ≡ []
    nothing [] z = refl
    nothing (j ∷ told) z = absurd z

    pick : (ended : List Part) → part 0 input ∷ [] ≡ ended ++ h.last ∷ [] → AllZip (IsAnswer settings) (ended_from 1 ended) told → r.ended ≡ length ended → (told ≡ []) × (r.ended ≡ 0)
    pick [] e z n = (nothing told z, n)
    pick (p ∷ []) e z n = absurd (cc)
    pick (p ∷ q ∷ ps) e z n = absurd (cc)

-- it is the last one
pub passes_front : (settings : Settings) (input : List ℕ) (b : ℕ) (told : List JudgedLine) (old mid new : LineReaderValue) → HasTold settings input told old → old.in_front ≡ true → new.in_front ≡ false
    → is_next_of_mark (old.reader.start + old.reader.count) b ≡ true
    → ((at : ℕ) (before : List ℕ) → HasReadLines settings at before told old → HasReadLines settings at (before ++ b ∷ []) told mid)
    → mid.reader.start + mid.reader.count ≡ 3
    → ((p : Part) → IsOpen settings p mid → IsOpen settings (part 3 []) new) → new.ended ≡ old.ended → HasTold settings (input ++ b ∷ []) told new
passes_front settings input b told old mid new h was is is_next reads whole opened count_is =
    let p = begun_in settings input told old h was in
    let lines = lines_in settings input told old h p.1 in
    let count : old.reader.start + old.reader.count ≡ length input = let e = reached settings 0 input told old lines in omega (arith, e) in
    let here : is_next_of_mark (length input) b ≡ true = sym (ap (λ (n : ℕ). is_next_of_mark n b) count) ∙ is_next in
    let then : HasReadLines settings 0 (input ++ b ∷ []) told mid = reads 0 input lines in
    let end = reached settings 0 (input ++ b ∷ []) told mid then in
    let untold = nothing_told settings input told old p.1 lines in
    by_case then p.0 untold.0 (count_is ∙ untold.1) (next input b p.1 here) end
  where
    by_case : HasReadLines settings 0 (input ++ b ∷ []) told mid → settings.mark ≡ Ignored → told ≡ [] → new.ended ≡ 0 → IsLonger input b → mid.reader.start + mid.reader.count ≡ 0 + length (input ++ b ∷ [])
        → HasTold settings (input ++ b ∷ []) told new
    by_case then mark untold none_ended (longer begun) end = absurd (short (input ++ b ∷ []) begun (omega (arith, end, whole)))
      where
        short : (xs : List ℕ) → IsBegun xs → length xs ≡ 3 → ⊥
        short _ none e = omega (arith, e)
        short _ one e = omega (arith, e)
        short _ two e = omega (arith, e)
    by_case then mark untold none_ended (ended e) end =
        let length_is : (rest : List ℕ) → mark_length settings.mark ((input ++ b ∷ []) ++ rest) ≡ 3 =
        λ rest. ap (λ (m : FrontMark). mark_length m ((input ++ b ∷ []) ++ rest)) mark ∙ ap (λ (xs : List ℕ). mark_length Ignored (xs ++ rest)) e ∙ whole_mark rest in
        let here : mark_length settings.mark (input ++ b ∷ []) ≡ 3 = ap (mark_length settings.mark) (sym (append-nil (input ++ b ∷ []))) ∙ length_is [] in
        let three : length (input ++ b ∷ []) ≡ 3 = ap length e in
        let none_left : drop 3 (input ++ b ∷ []) ≡ [] = ap (drop 3) e in
        let reads : HasReadLines settings 3 [] told new =
        record { ended = []; last = part 3 []; parts = refl; answers = subst (λ (js : List JudgedLine). AllZip (IsAnswer settings) [] js) (sym untold) tt; count = none_ended; goes_on = opened then.last then.goes_on } in
        told_by settings (input ++ b ∷ []) told new 3 here (subst (λ (xs : List ℕ). HasReadLines settings 3 xs told new) (sym none_left) reads)
        (subst (IsPlace settings.mark (input ++ b ∷ [])) (sym is) (omega (arith, here, three), λ rest. length_is rest ∙ sym here))

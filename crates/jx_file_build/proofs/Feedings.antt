-- Slices that are fed one behind another, and the index in the end.
use Rattle.std.proofs.Common.{◌≡◌, ℕ, suc, ◌+◌, ◌-◌, ◌*◌, ◌<◌, ◌≤◌, List, [], ◌∷◌, ◌++◌, length, take, drop, refl, sym, ◌∙◌, ap, subst, append_assoc, append-nil, arith, Bool, true, false, Option, Some}
use Rattle.std.specs.Prelude.{◌==◌, slice_range}
use Rattle.std.proofs.lemmas.Bool.Decides.{nat_tests}
use Rattle.std.proofs.lemmas.List.{length-append, length-drop, length-take-le, take-append-drop, nil_from_length}
use Rattle.std.proofs.Math.Nat.{suc-mul}
use Rattle.std.proofs.Math.Seq.{take-add}
use Rattle.jx_run.specs.declared.texts.settings.FrontMark.{FrontMark}
use Rattle.jx_run.specs.declared.texts.settings.FrontMark.TheVariants as on_mark
use Rattle.jx_run.specs.declared.texts.settings.Settings.{Settings}
use Rattle.jx_run.specs.declared.texts.verdict.Refusal.TheVariants.{Truncated}
use Rattle.jx_run.specs.declared.texts.verdict.Verdict.TheVariants as verdict
use Rattle.jx_run.specs.Laws.{verdict_on}
use Rattle.jx_run.specs.Reader.{Outcome, in_front, reads, is_fault, read_by}
use Rattle.jx_run.specs.Reading.{went, stopped, too_deep, read}
use Rattle.jx_run.specs.Settings.{JudgedBy}
use Rattle.jx_lex.specs.Lex.{lex}
use Rattle.jx_run.proofs.Tellings.{rest_of}
use Rattle.jx_file_index.specs.Chunks.{entries_of}
use Rattle.jx_file_build.specs.Held.{AreAll, AreHeld, AreWhole, HeldValue, IsEntered}
use Rattle.jx_file_build.specs.Indexer.{HasFed}
use Rattle.jx_file_build.specs.declared.indexer.Indexer.{Indexer}
use Rattle.jx_file_build.specs.inside.NamedChunks.{AreNames}
use Rattle.jx_file_build.proofs.Readings.{came_to, whole_more}

pub is_none : {A : Type 0} (xs : List A) (b : Bool) → b ≡ (length xs == 0) → b ≡ true → xs ≡ []
is_none xs b is e = nil_from_length xs (let t : (length xs == 0) ≡ true = sym is ∙ e in grind (arith, nat_tests))

pub is_some : {A : Type 0} (xs : List A) (b : Bool) → b ≡ (length xs == 0) → b ≡ false → 0 < length xs
is_some xs b is e = let t : (length xs == 0) ≡ false = sym is ∙ e in grind (arith, nat_tests)

-- ---- a part of a chunk is held

pub part_none : (has_names : Bool) (settings : Settings) (size : ℕ) (h : HeldValue) → AreWhole has_names settings size [] h → 0 < size → AreHeld has_names settings size [] h []
part_none has_names settings size h whole some = record { before = []; bytes_are = refl; whole = whole; short = some }

module _ (has_names : Bool) (settings : Settings) (size : ℕ) (bytes more : List ℕ) (h : HeldValue) (part : List ℕ) (was : AreHeld has_names settings size bytes h part) where
  longer : bytes ++ more ≡ was.before ++ (part ++ more)
  longer = ap (λ (xs : List ℕ). xs ++ more) was.bytes_are ∙ append_assoc was.before part more

  -- it is not whole yet
  pub part_more : (now : List ℕ) → now ≡ part ++ more → length now < size → AreHeld has_names settings size (bytes ++ more) h now
  part_more now is short = record { before = was.before; bytes_are = longer ∙ ap (λ (xs : List ℕ). was.before ++ xs) (sym is); whole = was.whole; short = short }

  -- it is whole, and was read
  pub part_read : (full : List ℕ) (next : HeldValue) → full ≡ part ++ more → length full ≡ size → length next.entries ≡ suc (length h.entries)
      → ((before : List ℕ) → AreWhole has_names settings size before h → length full ≤ size → IsEntered has_names settings size (before ++ full) next) → AreHeld has_names settings size (bytes ++ more) next []
  part_read full next is long count entered = record {
    before = was.before ++ full;
    bytes_are = longer ∙ ap (λ (xs : List ℕ). was.before ++ xs) (sym is) ∙ sym (append-nil (was.before ++ full));
    whole = whole_more has_names settings size was.before full h next was.whole long count (entered was.before was.whole (omega (arith, long)));
    short = let s = was.short in omega (arith, s);
  }

-- it is empty, and a chunk was taken
pub chunk_taken : (has_names : Bool) (settings : Settings) (size : ℕ) (bytes more : List ℕ) (h next : HeldValue) (part : List ℕ) → AreHeld has_names settings size bytes h part → part ≡ [] → length more ≡ size
    → length next.entries ≡ suc (length h.entries) → ((before : List ℕ) → AreWhole has_names settings size before h → length more ≤ size → IsEntered has_names settings size (before ++ more) next)
    → AreHeld has_names settings size (bytes ++ more) next part
chunk_taken has_names settings size bytes more h next part was none long count entered =
    subst (λ (xs : List ℕ). AreHeld has_names settings size (bytes ++ more) next xs) (sym none)
    (part_read has_names settings size bytes more h part was more next (ap (λ (xs : List ℕ). xs ++ more) (sym none)) long count entered)

-- a chunk of a slice
pub piece_long : (xs : List ℕ) (at size : ℕ) → at + size ≤ length xs → length (slice_range xs at (at + size)) ≡ size
piece_long xs at size fits =
    let d : length (drop at xs) ≡ length xs - at = length-drop at xs in
    length-take-le ((at + size) - at) (drop at xs) (omega (arith, d, fits)) ∙ (let e : (at + size) - at ≡ size = omega arith in e)

pub chunk_added : (has_names : Bool) (settings : Settings) (size : ℕ) (before bytes : List ℕ) (at : ℕ) (mid next : HeldValue) → at + size ≤ length bytes → AreWhole has_names settings size (before ++ take at bytes) mid
    → length next.entries ≡ suc (length mid.entries)
    → ((xs : List ℕ) → AreWhole has_names settings size xs mid → length (slice_range bytes at (at + size)) ≤ size → IsEntered has_names settings size (xs ++ slice_range bytes at (at + size)) next)
    → AreWhole has_names settings size (before ++ take (at + size) bytes) next
chunk_added has_names settings size before bytes at mid next fits whole count entered =
    let piece = slice_range bytes at (at + size) in
    let long : length piece ≡ size = piece_long bytes at size fits in
    let taken : take (at + size) bytes ≡ take at bytes ++ piece =
    take-add at size bytes ∙ ap (λ (n : ℕ). take at bytes ++ take n (drop at bytes)) (let e : size ≡ (at + size) - at = omega arith in e) in
    subst (λ (xs : List ℕ). AreWhole has_names settings size xs next) (append_assoc before (take at bytes) piece ∙ ap (λ (xs : List ℕ). before ++ xs) (sym taken))
    (whole_more has_names settings size (before ++ take at bytes) piece mid next whole long count (entered (before ++ take at bytes) whole (omega (arith, long))))

-- the rest of a slice: where a part is held, there is none
module _ (has_names : Bool) (settings : Settings) (size : ℕ) (bytes slice rest : List ℕ) (n k : ℕ) (mid next : HeldValue) (part now : List ℕ)
    (was : AreHeld has_names settings size (bytes ++ take n slice) mid part) (within : n ≤ length slice) (rest_is : rest ≡ slice_range slice n (length slice))
    (reads_on : (before : List ℕ) → AreWhole has_names settings size before mid → AreWhole has_names settings size (before ++ take k rest) next)
    (left : k ≤ length rest) (few : length rest - k < size) (now_is : now ≡ part ++ slice_range rest k (length rest)) where
  all_bytes : bytes ++ slice ≡ (was.before ++ part) ++ rest
  all_bytes =
      ap (λ (xs : List ℕ). bytes ++ xs) (sym (take-append-drop n slice))
      ∙ sym (append_assoc bytes (take n slice) (drop n slice))
      ∙ ap (λ (xs : List ℕ). xs ++ drop n slice) was.bytes_are
      ∙ ap (λ (xs : List ℕ). (was.before ++ part) ++ xs) (sym (rest_is ∙ rest_of slice n within))

  behind : now ≡ part ++ drop k rest
  behind = now_is ∙ ap (λ (xs : List ℕ). part ++ xs) (rest_of rest k left)

  pub rest_none : part ≡ [] → AreHeld has_names settings size (bytes ++ slice) next now
  rest_none none = record {
    before = was.before ++ take k rest;
    bytes_are =
        all_bytes
        ∙ ap (λ (xs : List ℕ). (was.before ++ xs) ++ rest) none
        ∙ ap (λ (xs : List ℕ). xs ++ rest) (append-nil was.before)
        ∙ ap (λ (xs : List ℕ). was.before ++ xs) (sym (take-append-drop k rest))
        ∙ sym (append_assoc was.before (take k rest) (drop k rest))
        ∙ ap (λ (xs : List ℕ). (was.before ++ take k rest) ++ xs) (sym (behind ∙ ap (λ (xs : List ℕ). xs ++ drop k rest) none));
    whole = reads_on was.before was.whole;
    short =
        let e : length now ≡ length (drop k rest) = ap (λ (xs : List ℕ). length xs) (behind ∙ ap (λ (xs : List ℕ). xs ++ drop k rest) none) in
        let d : length (drop k rest) ≡ length rest - k = length-drop k rest in
        omega (arith, e, d, few);
  }

  pub rest_some : rest ≡ [] → AreHeld has_names settings size (bytes ++ slice) next now
  rest_some none =
      let zero_is : k ≡ 0 = let l : length rest ≡ 0 = ap (λ (xs : List ℕ). length xs) none in omega (arith, left, l) in
      let taken : take k rest ≡ [] = ap (λ (i : ℕ). take i rest) zero_is in
      let now_part : now ≡ part = behind ∙ ap (λ (i : ℕ). part ++ drop i rest) zero_is ∙ ap (λ (xs : List ℕ). part ++ xs) none ∙ append-nil part in
      record {
        before = was.before;
        bytes_are = all_bytes ∙ ap (λ (xs : List ℕ). (was.before ++ part) ++ xs) none ∙ append-nil (was.before ++ part) ∙ ap (λ (xs : List ℕ). was.before ++ xs) (sym now_part);
        whole = subst (λ (xs : List ℕ). AreWhole has_names settings size xs next) (ap (λ (xs : List ℕ). was.before ++ xs) taken ∙ append-nil was.before) (reads_on was.before was.whole);
        short = let s = was.short in let e : length now ≡ length part = ap (λ (xs : List ℕ). length xs) now_part in omega (arith, s, e);
      }

  pub rest_fed : (0 < length part → n ≡ length slice) → AreHeld has_names settings size (bytes ++ slice) next now
  rest_fed all = pick part refl
    where
      pick : (xs : List ℕ) → part ≡ xs → AreHeld has_names settings size (bytes ++ slice) next now
      pick [] e = rest_none e
      pick (x ∷ xs) e =
          let l : length part ≡ suc (length xs) = ap (λ (ys : List ℕ). length ys) e in
          let end : n ≡ length slice = all (omega (arith, l)) in
          let d : length (drop n slice) ≡ length slice - n = length-drop n slice in
          let r : length rest ≡ length (drop n slice) = ap (λ (ys : List ℕ). length ys) (rest_is ∙ rest_of slice n within) in
          rest_some (nil_from_length rest (omega (arith, d, r, end)))

-- ---- all bytes

pub all_none : (has_names : Bool) (settings : Settings) (size : ℕ) (bytes : List ℕ) (h : HeldValue) (part : List ℕ) → part ≡ [] → AreHeld has_names settings size bytes h part → AreAll has_names settings size bytes h
all_none has_names settings size bytes h part none was =
    let same : was.before ≡ bytes = sym (was.bytes_are ∙ ap (λ (xs : List ℕ). was.before ++ xs) none ∙ append-nil was.before) in
    let w = was.whole.whole in
    let s = was.short in
    subst (λ (xs : List ℕ). AreAll has_names settings size xs h) same
    (record { entered = was.whole.entered; counted = record { enough = omega (arith, w); fewest = omega (arith, w, s) } })

pub all_more : (has_names : Bool) (settings : Settings) (size : ℕ) (bytes : List ℕ) (h next : HeldValue) (part : List ℕ) → 0 < length part → AreHeld has_names settings size bytes h part → length next.entries ≡ suc (length h.entries)
    → ((before : List ℕ) → AreWhole has_names settings size before h → length part ≤ size → IsEntered has_names settings size (before ++ part) next) → AreAll has_names settings size bytes next
all_more has_names settings size bytes h next part some was count entered =
    let w = was.whole.whole in
    let s = was.short in
    let m : suc (length h.entries) * size ≡ length h.entries * size + size = suc-mul (length h.entries) size in
    let c : length next.entries * size ≡ suc (length h.entries) * size = ap (λ (n : ℕ). n * size) count in
    let l : length (was.before ++ part) ≡ length was.before + length part = length-append was.before part in
    subst (λ (xs : List ℕ). AreAll has_names settings size xs next) (sym was.bytes_are)
    (record { entered = entered was.before was.whole (omega (arith, s)); counted = record { enough = omega (arith, w, s, m, c, l); fewest = omega (arith, w, s, m, c, l, some) } })

-- what an indexer was fed, once its last chunk is read
pub fed_all : (has_names : Bool) (settings : Settings) (chunk : ℕ) (bytes : List ℕ) (i : Indexer) (held all : HeldValue) (part : List ℕ) → HasFed has_names settings chunk bytes i → i.held ≡ Some held
    → part ≡ i.part.items → ((b : Bool) (s : Settings) (size : ℕ) (bs : List ℕ) → AreHeld b s size bs held part → AreAll b s size bs all) → AreAll has_names i.settings i.chunk bytes all
fed_all has_names settings chunk bytes i held all part h is part_is read =
    let same : h.kept ≡ held = let e : Some h.kept ≡ Some held = sym h.kept_is ∙ is in cc in
    let was : AreHeld has_names settings chunk bytes held part =
    subst (λ (k : HeldValue). AreHeld has_names settings chunk bytes k part) same (subst (λ (xs : List ℕ). AreHeld has_names settings chunk bytes h.kept xs) (sym part_is) h.held) in
    subst (λ (s : Settings). AreAll has_names s i.chunk bytes all) (sym h.settings_are) (subst (λ (n : ℕ). AreAll has_names settings n bytes all) (sym h.chunk_is) (read has_names settings chunk bytes was))

-- no entry, no byte
pub none_counted : (has_names : Bool) (settings : Settings) (size : ℕ) (bytes : List ℕ) (h : HeldValue) → length h.entries ≡ 0 → AreAll has_names settings size bytes h → length bytes ≡ 0
none_counted has_names settings size bytes h none all =
    let e = all.counted.enough in
    let z : length h.entries * size ≡ 0 * size = ap (λ (n : ℕ). n * size) none in
    omega (arith, e, z)

-- ---- the verdict

-- what is accepted has no fault
pub accepted_goes : (z : Outcome) → verdict_on z ≡ verdict.Accepted → is_fault (Some z) ≡ false
accepted_goes (in_front n) h = refl
accepted_goes (reads (went s e o)) h = refl
accepted_goes (reads (stopped at)) h = absurd cc
accepted_goes (reads (too_deep at)) h = absurd cc

pub accepted_entries : (has_names : Bool) (settings : Settings) (size : ℕ) (bytes : List ℕ) (h : HeldValue) → verdict_on (read_by settings.mark settings.depth 0 bytes) ≡ verdict.Accepted → AreAll has_names settings size bytes h
    → h.entries ≡ entries_of settings size bytes (length h.entries)
accepted_entries has_names settings size bytes h accepted all =
    all.entered.entries (subst (λ (o : Option Outcome). is_fault o ≡ false) (sym (came_to settings bytes h.reader all.entered.read)) (accepted_goes (read_by settings.mark settings.depth 0 bytes) accepted))

pub accepted_names : (has_names : Bool) (settings : Settings) (size : ℕ) (bytes : List ℕ) (h : HeldValue) → verdict_on (read_by settings.mark settings.depth 0 bytes) ≡ verdict.Accepted → AreAll has_names settings size bytes h
    → AreNames has_names settings size bytes (length h.entries) h.names
accepted_names has_names settings size bytes h accepted all =
    all.entered.names (subst (λ (o : Option Outcome). is_fault o ≡ false) (sym (came_to settings bytes h.reader all.entered.read)) (accepted_goes (read_by settings.mark settings.depth 0 bytes) accepted))

-- no byte is no text
none_verdict : (m : FrontMark) (limit : ℕ) → verdict_on (read_by m limit 0 []) ≡ verdict.Refused Truncated
unfolding read lex
none_verdict on_mark.Refused limit = refl
none_verdict on_mark.Ignored limit = refl

pub none_judged : (settings : Settings) (bytes : List ℕ) → length bytes ≡ 0 → JudgedBy settings 0 bytes (verdict_on (read_by settings.mark settings.depth 0 bytes)) → JudgedBy settings 0 bytes (verdict.Refused Truncated)
none_judged settings bytes none h =
    subst (JudgedBy settings 0 bytes) (ap (λ (xs : List ℕ). verdict_on (read_by settings.mark settings.depth 0 xs)) (nil_from_length bytes none) ∙ none_verdict settings.mark settings.depth) h

-- Chunks that are read one behind another.
use Rattle.std.proofs.Common.{◌≡◌, ℕ, zero, suc, ◌+◌, ◌-◌, ◌*◌, ◌≤◌, List, [], ◌∷◌, ◌++◌, length, take, drop, refl, sym, ◌∙◌, ap, subst, arith, Bool, false, Option, Some}
use Rattle.std.proofs.lemmas.List.{drop-append-le, length-append, length-drop, take-append-le, take_all}
use Rattle.std.proofs.Math.Nat.{suc-mul}
use Rattle.std.proofs.Math.Seq.{drop-append_seam, take-append_seam}
use Rattle.jx_run.specs.Reader.{Outcome, ReaderValue, is_fault, read_by}
use Rattle.jx_run.specs.declared.texts.settings.Settings.{Settings}
use Rattle.jx_run.proofs.InTurn.{faults_stay}
use Rattle.jx_file_index.specs.declared.entry.Entry.{Entry}
use Rattle.jx_file_index.specs.Chunks.{before, entries_of, entry_behind, part}
use Rattle.jx_file_build.specs.Held.{AreWhole, HasReadBy, HeldValue, IsEntered}
use Rattle.jx_file_build.specs.inside.NamedChunks.{AreNames, AreNamesAt}
use Rattle.jx_file_build.specs.inside.Tallied.{ReadsOn}

-- ---- the entries of a text that grows

-- whole parts stay
pub part_stays : (size : ℕ) (xs more : List ℕ) (n : ℕ) → n * size + size ≤ length xs → part size (xs ++ more) n ≡ part size xs n
part_stays size xs more n fits =
    ap (take size) (drop-append-le (n * size) xs more (omega (arith, fits)))
    ∙ take-append-le size (drop (n * size) xs) more (let e : length (drop (n * size) xs) ≡ length xs - n * size = length-drop (n * size) xs in omega (arith, e, fits))

pub entries_stay : (settings : Settings) (size : ℕ) (xs more : List ℕ) (n : ℕ) → n * size ≤ length xs → entries_of settings size (xs ++ more) n ≡ entries_of settings size xs n
unfolding entries_of
entries_stay settings size xs more zero fits = refl
entries_stay settings size xs more (suc n) fits =
    let e : suc n * size ≡ n * size + size = suc-mul n size in
    let within : n * size + size ≤ length xs = omega (arith, e, fits) in
    ap (λ (es : List Entry). es ++ entry_behind (before settings (xs ++ more) (n * size)) (part size (xs ++ more) n) ∷ []) (entries_stay settings size xs more n (omega (arith, within)))
    ∙ ap (λ (ys : List ℕ). entries_of settings size xs n ++ entry_behind (read_by settings.mark settings.depth 0 ys) (part size (xs ++ more) n) ∷ []) (take-append-le (n * size) xs more (omega (arith, within)))
    ∙ ap (λ (ys : List ℕ). entries_of settings size xs n ++ entry_behind (before settings xs (n * size)) ys ∷ []) (part_stays size xs more n within)

-- one chunk more, behind whole ones
pub entries_more : (settings : Settings) (size : ℕ) (xs chunk : List ℕ) (n : ℕ) → length xs ≡ n * size → length chunk ≤ size
    → entries_of settings size (xs ++ chunk) (suc n) ≡ entries_of settings size xs n ++ entry_behind (read_by settings.mark settings.depth 0 xs) chunk ∷ []
unfolding entries_of
entries_more settings size xs chunk n whole fits =
    ap (λ (es : List Entry). es ++ entry_behind (before settings (xs ++ chunk) (n * size)) (part size (xs ++ chunk) n) ∷ []) (entries_stay settings size xs chunk n (omega (arith, whole)))
    ∙ ap (λ (ys : List ℕ). entries_of settings size xs n ++ entry_behind (read_by settings.mark settings.depth 0 ys) (part size (xs ++ chunk) n) ∷ []) (ap (λ (k : ℕ). take k (xs ++ chunk)) (sym whole) ∙ take-append_seam xs chunk)
    ∙ ap (λ (ys : List ℕ). entries_of settings size xs n ++ entry_behind (read_by settings.mark settings.depth 0 xs) ys ∷ [])
    (ap (λ (k : ℕ). take size (drop k (xs ++ chunk))) (sym whole) ∙ ap (take size) (drop-append_seam xs chunk) ∙ take_all size chunk fits)

-- ---- chunk by chunk

-- what a reader came to
pub came_to : (settings : Settings) (bytes : List ℕ) (r : ReaderValue) → HasReadBy settings bytes r → r.outcome ≡ Some (read_by settings.mark settings.depth 0 bytes)
came_to settings bytes r h =
    h.read.outcome
    ∙ ap (λ (s : Settings). Some (read_by s.mark s.depth r.start bytes)) h.by
    ∙ ap (λ (n : ℕ). Some (read_by settings.mark settings.depth n bytes)) h.start

pub goes_on : (settings : Settings) (bytes more : List ℕ) (old new : ReaderValue) → HasReadBy settings bytes old → ReadsOn old new more → HasReadBy settings (bytes ++ more) new
goes_on settings bytes more old new h on = record { by = on.settings ∙ h.by; start = on.start ∙ h.start; read = on.reads bytes h.read }

-- what no byte has
pub none_entered : (has_names : Bool) (settings : Settings) (size : ℕ) (h : HeldValue) → HasReadBy settings [] h.reader → h.entries ≡ []
    → AreNames has_names settings size [] 0 h.names → AreWhole has_names settings size [] h
unfolding entries_of
none_entered has_names settings size h read none names = record {
  entered = record {
    read = read;
    entries = λ going. none ∙ ap (λ (n : ℕ). entries_of settings size [] n) (sym (ap (λ (es : List Entry). length es) none));
    names = λ going. subst (λ (n : ℕ). AreNames has_names settings size [] n h.names) (sym (ap (λ (es : List Entry). length es) none)) names;
  };
  whole =
      let z : length h.entries * size ≡ 0 * size = ap (λ (es : List Entry). length es * size) none in
      omega (arith, z);
}

-- one chunk more
pub one_entered : (has_names : Bool) (settings : Settings) (size : ℕ) (bytes chunk : List ℕ) (h new : HeldValue) (entry : Entry) → AreWhole has_names settings size bytes h → length chunk ≤ size
    → ReadsOn h.reader new.reader chunk → new.entries ≡ h.entries ++ entry ∷ []
    → (is_fault new.reader.outcome ≡ false → (came : Outcome) → h.reader.outcome ≡ Some came → entry ≡ entry_behind came chunk)
    → AreNamesAt has_names settings size (bytes ++ chunk) (suc (length h.entries)) new.reader.outcome new.names
    → IsEntered has_names settings size (bytes ++ chunk) new
one_entered has_names settings size bytes chunk h new entry was fits on pushed is names = record {
  read = now;
  entries = λ going.
      let before_is : h.reader.outcome ≡ Some (read_by settings.mark settings.depth 0 bytes) = came_to settings bytes h.reader was.entered.read in
      let after : is_fault (Some (read_by settings.mark settings.depth 0 (bytes ++ chunk))) ≡ false = subst (λ (o : Option Outcome). is_fault o ≡ false) (came_to settings (bytes ++ chunk) new.reader now) going in
      let then : is_fault h.reader.outcome ≡ false = subst (λ (o : Option Outcome). is_fault o ≡ false) (sym before_is) (faults_stay settings.mark settings.depth bytes chunk after) in
      let old : h.entries ≡ entries_of settings size bytes (length h.entries) = was.entered.entries then in
      pushed
      ∙ ap (λ (es : List Entry). es ++ entry ∷ []) old
      ∙ ap (λ (e : Entry). entries_of settings size bytes (length h.entries) ++ e ∷ []) (is going (read_by settings.mark settings.depth 0 bytes) before_is)
      ∙ sym (entries_more settings size bytes chunk (length h.entries) was.whole fits)
      ∙ ap (λ (n : ℕ). entries_of settings size (bytes ++ chunk) n) (sym long);
  names = λ going. subst (λ (n : ℕ). AreNames has_names settings size (bytes ++ chunk) n new.names) (sym long) (names going);
}
  where
    now : HasReadBy settings (bytes ++ chunk) new.reader
    now = goes_on settings bytes chunk h.reader new.reader was.entered.read on

    long : length new.entries ≡ suc (length h.entries)
    long = ap (λ (es : List Entry). length es) pushed ∙ length-append h.entries (entry ∷ []) ∙ (let e : length h.entries + 1 ≡ suc (length h.entries) = omega arith in e)

pub whole_more : (has_names : Bool) (settings : Settings) (size : ℕ) (bytes chunk : List ℕ) (h new : HeldValue) → AreWhole has_names settings size bytes h → length chunk ≡ size → length new.entries ≡ suc (length h.entries)
    → IsEntered has_names settings size (bytes ++ chunk) new → AreWhole has_names settings size (bytes ++ chunk) new
whole_more has_names settings size bytes chunk h new was full long entered = record {
  entered = entered;
  whole =
      let e : length (bytes ++ chunk) ≡ length bytes + length chunk = length-append bytes chunk in
      let w = was.whole in
      let m : suc (length h.entries) * size ≡ length h.entries * size + size = suc-mul (length h.entries) size in
      let now : length (bytes ++ chunk) ≡ suc (length h.entries) * size = omega (arith, e, w, m, full) in
      now ∙ ap (λ (n : ℕ). n * size) (sym long);
}

-- What is held of a text that is read by slices, and what it comes to.
use Rattle.std.proofs.Common.{◌≡◌, ℕ, ◌+◌, List, [], ◌++◌, length, refl, sym, ap, subst, ◌∙◌, arith, false, Option, Some}
use Rattle.jx_lex.specs.declared.alphabet.mark.Mark.{Mark}
use Rattle.jx_lex.specs.Lex.{Track}
use Rattle.jx_run.specs.declared.texts.settings.FrontMark.{FrontMark}
use Rattle.jx_run.specs.declared.texts.settings.NameRule.TheVariants.{Any}
use Rattle.jx_run.specs.declared.texts.settings.Settings.{Settings}
use Rattle.jx_run.specs.declared.texts.verdict.Verdict.{Verdict}
use Rattle.jx_run.specs.declared.texts.verdict.Verdict.TheVariants as verdict
use Rattle.jx_run.specs.Laws.{verdict_on}
use Rattle.jx_run.specs.Reader.{HasRead, Outcome, ReaderValue, in_front, reads, is_fault, read_by}
use Rattle.jx_run.specs.Reading.{went, stopped, too_deep}
use Rattle.jx_run.specs.Settings.{JudgedBy}
use Rattle.jx_run.specs.Telling.{moved_ends, moved_marks, no_tokens, tokens_by, track_of}
use Rattle.jx_index.specs.declared.trie.Edge.{Edge}
use Rattle.jx_index.specs.inside.InTurn.{AreInTurn}
use Rattle.jx_find.specs.declared.finder.Finder.{Finder}
use Rattle.jx_find.specs.declared.held.Sought.{Sought}
use Rattle.jx_find.specs.Finder.{HasFed, HasHeld}
use Rattle.jx_find.specs.Held.{IsHeld}

-- what is accepted has no fault
pub verdict_goes : (z : Outcome) → verdict_on z ≡ verdict.Accepted → is_fault (Some z) ≡ false
verdict_goes (in_front n) h = refl
verdict_goes (reads (went s e o)) h = refl
verdict_goes (reads (stopped at)) h = absurd cc
verdict_goes (reads (too_deep at)) h = absurd cc

abbrev pub HeldOf : List ℕ → List Edge → Track → Sought → Type 0
HeldOf bytes edges track h = IsHeld bytes edges track.marks track.ends h.state h.next h.begun h.name.items

-- what is held of no byte
pub held_none : (edges : List Edge) (m : FrontMark) (h : Sought) → tokens_by m [] ≡ no_tokens → HeldOf [] edges no_tokens h → HeldOf [] edges (tokens_by m []) h
held_none edges m h none held = subst (λ (t : Track). HeldOf [] edges t h) (sym none) held

-- what is held of the bytes up to the end of a slice
pub held_on : (edges : List Edge) (m : FrontMark) (limit : ℕ) (bytes slice : List ℕ) (next : Sought)
    → (tokens_by m (bytes ++ slice)).marks ≡ (tokens_by m bytes).marks ++ moved_marks (length bytes) (track_of (read_by m limit 0 bytes) slice).marks
    → (tokens_by m (bytes ++ slice)).ends ≡ (tokens_by m bytes).ends ++ moved_ends (length bytes) (track_of (read_by m limit 0 bytes) slice).ends
    → IsHeld (bytes ++ slice) edges ((tokens_by m bytes).marks ++ moved_marks (length bytes) (track_of (read_by m limit 0 bytes) slice).marks)
    ((tokens_by m bytes).ends ++ moved_ends (length bytes) (track_of (read_by m limit 0 bytes) slice).ends) next.state next.next next.begun next.name.items
    → HeldOf (bytes ++ slice) edges (tokens_by m (bytes ++ slice)) next
held_on edges m limit bytes slice next marks ends held =
    subst (λ (xs : List Mark). IsHeld (bytes ++ slice) edges xs (tokens_by m (bytes ++ slice)).ends next.state next.next next.begun next.name.items) (sym marks)
    (subst (λ (xs : List ℕ). IsHeld (bytes ++ slice) edges ((tokens_by m bytes).marks ++ moved_marks (length bytes) (track_of (read_by m limit 0 bytes) slice).marks) xs next.state next.next next.begun next.name.items) (sym ends) held)

-- before the first byte
pub held_first : (settings : Settings) (edges : List Edge) (reader : ReaderValue) (h : Sought) → settings.names ≡ Any → reader.settings ≡ settings → reader.start ≡ 0 → HasRead [] reader
    → tokens_by settings.mark [] ≡ no_tokens → HeldOf [] edges no_tokens h → HasHeld settings [] edges reader h
held_first settings edges reader h names same start read none held = record {
  names = names;
  settings_are = same;
  start = start;
  read = read;
  held = λ going. held_none edges settings.mark h none held;
}

-- one slice more
pub held_more : (settings : Settings) (bytes slice : List ℕ) (edges : List Edge) (was reader : ReaderValue) (old next : Sought) (h : HasHeld settings bytes edges was old)
    → reader.settings ≡ was.settings → reader.start ≡ was.start
    → ((xs : List ℕ) → HasRead xs was → HasRead (xs ++ slice) reader)
    → (is_fault (Some (read_by settings.mark settings.depth 0 (bytes ++ slice))) ≡ false → is_fault (Some (read_by settings.mark settings.depth 0 bytes)) ≡ false)
    → (is_fault (Some (read_by settings.mark settings.depth 0 bytes)) ≡ false
    → (tokens_by settings.mark (bytes ++ slice)).marks ≡ (tokens_by settings.mark bytes).marks ++ moved_marks (length bytes) (track_of (read_by settings.mark settings.depth 0 bytes) slice).marks)
    → (is_fault (Some (read_by settings.mark settings.depth 0 bytes)) ≡ false
    → (tokens_by settings.mark (bytes ++ slice)).ends ≡ (tokens_by settings.mark bytes).ends ++ moved_ends (length bytes) (track_of (read_by settings.mark settings.depth 0 bytes) slice).ends)
    → (is_fault reader.outcome ≡ false → (before : Outcome) → was.outcome ≡ Some before → (marks : List Mark) (ends : List ℕ)
    → (was.start + was.count ≡ length bytes) × IsHeld bytes edges marks ends old.state old.next old.begun old.name.items
    → IsHeld (bytes ++ slice) edges (marks ++ moved_marks (length bytes) (track_of before slice).marks) (ends ++ moved_ends (length bytes) (track_of before slice).ends) next.state next.next next.begun next.name.items)
    → HasHeld settings (bytes ++ slice) edges reader next
held_more settings bytes slice edges was reader old next h same_settings same_start grows stays marks ends holds = record {
  names = h.names;
  settings_are = same_settings ∙ h.settings_are;
  start = same_start ∙ h.start;
  read = now;
  held = held;
}
  where
    now : HasRead (bytes ++ slice) reader
    now = grows bytes h.read

    came : (v : ReaderValue) (xs : List ℕ) → v.settings ≡ settings → v.start ≡ 0 → HasRead xs v → v.outcome ≡ Some (read_by settings.mark settings.depth 0 xs)
    came v xs same zero r =
        r.outcome ∙ ap (λ (s : Settings). Some (read_by s.mark s.depth v.start xs)) same ∙ ap (λ (i : ℕ). Some (read_by settings.mark settings.depth i xs)) zero

    before_is : was.outcome ≡ Some (read_by settings.mark settings.depth 0 bytes)
    before_is = came was bytes h.settings_are h.start h.read

    is : reader.outcome ≡ Some (read_by settings.mark settings.depth 0 (bytes ++ slice))
    is = came reader (bytes ++ slice) (same_settings ∙ h.settings_are) (same_start ∙ h.start) now

    long : was.start + was.count ≡ length bytes
    long = let zero = h.start in let count = h.read.count in omega (arith, zero, count)

    held : is_fault reader.outcome ≡ false → HeldOf (bytes ++ slice) edges (tokens_by settings.mark (bytes ++ slice)) next
    held going =
        let before : is_fault (Some (read_by settings.mark settings.depth 0 bytes)) ≡ false = stays (subst (λ (o : Option Outcome). is_fault o ≡ false) is going) in
        let first : HeldOf bytes edges (tokens_by settings.mark bytes) old = h.held (subst (λ (o : Option Outcome). is_fault o ≡ false) (sym before_is) before) in
        held_on edges settings.mark settings.depth bytes slice next (marks before) (ends before)
        (holds going (read_by settings.mark settings.depth 0 bytes) before_is (tokens_by settings.mark bytes).marks (tokens_by settings.mark bytes).ends (long, first))

-- ---- the answer

module _ (settings : Settings) (bytes : List ℕ) (edges : List Edge) (reader : ReaderValue) (kept : Sought) (h : HasHeld settings bytes edges reader kept) where
  pub judged_as : (v w : Verdict) → v ≡ w → ((xs : List ℕ) → HasRead xs reader → JudgedBy reader.settings reader.start xs v) → JudgedBy settings 0 bytes w
  judged_as v w is judged =
      subst (JudgedBy settings 0 bytes) is
      (subst (λ (i : ℕ). JudgedBy settings i bytes v) h.start
      (subst (λ (s : Settings). JudgedBy s reader.start bytes v) h.settings_are (judged bytes h.read)))

  -- of an accepted text all tokens were sought
  pub all_held : verdict_on (read_by settings.mark settings.depth 0 bytes) ≡ verdict.Accepted → HeldOf bytes edges (tokens_by settings.mark bytes) kept
  all_held accepted =
      let came : reader.outcome ≡ Some (read_by settings.mark settings.depth 0 bytes) =
      h.read.outcome ∙ ap (λ (s : Settings). Some (read_by s.mark s.depth reader.start bytes)) h.settings_are ∙ ap (λ (i : ℕ). Some (read_by settings.mark settings.depth i bytes)) h.start in
      h.held (ap is_fault came ∙ verdict_goes (read_by settings.mark settings.depth 0 bytes) accepted)

  pub end_is : reader.start + reader.count ≡ length bytes
  end_is = let zero = h.start in let count = h.read.count in omega (arith, zero, count)

-- ---- of a finder

-- what is held is told of what it keeps
pub held_in : (settings : Settings) (pointers : List (List ℕ)) (bytes : List ℕ) (f : Finder) (h : HasFed settings pointers bytes f) (edges : List Edge) (held : Sought) → edges ≡ f.edges.items → f.held ≡ Some held
    → HasHeld settings bytes edges f.reader held
held_in settings pointers bytes f h edges held edges_are is =
    let same : h.kept ≡ held = let e : Some h.kept ≡ Some held = sym h.kept_is ∙ is in cc in
    subst (λ (es : List Edge). HasHeld settings bytes es f.reader held) (sym edges_are) (subst (λ (k : Sought). HasHeld settings bytes f.edges.items f.reader k) same h.reading)

pub fed_more : (settings : Settings) (pointers : List (List ℕ)) (bytes more : List ℕ) (f : Finder) (h : HasFed settings pointers bytes f) (edges : List Edge) (reader : ReaderValue) (next : Sought)
    (turn : AreInTurn (λ (h : Sought). h.begun) reader.outcome (Some next)) → edges ≡ f.edges.items → HasHeld settings more edges reader next → HasFed settings pointers more (record f { reader = reader; held = Some next; turn = turn })
fed_more settings pointers bytes more f h edges reader next turn edges_are held = record {
  pointers_are = h.pointers_are;
  trie = h.trie;
  ways = h.ways;
  kept = next;
  kept_is = refl;
  reading = subst (λ (es : List Edge). HasHeld settings more es reader next) edges_are held;
}

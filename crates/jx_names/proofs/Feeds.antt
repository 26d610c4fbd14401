-- What a reader of names that was fed comes to.
use Rattle.std.proofs.Common.{◌≡◌, ℕ, ◌+◌, ◌-◌, ◌≤◌, List, [], ◌++◌, length, drop, refl, sym, ap, subst, ◌∙◌, arith, false, Option, Some}
use Rattle.std.proofs.lemmas.List.{length-drop, take_all}
use Rattle.jx_lex.specs.declared.alphabet.mark.Mark.{Mark}
use Rattle.jx_lex.specs.declared.alphabet.state.LexState.TheVariants as state
use Rattle.jx_lex.specs.Lex.{Track, lex}
use Rattle.jx_run.specs.declared.texts.settings.Front.TheVariants.{Skip}
use Rattle.jx_run.specs.declared.texts.settings.FrontMark.{FrontMark}
use Rattle.jx_run.specs.declared.texts.settings.NameRule.TheVariants.{Unique}
use Rattle.jx_run.specs.declared.texts.settings.Settings.{Settings}
use Rattle.jx_run.specs.declared.texts.verdict.Verdict.{Verdict}
use Rattle.jx_run.specs.declared.texts.verdict.Verdict.TheVariants.{Accepted}
use Rattle.jx_run.specs.Front.{front_of}
use Rattle.jx_run.specs.Laws.{verdict_on}
use Rattle.jx_run.specs.Reader.{HasRead, Outcome, ReaderValue, in_front, reads, is_fault, read_by}
use Rattle.jx_run.specs.Reading.{went, stopped, too_deep}
use Rattle.jx_run.specs.Settings.{JudgedBy}
use Rattle.jx_run.specs.Telling.{IsAcceptedFrom, moved_ends, moved_marks, no_tokens, tokens_by, track_of}
use Rattle.jx_run.specs.Text.{IsText}
use Rattle.jx_run.specs.Tree.{Tree, span}
use Rattle.jx_run.specs.Verdict.{Judged}
use Rattle.jx_index.specs.ByNames.{IsVerdictBy}
use Rattle.jx_index.specs.Indexed.{IndexedValue}
use Rattle.jx_index.specs.Repeats.{IsLeast, IsRepeat}
use Rattle.jx_index.specs.Rows.{rows}
use Rattle.jx_index.specs.Settled.{IsIndexBy, IsIndexFrom, rest_from}
use Rattle.jx_index.specs.inside.Building.{Building, built_of}
use Rattle.jx_index.specs.inside.InTurn.{AreInTurn}
use Rattle.jx_index.specs.inside.NameLists.{accepted_unless}
use Rattle.jx_index.proofs.NamesBelow.{first_of_all}
use Rattle.jx_index.proofs.OnePass.{is_built}
use Rattle.jx_index.proofs.RowsAlone.{unless_repeated}
use Rattle.jx_index.proofs.Tokens.{TokensAreRead}
use Rattle.jx_names.specs.declared.held.Held.{Held}
use Rattle.jx_names.specs.declared.names_reader.NamesReader.{NamesReader}
use Rattle.jx_names.specs.Fed.{HasFed}
use Rattle.jx_names.specs.inside.HeldNames.{IsHeld}
use Rattle.jx_names.specs.inside.KeptNames.{Kept, Stands}

-- what is accepted has no fault
verdict_goes : (z : Outcome) → verdict_on z ≡ Accepted → is_fault (Some z) ≡ false
verdict_goes (in_front n) h = refl
verdict_goes (reads (went s e o)) h = refl
verdict_goes (reads (stopped at)) h = absurd cc
verdict_goes (reads (too_deep at)) h = absurd cc

abbrev pub HeldOf : List ℕ → Track → Held → Type 0
HeldOf bytes track h = IsHeld bytes track.marks track.ends h.names h.begun h.name.items

-- what is held of no byte
pub held_none : (m : FrontMark) (h : Held) → tokens_by m [] ≡ no_tokens → HeldOf [] no_tokens h → HeldOf [] (tokens_by m []) h
held_none m h none held = subst (λ (t : Track). HeldOf [] t h) (sym none) held

-- what is held of the bytes up to the end of a slice
held_on : (m : FrontMark) (limit : ℕ) (bytes slice : List ℕ) (next : Held)
    → (tokens_by m (bytes ++ slice)).marks ≡ (tokens_by m bytes).marks ++ moved_marks (length bytes) (track_of (read_by m limit 0 bytes) slice).marks
    → (tokens_by m (bytes ++ slice)).ends ≡ (tokens_by m bytes).ends ++ moved_ends (length bytes) (track_of (read_by m limit 0 bytes) slice).ends
    → IsHeld (bytes ++ slice) ((tokens_by m bytes).marks ++ moved_marks (length bytes) (track_of (read_by m limit 0 bytes) slice).marks)
    ((tokens_by m bytes).ends ++ moved_ends (length bytes) (track_of (read_by m limit 0 bytes) slice).ends) next.names next.begun next.name.items
    → HeldOf (bytes ++ slice) (tokens_by m (bytes ++ slice)) next
held_on m limit bytes slice next marks ends held =
    subst (λ (xs : List Mark). IsHeld (bytes ++ slice) xs (tokens_by m (bytes ++ slice)).ends next.names next.begun next.name.items) (sym marks)
    (subst (λ (xs : List ℕ). IsHeld (bytes ++ slice) ((tokens_by m bytes).marks ++ moved_marks (length bytes) (track_of (read_by m limit 0 bytes) slice).marks) xs next.names next.begun next.name.items) (sym ends) held)

-- a reader that is fed one slice more
pub fed_more : (settings : Settings) (bytes slice : List ℕ) (f : NamesReader) (h : HasFed settings bytes f) (reader : ReaderValue) (old next : Held) (turn : AreInTurn (λ (h : Held). h.begun) reader.outcome (Some next))
    → f.held ≡ Some old → reader.settings ≡ f.reader.settings → reader.start ≡ f.reader.start
    → ((xs : List ℕ) → HasRead xs f.reader → HasRead (xs ++ slice) reader)
    → (is_fault (Some (read_by settings.mark settings.depth 0 (bytes ++ slice))) ≡ false → is_fault (Some (read_by settings.mark settings.depth 0 bytes)) ≡ false)
    → (is_fault (Some (read_by settings.mark settings.depth 0 bytes)) ≡ false
    → (tokens_by settings.mark (bytes ++ slice)).marks ≡ (tokens_by settings.mark bytes).marks ++ moved_marks (length bytes) (track_of (read_by settings.mark settings.depth 0 bytes) slice).marks)
    → (is_fault (Some (read_by settings.mark settings.depth 0 bytes)) ≡ false
    → (tokens_by settings.mark (bytes ++ slice)).ends ≡ (tokens_by settings.mark bytes).ends ++ moved_ends (length bytes) (track_of (read_by settings.mark settings.depth 0 bytes) slice).ends)
    → (is_fault reader.outcome ≡ false → (before : Outcome) → f.reader.outcome ≡ Some before → (marks : List Mark) (ends : List ℕ)
    → (f.reader.start + f.reader.count ≡ length bytes) × IsHeld bytes marks ends old.names old.begun old.name.items
    → IsHeld (bytes ++ slice) (marks ++ moved_marks (length bytes) (track_of before slice).marks) (ends ++ moved_ends (length bytes) (track_of before slice).ends) next.names next.begun next.name.items)
    → HasFed settings (bytes ++ slice) (record f { reader = reader; held = Some next; turn = turn })
fed_more settings bytes slice f h reader old next turn held_is same_settings same_start grows stays marks ends holds = record {
  names = h.names;
  settings_are = same_settings ∙ h.settings_are;
  start = same_start ∙ h.start;
  read = now;
  kept = next;
  kept_is = refl;
  held = held;
}
  where
    now : HasRead (bytes ++ slice) reader
    now = grows bytes h.read

    came : (v : ReaderValue) (xs : List ℕ) → v.settings ≡ settings → v.start ≡ 0 → HasRead xs v → v.outcome ≡ Some (read_by settings.mark settings.depth 0 xs)
    came v xs same zero r =
        r.outcome ∙ ap (λ (s : Settings). Some (read_by s.mark s.depth v.start xs)) same ∙ ap (λ (i : ℕ). Some (read_by settings.mark settings.depth i xs)) zero

    was : f.reader.outcome ≡ Some (read_by settings.mark settings.depth 0 bytes)
    was = came f.reader bytes h.settings_are h.start h.read

    is : reader.outcome ≡ Some (read_by settings.mark settings.depth 0 (bytes ++ slice))
    is = came reader (bytes ++ slice) (same_settings ∙ h.settings_are) (same_start ∙ h.start) now

    long : f.reader.start + f.reader.count ≡ length bytes
    long = let zero = h.start in let count = h.read.count in omega (arith, zero, count)

    same_held : h.kept ≡ old
    same_held = let e : Some h.kept ≡ Some old = sym h.kept_is ∙ held_is in cc

    held : is_fault reader.outcome ≡ false → HeldOf (bytes ++ slice) (tokens_by settings.mark (bytes ++ slice)) next
    held going =
        let before : is_fault (Some (read_by settings.mark settings.depth 0 bytes)) ≡ false = stays (subst (λ (o : Option Outcome). is_fault o ≡ false) is going) in
        let first : HeldOf bytes (tokens_by settings.mark bytes) h.kept = h.held (subst (λ (o : Option Outcome). is_fault o ≡ false) (sym was) before) in
        let first_old : HeldOf bytes (tokens_by settings.mark bytes) old = subst (λ (x : Held). HeldOf bytes (tokens_by settings.mark bytes) x) same_held first in
        held_on settings.mark settings.depth bytes slice next (marks before) (ends before)
        (holds going (read_by settings.mark settings.depth 0 bytes) was (tokens_by settings.mark bytes).marks (tokens_by settings.mark bytes).ends (long, first_old))

-- ---- the verdict

pub judged_as : (settings : Settings) (bytes : List ℕ) (f : NamesReader) → HasFed settings bytes f → (v w : Verdict) → v ≡ w
    → ((xs : List ℕ) → HasRead xs f.reader → JudgedBy f.reader.settings f.reader.start xs v) → JudgedBy settings 0 bytes w
judged_as settings bytes f h v w is judged =
    subst (JudgedBy settings 0 bytes) is
    (subst (λ (i : ℕ). JudgedBy settings i bytes v) h.start
    (subst (λ (s : Settings). JudgedBy s f.reader.start bytes v) h.settings_are (judged bytes h.read)))

-- of an accepted text all tokens were told
pub all_held : (settings : Settings) (bytes : List ℕ) (f : NamesReader) → HasFed settings bytes f → (held : Held) → f.held ≡ Some held
    → (verdict_on (read_by settings.mark settings.depth 0 bytes) ≡ Accepted) → HeldOf bytes (tokens_by settings.mark bytes) held
all_held settings bytes f h held is accepted =
    let same : h.kept ≡ held = let e : Some h.kept ≡ Some held = sym h.kept_is ∙ is in cc in
    let came : f.reader.outcome ≡ Some (read_by settings.mark settings.depth 0 bytes) =
    h.read.outcome ∙ ap (λ (s : Settings). Some (read_by s.mark s.depth f.reader.start bytes)) h.settings_are ∙ ap (λ (i : ℕ). Some (read_by settings.mark settings.depth i bytes)) h.start in
    let goes : is_fault f.reader.outcome ≡ false = ap is_fault came ∙ verdict_goes (read_by settings.mark settings.depth 0 bytes) accepted in
    subst (λ (x : Held). HeldOf bytes (tokens_by settings.mark bytes) x) same (h.held goes)

rest_is : (xs : List ℕ) (k : ℕ) → k ≤ length xs → drop k xs ≡ rest_from k xs
rest_is xs k le = sym (take_all (length xs - k) (drop k xs) (let e : length (drop k xs) ≡ length xs - k = length-drop k xs in omega (arith, e)))

-- an accepted text is refused for its first repeated name alone
module _ (settings : Settings) (bytes : List ℕ) (a : IsAcceptedFrom settings bytes) (law : TokensAreRead) (k : Kept)
    (stands : Stands bytes (built_of (length bytes) (tokens_by settings.mark bytes).marks (tokens_by settings.mark bytes).ends) k) where
  abbrev track : Track
  track = lex state.Gap a.count (rest_from a.count bytes)

  tokens_are : tokens_by settings.mark bytes ≡ track
  tokens_are = a.tokens ∙ ap (lex state.Gap a.count) (rest_is bytes a.count a.within)

  abbrev building : Building
  building = built_of (length bytes) track.marks track.ends

  stands_there : Stands bytes building k
  stands_there = subst (λ (t : Track). Stands bytes (built_of (length bytes) t.marks t.ends) k) tokens_are stands

  least : (limit : ℕ) (tree : Tree) → IsText bytes a.count (length bytes) limit tree → IsLeast (IsRepeat bytes (rows tree)) k.first
  least limit tree t =
      let built = is_built bytes (span a.count (length bytes)) a.within (omega arith) law limit tree t in
      subst (IsLeast (IsRepeat bytes (rows tree))) stands_there.kept.first
      (first_of_all bytes a.count (length bytes) limit tree t building stands_there.held stands_there.holds built.none_open built.rows_are)

  pub by_names : settings.names ≡ Unique → ((i : IndexedValue) → front_of settings.mark bytes ≡ Skip a.count → IsIndexFrom a.count bytes settings.depth i → IsIndexBy settings bytes i)
      → (v : Verdict) → v ≡ accepted_unless k.first → IsVerdictBy settings bytes v
  by_names unique indexes v is =
      unless_repeated settings bytes a.count (λ i x. indexes i a.front x) unique k.first
      (subst (λ (xs : List ℕ). Judged a.count xs settings.depth Accepted) (rest_is bytes a.count a.within) a.judged) least v is

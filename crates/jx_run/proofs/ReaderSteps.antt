-- The reading of a text goes on, slice by slice.
use Rattle.std.proofs.Common.{◌≡◌, ℕ, suc, ◌+◌, ◌-◌, ◌^◌, ◌<◌, List, [], ◌∷◌, ◌++◌, length, take, drop, refl, sym, ◌∙◌, ap, subst, arith, Option, Some, None, Bool, true, false, cond}
use Rattle.std.specs.Prelude.{nat_lt, IfSome}
use Rattle.std.specs.Prelude.{slice_range}
use Rattle.std.proofs.Math.Nat.{add-suc}
use Rattle.std.proofs.lemmas.List.{take_all}
use Rattle.std.proofs.lemmas.List.Sums.{fold-append}
use Rattle.jx_lex.specs.declared.alphabet.lex_exit.LexExit.{LexExit}
use Rattle.jx_lex.specs.declared.alphabet.lex_exit.LexExit.TheVariants as exit
use Rattle.jx_lex.specs.declared.alphabet.mark.Mark.{Mark}
use Rattle.jx_lex.specs.declared.alphabet.mark.MarkKind.{MarkKind}
use Rattle.jx_lex.specs.declared.alphabet.mark.MarkKind.TheVariants as kind
use Rattle.jx_lex.specs.declared.alphabet.state.LexState.{LexState}
use Rattle.jx_lex.specs.declared.alphabet.state.LexState.TheVariants as state
use Rattle.jx_lex.specs.Lex as lexical
use Rattle.jx_lex.specs.Lex.{lex}
use Rattle.jx_lex.specs.Moves.{move}
use Rattle.jx_lex.specs.Seen.{SeesTrack, WantsNoMore}
use Rattle.jx_lex.specs.Exit.{exit_of}
use Rattle.jx_reduce.specs.declared.table.expect.Expect.{Expect}
use Rattle.jx_reduce.specs.declared.table.expect.Expect.TheVariants as expect
use Rattle.jx_reduce.specs.declared.table.holder.Holder.{Holder}
use Rattle.jx_reduce.specs.declared.table.whole.Whole.{Whole}
use Rattle.jx_reduce.specs.declared.table.whole.Whole.TheVariants as whole
use Rattle.jx_reduce.specs.KnownStack.{Known, IsFault, HasRead as StackHasRead, start as stack_start}
use Rattle.jx_reduce.specs.Read.{Reading, top, read as read_marks, step as mark_step}
use Rattle.jx_reduce.specs.Whole.{whole_of}
use Rattle.jx_reduce.specs.KnownStack.{HasSeen}
use Rattle.jx_run.specs.Laws.{IsFaultAt}
use Rattle.jx_run.specs.Reading.{TextReading, went, stopped, too_deep, at_exit, and_then, read, read_text}
use Rattle.jx_run.specs.ReaderInside.{outcome_at, HasMarks, IsOfUse, offset_at, settled, shifted, IsLow, GoesOn}
use Rattle.jx_run.specs.OutcomeRun.{OutcomeRunValue, exit_at}
use Rattle.jx_run.specs.Reader.{reads}
use Rattle.jx_run.specs.declared.readers.progress.Progress.{Progress}
use Rattle.jx_run.specs.declared.readers.progress.Progress.TheVariants.{Front, Going, Stopped, TooDeep, Failed}
use Rattle.jx_run.specs.declared.texts.settings.FrontMark.{FrontMark}
use Rattle.jx_run.specs.inside.Turns.{Turn, wrong, on, enter, leave, turn}
use Rattle.jx_run.proofs.Fused.{after_turn, after_mark, in_next, run, read-run}
use Rattle.jx_run.proofs.LawProofs.{FirstFaults}
use Rattle.jx_run.proofs.RunJoin.{read-append}

-- ---- the same bytes further on

turn-shift : (limit b at : ℕ) (o : List Holder) (t : Turn) (g h : Expect → List Holder → TextReading) → ((e : Expect) (p : List Holder) → g e p ≡ shifted b (h e p))
    → after_turn limit (b + at) o t g ≡ shifted b (after_turn limit at o t h)
turn-shift limit b at o wrong g h q = refl
turn-shift limit b at o (on e) g h q = q e o
turn-shift limit b at o (enter k e) g h q = pick (nat_lt (length o) limit)
  where
    pick : (c : Bool) → cond c (g e (k ∷ o)) (too_deep (b + at)) ≡ shifted b (cond c (h e (k ∷ o)) (too_deep at))
    pick true = q e (k ∷ o)
    pick false = refl
turn-shift limit b at o (leave e) g h q = q e (drop 1 o)

mark-shift : (limit b at : ℕ) (e : Expect) (o : List Holder) (k : Option MarkKind) (g h : Expect → List Holder → TextReading) → ((e : Expect) (p : List Holder) → g e p ≡ shifted b (h e p))
    → after_mark limit (b + at) e o k g ≡ shifted b (after_mark limit at e o k h)
mark-shift limit b at e o None g h q = q e o
mark-shift limit b at e o (Some k) g h q = turn-shift limit b at o (turn k e (top o)) g h q

next-shift : (b at : ℕ) (n : Option LexState) (g h : LexState → TextReading) → ((s : LexState) → g s ≡ shifted b (h s)) → in_next (b + at) n g ≡ shifted b (in_next at n h)
next-shift b at None g h q = refl
next-shift b at (Some s) g h q = q s

run-shift : (limit b : ℕ) (xs : List ℕ) (s : LexState) (e : Expect) (o : List Holder) (at : ℕ) → run limit s e o (b + at) xs ≡ shifted b (run limit s e o at xs)
unfolding run
run-shift limit b [] s e o at = refl
run-shift limit b (x ∷ xs) s e o at =
    mark-shift limit b at e o ((move s x).begin) _ _
    (λ e' o'. next-shift b at ((move s x).next) _ _ (λ s'. ap (λ (k : ℕ). run limit s' e' o' k xs) (sym (add-suc b at)) ∙ run-shift limit b xs s' e' o' (suc at)))

pub read-shift : (limit b : ℕ) (s : LexState) (e : Expect) (o : List Holder) (xs : List ℕ) → read limit s e o b xs ≡ shifted b (read limit s e o 0 xs)
read-shift limit b s e o xs =
    let z : b ≡ b + 0 = omega arith in
    read-run limit s e o b xs ∙ ap (λ (k : ℕ). run limit s e o k xs) z ∙ run-shift limit b xs s e o 0 ∙ ap (shifted b) (sym (read-run limit s e o 0 xs))

-- ---- a slice behind the bytes that were read

pub fed_went : (limit from : ℕ) (bytes slice : List ℕ) (s : LexState) (e : Expect) (o : List Holder) → read_text limit from bytes ≡ went s e o
    → read_text limit from (bytes ++ slice) ≡ shifted (from + length bytes) (read limit s e o 0 slice)
fed_went limit from bytes slice s e o h =
    read-append limit bytes slice state.Gap expect.Value [] from (omega arith)
    ∙ ap (λ (r : TextReading). and_then r (λ s e o. read limit s e o (from + length bytes) slice)) h
    ∙ read-shift limit (from + length bytes) s e o slice

pub fed_over : (limit from : ℕ) (bytes slice : List ℕ) (r : TextReading) → ((more : LexState → Expect → List Holder → TextReading) → and_then r more ≡ r) → read_text limit from bytes ≡ r
    → read_text limit from (bytes ++ slice) ≡ r
fed_over limit from bytes slice r over h =
    read-append limit bytes slice state.Gap expect.Value [] from (omega arith)
    ∙ ap (λ (r : TextReading). and_then r (λ s e o. read limit s e o (from + length bytes) slice)) h
    ∙ over _

-- no fault lies past the bytes
pub low : FirstFaults → (limit from b : ℕ) (bytes : List ℕ) (r : TextReading) → read_text limit from bytes ≡ shifted b r → from + length bytes < 2 ^ 64 → IsLow b r
low first_fault_law limit from b bytes (went s e o) h fits = tt
low first_fault_law limit from b bytes (stopped at) h fits =
    let f = first_fault_law limit from (b + at) bytes (subst (λ (z : TextReading). IsFaultAt z (b + at)) (sym h) refl) in
    let same = f.1 in
    let within = f.2.within in
    omega (arith, same, within)
low first_fault_law limit from b bytes (too_deep at) h fits =
    let f = first_fault_law limit from (b + at) bytes (subst (λ (z : TextReading). IsFaultAt z (b + at)) (sym h) refl) in
    let same = f.1 in
    let within = f.2.within in
    omega (arith, same, within)

-- ---- what a scan comes to

fits : (b at : ℕ) → b + at < 2 ^ 64 → offset_at b at ≡ b + at
fits b at h = omega arith

-- of a scan that comes to this
abbrev Settles : ℕ → Option LexExit → Reading → lexical.LexExit → Type 0
Settles b x r t = outcome_at (settled b x (whole_of r)) r ≡ Some (reads (shifted b (at_exit t r)))

settle_at : (b : ℕ) (x : Option LexExit) (r : Reading) (t : lexical.LexExit) → IfSome x (λ e. exit_of e ≡ t) → (x ≡ None → IsFault r) → IsLow b (at_exit t r) → Settles b x r t
settle_at b (Some (exit.State s)) (Reading.went e o) t is none l = ap (λ (z : lexical.LexExit). Some (reads (shifted b (at_exit z (Reading.went e o))))) is
settle_at b (Some (exit.Fault at)) (Reading.went e o) t is none l =
    let m : b + at < 2 ^ 64 = subst (λ (z : lexical.LexExit). IsLow b (at_exit z (Reading.went e o))) (sym is) l in
    ap (λ (k : ℕ). Some (reads (stopped k))) (fits b at m) ∙ ap (λ (z : lexical.LexExit). Some (reads (shifted b (at_exit z (Reading.went e o))))) is
settle_at b None (Reading.went e o) t is none l = absurd (none refl)
settle_at b x (Reading.stopped at) (lexical.state s) is none l = ap (λ (k : ℕ). Some (reads (stopped k))) (fits b at l)
settle_at b x (Reading.stopped at) (lexical.fault i) is none l = ap (λ (k : ℕ). Some (reads (stopped k))) (fits b at l)
settle_at b x (Reading.too_deep at) (lexical.state s) is none l = ap (λ (k : ℕ). Some (reads (too_deep k))) (fits b at l)
settle_at b x (Reading.too_deep at) (lexical.fault i) is none l = ap (λ (k : ℕ). Some (reads (too_deep k))) (fits b at l)

-- no mark is allowed twice where it says no more
pub stuck : (d i j : ℕ) (r : Reading) → r ≡ read_marks d (record { kind = kind.Colon; at = i } ∷ record { kind = kind.Colon; at = j } ∷ []) r → IsFault r
stuck d i j (Reading.went expect.Value o) h = cc
stuck d i j (Reading.went expect.ArrayFirst o) h = cc
stuck d i j (Reading.went expect.ObjectFirst o) h = cc
stuck d i j (Reading.went expect.Name o) h = cc
stuck d i j (Reading.went expect.Colon o) h = cc
stuck d i j (Reading.went expect.After o) h = cc
stuck d i j (Reading.stopped at) h = tt
stuck d i j (Reading.too_deep at) h = tt

done_fault : (k : Known) (ms : List Mark) (es : List ℕ) → HasSeen ms es k → WantsNoMore (λ marks ends. HasSeen marks ends k) → IsFault k.reading
done_fault k ms es seen done =
    let two : List Mark = record { kind = kind.Colon; at = 0 } ∷ record { kind = kind.Colon; at = 0 } ∷ [] in
    let more : HasSeen (ms ++ two) (es ++ []) k = done ms two es [] seen in
    stuck k.depth 0 0 k.reading (more.read ∙ fold-append (λ reading mark. mark_step k.depth mark reading) stack_start ms two ∙ ap (read_marks k.depth two) (sym seen.read))

no_fault : (r : Reading) (e : Expect) (n : ℕ) → whole.Went e n ≡ whole_of r → IsFault r → ⊥
no_fault (Reading.went f o) e n h i = i
no_fault (Reading.stopped at) e n h i = cc
no_fault (Reading.too_deep at) e n h i = cc

use_of : (b : ℕ) (x : Option LexExit) (w : Whole) (d : ℕ) (k : Known) → w ≡ whole_of k.reading → HasMarks d k → (mark : FrontMark) → IsOfUse (settled b x w) mark d k
use_of b x (whole.Stopped at) d k h m mark = m
use_of b x (whole.TooDeep at) d k h m mark = m
use_of b (Some (exit.State s)) (whole.Went e n) d k h m mark = (m, no_fault k.reading e n h)
use_of b (Some (exit.Fault at)) (whole.Went e n) d k h m mark = m
use_of b None (whole.Went e n) d k h m mark = tt

-- a stack that has read the marks of a reading, which came to this
pub goes_on_by : (old new : Known) (ms : List Mark) (track : lexical.Track) (b : ℕ) (x : Option LexExit) (w : Whole) → StackHasRead ms old → new.depth ≡ old.depth
    → new.reading ≡ read_marks old.depth track.marks old.reading → IfSome x (λ e. exit_of e ≡ track.exit) → (x ≡ None → IsFault new.reading) → w ≡ whole_of new.reading
    → GoesOn old track (read_marks old.depth track.marks old.reading) b (settled b x w) new
goes_on_by old new ms track b x w h deep reading is done whole_is =
    let read : StackHasRead (ms ++ track.marks) new =
    reading ∙ ap (read_marks old.depth track.marks) h ∙ sym (fold-append (λ reading mark. mark_step old.depth mark reading) stack_start ms track.marks)
    ∙ ap (λ (d : ℕ). read_marks d (ms ++ track.marks) stack_start) (sym deep) in
    let at_new : IsLow b (at_exit track.exit new.reading) → outcome_at (settled b x w) new.reading ≡ Some (reads (shifted b (at_exit track.exit new.reading))) =
    λ l. ap (λ (v : Whole). outcome_at (settled b x v) new.reading) whole_is
    ∙ settle_at b x new.reading track.exit is done l in
    record {
      of_use = use_of b x w old.depth new whole_is (record { depth_is = deep; marks = ms ++ track.marks; read = read });
      outcome = subst (λ (r : Reading). IsLow b (at_exit track.exit r) → outcome_at (settled b x w) new.reading ≡ Some (reads (shifted b (at_exit track.exit r)))) reading at_new;
    }

pub goes_on : (old new : Known) (ms : List Mark) (track : lexical.Track) (b : ℕ) (x : Option LexExit) (w : Whole) → StackHasRead ms old
    → SeesTrack (λ marks ends. HasSeen marks ends old) (λ marks ends. HasSeen marks ends new) track
    → IfSome x (λ e. exit_of e ≡ track.exit) → (x ≡ None → WantsNoMore (λ marks ends. HasSeen marks ends new)) → w ≡ whole_of new.reading
    → GoesOn old track (read_marks old.depth track.marks old.reading) b (settled b x w) new
goes_on old new ms track b x w h sees is done whole_is =
    let seen : HasSeen (ms ++ track.marks) ((old.depth ∷ []) ++ track.ends) new = sees ms (old.depth ∷ []) (record { read = h; rest = []; depth = refl }) in
    let tied : old.depth ∷ track.ends ≡ new.depth ∷ seen.rest = seen.depth in
    let deep : new.depth ≡ old.depth = cc in
    goes_on_by old new ms track b x w h deep
    (seen.read ∙ ap (λ (d : ℕ). read_marks d (ms ++ track.marks) stack_start) deep ∙ fold-append (λ reading mark. mark_step old.depth mark reading) stack_start ms track.marks ∙ ap (read_marks old.depth track.marks) (sym h))
    is (λ e. done_fault new _ _ seen (done e)) whole_is

-- what the text comes to is what the stack came to, behind the lexical state
pub read_is : (limit d : ℕ) (s : LexState) (e : Expect) (o : List Holder) (xs : List ℕ) (r : Reading) → d ≡ limit → r ≡ Reading.went e o
    → read limit s e o 0 xs ≡ at_exit (lex s 0 xs).exit (read_marks d (lex s 0 xs).marks r)
unfolding read
read_is limit d s e o xs r i j =
    ap (λ (k : ℕ). at_exit (lex s 0 xs).exit (read_marks k (lex s 0 xs).marks (Reading.went e o))) (sym i)
    ∙ ap (λ (q : Reading). at_exit (lex s 0 xs).exit (read_marks d (lex s 0 xs).marks q)) (sym j)

pub slice_all : (xs : List ℕ) → slice_range xs 0 (length xs) ≡ xs
slice_all xs = take_all _ xs (omega arith)

pub slice_first : (n : ℕ) (xs : List ℕ) → slice_range xs 0 n ≡ take n xs
slice_first n xs = let e : n - 0 ≡ n = omega arith in ap (λ (k : ℕ). take k xs) e

-- ---- a stack that wants no more

-- ---- what a run comes to

went_of : (x : lexical.LexExit) (r : Reading) (s : LexState) (e : Expect) (o : List Holder) → at_exit x r ≡ went s e o → r ≡ Reading.went e o
went_of (lexical.state t) (Reading.went f p) s e o h = cc
went_of (lexical.fault i) (Reading.went f p) s e o h = cc
went_of (lexical.state t) (Reading.stopped at) s e o h = cc
went_of (lexical.fault i) (Reading.stopped at) s e o h = cc
went_of (lexical.state t) (Reading.too_deep at) s e o h = cc
went_of (lexical.fault i) (Reading.too_deep at) s e o h = cc

-- a fault of the marks comes before one of the lexical machine
pub at_stopped : (x : lexical.LexExit) (at : ℕ) → at_exit x (Reading.stopped at) ≡ stopped at
at_stopped (lexical.state s) at = refl
at_stopped (lexical.fault i) at = refl

pub at_too_deep : (x : lexical.LexExit) (at : ℕ) → at_exit x (Reading.too_deep at) ≡ too_deep at
at_too_deep (lexical.state s) at = refl
at_too_deep (lexical.fault i) at = refl

-- what its entry answers is what the marks of its bytes come to behind the stack
pub run_is : (run : OutcomeRunValue) (s : LexState) (e : Expect) (o : List Holder) (more : List ℕ) (old : Known) (x : LexExit) (q answer : Reading) → run.depth ≡ old.depth → run.start ≡ 0
    → old.reading ≡ Reading.went e o → exit_of x ≡ exit_at run s → q ≡ answer → at_exit (exit_at run s) answer ≡ read run.depth s e o run.start more
    → at_exit (lex s 0 more).exit (read_marks old.depth (lex s 0 more).marks old.reading) ≡ at_exit (exit_of x) q
run_is run s e o more old x q answer deep zero stands exits answers reads_as =
    sym (
    ap (λ z. at_exit z q) exits
    ∙ ap (at_exit (exit_at run s)) answers
    ∙ reads_as
    ∙ ap (λ (i : ℕ). read run.depth s e o i more) zero
    ∙ read_is run.depth old.depth s e o more old.reading (sym deep) stands)

module _ (b : ℕ) (old new : Known) (track : lexical.Track) (kept : new.depth ≡ old.depth) where
  abbrev pub led_to : Reading
  led_to = read_marks old.depth track.marks old.reading

  pub run_goes : (t : LexState) (e : Expect) (o : List Holder) (ms : List Mark) → StackHasRead ms old → at_exit track.exit led_to ≡ went t e o → new.reading ≡ Reading.went e o
      → GoesOn old track led_to b (Going t) new
  run_goes t e o ms h is now =
      let taken : new.reading ≡ read_marks new.depth (ms ++ track.marks) stack_start =
      now ∙ sym (went_of track.exit led_to t e o is) ∙ ap (read_marks old.depth track.marks) h ∙ sym (fold-append (λ reading mark. mark_step old.depth mark reading) stack_start ms track.marks)
      ∙ ap (λ (d : ℕ). read_marks d (ms ++ track.marks) stack_start) (sym kept) in
      record {
        of_use = λ mark. (record { depth_is = kept; marks = ms ++ track.marks; read = taken }, λ fault. subst IsFault now fault);
        outcome = λ l. ap (λ (q : Reading). outcome_at (Going t) q) now ∙ ap (λ (z : TextReading). Some (reads (shifted b z))) (sym is);
      }

  -- behind a fault the stack is at its start again
  pub run_stops : (at : ℕ) → at_exit track.exit led_to ≡ stopped at → new.reading ≡ stack_start → GoesOn old track led_to b (Stopped (offset_at b at)) new
  run_stops at is now =
      record {
        of_use = λ mark. record { depth_is = kept; marks = []; read = now };
        outcome = λ l. ap (λ (k : ℕ). Some (reads (stopped k))) (fits b at (subst (IsLow b) is l)) ∙ ap (λ (z : TextReading). Some (reads (shifted b z))) (sym is);
      }

  pub run_is_too_deep : (at : ℕ) → at_exit track.exit led_to ≡ too_deep at → new.reading ≡ stack_start → GoesOn old track led_to b (TooDeep (offset_at b at)) new
  run_is_too_deep at is now =
      record {
        of_use = λ mark. record { depth_is = kept; marks = []; read = now };
        outcome = λ l. ap (λ (k : ℕ). Some (reads (too_deep k))) (fits b at (subst (IsLow b) is l)) ∙ ap (λ (z : TextReading). Some (reads (shifted b z))) (sym is);
      }

-- a stack of use has the reader's depth
pub depth_of : (p : Progress) (m : FrontMark) (d : ℕ) (k : Known) → (p ≡ Failed → ⊥) → IsOfUse p m d k → k.depth ≡ d
depth_of (Front n) m d k other u = u.depth_is
depth_of (Going s) m d k other u = u.0.depth_is
depth_of (Stopped at) m d k other u = u.depth_is
depth_of (TooDeep at) m d k other u = u.depth_is
depth_of Failed m d k other u = absurd (other refl)

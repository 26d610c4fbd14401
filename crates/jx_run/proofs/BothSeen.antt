-- A known stack, and another sink beside it, over the whole of a text.
use Rattle.std.proofs.Common.{◌≡◌, ℕ, List, [], ◌∷◌, ◌++◌, refl, sym, ◌∙◌, ap, subst, Option, Some, None}
use Rattle.std.specs.Prelude.{IfSome, unwrap_or}
use Rattle.std.proofs.lemmas.List.Sums.{fold-append}
use Rattle.jx_lex.specs.declared.alphabet.lex_exit.LexExit.{LexExit}
use Rattle.jx_lex.specs.declared.alphabet.lex_exit.LexExit.TheVariants as exit
use Rattle.jx_lex.specs.declared.alphabet.mark.Mark.{Mark}
use Rattle.jx_lex.specs.declared.alphabet.state.LexState.TheVariants as state
use Rattle.jx_lex.specs.Lex as lexical
use Rattle.jx_lex.specs.Lex.{lex}
use Rattle.jx_lex.specs.Seen.{Grows, Seen, SeesTrack, WantsNoMore}
use Rattle.jx_lex.specs.Exit.{exit_of}
use Rattle.jx_reduce.specs.declared.table.whole.Whole.{Whole}
use Rattle.jx_reduce.specs.KnownStack.{Known, IsFault, HasRead as StackHasRead, start as stack_start}
use Rattle.jx_reduce.specs.Read.{Reading, step, read as read_marks}
use Rattle.jx_reduce.specs.Whole.{whole_of}
use Rattle.jx_run.specs.inside.Beside.{BothHaveSeen}
use Rattle.jx_run.specs.Laws.{verdict_of}
use Rattle.jx_run.specs.Reading.{at_exit, read, read_text}
use Rattle.jx_run.specs.Verdict.{Judged}
use Rattle.jx_run.specs.Whole.{verdict_from}
use Rattle.jx_run.specs.declared.texts.verdict.Verdict.TheVariants as verdict
use Rattle.jx_run.proofs.LawProofs.{Verdicts}
use Rattle.jx_lex.specs.declared.alphabet.mark.MarkKind.TheVariants as kind
use Rattle.jx_reduce.proofs.KnownMoves.{read-fault, seen_done}
use Rattle.jx_run.proofs.ReaderSteps.{stuck}
use Rattle.jx_run.proofs.RunVerdict.{same_verdict}

-- behind a fault every reading is one
pub no_fault_before : (d : ℕ) (m : Mark) (r : Reading) → (IsFault (step d m r) → ⊥) → IsFault r → ⊥
no_fault_before d m (Reading.went e o) h f = f
no_fault_before d m (Reading.stopped at) h f = h tt
no_fault_before d m (Reading.too_deep at) h f = h tt

pub both_begin : (d : ℕ) (m : Mark) (old new : Known) (before after : Seen) → new.depth ≡ old.depth → new.reading ≡ step old.depth m old.reading
    → ((marks : List Mark) → StackHasRead marks old → StackHasRead (marks ++ m ∷ []) new)
    → ((marks : List Mark) (ends : List ℕ) → before marks ends → after (marks ++ m ∷ []) ends)
    → (marks : List Mark) (ends : List ℕ) → BothHaveSeen before marks ends old → BothHaveSeen after (marks ++ m ∷ []) ends new
both_begin d m old new before after deep reads has others marks ends h = record {
  stack_has = record { read = has marks h.stack_has.read; rest = h.stack_has.rest; depth = h.stack_has.depth ∙ ap (λ (n : ℕ). n ∷ h.stack_has.rest) (sym deep) };
  said = h.said;
  ends = h.ends;
  rest = h.rest;
  other_has = λ sound said. others marks h.ends (h.other_has (no_fault_before old.depth m old.reading (subst (λ (r : Reading). IsFault r → ⊥) reads sound)) said);
}

pub both_end : (at : ℕ) (stack : Known) (before after : Seen) → ((marks : List Mark) (ends : List ℕ) → before marks ends → after marks (ends ++ at ∷ []))
    → (marks : List Mark) (ends : List ℕ) → BothHaveSeen before marks ends stack → BothHaveSeen after marks (ends ++ at ∷ []) stack
both_end at stack before after others marks ends h = record {
  stack_has = record { read = h.stack_has.read; rest = h.stack_has.rest ++ at ∷ []; depth = ap (λ (es : List ℕ). es ++ at ∷ []) h.stack_has.depth };
  said = h.said;
  ends = h.ends ++ at ∷ [];
  rest = ap (λ (es : List ℕ). es ++ at ∷ []) h.rest;
  other_has = λ sound said. others marks h.ends (h.other_has sound said);
}

-- whole tokens that are passed at once
pub both_pass : (more : List Mark) (others : List ℕ) (old new : Known) (before after : Seen) → new.depth ≡ old.depth → new.reading ≡ read_marks old.depth more old.reading
    → ((marks : List Mark) → StackHasRead marks old → StackHasRead (marks ++ more) new) → Grows before after more others
    → (marks : List Mark) (ends : List ℕ) → BothHaveSeen before marks ends old → BothHaveSeen after (marks ++ more) (ends ++ others) new
both_pass more others old new before after deep reads has grows marks ends h = record {
  stack_has = record { read = has marks h.stack_has.read; rest = h.stack_has.rest ++ others; depth = ap (λ (es : List ℕ). es ++ others) h.stack_has.depth ∙ ap (λ (n : ℕ). n ∷ (h.stack_has.rest ++ others)) (sym deep) };
  said = h.said;
  ends = h.ends ++ others;
  rest = ap (λ (es : List ℕ). es ++ others) h.rest;
  other_has = λ sound said. grows marks h.ends (h.other_has (λ f. sound (subst IsFault (sym reads) (subst IsFault (sym (read-fault old.depth more old.reading f)) f))) said);
}

pub both_done : (stack : Known) (other : Seen) → IsFault stack.reading → WantsNoMore (λ marks ends. BothHaveSeen other marks ends stack)
both_done stack other fault marks more ends others h = record {
  stack_has = record {
    read = (seen_done stack fault marks more ends others h.stack_has).read;
    rest = h.stack_has.rest ++ others;
    depth = ap (λ (es : List ℕ). es ++ others) h.stack_has.depth;
  };
  said = h.said;
  ends = h.ends ++ others;
  rest = ap (λ (es : List ℕ). es ++ others) h.rest;
  other_has = λ sound said. absurd (sound fault);
}

-- ---- the whole text

-- where the scan ended early the stack met a fault, and no exit matters
unwrapped : (x : Option LexExit) (t : lexical.LexExit) (r : Reading) → IfSome x (λ e. exit_of e ≡ t) → (x ≡ None → IsFault r)
    → verdict_of (at_exit t r) ≡ verdict_from (unwrap_or x (exit.State state.Gap)) (whole_of r)
unwrapped (Some e) t r is none = ap (λ (z : lexical.LexExit). verdict_of (at_exit z r)) (sym is) ∙ same_verdict e r
unwrapped None (lexical.state s) (Reading.went e o) is none = absurd (none refl)
unwrapped None (lexical.fault i) (Reading.went e o) is none = absurd (none refl)
unwrapped None (lexical.state s) (Reading.stopped at) is none = refl
unwrapped None (lexical.fault i) (Reading.stopped at) is none = refl
unwrapped None (lexical.state s) (Reading.too_deep at) is none = refl
unwrapped None (lexical.fault i) (Reading.too_deep at) is none = refl

accepted_goes : (x : LexExit) (r : Reading) → verdict_from x (whole_of r) ≡ verdict.Accepted → IsFault r → ⊥
accepted_goes x (Reading.went e o) h f = f
accepted_goes (exit.State s) (Reading.stopped at) h f = cc
accepted_goes (exit.Fault i) (Reading.stopped at) h f = cc
accepted_goes (exit.State s) (Reading.too_deep at) h f = cc
accepted_goes (exit.Fault i) (Reading.too_deep at) h f = cc

-- the sinks, once all was scanned
pub record Scanned (limit from : ℕ) (bytes : List ℕ) (before after : Seen) (old new : Known) (x : Option LexExit) (w : Whole) : Type 0 where
  pub depth : old.depth ≡ limit
  pub start : StackHasRead [] old
  pub sees : SeesTrack (λ marks ends. BothHaveSeen before marks ends old) (λ marks ends. BothHaveSeen after marks ends new) (lex state.Gap from bytes)
  pub exit : IfSome x (λ e. exit_of e ≡ (lex state.Gap from bytes).exit)
  pub done : x ≡ None → WantsNoMore (λ marks ends. BothHaveSeen after marks ends new)
  pub whole : w ≡ whole_of new.reading

both_fault : (k : Known) (other : Seen) (ms : List Mark) (es : List ℕ) → BothHaveSeen other ms es k → WantsNoMore (λ marks ends. BothHaveSeen other marks ends k) → IsFault k.reading
both_fault k other ms es seen done =
    let two : List Mark = record { kind = kind.Colon; at = 0 } ∷ record { kind = kind.Colon; at = 0 } ∷ [] in
    let more : BothHaveSeen other (ms ++ two) (es ++ []) k = done ms two es [] seen in
    let then : k.reading ≡ read_marks k.depth (ms ++ two) stack_start = more.stack_has.read in
    let here : k.reading ≡ read_marks k.depth ms stack_start = seen.stack_has.read in
    stuck k.depth 0 0 k.reading (then ∙ fold-append (λ reading mark. step k.depth mark reading) stack_start ms two ∙ ap (read_marks k.depth two) (sym here))

-- whatever is said of the other sink
both_seen : (limit from : ℕ) (bytes : List ℕ) (before after : Seen) (old new : Known) (x : Option LexExit) (w : Whole) → Scanned limit from bytes before after old new x w
    → (said : ℕ) (ends : List ℕ) → (said ≡ 1 → before [] ends) → BothHaveSeen after (lex state.Gap from bytes).marks (old.depth ∷ said ∷ (ends ++ (lex state.Gap from bytes).ends)) new
both_seen limit from bytes before after old new x w s said ends seen =
    s.sees [] (old.depth ∷ said ∷ ends) (record { stack_has = record { read = s.start; rest = said ∷ ends; depth = refl }; said = said; ends = ends; rest = refl; other_has = λ sound. seen })

text_is : (limit from : ℕ) (bytes : List ℕ) → read_text limit from bytes ≡ at_exit (lex state.Gap from bytes).exit (read_marks limit (lex state.Gap from bytes).marks stack_start)
unfolding read
text_is limit from bytes = refl

pub both_judged : Verdicts → (limit from : ℕ) (bytes : List ℕ) (before after : Seen) (old new : Known) (x : Option LexExit) (w : Whole) → Scanned limit from bytes before after old new x w
    → Judged from bytes limit (verdict_from (unwrap_or x (exit.State state.Gap)) w)
both_judged verdict_law limit from bytes before after old new x w s =
    let track = lex state.Gap from bytes in
    let seen : BothHaveSeen after track.marks (old.depth ∷ 0 ∷ track.ends) new = both_seen limit from bytes before after old new x w s 0 [] (λ said. cc) in
    let tied : old.depth ∷ 0 ∷ track.ends ≡ new.depth ∷ seen.stack_has.rest = seen.stack_has.depth in
    let here : old.depth ≡ limit = s.depth in
    let deep : new.depth ≡ limit = cc in
    let reading : new.reading ≡ read_marks limit track.marks stack_start = seen.stack_has.read ∙ ap (λ (d : ℕ). read_marks d track.marks stack_start) deep in
    subst (Judged from bytes limit)
    (ap verdict_of (text_is limit from bytes ∙ ap (at_exit track.exit) (sym reading))
    ∙ unwrapped x track.exit new.reading s.exit (λ e. both_fault new after _ _ seen (s.done e))
    ∙ ap (verdict_from (unwrap_or x (exit.State state.Gap))) (sym s.whole))
    (verdict_law limit from bytes)

pub other_seen : (limit from : ℕ) (bytes : List ℕ) (before after : Seen) (old new : Known) (x : Option LexExit) (w : Whole) (e : LexExit) → Scanned limit from bytes before after old new x w
    → verdict_from e w ≡ verdict.Accepted → (ends : List ℕ) → before [] ends → after (lex state.Gap from bytes).marks (ends ++ (lex state.Gap from bytes).ends)
other_seen limit from bytes before after old new x w e s accepted ends none =
    let track = lex state.Gap from bytes in
    let seen : BothHaveSeen after track.marks (old.depth ∷ 1 ∷ (ends ++ track.ends)) new = both_seen limit from bytes before after old new x w s 1 ends (λ said. none) in
    let tied : old.depth ∷ 1 ∷ (ends ++ track.ends) ≡ new.depth ∷ seen.stack_has.rest = seen.stack_has.depth in
    let split : seen.stack_has.rest ≡ seen.said ∷ seen.ends = seen.rest in
    let said : seen.said ≡ 1 = cc in
    let same : seen.ends ≡ ends ++ track.ends = cc in
    subst (λ (es : List ℕ). after track.marks es) same
    (seen.other_has (accepted_goes e new.reading (ap (verdict_from e) (sym s.whole) ∙ accepted)) said)

-- Where bytes lead from a place, by the tokens that a scan finds.
use Rattle.std.proofs.Common.{◌≡◌, ◌≤◌, ℕ, List, [], ◌∷◌, ◌++◌, length, sym, ap, ◌∙◌, arith, length-append}
use Rattle.std.specs.Prelude.{slice_range}
use Rattle.jx_lex.specs.declared.alphabet.lex_exit.LexExit.{LexExit}
use Rattle.jx_lex.specs.declared.alphabet.mark.Mark.{Mark}
use Rattle.jx_lex.specs.declared.alphabet.mark.MarkKind.TheVariants.{Comma}
use Rattle.jx_lex.specs.declared.alphabet.state.LexState.{LexState}
use Rattle.jx_lex.specs.Lex as lexical
use Rattle.jx_lex.specs.Lex.{lex}
use Rattle.jx_lex.specs.Seen.{TokenLists, WantsNoMore}
use Rattle.jx_lex.specs.Exit.{exit_of}
use Rattle.jx_reduce.specs.Read.{Reading, read as read_marks}
use Rattle.jx_run.specs.Reading.{at_exit, read}
use Rattle.jx_run.proofs.ReaderSteps.{slice_all}
use Rattle.jx_run.proofs.RunJoin.{read-within}
use Rattle.jx_edit.specs.declared.reading.led.Led.{Led as TheLed}
use Rattle.jx_edit.specs.inside.Leads.{reading_in, IsLedWithin}
use Rattle.jx_edit.specs.inside.Places.{PlaceValue, read_on}
use Rattle.jx_edit.proofs.Links.{led_within}

-- what a scan of all bytes from a place finds, and what its marks come to there
pub record IsScanned (limit : ℕ) (p : PlaceValue) (s : LexState) (bytes : List ℕ) (marks : List Mark) (x : LexExit) (r : Reading) : Type 0 where
  pub state : s ≡ p.state
  pub marks_are : marks ≡ (lex s 0 (slice_range bytes 0 (length bytes))).marks
  pub exit : exit_of x ≡ (lex s 0 (slice_range bytes 0 (length bytes))).exit
  pub reading : r ≡ read_marks limit marks (Reading.went p.expect p.holders)

leads : (limit : ℕ) (p : PlaceValue) (s : LexState) (bytes : List ℕ) (marks : List Mark) (x : LexExit) (r : Reading) → IsScanned limit p s bytes marks x r
    → at_exit (exit_of x) r ≡ read_on limit p bytes
unfolding read
leads limit p s bytes marks x r h =
    let from : Reading = Reading.went p.expect p.holders in
    let all : List ℕ = slice_range bytes 0 (length bytes) in
    ap (at_exit (exit_of x)) (h.reading ∙ ap (λ (ms : List Mark). read_marks limit ms from) h.marks_are)
    ∙ ap (λ (z : lexical.LexExit). at_exit z (read_marks limit (lex s 0 all).marks from)) h.exit
    ∙ ap (λ (xs : List ℕ). at_exit (lex s 0 xs).exit (read_marks limit (lex s 0 xs).marks from)) (slice_all bytes)
    ∙ ap (λ (t : LexState). at_exit (lex t 0 bytes).exit (read_marks limit (lex t 0 bytes).marks from)) h.state

-- the bytes lead there, and no further than the depth
pub scan_leads : (limit : ℕ) (p : PlaceValue) (s : LexState) (bytes : List ℕ) (marks : List Mark) (x : LexExit) (r : Reading) (l : TheLed) → IsScanned limit p s bytes marks x r
    → length p.holders ≤ limit → reading_in l ≡ at_exit (exit_of x) r → (reading_in l ≡ read_on limit p bytes) × IsLedWithin limit l
scan_leads limit p s bytes marks x r l h short is =
    let e : reading_in l ≡ read_on limit p bytes = is ∙ leads limit p s bytes marks x r h in
    (e, led_within limit l (read_on limit p bytes) e (read-within limit bytes p.state p.expect p.holders 0 short))

-- a sink of all tokens always wants more
pub wants_more : (t : TokenLists) (marks : List Mark) (ends : List ℕ) → t ≡ record { marks = marks; ends = ends } → WantsNoMore (λ ms es. t ≡ record { marks = ms; ends = es }) → ⊥
wants_more t marks ends is none =
    let comma : Mark = record { kind = Comma; at = 0 } in
    let more : t ≡ record { marks = marks ++ comma ∷ []; ends = ends ++ [] } = none marks (comma ∷ []) ends [] is in
    let same : length marks ≡ length (marks ++ comma ∷ []) = ap (λ (u : TokenLists). length u.marks) (sym is ∙ more) in
    omega (arith, same, length-append marks (comma ∷ []))

-- A scan that pauses is one scan.
use Rattle.std.proofs.Common.{◌≡◌, ℕ, ◌≤◌, List, [], ◌++◌, length, sym, ap, subst, ◌∙◌, append_assoc, append-nil}
use Rattle.std.specs.Prelude.{slice_range}
use Rattle.jx_lex.specs.declared.alphabet.mark.Mark.{Mark}
use Rattle.jx_lex.specs.declared.alphabet.state.LexState.{LexState}
use Rattle.jx_lex.specs.Lex as reading
use Rattle.jx_lex.specs.Lex.{lex, Track, LexExit}
use Rattle.jx_lex.specs.Seen.{Seen, SeesTrack, WantsNoMore}
use Rattle.jx_lex.specs.TwoPieces.{joined, right_of}

-- a stretch is read in two parts
abbrev pub InTwo : Type 0
InTwo = (text : List ℕ) (a b c : ℕ) (s : LexState) → a ≤ b → b ≤ c → b ≤ length text
    → lex s a (slice_range text a c) ≡ joined (lex s a (slice_range text a b)) (λ next. lex next b (slice_range text b c))

faulted : (t : Track) (i : ℕ) (right : LexState → Track) → t.exit ≡ reading.fault i → joined t right ≡ t
faulted t i right h =
    ap (λ (e : LexExit). let r = right_of e right in record { marks = t.marks ++ r.marks; ends = t.ends ++ r.ends; exit = r.exit }) h
    ∙ ap (λ (ms : List Mark). record { marks = ms; ends = t.ends ++ []; exit = reading.fault i }) (append-nil t.marks)
    ∙ ap (λ (es : List ℕ). record { marks = t.marks; ends = es; exit = reading.fault i }) (append-nil t.ends)
    ∙ ap (λ (e : LexExit). record { marks = t.marks; ends = t.ends; exit = e }) (sym h)

seen_behind : (seen : Seen) (marks ms more : List Mark) (ends es others : List ℕ) → seen ((marks ++ ms) ++ more) ((ends ++ es) ++ others) → seen (marks ++ (ms ++ more)) (ends ++ (es ++ others))
seen_behind seen marks ms more ends es others h =
    subst (λ (xs : List Mark). seen xs (ends ++ (es ++ others))) (append_assoc marks ms more)
    (subst (λ (xs : List ℕ). seen ((marks ++ ms) ++ more) xs) (append_assoc ends es others) h)

module _ (in_two : InTwo) (xs : List ℕ) (a b c : ℕ) (s : LexState) (low : a ≤ b) (high : b ≤ c) (fits : b ≤ length xs) where
  -- a fault ends the reading
  pub fault_ends : (i : ℕ) → (lex s a (slice_range xs a b)).exit ≡ reading.fault i → lex s a (slice_range xs a c) ≡ lex s a (slice_range xs a b)
  fault_ends i h = in_two xs a b c s low high fits ∙ faulted (lex s a (slice_range xs a b)) i _ h

  -- who wants no more has seen the rest too
  pub done_sees : (old new : Seen) → SeesTrack old new (lex s a (slice_range xs a b)) → WantsNoMore new → SeesTrack old new (lex s a (slice_range xs a c))
  done_sees old new sees done =
      let t = lex s a (slice_range xs a b) in
      let r = right_of t.exit (λ next. lex next b (slice_range xs b c)) in
      subst (λ (x : Track). SeesTrack old new x) (sym (in_two xs a b c s low high fits))
      (λ marks ends h. seen_behind new marks t.marks r.marks ends t.ends r.ends (done (marks ++ t.marks) r.marks (ends ++ t.ends) r.ends (sees marks ends h)))

  -- the rest goes on in the state that the first part leads to
  module _ (t : LexState) (goes : (lex s a (slice_range xs a b)).exit ≡ reading.state t) where
    both_parts : lex s a (slice_range xs a c) ≡ joined (record (lex s a (slice_range xs a b)) { exit = reading.state t }) (λ next. lex next b (slice_range xs b c))
    both_parts =
        in_two xs a b c s low high fits
        ∙ ap (λ (e : LexExit). joined (record (lex s a (slice_range xs a b)) { exit = e }) (λ next. lex next b (slice_range xs b c))) goes

    pub exit_then : (lex s a (slice_range xs a c)).exit ≡ (lex t b (slice_range xs b c)).exit
    exit_then = ap (λ (x : Track). x.exit) both_parts

    pub sees_then : (old mid new : Seen) → SeesTrack old mid (lex s a (slice_range xs a b)) → SeesTrack mid new (lex t b (slice_range xs b c)) → SeesTrack old new (lex s a (slice_range xs a c))
    sees_then old mid new f h =
        let l = lex s a (slice_range xs a b) in
        let r = lex t b (slice_range xs b c) in
        subst (λ (x : Track). SeesTrack old new x) (sym both_parts)
        (λ marks ends k. seen_behind new marks l.marks r.marks ends l.ends r.ends (h (marks ++ l.marks) (ends ++ l.ends) (f marks ends k)))

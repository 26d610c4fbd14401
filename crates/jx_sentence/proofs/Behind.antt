-- Where a reading stands behind bytes that were scanned with a known stack.
use Rattle.std.proofs.Common.{◌≡◌, ℕ, ◌-◌, take, List, [], ◌∷◌, ◌++◌, refl, sym, ◌∙◌, ap, arith}
use Rattle.std.specs.Prelude.{reverse}
use Rattle.std.proofs.lemmas.List.{reverse-append}
use Rattle.std.proofs.lemmas.List.Sums.{fold-append}
use Rattle.jx_lex.specs.declared.alphabet.state.LexState.{LexState}
use Rattle.jx_lex.specs.declared.alphabet.state.LexState.TheVariants as state
use Rattle.jx_lex.specs.Lex as lexical
use Rattle.jx_lex.specs.Lex.{lex}
use Rattle.jx_lex.specs.Seen.{SeesTrack, WantsNoMore}
use Rattle.jx_lex.specs.declared.alphabet.mark.Mark.{Mark}
use Rattle.jx_lex.specs.declared.alphabet.mark.MarkKind.TheVariants.{Colon}
use Rattle.jx_reduce.specs.KnownStack.{Known, HasRead, IsFault, start}
use Rattle.jx_reduce.specs.Read.{Reading, read as read_marks, step as mark_step, top}
use Rattle.jx_reduce.specs.declared.table.expect.Expect.{Expect}
use Rattle.jx_reduce.specs.declared.table.expect.Expect.TheVariants as expect
use Rattle.jx_reduce.specs.declared.table.holder.Holder.{Holder}
use Rattle.jx_reduce.specs.declared.table.holder.Holder.TheVariants.{Bottom}
use Rattle.jx_reduce.specs.KnownStack.{HasSeen}
use Rattle.jx_run.specs.Reading.{TextReading, at_exit, read, read_text}
use Rattle.jx_reduce.proofs.KnownMoves.{seen_done}
use Rattle.jx_sentence.specs.Standing.{StandsBehind, last_at}
use Rattle.jx_sentence.specs.declared.standing.Standing.{Standing}
use Rattle.jx_sentence.specs.inside.Watched.{HasWatched}

-- the last of what stands outermost first
pub last_is_top : (all front : List Holder) (h : Holder) → all ≡ front ++ h ∷ [] → h ≡ top (reverse all)
last_is_top all front h is = sym (ap (λ (hs : List Holder). top (reverse hs)) is ∙ ap top (reverse-append front (h ∷ [])))

pub none_is_top : (all front : List Holder) (n : ℕ) → n ≡ 0 → all ≡ front ++ [] → front ≡ take (n - 1) all → Bottom ≡ top (reverse all)
none_is_top all front n none is before =
    let zero : n - 1 ≡ 0 = omega arith in
    let empty : front ≡ [] = before ∙ ap (λ (k : ℕ). take k all) zero in
    sym (ap (λ (hs : List Holder). top (reverse hs)) (is ∙ ap (λ (hs : List Holder). hs ++ []) empty))

text_is : (limit from : ℕ) (bytes : List ℕ) → read_text limit from bytes ≡ at_exit (lex state.Gap from bytes).exit (read_marks limit (lex state.Gap from bytes).marks start)
unfolding read
text_is limit from bytes = refl

-- ---- the place of the last mark

last_is_at : (at : ℕ) (marks : List Mark) (mark : Mark) → last_at at (marks ++ mark ∷ []) ≡ mark.at
last_is_at at [] mark = refl
last_is_at at (m ∷ marks) mark = last_is_at m.at marks mark

-- one mark more, whose place is noted
pub watched_mark : (marks : List Mark) (ends : List ℕ) (mark : Mark) (old new : Known) (before token : ℕ) → token ≡ mark.at → new.depth ≡ old.depth
    → ((seen : List Mark) → HasRead seen old → HasRead (seen ++ mark ∷ []) new) → HasWatched marks ends old before → HasWatched (marks ++ mark ∷ []) ends new token
watched_mark [] ends mark old new before token is deep grows h = absurd h
watched_mark (first ∷ marks) ends mark old new before token is deep grows h =
    let seen : HasSeen (marks ++ mark ∷ []) ends new =
    record { read = grows marks h.0.read; rest = h.0.rest; depth = h.0.depth ∙ ap (λ (d : ℕ). d ∷ h.0.rest) (sym deep) } in
    (seen, (λ _. is ∙ sym (last_is_at first.at marks mark)))

pub watched_done : (stack : Known) (token : ℕ) → IsFault stack.reading → WantsNoMore (λ marks ends. HasWatched marks ends stack token)
watched_done stack token fault [] more ends others h = absurd h
watched_done stack token fault (first ∷ marks) more ends others h = (seen_done stack fault marks more ends others h.0, (λ going. absurd (going fault)))

-- ---- bytes behind which no reading stands

no_stand : (r : Reading) → IsFault r → (x : lexical.LexExit) (s : LexState) (e : Expect) (o : List Holder) → at_exit x r ≡ TextReading.went s e o → ⊥
no_stand (Reading.went f p) fault x s e o h = absurd fault
no_stand (Reading.stopped at) fault (lexical.state t) s e o h = absurd cc
no_stand (Reading.stopped at) fault (lexical.fault i) s e o h = absurd cc
no_stand (Reading.too_deep at) fault (lexical.state t) s e o h = absurd cc
no_stand (Reading.too_deep at) fault (lexical.fault i) s e o h = absurd cc

no_exit : (r : Reading) (i : ℕ) (s : LexState) (e : Expect) (o : List Holder) → at_exit (lexical.fault i) r ≡ TextReading.went s e o → ⊥
no_exit (Reading.went f p) i s e o h = absurd cc
no_exit (Reading.stopped at) i s e o h = absurd cc
no_exit (Reading.too_deep at) i s e o h = absurd cc

-- a colon is a fault behind another one
abbrev colon : Mark
colon = record { kind = Colon; at = 0 }

two_colons : (limit : ℕ) (e : Expect) (o : List Holder) → read_marks limit (colon ∷ colon ∷ []) (Reading.went e o) ≡ Reading.stopped 0
two_colons limit expect.Value o = refl
two_colons limit expect.ArrayFirst o = refl
two_colons limit expect.ObjectFirst o = refl
two_colons limit expect.Name o = refl
two_colons limit expect.Colon o = refl
two_colons limit expect.After o = refl

-- what stays seen whatever comes behind is a fault
stays : (limit : ℕ) (r : Reading) → r ≡ read_marks limit (colon ∷ colon ∷ []) r → IsFault r
stays limit (Reading.went e o) h = let same : Reading.went e o ≡ Reading.stopped 0 = h ∙ two_colons limit e o in absurd cc
stays limit (Reading.stopped at) h = tt
stays limit (Reading.too_deep at) h = tt

done_is_fault : (marks : List Mark) (ends : List ℕ) (stack : Known) (token : ℕ) → WantsNoMore (λ marks ends. HasWatched marks ends stack token)
    → HasWatched marks ends stack token → IsFault stack.reading
done_is_fault [] ends stack token done h = absurd h
done_is_fault (first ∷ marks) ends stack token done h =
    let more = done (first ∷ marks) (colon ∷ colon ∷ []) ends [] h in
    stays stack.depth stack.reading
    (more.0.read ∙ fold-append (λ reading mark. mark_step stack.depth mark reading) start marks (colon ∷ colon ∷ []) ∙ ap (read_marks stack.depth (colon ∷ colon ∷ [])) (sym h.0.read))

-- what a scan from an offset on has shown of the bytes behind it
module _ (limit from : ℕ) (bytes : List ℕ) (old new : Known) (token : ℕ) (deep : old.depth ≡ limit) (none : HasRead [] old)
    (sees : SeesTrack (λ marks ends. HasWatched marks ends old from) (λ marks ends. HasWatched marks ends new token) (lex state.Gap from bytes)) where
  abbrev first : Mark
  first = record { kind = Colon; at = from }

  seen : HasWatched (first ∷ (lex state.Gap from bytes).marks) (old.depth ∷ (lex state.Gap from bytes).ends) new token
  seen = sees (first ∷ []) (old.depth ∷ []) (record { read = none; rest = []; depth = refl }, (λ _. refl))

  reads : new.reading ≡ read_marks limit (lex state.Gap from bytes).marks start
  reads =
      let tied : old.depth ∷ (lex state.Gap from bytes).ends ≡ new.depth ∷ seen.0.rest = seen.0.depth in
      let same : new.depth ≡ limit = cc in
      seen.0.read ∙ ap (λ (d : ℕ). read_marks d (lex state.Gap from bytes).marks start) same

  comes_to : read_text limit from bytes ≡ at_exit (lex state.Gap from bytes).exit new.reading
  comes_to = text_is limit from bytes ∙ ap (at_exit (lex state.Gap from bytes).exit) (sym reads)

  pub behind : (s : LexState) (e : Expect) (o : List Holder) → lexical.state s ≡ (lex state.Gap from bytes).exit → new.reading ≡ Reading.went e o
      → read_text limit from bytes ≡ TextReading.went s e o
  behind s e o exit went =
      comes_to ∙ ap (at_exit (lex state.Gap from bytes).exit) went ∙ ap (λ (x : lexical.LexExit). at_exit x (Reading.went e o)) (sym exit)

  pub token_behind : (IsFault new.reading → ⊥) → token ≡ last_at from (lex state.Gap from bytes).marks
  token_behind going = seen.1 going

  pub fault_behind : IsFault new.reading → (s : Standing) → StandsBehind limit from bytes s → ⊥
  fault_behind fault s h = no_stand new.reading fault (lex state.Gap from bytes).exit s.state s.expect h.open_ones (sym comes_to ∙ h.reading)

  pub stopped_behind : WantsNoMore (λ marks ends. HasWatched marks ends new token) → (s : Standing) → StandsBehind limit from bytes s → ⊥
  stopped_behind done = fault_behind (done_is_fault (first ∷ (lex state.Gap from bytes).marks) (old.depth ∷ (lex state.Gap from bytes).ends) new token done seen)

  pub cut_behind : (i : ℕ) → lexical.fault i ≡ (lex state.Gap from bytes).exit → (s : Standing) → StandsBehind limit from bytes s → ⊥
  cut_behind i exit s h =
      no_exit new.reading i s.state s.expect h.open_ones (ap (λ (x : lexical.LexExit). at_exit x new.reading) exit ∙ sym comes_to ∙ h.reading)

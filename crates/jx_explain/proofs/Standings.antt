-- How far bytes were read from the start of a text, slice by slice.
use Rattle.std.proofs.Common.{◌≡◌, ℕ, ◌+◌, List, [], ◌∷◌, ◌++◌, length, refl, sym, ◌∙◌, ap}
use Rattle.std.proofs.lemmas.List.Sums.{fold-append}
use Rattle.jx_lex.specs.declared.alphabet.state.LexState.{LexState}
use Rattle.jx_lex.specs.declared.alphabet.state.LexState.TheVariants as state
use Rattle.jx_lex.specs.Lex as lexical
use Rattle.jx_lex.specs.Lex.{lex}
use Rattle.jx_lex.specs.Seen.{SeesTrack}
use Rattle.jx_reduce.specs.KnownStack.{Known, HasRead, HasSeen, IsFault, start}
use Rattle.jx_reduce.specs.Read as tokens
use Rattle.jx_reduce.specs.Read.{Reading, read as read_marks, step as mark_step, top}
use Rattle.jx_reduce.specs.declared.table.expect.Expect.{Expect}
use Rattle.jx_reduce.specs.declared.table.expect.Expect.TheVariants.{Value}
use Rattle.jx_reduce.specs.declared.table.holder.Holder.{Holder}
use Rattle.jx_run.specs.Reading.{TextReading, at_exit, read, read_text, went}
use Rattle.jx_run.specs.ReaderInside.{shifted}
use Rattle.jx_run.proofs.ReaderSteps.{fed_went, read_is}
use Rattle.jx_sentence.specs.Standing.{StandsBehind}
use Rattle.jx_sentence.specs.declared.standing.Standing.{Standing}
use Rattle.jx_explain.specs.inside.Reached.{HasReached}

-- no byte
pub reached_none : (limit from : ℕ) (stack : Known) → stack.depth ≡ limit → HasRead [] stack → HasReached limit from [] stack state.Gap
unfolding read lex
reached_none limit from stack deep none =
    record { marks = []; read = none; depth = deep; expect = Value; open_ones = []; stands = none; text = refl }

module _ (limit from : ℕ) (bytes slice : List ℕ) (old new : Known) (s t : LexState) (h : HasReached limit from bytes old s)
    (sees : SeesTrack (λ marks ends. HasSeen marks ends old) (λ marks ends. HasSeen marks ends new) (lex s 0 slice)) (exit : lexical.state t ≡ (lex s 0 slice).exit) where
  seen : HasSeen (h.marks ++ (lex s 0 slice).marks) ((old.depth ∷ []) ++ (lex s 0 slice).ends) new
  seen = sees h.marks (old.depth ∷ []) (record { read = h.read; rest = []; depth = refl })

  deep : new.depth ≡ old.depth
  deep = let tied : old.depth ∷ (lex s 0 slice).ends ≡ new.depth ∷ seen.rest = seen.depth in cc

  reading : new.reading ≡ read_marks old.depth (lex s 0 slice).marks old.reading
  reading =
      seen.read
      ∙ ap (λ (d : ℕ). read_marks d (h.marks ++ (lex s 0 slice).marks) start) deep
      ∙ fold-append (λ reading mark. mark_step old.depth mark reading) start h.marks (lex s 0 slice).marks
      ∙ ap (read_marks old.depth (lex s 0 slice).marks) (sym h.read)

  -- one slice more, behind which the stack stands so
  at_went : (e : Expect) (o : List Holder) → new.reading ≡ tokens.went e o → HasReached limit from (bytes ++ slice) new t
  at_went e o stands =
      let here : read limit s h.expect h.open_ones 0 slice ≡ went t e o =
      read_is limit old.depth s h.expect h.open_ones slice old.reading h.depth h.stands
      ∙ ap (at_exit (lex s 0 slice).exit) (sym reading ∙ stands)
      ∙ ap (λ (x : lexical.LexExit). at_exit x (tokens.went e o)) (sym exit) in
      record {
        marks = h.marks ++ (lex s 0 slice).marks;
        read = seen.read;
        depth = deep ∙ h.depth;
        expect = e;
        open_ones = o;
        stands = stands;
        text = fed_went limit from bytes slice s h.expect h.open_ones h.text ∙ ap (shifted (from + length bytes)) here;
      }

  by_reading : (r : Reading) → new.reading ≡ r → (IsFault r → ⊥) → HasReached limit from (bytes ++ slice) new t
  by_reading (tokens.went e o) is going = at_went e o is
  by_reading (tokens.stopped at) is going = absurd (going tt)
  by_reading (tokens.too_deep at) is going = absurd (going tt)

  -- one slice more, in which no fault is met
  pub reached_more : (IsFault new.reading → ⊥) → HasReached limit from (bytes ++ slice) new t
  reached_more going = by_reading new.reading refl going

-- where the reading stands
pub stands_there : (limit from : ℕ) (bytes : List ℕ) (stack : Known) (s : LexState) (e : Expect) (o : List Holder) (innermost : Holder) (token : ℕ) → HasReached limit from bytes stack s
    → stack.reading ≡ tokens.went e o → innermost ≡ top o → StandsBehind limit from bytes (record { state = s; expect = e; top = innermost; token = token })
stands_there limit from bytes stack s e o innermost token h stands is =
    let same : tokens.went h.expect h.open_ones ≡ tokens.went e o = sym h.stands ∙ stands in
    let expects : h.expect ≡ e = cc in
    let opens : h.open_ones ≡ o = cc in
    record { open_ones = o; reading = h.text ∙ ap (λ (x : Expect). went s x h.open_ones) expects ∙ ap (λ (x : List Holder). went s e x) opens; innermost = is }

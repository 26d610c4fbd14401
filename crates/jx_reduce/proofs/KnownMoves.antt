-- What a known stack has read, mark by mark.
use Rattle.std.proofs.Common.{◌≡◌, ℕ, List, [], ◌∷◌, ◌++◌, take, drop, refl, sym, ◌∙◌, ap, Result, Ok, Err}
use Rattle.std.specs.Prelude.{OnErr}
use Rattle.std.proofs.lemmas.List.{take-append-drop}
use Rattle.jx_reduce.specs.Read.{Reading, went, stopped, too_deep, step, read}
use Rattle.jx_reduce.specs.KnownStack.{Known, start, HasRead, HasSeen, IsFault}
use Rattle.jx_reduce.proofs.Readings.{read-append}
use Rattle.jx_lex.specs.declared.alphabet.mark.Mark.{Mark}
use Rattle.jx_lex.specs.Seen.{WantsNoMore}

-- behind a fault nothing changes
pub read-fault : (d : ℕ) (ms : List Mark) (r : Reading) → IsFault r → read d ms r ≡ r
read-fault d [] r f = refl
read-fault d (m ∷ ms) (went e s) f = absurd f
read-fault d (m ∷ ms) (stopped at) f = read-fault d ms (stopped at) f
read-fault d (m ∷ ms) (too_deep at) f = read-fault d ms (too_deep at) f

-- marks, and what follows them
pub part_then : (d : ℕ) (i : ℕ) (ms : List Mark) (r : Reading) → read d ms r ≡ read d (drop i ms) (read d (take i ms) r)
part_then d i ms r = ap (λ (xs : List Mark). read d xs r) (sym (take-append-drop i ms)) ∙ read-append d (take i ms) (drop i ms) r

-- a fault in the first marks is the fault of all
pub part_fault : (d i : ℕ) (ms : List Mark) (r new : Reading) → new ≡ read d (take i ms) r → IsFault new → new ≡ read d ms r
part_fault d i ms r new e f = sym (read-fault d (drop i ms) new f) ∙ ap (read d (drop i ms)) e ∙ sym (part_then d i ms r)

-- one mark more
pub part_more : (d b : ℕ) (ms ns : List Mark) (m : Mark) (r now new : Reading) → b ≡ d → ns ≡ ms ++ m ∷ [] → now ≡ read d ms r → new ≡ step b m now → new ≡ read d ns r
part_more d b ms ns m r now new c e f g =
    g ∙ ap (λ (k : ℕ). step k m now) c ∙ ap (step d m) f ∙ sym (read-append d ms (m ∷ []) r) ∙ ap (λ (xs : List Mark). read d xs r) (sym e)

-- all marks since the start
pub has_read-then : (old new : Known) (before ms : List Mark) → new.depth ≡ old.depth → new.reading ≡ read old.depth ms old.reading → HasRead before old → HasRead (before ++ ms) new
has_read-then old new before ms d e h =
    e ∙ ap (read old.depth ms) h ∙ sym (read-append old.depth before ms start) ∙ ap (λ (k : ℕ). read k (before ++ ms) start) (sym d)

pub on_err : {T E : Type 0} (r : Result T E) (P : Type 0) → P → OnErr r P
on_err (Ok x) P h = tt
on_err (Err e) P h = h

-- behind a fault a known stack has seen whatever comes
pub seen_done : (k : Known) → IsFault k.reading → WantsNoMore (λ marks ends. HasSeen marks ends k)
seen_done k f marks more ends others seen =
    record {
      read = sym (read-fault k.depth more k.reading f) ∙ ap (read k.depth more) seen.read ∙ sym (read-append k.depth marks more start);
      rest = seen.rest ++ others;
      depth = ap (λ (es : List ℕ). es ++ others) seen.depth;
    }

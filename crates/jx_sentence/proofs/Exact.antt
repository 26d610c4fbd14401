-- What is named is what the grammar lets stand there.
use Rattle.std.proofs.Common.{◌≡◌, ℕ, suc, ◌+◌, List, [], ◌∷◌, ◌++◌, length, take, refl, sym, ◌∙◌, ap, subst, arith, Option, Some, None, Bool, true, false, cond}
use Rattle.std.specs.Prelude.{◌&&◌, ◌||◌, ◌↔◌, is_some, is_none, nat_lt, not}
use Rattle.std.proofs.lemmas.List.{take_all, length-append}
use Rattle.jx_lex.specs.Lex as lexical
use Rattle.jx_lex.specs.Lex.{lex, after_step, on_next, with_mark, Track}
use Rattle.jx_lex.specs.Moves.{move}
use Rattle.jx_lex.specs.declared.alphabet.mark.MarkKind.{MarkKind}
use Rattle.jx_lex.specs.declared.alphabet.state.LexState.{LexState}
use Rattle.jx_lex.specs.declared.alphabet.state.TokenEnd.{TokenEnd}
use Rattle.jx_reduce.specs.Read.{Reading, read as read_marks, top, moved, changed}
use Rattle.jx_reduce.specs.Table.{next_of, change_of, Change, same, added, removed}
use Rattle.jx_reduce.specs.declared.table.expect.Expect.{Expect}
use Rattle.jx_reduce.specs.declared.table.holder.Holder.{Holder}
use Rattle.jx_run.specs.Laws.{BeginsAtSomeDepth, FaultsAt, FaultsTooDeep, IsFaultAt, IsNoFault, IsTooDeep, MeetsNoFault}
use Rattle.jx_run.specs.Reading.{TextReading, went, stopped, too_deep, at_exit, read, read_text}
use Rattle.jx_run.specs.ReaderInside.{shifted}
use Rattle.jx_run.specs.Text.{Begins}
use Rattle.jx_run.proofs.ReaderSteps.{fed_went}
use Rattle.jx_sentence.specs.Choices.{mark_allowed, step_allowed}

-- whether a reading stopped
abbrev pub is_stop : TextReading → Bool
is_stop (went s e o) = false
is_stop (stopped at) = true
is_stop (too_deep at) = false

-- a fault is at the first byte
abbrev pub IsAtOnce : TextReading → Type 0
IsAtOnce (went s e o) = Unit {0}
IsAtOnce (stopped at) = at ≡ 0
IsAtOnce (too_deep at) = at ≡ 0

-- ---- one byte

abbrev pub exit_after : Option LexState → lexical.LexExit
exit_after None = lexical.fault 0
exit_after (Some n) = lexical.state n

-- what one byte comes to, by its mark and the next state
abbrev pub outcome : ℕ → Option MarkKind → Option LexState → Expect → List Holder → TextReading
outcome limit begin next e o = at_exit (exit_after next) (read_marks limit (with_mark begin 0 []) (Reading.went e o))

-- the same as a track
abbrev tracked : ℕ → Track → Expect → List Holder → TextReading
tracked limit track e o = at_exit track.exit (read_marks limit track.marks (Reading.went e o))

by_next : (limit : ℕ) (end : Option TokenEnd) (begin : Option MarkKind) (next : Option LexState) (e : Expect) (o : List Holder)
    → tracked limit (after_step (record { end = end; begin = begin; next = next }) 0 (on_next next 0 (λ n. lex n 1 []))) e o ≡ outcome limit begin next e o
unfolding lex
by_next limit end None None e o = refl
by_next limit end (Some k) None e o = refl
by_next limit end None (Some n) e o = refl
by_next limit end (Some k) (Some n) e o = refl

pub one_byte : (limit : ℕ) (s : LexState) (e : Expect) (o : List Holder) (b : ℕ) → read limit s e o 0 (b ∷ []) ≡ outcome limit ((move s b).begin) ((move s b).next) e o
unfolding read lex
one_byte limit s e o b = by_next limit ((move s b).end) ((move s b).begin) ((move s b).next) e o

module _ (limit : ℕ) (n : LexState) (o : List Holder) where
  after_change : (c : Change) (e : Expect) → is_stop (at_exit (lexical.state n) (changed limit 0 c e o)) ≡ false
  after_change same e = refl
  after_change (added h) e = pick (nat_lt (length o) limit)
    where
      pick : (b : Bool) → is_stop (at_exit (lexical.state n) (cond b (Reading.went e (h ∷ o)) (Reading.too_deep 0))) ≡ false
      pick true = refl
      pick false = refl
  after_change removed e = refl

  after_move : (c : Change) (m : Option Expect) → is_stop (at_exit (lexical.state n) (moved limit 0 c m o)) ≡ not (is_some m)
  after_move c None = refl
  after_move c (Some e) = after_change c e

  change_at_once : (c : Change) (e : Expect) → IsAtOnce (at_exit (lexical.state n) (changed limit 0 c e o))
  change_at_once same e = tt
  change_at_once (added h) e = pick (nat_lt (length o) limit)
    where
      pick : (b : Bool) → IsAtOnce (at_exit (lexical.state n) (cond b (Reading.went e (h ∷ o)) (Reading.too_deep 0)))
      pick true = tt
      pick false = refl
  change_at_once removed e = tt

  move_at_once : (c : Change) (m : Option Expect) → IsAtOnce (at_exit (lexical.state n) (moved limit 0 c m o))
  move_at_once c None = refl
  move_at_once c (Some e) = change_at_once c e

-- the reading stops just where the step is not allowed, if a mark begins only where the machine goes on
stops : (limit : ℕ) (begin : Option MarkKind) (next : Option LexState) (e : Expect) (o : List Holder) → (is_none begin || is_some next) ≡ true
    → is_stop (outcome limit begin next e o) ≡ not (is_some next && mark_allowed begin e (top o))
stops limit None None e o h = refl
stops limit None (Some n) e o h = refl
stops limit (Some k) None e o h = cc
stops limit (Some k) (Some n) e o h = after_move limit n o (change_of k) (next_of k e (top o))

at_once : (limit : ℕ) (begin : Option MarkKind) (next : Option LexState) (e : Expect) (o : List Holder) → (is_none begin || is_some next) ≡ true → IsAtOnce (outcome limit begin next e o)
at_once limit None None e o h = refl
at_once limit None (Some n) e o h = tt
at_once limit (Some k) None e o h = cc
at_once limit (Some k) (Some n) e o h = move_at_once limit n o (change_of k) (next_of k e (top o))

-- ---- by the grammar

abbrev pub BeginsLaw : Type 0
BeginsLaw = (limit at : ℕ) (bytes : List ℕ) → MeetsNoFault limit at bytes ↔ Begins bytes limit

abbrev pub DeepLaw : Type 0
DeepLaw = (limit at k : ℕ) (bytes : List ℕ) → FaultsAt limit at bytes (at + k) → FaultsTooDeep limit at bytes ↔ BeginsAtSomeDepth (take (suc k) bytes)

module _ (begins_law : BeginsLaw) (deep_law : DeepLaw) (limit from k : ℕ) (bytes : List ℕ) (whole : take (suc k) bytes ≡ bytes) where
  -- bytes whose reading has no fault before the last one begin a text of some depth unless it stops there
  by_reading : (r : TextReading) → read_text limit from bytes ≡ shifted (from + k) r → IsAtOnce r → (is_stop r ≡ false) ↔ BeginsAtSomeDepth bytes
  by_reading (went s e o) is once =
      ((λ h. (limit, (begins_law limit from bytes).0 (subst IsNoFault (sym is) tt))), (λ h. refl))
  by_reading (stopped at) is once =
      let there : FaultsAt limit from bytes (from + k) = subst (λ (r : TextReading). IsFaultAt r (from + k)) (sym is) (omega arith) in
      let law = deep_law limit from k bytes there in
      ((λ h. cc), (λ h. absurd (subst IsTooDeep is (law.1 (subst BeginsAtSomeDepth (sym whole) h)))))
  by_reading (too_deep at) is once =
      let there : FaultsAt limit from bytes (from + k) = subst (λ (r : TextReading). IsFaultAt r (from + k)) (sym is) (omega arith) in
      let law = deep_law limit from k bytes there in
      ((λ h. subst BeginsAtSomeDepth whole (law.0 (subst IsTooDeep (sym is) tt))), (λ h. refl))

not_not : (b c : Bool) → c ≡ not b → (b ≡ true) ↔ (c ≡ false)
not_not true c h = ((λ _. h), (λ _. refl))
not_not false c h = ((λ e. cc), (λ e. cc))

-- behind bytes that were read, a step is allowed just where its byte and they begin a text of some depth
pub exact : BeginsLaw → DeepLaw → (limit from : ℕ) (bytes : List ℕ) (s : LexState) (e : Expect) (o : List Holder) (b : ℕ) → read_text limit from bytes ≡ went s e o
    → (is_none ((move s b).begin) || is_some ((move s b).next)) ≡ true → (step_allowed (move s b) e (top o) ≡ true) ↔ BeginsAtSomeDepth (bytes ++ b ∷ [])
exact begins_law deep_law limit from bytes s e o b is sound =
    let begin = (move s b).begin in
    let next = (move s b).next in
    let more : List ℕ = bytes ++ b ∷ [] in
    let long : length more ≡ length bytes + 1 = length-append bytes (b ∷ []) in
    let whole : take (suc (length bytes)) more ≡ more = take_all (suc (length bytes)) more (omega arith) in
    let reads : read_text limit from more ≡ shifted (from + length bytes) (outcome limit begin next e o) =
    fed_went limit from bytes (b ∷ []) s e o is ∙ ap (shifted (from + length bytes)) (one_byte limit s e o b) in
    let by = by_reading begins_law deep_law limit from (length bytes) more whole (outcome limit begin next e o) reads (at_once limit begin next e o sound) in
    let turned = not_not (step_allowed (move s b) e (top o)) (is_stop (outcome limit begin next e o)) (stops limit begin next e o sound) in
    ((λ h. by.0 (turned.0 h)), (λ h. turned.1 (by.1 h)))

-- The reading a byte at a time: the lexical machine and the expectations move together.
use Rattle.std.proofs.Common.{◌≡◌, ℕ, suc, List, [], ◌∷◌, length, drop, Option, Some, None, Bool, true, false, cond, refl, ap, ◌∙◌}
use Rattle.std.specs.Prelude.{nat_lt, if◌then◌else◌}
use Rattle.jx_lex.specs.declared.alphabet.state.LexState.{LexState}
use Rattle.jx_lex.specs.declared.alphabet.mark.MarkKind.{MarkKind}
use Rattle.jx_lex.specs.declared.alphabet.state.Step.{Step}
use Rattle.jx_lex.specs.declared.alphabet.mark.Mark.{Mark}
use Rattle.jx_lex.specs.Moves.{move}
use Rattle.jx_lex.specs.Lex.{lex, LexExit, with_mark, on_next}
use Rattle.jx_reduce.specs.declared.table.expect.Expect.{Expect}
use Rattle.jx_reduce.specs.declared.table.holder.Holder.{Holder}
use Rattle.jx_reduce.specs.Table.{next_of, Change, same, added, removed, change_of}
use Rattle.jx_reduce.specs.Read.{Reading, top, without_top, read as read_marks, step, moved}
use Rattle.jx_run.specs.inside.Turns.{Turn, wrong, on, enter, leave, turn, turned}
use Rattle.jx_run.specs.Reading.{TextReading, went, stopped, too_deep, at_exit, read}

-- goes on as a mark's turn says, at most so many containers being open
abbrev pub after_turn : ℕ → ℕ → List Holder → Turn → (Expect → List Holder → TextReading) → TextReading
after_turn limit at holders wrong more = stopped at
after_turn limit at holders (on expect) more = more expect holders
after_turn limit at holders (enter holder expect) more =
    if nat_lt (length holders) limit then more expect (holder ∷ holders) else too_deep at
after_turn limit at holders (leave expect) more = more expect (drop 1 holders)

abbrev pub after_mark : ℕ → ℕ → Expect → List Holder → Option MarkKind → (Expect → List Holder → TextReading) → TextReading
after_mark limit at expect holders None more = more expect holders
after_mark limit at expect holders (Some kind) more = after_turn limit at holders (turn kind expect (top holders)) more

abbrev pub in_next : ℕ → Option LexState → (LexState → TextReading) → TextReading
in_next at None more = stopped at
in_next at (Some next) more = more next

abbrev pub on_step : ℕ → ℕ → Expect → List Holder → Step → (LexState → Expect → List Holder → TextReading) → TextReading
on_step limit at expect holders step more =
    after_mark limit at expect holders step.begin (λ e o. in_next at step.next (λ s. more s e o))

unfoldable pub run : ℕ → LexState → Expect → List Holder → ℕ → List ℕ → TextReading
run limit from expect holders at [] = went from expect holders
run limit from expect holders at (byte ∷ bytes) =
    on_step limit at expect holders (move from byte) (λ s e o. run limit s e o (suc at) bytes)

-- a fault stays the fault that it is
read_stopped : (limit : ℕ) (marks : List Mark) (at : ℕ) → read_marks limit marks (Reading.stopped at) ≡ Reading.stopped at
read_stopped limit [] at = refl
read_stopped limit (m ∷ marks) at = read_stopped limit marks at

read_too_deep : (limit : ℕ) (marks : List Mark) (at : ℕ) → read_marks limit marks (Reading.too_deep at) ≡ Reading.too_deep at
read_too_deep limit [] at = refl
read_too_deep limit (m ∷ marks) at = read_too_deep limit marks at

exit_stopped : (exit : LexExit) (at : ℕ) → at_exit exit (Reading.stopped at) ≡ stopped at
exit_stopped (LexExit.state s) at = refl
exit_stopped (LexExit.fault i) at = refl

exit_too_deep : (exit : LexExit) (at : ℕ) → at_exit exit (Reading.too_deep at) ≡ too_deep at
exit_too_deep (LexExit.state s) at = refl
exit_too_deep (LexExit.fault i) at = refl

without_top-drop : (o : List Holder) → without_top o ≡ drop 1 o
without_top-drop [] = refl
without_top-drop (h ∷ o) = refl

-- the marks of a turn, and then the exit
at_exit-turn : (limit at : ℕ) (o : List Holder) (c : Change) (n : Option Expect) (marks : List Mark) (exit : LexExit) (g : Expect → List Holder → TextReading)
    → ((e : Expect) (o : List Holder) → at_exit exit (read_marks limit marks (Reading.went e o)) ≡ g e o)
    → at_exit exit (read_marks limit marks (moved limit at c n o)) ≡ after_turn limit at o (turned c n) g
at_exit-turn limit at o c None marks exit g h = ap (at_exit exit) (read_stopped limit marks at) ∙ exit_stopped exit at
at_exit-turn limit at o same (Some e) marks exit g h = h e o
at_exit-turn limit at o (added k) (Some e) marks exit g h = pick (nat_lt (length o) limit)
  where
    pick : (b : Bool) → at_exit exit (read_marks limit marks (cond b (Reading.went e (k ∷ o)) (Reading.too_deep at))) ≡ cond b (g e (k ∷ o)) (too_deep at)
    pick true = h e (k ∷ o)
    pick false = ap (at_exit exit) (read_too_deep limit marks at) ∙ exit_too_deep exit at
at_exit-turn limit at o removed (Some e) marks exit g h = h e (without_top o) ∙ ap (λ u. g e u) (without_top-drop o)

one_step : (limit at : ℕ) (e : Expect) (o : List Holder) (begin : Option MarkKind) (marks : List Mark) (exit : LexExit) (g : Expect → List Holder → TextReading)
    → ((e : Expect) (o : List Holder) → at_exit exit (read_marks limit marks (Reading.went e o)) ≡ g e o)
    → at_exit exit (read_marks limit (with_mark begin at marks) (Reading.went e o)) ≡ after_mark limit at e o begin g
one_step limit at e o None marks exit g h = h e o
one_step limit at e o (Some k) marks exit g h = at_exit-turn limit at o (change_of k) (next_of k e (top o)) marks exit g h

pub read-run : (limit : ℕ) (s : LexState) (e : Expect) (o : List Holder) (at : ℕ) (bytes : List ℕ)
    → read limit s e o at bytes ≡ run limit s e o at bytes
unfolding read run lex
read-run limit s e o at [] = refl
read-run limit s e o at (b ∷ bs) =
    one_step limit at e o ((move s b).begin) (on_next ((move s b).next) at (λ n. lex n (suc at) bs)).marks (on_next ((move s b).next) at (λ n. lex n (suc at) bs)).exit _
    (λ e' o'. next_reads ((move s b).next) e' o' (λ s'. read-run limit s' e' o' (suc at) bs))
  where
    next_reads : (n : Option LexState) (e' : Expect) (o' : List Holder)
        → ((s' : LexState) → read limit s' e' o' (suc at) bs ≡ run limit s' e' o' (suc at) bs)
        → at_exit (on_next n at (λ n. lex n (suc at) bs)).exit (read_marks limit (on_next n at (λ n. lex n (suc at) bs)).marks (Reading.went e' o')) ≡ in_next at n (λ s'. run limit s' e' o' (suc at) bs)
    next_reads None e' o' rec = refl
    next_reads (Some s') e' o' rec = rec s'

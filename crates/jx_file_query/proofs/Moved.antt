-- The same bytes read further on: their marks and ends are moved, and have the same sum.
use Rattle.std.proofs.Common.{◌≡◌, ℕ, ◌+◌, List, [], ◌∷◌, refl, sym, ap, ◌∙◌, arith}
use Rattle.jx_lex.specs.declared.alphabet.mark.Mark.{Mark}
use Rattle.jx_lex.specs.declared.alphabet.state.LexState.{LexState}
use Rattle.jx_lex.specs.Lex as lexical
use Rattle.jx_lex.specs.Lex.{lex, LexExit, Track}
use Rattle.jx_run.specs.Telling.{moved_ends, moved_marks}
use Rattle.jx_run.proofs.InTurn.{moved_exit, moved, lex_moved}
use Rattle.jx_file_index.specs.declared.sum.Sum.{Sum}
use Rattle.jx_file_index.specs.Chunks.{has_some}
use Rattle.jx_file_index.specs.Sums.{noted, nothing, sum_of}
use Rattle.jx_file_index.proofs.Sums.{on_from}

from_first : (b : ℕ) (s : LexState) (xs : List ℕ) → lex s b xs ≡ moved b (lex s 0 xs)
from_first b s xs = ap (λ (k : ℕ). lex s k xs) (let e : b ≡ b + 0 = omega arith in e) ∙ lex_moved b s 0 xs

pub marks_on : (b : ℕ) (s : LexState) (xs : List ℕ) → (lex s b xs).marks ≡ moved_marks b (lex s 0 xs).marks
marks_on b s xs = ap (λ (t : Track). t.marks) (from_first b s xs)

pub ends_on : (b : ℕ) (s : LexState) (xs : List ℕ) → (lex s b xs).ends ≡ moved_ends b (lex s 0 xs).ends
ends_on b s xs = ap (λ (t : Track). t.ends) (from_first b s xs)

pub same_sum : (b : ℕ) (ms : List Mark) (s : Sum) → on_from s (moved_marks b ms) ≡ on_from s ms
same_sum b [] s = refl
same_sum b (m ∷ ms) s = same_sum b ms (noted m.kind s)

pub sum_on : (b : ℕ) (s : LexState) (xs : List ℕ) → sum_of (lex s b xs).marks ≡ sum_of (lex s 0 xs).marks
sum_on b s xs = ap sum_of (marks_on b s xs) ∙ same_sum b (lex s 0 xs).marks nothing

pub state_on : (b : ℕ) (s to : LexState) (xs : List ℕ) → (lex s b xs).exit ≡ lexical.state to → (lex s 0 xs).exit ≡ lexical.state to
state_on b s to xs e = back (lex s 0 xs).exit (ap (λ (t : Track). t.exit) (sym (from_first b s xs)) ∙ e)
  where
    back : (x : LexExit) → moved_exit b x ≡ lexical.state to → x ≡ lexical.state to
    back (lexical.state t) h = h
    back (lexical.fault at) h = absurd cc

pub some_moved : (b : ℕ) (ms : List Mark) → has_some (moved_marks b ms) ≡ has_some ms
some_moved b [] = refl
some_moved b (m ∷ ms) = refl

pub some_ends_moved : (b : ℕ) (es : List ℕ) → has_some (moved_ends b es) ≡ has_some es
some_ends_moved b [] = refl
some_ends_moved b (e ∷ es) = refl

-- What the layer above takes from this one: joined forms are forms of both lists of marks.
use Rattle.std.proofs.Common.{◌≡◌, ℕ, ◌<◌, ◌≤◌, List, [], ◌∷◌, ◌++◌, length, refl, sym, ◌∙◌, ap, subst, arith, Option, Some, None, nat_lt, if◌then◌else◌, Bool, true, false}
use Rattle.std.proofs.lemmas.Bool.{ltb-true}
use Rattle.jx_reduce.specs.Table.{next_of, change_of, Change, same, added, removed}
use Rattle.jx_reduce.specs.Read.{Reading, went, stopped, too_deep, top, without_top, moved, then_by, step, read}
use Rattle.jx_reduce.specs.Reductions.{Forms, answer, IsJoin, IsOf}
use Rattle.jx_reduce.proofs.Readings.{read-append, read_then}
use Rattle.jx_reduce.specs.declared.table.holder.Holder.{Holder}
use Rattle.jx_reduce.specs.declared.table.expect.Expect.{Expect}
use Rattle.jx_lex.specs.declared.alphabet.mark.Mark.{Mark}

-- at most d containers are open
abbrev pub IsReadWithin : ℕ → Reading → Type 0
IsReadWithin d (went e s) = length s ≤ d
IsReadWithin d (stopped at) = Unit {0}
IsReadWithin d (too_deep at) = Unit {0}

shorter : (d : ℕ) (s : List Holder) → length s ≤ d → length (without_top s) ≤ d
shorter d [] h = h
shorter d (x ∷ s) h = omega (arith, h)

added_within : (d at : ℕ) (h : Holder) (e : Expect) (s : List Holder) (b : Bool) → nat_lt (length s) d ≡ b → IsReadWithin d (if b then went e (h ∷ s) else too_deep at)
added_within d at h e s true g = let l : length s < d = ltb-true _ _ g in omega arith
added_within d at h e s false g = tt

moved_within : (d at : ℕ) (c : Change) (o : Option Expect) (s : List Holder) → length s ≤ d → IsReadWithin d (moved d at c o s)
moved_within d at c None s h = tt
moved_within d at same (Some e) s h = h
moved_within d at (added g) (Some e) s h = added_within d at g e s (nat_lt (length s) d) refl
moved_within d at removed (Some e) s h = shorter d s h

step_within : (d : ℕ) (m : Mark) (r : Reading) → IsReadWithin d r → IsReadWithin d (step d m r)
step_within d m (went e s) h = moved_within d m.at (change_of m.kind) (next_of m.kind e (top s)) s h
step_within d m (stopped at) h = tt
step_within d m (too_deep at) h = tt

pub read_within : (d : ℕ) (ms : List Mark) (r : Reading) → IsReadWithin d r → IsReadWithin d (read d ms r)
read_within d [] r h = h
read_within d (m ∷ ms) r h = read_within d ms (step d m r) (step_within d m r h)

pub then_by_within : (d : ℕ) (f g : Expect → List Holder → Reading) (r : Reading) → IsReadWithin d r → ((e : Expect) (s : List Holder) → length s ≤ d → f e s ≡ g e s) → then_by f r ≡ then_by g r
then_by_within d f g (went e s) h k = k e s h
then_by_within d f g (stopped at) h k = refl
then_by_within d f g (too_deep at) h k = refl

pub is_of_join : (ms ns : List Mark) (l r j : Forms) → l.depth ≡ r.depth → j.depth ≡ l.depth → IsOf ms l → IsOf ns r → IsJoin l r j → IsOf (ms ++ ns) j
is_of_join ms ns l r j lr jl a b c e s h =
    let short : length s ≤ l.depth = subst (λ d. length s ≤ d) jl h in
    let there : answer l e s ≡ read r.depth ms (went e s) = a e s short ∙ ap (λ d. read d ms (went e s)) lr in
    c e s short ∙ ap (then_by (answer r)) there
    ∙ then_by_within r.depth (answer r) (λ e s. read r.depth ns (went e s)) (read r.depth ms (went e s)) (read_within r.depth ms (went e s) (subst (λ d. length s ≤ d) lr short)) b
    ∙ sym (read_then r.depth ns (read r.depth ms (went e s)))
    ∙ sym (read-append r.depth ms ns (went e s))
    ∙ ap (λ d. read d (ms ++ ns) (went e s)) (sym (jl ∙ lr))

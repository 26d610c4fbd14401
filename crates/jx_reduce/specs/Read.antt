-- The plain reading of tokens, which knows all open containers.
use Rattle.std.specs.Prelude.{ℕ, List, [], ◌∷◌, Option, Some, None, fold, length, nat_lt, if◌then◌else◌}
use Rattle.jx_reduce.specs.Table.{next_of, change_of, Change, same, added, removed}
use Rattle.jx_reduce.specs.declared.table.holder.Holder.{Holder}
use Rattle.jx_reduce.specs.declared.table.holder.Holder.TheVariants.{Bottom}
use Rattle.jx_reduce.specs.declared.table.expect.Expect.{Expect}
use Rattle.jx_lex.specs.declared.alphabet.mark.Mark.{Mark}

-- the end of a reading; open containers stand innermost first
pub data Reading : Type 0 where
  went : Expect → List Holder → Reading
  stopped : ℕ → Reading
  too_deep : ℕ → Reading

-- the innermost container
abbrev pub top : List Holder → Holder
top [] = Bottom
top (h ∷ _) = h

abbrev pub without_top : List Holder → List Holder
without_top [] = []
without_top (_ ∷ s) = s

-- a token that is no fault changes the open list, within the depth
abbrev pub changed : ℕ → ℕ → Change → Expect → List Holder → Reading
changed d at same e s = went e s
changed d at (added h) e s = if nat_lt (length s) d then went e (h ∷ s) else too_deep at
changed d at removed e s = went e (without_top s)

abbrev pub moved : ℕ → ℕ → Change → Option Expect → List Holder → Reading
moved d at c None s = stopped at
moved d at c (Some e) s = changed d at c e s

abbrev pub step : ℕ → Mark → Reading → Reading
step d m (went e s) = moved d m.at (change_of m.kind) (next_of m.kind e (top s)) s
step d m (stopped at) = stopped at
step d m (too_deep at) = too_deep at

abbrev pub read : ℕ → List Mark → Reading → Reading
read d ms r = fold (λ reading mark. step d mark reading) r ms

-- a second reading goes on where the first one went
abbrev pub then_by : (Expect → List Holder → Reading) → Reading → Reading
then_by f (went e s) = f e s
then_by f (stopped at) = stopped at
then_by f (too_deep at) = too_deep at

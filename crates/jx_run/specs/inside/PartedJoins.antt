-- The join of two neighbouring runs of a JSON text sequence.
use Rattle.std.specs.Prelude.{◌≡◌, ◌<◌, ℕ, List, [], ◌∷◌, ◌++◌}
use Rattle.std.specs.List.{AllZip}
use Rattle.jx_run.specs.Elements.{part, filled}
use Rattle.jx_run.specs.Parted.{PartedValue, Meaning, IsParted, parted_span}
use Rattle.jx_run.specs.Tree.{span}

-- the bytes of two neighbouring parts are one part; what is kept of it, unless it is empty, comes after that of the
-- left and before that of the right
pub record IsClosed {P F : Type 0} (m : Meaning P F) (done : List F) (after before : P) (more joined : List F) : Type 0 where
  pub middle : List F
  pub joined_are : joined ≡ done ++ (middle ++ more)
  pub of : (xs ys : List ℕ) → 0 < (m.span after).start → m.is_of after xs → m.is_of before ys
      → AllZip (m.is_finished (m.depth after)) (filled (part (m.span after).start (xs ++ ys) ∷ [])) middle

-- the right run goes on where the left one ends, and their joined bytes have the joined run as summary
pub record IsPartedJoin {P F : Type 0} (m : Meaning P F) (left right joined : PartedValue P F) : Type 0 where
  pub span : parted_span m.span joined ≡ span (m.span left.before).start (parted_span m.span right).end
  pub depth : m.depth joined.before ≡ m.depth left.before
  pub of : (xs ys : List ℕ) → IsParted m xs left → IsParted m ys right → IsParted m (xs ++ ys) joined

-- Trees of two texts that say the same: kinds and order are the same, and byte for byte scalars and names.
use Rattle.std.specs.Prelude.{◌≡◌, ℕ, List, Option, Some, None, slice_range}
use Rattle.jx_lex.specs.declared.kind.Kind.{Kind}
use Rattle.jx_lex.specs.declared.kind.Kind.TheVariants.{Object, Array, String, Number, True, False, Null}
use Rattle.jx_summary.specs.declared.span.Span.{Span}
use Rattle.jx_run.specs.Tree.{Tree, node, Children, no_children, child}

-- a scalar has the same bytes
abbrev pub SameScalar : Kind → List ℕ → List ℕ → Type 0
SameScalar Object one other = Unit {0}
SameScalar Array one other = Unit {0}
SameScalar String one other = one ≡ other
SameScalar Number one other = one ≡ other
SameScalar True one other = one ≡ other
SameScalar False one other = one ≡ other
SameScalar Null one other = one ≡ other

-- a name has the same bytes, or there is none in both
abbrev pub SameName : List ℕ → List ℕ → Option Span → Option Span → Type 0
SameName text other None None = Unit {0}
SameName text other None (Some t) = ⊥
SameName text other (Some s) None = ⊥
SameName text other (Some s) (Some t) = slice_range text s.start s.end ≡ slice_range other t.start t.end

abbrev mutual
  pub AreAlike : List ℕ → List ℕ → Tree → Tree → Type 0
  AreAlike text other (node kind s children) (node kind_there t children_there) =
      (kind ≡ kind_there) × SameScalar kind (slice_range text s.start s.end) (slice_range other t.start t.end) × AreAllAlike text other children children_there

  pub AreAllAlike : List ℕ → List ℕ → Children → Children → Type 0
  AreAllAlike text other no_children no_children = Unit {0}
  AreAllAlike text other no_children (child name tree more) = ⊥
  AreAllAlike text other (child name tree more) no_children = ⊥
  AreAllAlike text other (child name tree more) (child name_there tree_there more_there) =
      SameName text other name name_there × AreAlike text other tree tree_there × AreAllAlike text other more more_there

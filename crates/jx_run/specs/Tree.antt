-- The tree of a text: its values, and how deep they are nested (RFC 8259, sections 3 to 5 and 9).
use Rattle.std.specs.Prelude.{ℕ, suc, max, Option}
use Rattle.jx_lex.specs.declared.kind.Kind.{Kind}
use Rattle.jx_lex.specs.declared.kind.Kind.TheVariants.{Object, Array, String, Number, True, False, Null}
use Rattle.jx_summary.specs.declared.span.Span.{Span}

mutual
  -- a value: its kind, where it stands, and its children in order
  pub data Tree : Type 0 where
    node : Kind → Span → Children → Tree

  -- children in order, each with the span of its name, or none
  pub data Children : Type 0 where
    no_children : Children
    child : Option Span → Tree → Children → Children

abbrev pub span : ℕ → ℕ → Span
span i j = record { start = i; end = j }

-- the depth of a value by its kind, where its deepest child has the depth below
abbrev pub depth_over : Kind → ℕ → ℕ
depth_over Object below = suc below
depth_over Array below = suc below
depth_over String below = 0
depth_over Number below = 0
depth_over True below = 0
depth_over False below = 0
depth_over Null below = 0

-- a container is one deeper than its deepest child; an empty one has depth 1
abbrev mutual
  pub depth : Tree → ℕ
  depth (node kind span children) = depth_over kind (deepest children)

  pub deepest : Children → ℕ
  deepest no_children = 0
  deepest (child name tree more) = max (depth tree) (deepest more)

-- The next place that is wanted in the innermost open array.
use Rattle.std.proofs.Common.{◌≡◌, ℕ, List, [], ◌∷◌, Option, None, Some, refl, arith}
use Rattle.jx_lex.specs.declared.kind.Kind.{Kind}
use Rattle.jx_summary.specs.declared.span.Span.{Span}
use Rattle.jx_index.specs.declared.finder.Cursor.{Cursor}
use Rattle.jx_index.specs.declared.trie.Edge.{Edge}
use Rattle.jx_index.specs.inside.Finding.{Finding, counted, leaf_at}
use Rattle.jx_index.specs.inside.Trie.{IsNextIn}

module _ (edges : List Edge) where
  pub next_counted : (xs : List Cursor) (next : ℕ) → IsNextIn edges xs next → IsNextIn edges (counted xs) next
  next_counted [] next ready = tt
  next_counted (c ∷ outer) next ready = λ i e is p l. let b = ready i e is p l in omega (arith, b)

pub leaf_opened : (x : Option ℕ) (k : Kind) (s : Span) (f : Finding) → (leaf_at x k s f).opened ≡ counted f.opened
leaf_opened None k s f = refl
leaf_opened (Some t) k s f = refl

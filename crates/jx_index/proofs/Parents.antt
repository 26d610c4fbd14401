-- The rows whose parent is a node are the node's children, in order.
use Rattle.std.proofs.Common.{◌≡◌, ℕ, suc, ◌+◌, ◌<◌, ◌≤◌, List, [], ◌∷◌, ◌++◌, length, map, Option, None, Some, Bool, true, false, cond, refl, ap, ◌∙◌, arith, inl, inr, ◌⊎◌}
use Rattle.std.specs.Prelude.{◌==◌}
use Rattle.std.proofs.lemmas.Bool.Decides.{nat_tests}
use Rattle.std.proofs.lemmas.List.{append-nil}
use Rattle.jx_lex.specs.declared.kind.Kind.{Kind}
use Rattle.jx_summary.specs.declared.span.Span.{Span}
use Rattle.jx_run.specs.Tree.{Tree, node, Children, no_children, child}
use Rattle.jx_index.specs.declared.row.Row.{Row}
use Rattle.jx_index.specs.Rows.{size, sizes, rows_from, rows_below, rows}
use Rattle.jx_index.specs.Leads.{children_of, Numbered, numbered}
use Rattle.jx_index.specs.Nodes.{is_parent, with_parent, child_numbers}
use Rattle.jx_index.specs.Standing.{Standing, root_standing, Stands, itself, inside, StandsBelow, in_first as first_has, in_later as later_has}
use Rattle.jx_index.proofs.Builds.{size-length}

-- the numbers of children, of which the first has a number
abbrev pub numbers : Children → ℕ → List ℕ
numbers no_children m = []
numbers (child name tree more) m = m ∷ numbers more (m + size tree)

mutual
  -- where the tree has a first number, a node inside it has a second one
  data At : Tree → ℕ → ℕ → Tree → Type 0 where
    here : {tree : Tree} {m : ℕ} → At tree m m tree
    under : {kind : Kind} {span : Span} {children : Children} {m n : ℕ} {inner : Tree}
        → AtBelow children (suc m) n inner → At (node kind span children) m n inner

  data AtBelow : Children → ℕ → ℕ → Tree → Type 0 where
    in_first : {name : Option Span} {tree inner : Tree} {more : Children} {m n : ℕ} → At tree m n inner → AtBelow (child name tree more) m n inner
    in_later : {name : Option Span} {tree inner : Tree} {more : Children} {m n : ℕ} → AtBelow more (m + size tree) n inner → AtBelow (child name tree more) m n inner

mutual
  at_of : {tree inner : Tree} {s t : Standing} → Stands tree s inner t → At tree s.number t.number inner
  at_of itself = here
  at_of (inside w) = under (at_of_below w)

  at_of_below : {children : Children} {inner : Tree} {m q p : ℕ} {t : Standing} → StandsBelow children m q p inner t → AtBelow children m t.number inner
  at_of_below (first_has w) = in_first (at_of w)
  at_of_below (later_has w) = in_later (at_of_below w)

with_parent-append : (n i : ℕ) (xs ys : List Row) → with_parent n i (xs ++ ys) ≡ with_parent n i xs ++ with_parent n (i + length xs) ys
with_parent-append n i [] ys = let e : i ≡ i + 0 = omega arith in ap (λ k. with_parent n k ys) e
with_parent-append n i (x ∷ xs) ys =
    pick (is_parent n x.parent) (with_parent-append n (suc i) xs ys ∙ ap (λ k. with_parent n (suc i) xs ++ with_parent n k ys) (let e : suc i + length xs ≡ i + suc (length xs) = omega arith in e))
  where
    pick : (b : Bool) → with_parent n (suc i) (xs ++ ys) ≡ with_parent n (suc i) xs ++ with_parent n (i + suc (length xs)) ys
        → cond b (i ∷ with_parent n (suc i) (xs ++ ys)) (with_parent n (suc i) (xs ++ ys)) ≡ cond b (i ∷ with_parent n (suc i) xs) (with_parent n (suc i) xs) ++ with_parent n (i + suc (length xs)) ys
    pick true h = ap (λ x. i ∷ x) h
    pick false h = h

-- the rows of one child, and then those of the others
parted : (n m q p : ℕ) (name : Option Span) (tree : Tree) (more : Children)
    → with_parent n m (rows_below (child name tree more) m q p)
    ≡ with_parent n m (rows_from tree m (Some q) p name) ++ with_parent n (m + size tree) (rows_below more (m + size tree) q (suc p))
parted n m q p name tree more =
    with_parent-append n m (rows_from tree m (Some q) p name) (rows_below more (m + size tree) q (suc p))
    ∙ ap (λ k. with_parent n m (rows_from tree m (Some q) p name) ++ with_parent n (m + k) (rows_below more (m + size tree) q (suc p))) (size-length tree m (Some q) p name)

-- the number is none of those from one up to another
abbrev pub Apart : ℕ → ℕ → ℕ → Type 0
Apart n from to = (n < from) ⊎ (to ≤ n)

not_it : (n m to : ℕ) → Apart n m to → m < to → (m == n) ≡ false
not_it n m to (inl h) l = grind (arith, nat_tests)
not_it n m to (inr h) l = grind (arith, nat_tests)

apart_left : (n m a b : ℕ) → Apart n m (m + (a + b)) → Apart n m (m + a)
apart_left n m a b (inl h) = inl h
apart_left n m a b (inr h) = inr (omega arith)

apart_right : (n m a b : ℕ) → Apart n m (m + (a + b)) → Apart n (m + a) ((m + a) + b)
apart_right n m a b (inl h) = inl (omega arith)
apart_right n m a b (inr h) = inr (omega arith)

apart_in : (n m s : ℕ) → Apart n m (m + suc s) → Apart n (suc m) (suc m + s)
apart_in n m s (inl h) = inl (omega arith)
apart_in n m s (inr h) = inr (omega arith)

mutual
  pub none_from : (tree : Tree) (n m : ℕ) (parent : Option ℕ) (p : ℕ) (name : Option Span) → Apart n m (m + size tree) → is_parent n parent ≡ false
      → with_parent n m (rows_from tree m parent p name) ≡ []
  none_from (node kind span children) n m parent p name a h =
      ap (λ c. cond c (m ∷ with_parent n (suc m) (rows_below children (suc m) m 0)) (with_parent n (suc m) (rows_below children (suc m) m 0))) h
      ∙ none_below children n (suc m) m 0 (apart_in n m (sizes children) a) (not_it n m (m + suc (sizes children)) a (omega arith))

  none_below : (children : Children) (n m q p : ℕ) → Apart n m (m + sizes children) → (q == n) ≡ false → with_parent n m (rows_below children m q p) ≡ []
  none_below no_children n m q p a h = refl
  none_below (child name tree more) n m q p a h =
      parted n m q p name tree more
      ∙ ap (λ x. x ++ with_parent n (m + size tree) (rows_below more (m + size tree) q (suc p))) (none_from tree n m (Some q) p name (apart_left n m (size tree) (sizes more) a) h)
      ∙ none_below more n (m + size tree) q (suc p) (apart_right n m (size tree) (sizes more) a) h

one_from : (tree : Tree) (n m p : ℕ) (name : Option Span) → n < m → with_parent n m (rows_from tree m (Some n) p name) ≡ m ∷ []
one_from (node kind span children) n m p name h =
    let e : (n == n) ≡ true = grind (arith, nat_tests) in
    ap (λ c. cond c (m ∷ with_parent n (suc m) (rows_below children (suc m) m 0)) (with_parent n (suc m) (rows_below children (suc m) m 0))) e
    ∙ ap (λ x. m ∷ x) (none_below children n (suc m) m 0 (inl (omega arith)) (grind (arith, nat_tests)))

all_below : (children : Children) (n m p : ℕ) → n < m → with_parent n m (rows_below children m n p) ≡ numbers children m
all_below no_children n m p h = refl
all_below (child name tree more) n m p h =
    parted n m n p name tree more
    ∙ ap (λ x. x ++ with_parent n (m + size tree) (rows_below more (m + size tree) n (suc p))) (one_from tree n m p name h)
    ∙ ap (λ x. m ∷ x) (all_below more n (m + size tree) (suc p) (omega arith))

pub size-positive : (tree : Tree) → 1 ≤ size tree
size-positive (node kind span _) = omega arith

mutual
  at_bounds : {tree inner : Tree} {m n : ℕ} → At tree m n inner → (m ≤ n) × (n < m + size tree)
  at_bounds {tree = tree} here = (omega arith, let s = size-positive tree in omega arith)
  at_bounds (under h) = let b = below_bounds h in (omega (arith, b.0), omega (arith, b.1))

  below_bounds : {children : Children} {inner : Tree} {m n : ℕ} → AtBelow children m n inner → (m ≤ n) × (n < m + sizes children)
  below_bounds (in_first h) = let b = at_bounds h in (b.0, omega (arith, b.1))
  below_bounds (in_later h) = let b = below_bounds h in (omega (arith, b.0), omega (arith, b.1))

mutual
  children_at : {tree inner : Tree} {m n : ℕ} → At tree m n inner → (parent : Option ℕ) (p : ℕ) (name : Option Span) → is_parent n parent ≡ false
      → with_parent n m (rows_from tree m parent p name) ≡ numbers (children_of inner) (suc n)
  children_at (here {tree = tree} {m = m}) parent p name h = root tree h
    where
      root : (tree : Tree) → is_parent m parent ≡ false → with_parent m m (rows_from tree m parent p name) ≡ numbers (children_of tree) (suc m)
      root (node kind span children) h =
          ap (λ c. cond c (m ∷ with_parent m (suc m) (rows_below children (suc m) m 0)) (with_parent m (suc m) (rows_below children (suc m) m 0))) h
          ∙ all_below children m (suc m) 0 (omega arith)
  children_at (under {children = children} {m = m} {n = n} w) parent p name h =
      ap (λ c. cond c (m ∷ with_parent n (suc m) (rows_below children (suc m) m 0)) (with_parent n (suc m) (rows_below children (suc m) m 0))) h
      ∙ children_below w m 0 (let b = (below_bounds w).0 in grind (arith, nat_tests))

  children_below : {children : Children} {inner : Tree} {m n : ℕ} → AtBelow children m n inner → (q p : ℕ) → (q == n) ≡ false
      → with_parent n m (rows_below children m q p) ≡ numbers (children_of inner) (suc n)
  children_below (in_first {name = name} {tree = tree} {inner = inner} {more = more} {m = m} {n = n} w) q p h =
      parted n m q p name tree more
      ∙ ap (λ x. with_parent n m (rows_from tree m (Some q) p name) ++ x) (none_below more n (m + size tree) q (suc p) (inl (at_bounds w).1) h)
      ∙ append-nil (with_parent n m (rows_from tree m (Some q) p name))
      ∙ children_at w (Some q) p name h
  children_below (in_later {name = name} {tree = tree} {more = more} {m = m} {n = n} w) q p h =
      parted n m q p name tree more
      ∙ ap (λ x. x ++ with_parent n (m + size tree) (rows_below more (m + size tree) q (suc p))) (none_from tree n m (Some q) p name (inr (below_bounds w).0) h)
      ∙ children_below w q (suc p) h

-- in the rows of a tree
pub children_are : {tree inner : Tree} {t : Standing} → Stands tree root_standing inner t → child_numbers (rows tree) t.number ≡ numbers (children_of inner) (suc t.number)
children_are w = children_at (at_of w) None 0 None refl

pub numbers-numbered : (children : Children) (m : ℕ) → numbers children m ≡ map (λ (c : Numbered). c.number) (numbered children m)
numbers-numbered no_children m = refl
numbers-numbered (child name tree more) m = ap (λ x. m ∷ x) (numbers-numbered more (m + size tree))

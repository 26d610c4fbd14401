-- Every number below the size of a tree is a node's, and what the numbers behind the nodes say of them.
use Rattle.std.proofs.Common.{◌≡◌, ℕ, suc, ◌+◌, ◌<◌, ◌≤◌, ◌∷◌, length, None, Some, refl, sym, ap, subst, ◌∙◌, arith, get_or, inl, inr, ◌⊎◌}
use Rattle.std.specs.Prelude.{slice_get}
use Rattle.jx_run.specs.Tree.{Tree, node, Children, no_children, child}
use Rattle.jx_index.specs.Afters.{afters}
use Rattle.jx_index.specs.Leads.{children_of}
use Rattle.jx_index.specs.Nodes.{child_numbers}
use Rattle.jx_index.specs.Rows.{size, sizes, rows}
use Rattle.jx_index.specs.Standing.{Standing, standing, root_standing, Stands, itself, inside, StandsBelow, in_first, in_later, HasNode}
use Rattle.jx_index.specs.Walk.{IsForward, IsBounded, walk_to, walk_children}
use Rattle.jx_index.proofs.Bridge.{row_there}
use Rattle.jx_index.proofs.Builds.{afters-length, size-length}
use Rattle.jx_index.proofs.Parents.{numbers, children_are, none_from, size-positive}
use Rattle.jx_index.proofs.WalkLaws.{le_or, walk_none, walk_step, walk_past}
use Rattle.jx_index.proofs.Walks.{after_at, goes_on}

-- ---- the node of a number

record Found (tree : Tree) (s : Standing) (n : ℕ) : Type 0 where
  inner : Tree
  t : Standing
  here : Stands tree s inner t
  number_is : t.number ≡ n

record FoundBelow (children : Children) (m q p n : ℕ) : Type 0 where
  inner : Tree
  t : Standing
  here : StandsBelow children m q p inner t
  number_is : t.number ≡ n

same_or : (a b : ℕ) → a ≤ b → (a ≡ b) ⊎ (suc a ≤ b)
same_or a b h = elim (le_or b a) [ inl le ↦ inl (omega arith) | inr lt ↦ inr (omega arith) ]

mutual
  found : (tree : Tree) (s : Standing) (n : ℕ) → s.number ≤ n → n < s.number + size tree → Found tree s n
  found (node kind place children) s n h l =
      elim (same_or s.number n h) [
        | inl e ↦ record { inner = node kind place children; t = s; here = itself; number_is = e }
        | inr le ↦ (let f = found_below children (suc s.number) s.number 0 n le (omega arith) in record { inner = f.inner; t = f.t; here = inside f.here; number_is = f.number_is })
      ]

  found_below : (children : Children) (m q p n : ℕ) → m ≤ n → n < m + sizes children → FoundBelow children m q p n
  found_below no_children m q p n h l = absurd (omega arith)
  found_below (child name tree more) m q p n h l =
      elim (le_or (m + size tree) n) [
        | inl le ↦ (let f = found_below more (m + size tree) q (suc p) n le (omega arith) in record { inner = f.inner; t = f.t; here = in_later f.here; number_is = f.number_is })
        | inr lt ↦ (let f = found tree (standing m (Some q) p name) n h lt in record { inner = f.inner; t = f.t; here = in_first f.here; number_is = f.number_is })
      ]

mutual
  -- what stands in a node ends where the node does, or before
  ends_within : {tree inner : Tree} {s t : Standing} → Stands tree s inner t → t.number + size inner ≤ s.number + size tree
  ends_within itself = omega arith
  ends_within (inside w) = omega (arith, ends_below w)

  ends_below : {children : Children} {inner : Tree} {m q p : ℕ} {t : Standing} → StandsBelow children m q p inner t → t.number + size inner ≤ m + sizes children
  ends_below (in_first w) = omega (arith, ends_within w)
  ends_below (in_later w) = omega (arith, ends_below w)

-- each row is a node's
pub node_at : (tree : Tree) (n : ℕ) → n < length (rows tree) → HasNode tree n
node_at tree n h =
    let f = found tree root_standing n (omega arith) (omega (arith, size-length tree 0 None 0 None)) in
    record {
      inner = f.inner;
      standing = f.t;
      stands = f.here;
      number_is = f.number_is;
      is_row = ap (slice_get (rows tree)) (sym f.number_is) ∙ row_there f.here;
    }

-- ---- the numbers behind the nodes

pub forward_of : (tree : Tree) → IsForward (afters tree)
forward_of tree k h =
    let f = found tree root_standing k (omega arith) (omega (arith, afters-length tree 0)) in
    let a : get_or (afters tree) f.t.number 0 ≡ f.t.number + size f.inner = after_at f.here in
    let s = size-positive f.inner in
    subst (λ n. n < get_or (afters tree) n 0) f.number_is (omega arith)

pub bounded_of : (tree : Tree) → IsBounded (afters tree)
bounded_of tree k h =
    let f = found tree root_standing k (omega arith) (omega (arith, afters-length tree 0)) in
    let a : get_or (afters tree) f.t.number 0 ≡ f.t.number + size f.inner = after_at f.here in
    let e = ends_within f.here in
    subst (λ n. get_or (afters tree) n 0 ≤ length (afters tree)) f.number_is (omega (arith, afters-length tree 0))

-- ---- the walk over the children

walk_below : (tree : Tree) (children : Children) (m q p : ℕ) → ((x : Tree) (u : Standing) → StandsBelow children m q p x u → Stands tree root_standing x u)
    → m + sizes children ≤ length (afters tree) → walk_to (afters tree) m (m + sizes children) ≡ numbers children m
walk_below tree no_children m q p into h = walk_none (afters tree) m (m + 0) (omega arith)
walk_below tree (child name c more) m q p into h =
    let s = size-positive c in
    let a : get_or (afters tree) m 0 ≡ m + size c = after_at (into c (standing m (Some q) p name) (in_first itself)) in
    let e : m + (size c + sizes more) ≡ (m + size c) + sizes more = omega arith in
    walk_step (afters tree) m (m + (size c + sizes more)) (forward_of tree) h (omega arith)
    ∙ ap (λ n. m ∷ walk_to (afters tree) n (m + (size c + sizes more))) a
    ∙ ap (λ n. m ∷ walk_to (afters tree) (m + size c) n) e
    ∙ ap (λ x. m ∷ x) (walk_below tree more (m + size c) q (suc p) (λ x u w. into x u (in_later w)) (omega arith))

under : (tree inner : Tree) (t : Standing) → Stands tree root_standing inner t → ((x : Tree) (u : Standing) → StandsBelow (children_of inner) (suc t.number) t.number 0 x u → Stands tree root_standing x u)
    → walk_to (afters tree) (suc t.number) (t.number + size inner) ≡ numbers (children_of inner) (suc t.number)
under tree (node kind place children) t w into =
    let e : t.number + suc (sizes children) ≡ suc t.number + sizes children = omega arith in
    ap (walk_to (afters tree) (suc t.number)) e
    ∙ walk_below tree children (suc t.number) t.number 0 into (omega (arith, ends_within w, afters-length tree 0))

at_node : (tree inner : Tree) (t : Standing) → Stands tree root_standing inner t → walk_children (afters tree) t.number ≡ child_numbers (rows tree) t.number
at_node tree inner t w =
    ap (walk_to (afters tree) (suc t.number)) (after_at w)
    ∙ under tree inner t w (λ x u b. goes_on w b)
    ∙ sym (children_are w)

-- of any number, also of one that no row has
pub walk_children_are : (tree : Tree) (n : ℕ) → walk_children (afters tree) n ≡ child_numbers (rows tree) n
walk_children_are tree n =
    elim (le_or (size tree) n) [
      | inl past ↦ walk_past (afters tree) n (omega (arith, afters-length tree 0)) ∙ sym (none_from tree n 0 None 0 None (inr (omega arith)) refl)
      | inr lt ↦ (
          let f = found tree root_standing n (omega arith) (omega arith) in
          subst (λ n. walk_children (afters tree) n ≡ child_numbers (rows tree) n) f.number_is (at_node tree f.inner f.t f.here))
    ]

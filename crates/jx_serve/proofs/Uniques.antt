-- Where no object of a tree repeats a name, no row of the text begins a repeated one.
use Rattle.std.proofs.Common.{◌≡◌, ℕ, suc, Bool, true, false, cond, List, [], ◌∷◌, drop, map, refl, sym, ap, subst, ◌∙◌, inl, inr}
use Rattle.std.specs.Prelude.{filter}
use Rattle.jx_lex.specs.declared.kind.Kind.{Kind}
use Rattle.jx_lex.specs.declared.kind.Kind.TheVariants as kind
use Rattle.jx_run.specs.Tree.{Tree, node, Children, no_children, child}
use Rattle.jx_index.specs.Leads.{Numbered, numbered, kind_of, children_of}
use Rattle.jx_index.specs.Names.{name_units, units_of_name}
use Rattle.jx_index.specs.Nodes.{kind_in, child_numbers}
use Rattle.jx_index.specs.Repeats.{IsAmong, has_units, IsRepeat}
use Rattle.jx_index.specs.Rows.{rows}
use Rattle.jx_index.specs.Standing.{Standing, Stands, itself, inside, StandsBelow, in_first, in_later}
use Rattle.jx_index.proofs.Bridge.{IsChild, children_stand, kind_there, name_of_child, object_row}
use Rattle.jx_index.proofs.Each.{Each}
use Rattle.jx_index.proofs.NameKeys.{same_units}
use Rattle.jx_index.proofs.Parents.{children_are, numbers-numbered}
use Rattle.jx_index.proofs.Shapes.{node_at}
use Rattle.jx_serve.specs.inside.Sound.{AreDistinct, DistinctFor, names_of, IsUnique, AreUnique}

-- ---- a list of names

module _ {A : Type 0} (units_of : A → List ℕ) (units : List ℕ) where
  among : (xs : List A) (name : A) → IsAmong name (filter (has_units units_of units) xs) → IsAmong units (map units_of xs)
  among [] name h = h
  among (x ∷ xs) name h = pick (has_units units_of units x) refl (among xs name) h
    where
      pick : (b : Bool) → has_units units_of units x ≡ b → (IsAmong name (filter (has_units units_of units) xs) → IsAmong units (map units_of xs))
          → IsAmong name (cond b (x ∷ filter (has_units units_of units) xs) (filter (has_units units_of units) xs)) → IsAmong units (units_of x ∷ map units_of xs)
      pick true e more h = inl (same_units (units_of x) units e)
      pick false e more h = inr (more h)

  once : (xs : List A) (name : A) → AreDistinct (map units_of xs) → IsAmong name (drop 1 (filter (has_units units_of units) xs)) → ⊥
  once [] name d h = h
  once (x ∷ xs) name d h = pick (has_units units_of units x) refl (once xs name d.1) h
    where
      pick : (b : Bool) → has_units units_of units x ≡ b → (IsAmong name (drop 1 (filter (has_units units_of units) xs)) → ⊥)
          → IsAmong name (drop 1 (cond b (x ∷ filter (has_units units_of units) xs) (filter (has_units units_of units) xs))) → ⊥
      pick true e more h = d.0 (subst (λ u. IsAmong u (map units_of xs)) (sym (same_units (units_of x) units e)) (among xs name h))
      pick false e more h = more h

-- ---- the nodes of a tree

mutual
  unique_inner : (text : List ℕ) {tree inner : Tree} {s t : Standing} → Stands tree s inner t → IsUnique text tree → IsUnique text inner
  unique_inner text itself h = h
  unique_inner text (inside w) h = unique_below text w h.1

  unique_below : (text : List ℕ) {children : Children} {inner : Tree} {m q p : ℕ} {t : Standing} → StandsBelow children m q p inner t → AreUnique text children → IsUnique text inner
  unique_below text (in_first w) h = unique_inner text w h.0
  unique_below text (in_later w) h = unique_below text w h.1

distinct_for : (text : List ℕ) (inner : Tree) → IsUnique text inner → DistinctFor (kind_of inner) (names_of text (children_of inner))
distinct_for text (node k span below) h = h.0

names_numbered : (text : List ℕ) (children : Children) (m : ℕ) → map (λ (c : Numbered). units_of_name text c.name) (numbered children m) ≡ names_of text children
names_numbered text no_children m = refl
names_numbered text (child name tree more) m = ap (λ ns. units_of_name text name ∷ ns) (names_numbered text more _)

map_each : (text : List ℕ) (tree : Tree) (xs : List Numbered) → Each (IsChild tree) xs
    → map (name_units text (rows tree)) (map (λ (c : Numbered). c.number) xs) ≡ map (λ (c : Numbered). units_of_name text c.name) xs
map_each text tree [] h = refl
map_each text tree (c ∷ cs) h =
    ap (λ u. u ∷ map (name_units text (rows tree)) (map (λ (c : Numbered). c.number) cs)) (ap (units_of_name text) (name_of_child tree c h.0))
    ∙ ap (λ us. units_of_name text c.name ∷ us) (map_each text tree cs h.1)

pub never_repeated : (text : List ℕ) (tree : Tree) → IsUnique text tree → (at : ℕ) → IsRepeat text (rows tree) at → ⊥
never_repeated text tree unique at r =
    let h = node_at tree r.object (object_row (rows tree) r.object r.is_object) in
    let below = children_of h.inner in
    let kind_is : kind_of h.inner ≡ kind.Object = sym (kind_there h.inner h.standing) ∙ sym (ap kind_in h.is_row) ∙ r.is_object in
    let names : AreDistinct (names_of text below) = subst (λ (k : Kind). DistinctFor k (names_of text below)) kind_is (distinct_for text h.inner (unique_inner text h.stands unique)) in
    let children = numbered below (suc h.standing.number) in
    let are : child_numbers (rows tree) r.object ≡ map (λ (c : Numbered). c.number) children =
    ap (child_numbers (rows tree)) (sym h.number_is) ∙ children_are h.stands ∙ numbers-numbered below (suc h.standing.number) in
    let units : map (name_units text (rows tree)) (child_numbers (rows tree) r.object) ≡ names_of text below =
    ap (map (name_units text (rows tree))) are ∙ map_each text tree children (children_stand tree h.inner h.standing h.stands) ∙ names_numbered text below (suc h.standing.number) in
    once (name_units text (rows tree)) r.repeats.units (child_numbers (rows tree) r.object) r.repeats.name (subst AreDistinct (sym units) names) r.repeats.behind

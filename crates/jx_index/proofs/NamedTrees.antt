-- In the tree of a text each child of an object has a name.
use Rattle.std.proofs.Common.{ℕ, List, Option, None, Some}
use Rattle.jx_lex.specs.declared.kind.Kind.{Kind}
use Rattle.jx_lex.specs.declared.kind.Kind.TheVariants as kind
use Rattle.jx_summary.specs.declared.span.Span.{Span}
use Rattle.jx_run.specs.Grammar.{Value, leaf, empty_array, array, empty_object, object, Items, last_item, item, Members, last_member, member}
use Rattle.jx_run.specs.Text.{Document, document}
use Rattle.jx_run.specs.Tree.{Tree, node, Children, no_children, child}
use Rattle.jx_index.specs.Standing.{Standing, Stands, itself, inside, StandsBelow, in_first, in_later}

abbrev pub HasName : Option Span → Type 0
HasName None = ⊥
HasName (Some name) = Unit {0}

abbrev pub AllNamed : Children → Type 0
AllNamed no_children = Unit {0}
AllNamed (child name tree more) = HasName name × AllNamed more

abbrev pub NamedFor : Kind → Children → Type 0
NamedFor kind.Object children = AllNamed children
NamedFor _ _ = Unit {0}

abbrev mutual
  pub Named : Tree → Type 0
  Named (node k place children) = NamedFor k children × NamedBelow children

  pub NamedBelow : Children → Type 0
  NamedBelow no_children = Unit {0}
  NamedBelow (child name tree more) = Named tree × NamedBelow more

leaf_named : (k : Kind) → NamedFor k no_children
leaf_named kind.Object = tt
leaf_named kind.Array = tt
leaf_named kind.String = tt
leaf_named kind.Number = tt
leaf_named kind.True = tt
leaf_named kind.False = tt
leaf_named kind.Null = tt

mutual
  value_named : {i j : ℕ} {t u : List ℕ} {tree : Tree} → Value i t j u tree → Named tree
  value_named (leaf {kind = k} s) = (leaf_named k, tt)
  value_named (empty_array bs) = (tt, tt)
  value_named (array xs) = (tt, items_named xs)
  value_named (empty_object bs) = (tt, tt)
  value_named (object xs) = (members_named xs, members_below xs)

  items_named : {i j : ℕ} {t u : List ℕ} {children : Children} → Items i t j u children → NamedBelow children
  items_named (last_item bs v cs) = (value_named v, tt)
  items_named (item bs v cs xs) = (value_named v, items_named xs)

  members_named : {i j : ℕ} {t u : List ℕ} {children : Children} → Members i t j u children → AllNamed children
  members_named (last_member bs n cs ds v es) = (tt, tt)
  members_named (member bs n cs ds v es xs) = (tt, members_named xs)

  members_below : {i j : ℕ} {t u : List ℕ} {children : Children} → Members i t j u children → NamedBelow children
  members_below (last_member bs n cs ds v es) = (value_named v, tt)
  members_below (member bs n cs ds v es xs) = (value_named v, members_below xs)

pub text_named : {i : ℕ} {t : List ℕ} {tree : Tree} → Document i t tree → Named tree
text_named (document bs v cs) = value_named v

mutual
  pub named_inner : {tree inner : Tree} {s t : Standing} → Stands tree s inner t → Named tree → Named inner
  named_inner itself h = h
  named_inner (inside w) h = named_below w h.1

  named_below : {children : Children} {inner : Tree} {m q p : ℕ} {t : Standing} → StandsBelow children m q p inner t → NamedBelow children → Named inner
  named_below (in_first w) h = named_inner w h.0
  named_below (in_later w) h = named_below w h.1

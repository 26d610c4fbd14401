-- A node's row stands at its number, and its children stand below it.
use Rattle.std.proofs.Common.{◌≡◌, ℕ, suc, ◌+◌, List, [], ◌∷◌, ◌++◌, length, Some, append_assoc, refl, sym, ap, ◌∙◌, arith, get_or}
use Rattle.std.proofs.Math.Seq.{get_or-append_seam}
use Rattle.std.proofs.lemmas.List.{length-append}
use Rattle.jx_run.specs.Tree.{Tree, node, Children}
use Rattle.jx_index.specs.Rows.{size, rows_from, rows_below, rows}
use Rattle.jx_index.specs.Standing.{Standing, row_of, Stands, itself, inside, StandsBelow, in_first, in_later, root_standing}
use Rattle.jx_index.specs.Leads.{children_of}
use Rattle.jx_index.specs.Afters.{afters_from, afters_below, afters}
use Rattle.jx_index.proofs.Builds.{size-length, afters-length}

-- an entry with its number, among entries of which the first has a number
pub record Has {A : Type 0} (rows : List A) (first : ℕ) (row : A) (number : ℕ) : Type 0 where
  pub before : List A
  pub behind : List A
  pub whole : rows ≡ before ++ (row ∷ behind)
  pub number_is : number ≡ first + length before

after_one : {A : Type 0} (r row : A) (rows : List A) (first number : ℕ) → Has rows (suc first) row number → Has (r ∷ rows) first row number
after_one r row rows first number h = record { before = r ∷ h.before; behind = h.behind; whole = ap (λ x. r ∷ x) h.whole; number_is = omega (arith, h.number_is) }

then_more : {A : Type 0} (row : A) (xs ys : List A) (first number : ℕ) → Has xs first row number → Has (xs ++ ys) first row number
then_more row xs ys first number h =
    record { before = h.before; behind = h.behind ++ ys; whole = ap (λ x. x ++ ys) h.whole ∙ append_assoc h.before (row ∷ h.behind) ys; number_is = h.number_is }

after_some : {A : Type 0} (row : A) (xs ys : List A) (first next number : ℕ) → next ≡ first + length xs → Has ys next row number → Has (xs ++ ys) first row number
after_some row xs ys first next number e h =
    record {
      before = xs ++ h.before;
      behind = h.behind;
      whole = ap (λ y. xs ++ y) h.whole ∙ sym (append_assoc xs h.before (row ∷ h.behind));
      number_is = omega (arith, h.number_is, e, length-append xs h.before);
    }

mutual
  pub has_row : {tree inner : Tree} {s t : Standing} → Stands tree s inner t → Has (rows_from tree s.number s.parent s.place s.name) s.number (row_of inner t) t.number
  has_row (itself {tree = tree} {s = s}) = first tree
    where
      first : (tree : Tree) → Has (rows_from tree s.number s.parent s.place s.name) s.number (row_of tree s) s.number
      first (node kind place below) = record { before = []; behind = rows_below below (suc s.number) s.number 0; whole = refl; number_is = omega arith }
  has_row (inside {children = below} {s = s} {t = t} {inner = inner} w) =
      after_one _ (row_of inner t) (rows_below below (suc s.number) s.number 0) s.number t.number (has_below w)

  pub has_below : {children : Children} {inner : Tree} {m q p : ℕ} {t : Standing} → StandsBelow children m q p inner t → Has (rows_below children m q p) m (row_of inner t) t.number
  has_below (in_first {name = name} {tree = tree} {inner = inner} {more = more} {m = m} {q = q} {p = p} {t = t} w) =
      then_more (row_of inner t) (rows_from tree m (Some q) p name) (rows_below more (m + size tree) q (suc p)) m t.number (has_row w)
  has_below (in_later {name = name} {tree = tree} {inner = inner} {more = more} {m = m} {q = q} {p = p} {t = t} w) =
      after_some (row_of inner t) (rows_from tree m (Some q) p name) (rows_below more (m + size tree) q (suc p)) m (m + size tree) t.number
      (ap (λ n. m + n) (sym (size-length tree m (Some q) p name))) (has_below w)

mutual
  pub has_after : {tree inner : Tree} {s t : Standing} → Stands tree s inner t → Has (afters_from tree s.number) s.number (t.number + size inner) t.number
  has_after (itself {tree = tree} {s = s}) = first tree
    where
      first : (tree : Tree) → Has (afters_from tree s.number) s.number (s.number + size tree) s.number
      first (node kind place below) = record { before = []; behind = afters_below below (suc s.number); whole = refl; number_is = omega arith }
  has_after (inside {children = below} {s = s} {t = t} {inner = inner} w) =
      after_one _ (t.number + size inner) (afters_below below (suc s.number)) s.number t.number (has_after_below w)

  pub has_after_below : {children : Children} {inner : Tree} {m q p : ℕ} {t : Standing} → StandsBelow children m q p inner t → Has (afters_below children m) m (t.number + size inner) t.number
  has_after_below (in_first {tree = tree} {inner = inner} {more = more} {m = m} {t = t} w) =
      then_more (t.number + size inner) (afters_from tree m) (afters_below more (m + size tree)) m t.number (has_after w)
  has_after_below (in_later {tree = tree} {inner = inner} {more = more} {m = m} {t = t} w) =
      after_some (t.number + size inner) (afters_from tree m) (afters_below more (m + size tree)) m (m + size tree) t.number
      (ap (λ n. m + n) (sym (afters-length tree m))) (has_after_below w)

pub has_get : {A : Type 0} (xs : List A) (x : A) (number : ℕ) (d : A) → Has xs 0 x number → get_or xs number d ≡ x
has_get xs x number d h =
    ap (λ y. get_or y number d) h.whole
    ∙ ap (λ n. get_or (h.before ++ (x ∷ h.behind)) n d) (let e : number ≡ length h.before = omega (arith, h.number_is) in e)
    ∙ get_or-append_seam h.before x h.behind d

-- behind a node stands what its number and its size say
pub after_at : {tree inner : Tree} {t : Standing} → Stands tree root_standing inner t → get_or (afters tree) t.number 0 ≡ t.number + size inner
after_at {tree = tree} {inner = inner} {t = t} w = has_get (afters tree) (t.number + size inner) t.number 0 (has_after w)

mutual
  -- from a node on to what stands below it
  pub goes_on : {tree inner x : Tree} {s t u : Standing} → Stands tree s inner t → StandsBelow (children_of inner) (suc t.number) t.number 0 x u → Stands tree s x u
  goes_on (itself {tree = tree} {s = s}) b = under tree b
    where
      under : (tree : Tree) {x : Tree} {u : Standing} → StandsBelow (children_of tree) (suc s.number) s.number 0 x u → Stands tree s x u
      under (node kind place below) b = inside b
  goes_on (inside w) b = inside (goes_on_below w b)

  pub goes_on_below : {children : Children} {inner x : Tree} {m q p : ℕ} {t u : Standing} → StandsBelow children m q p inner t
      → StandsBelow (children_of inner) (suc t.number) t.number 0 x u → StandsBelow children m q p x u
  goes_on_below (in_first w) b = in_first (goes_on w b)
  goes_on_below (in_later w) b = in_later (goes_on_below w b)

-- The rows of a text stand in rising order of their starts.
use Rattle.std.proofs.Common.{◌≡◌, ℕ, zero, suc, ◌+◌, ◌<◌, ◌≤◌, List, [], ◌∷◌, ◌++◌, length, map, Option, None, Some, ap, subst, arith, get_or}
use Rattle.std.specs.List.Sorted.{IsStrictlyIncreasing}
use Rattle.jx_summary.specs.declared.span.Span.{Span}
use Rattle.jx_run.specs.Grammar.{Blanks, no_blanks, blank, Scalar, Value, leaf, empty_array, array, empty_object, object, Items, last_item, item, Members, last_member, member}
use Rattle.jx_run.specs.Text.{Document, document}
use Rattle.jx_run.specs.Tree.{Tree, Children}
use Rattle.jx_index.specs.declared.row.Row.{Row}
use Rattle.jx_index.specs.Rows.{size, rows_from, rows_below, rows}
use Rattle.jx_index.proofs.Tokens.{TokensAreRead}

-- the starts rise, none is below the first number, and each is below the second one
abbrev pub Rising : ℕ → List Row → ℕ → Type 0
Rising low [] high = low ≤ high
Rising low (row ∷ table) high = (low ≤ row.span.start) × Rising (suc row.span.start) table high

wider : (low less : ℕ) (table : List Row) (high more : ℕ) → less ≤ low → high ≤ more → Rising low table high → Rising less table more
wider low less [] high more h k r = omega arith
wider low less (row ∷ table) high more h k r = (omega (arith, r.0), wider (suc row.span.start) (suc row.span.start) table high more (omega arith) k r.1)

joined : (low : ℕ) (xs : List Row) (mid : ℕ) (ys : List Row) (high : ℕ) → Rising low xs mid → Rising mid ys high → Rising low (xs ++ ys) high
joined low [] mid ys high h k = wider mid low ys high high h (omega arith) k
joined low (row ∷ xs) mid ys high h k = (h.0, joined (suc row.span.start) xs mid ys high h.1 k)

blanks_on : {i j : ℕ} {t u : List ℕ} → Blanks i t j u → i ≤ j
blanks_on no_blanks = omega arith
blanks_on (blank h bs) = omega (arith, blanks_on bs)

scalar_on : TokensAreRead → {k : _} {i j : ℕ} {t u : List ℕ} → Scalar k i t j u → suc i ≤ j
scalar_on law {k = k} s = omega (arith, s.end, ap length (law.reads k s.token s.is_token).whole)

mutual
  value_rises : TokensAreRead → {i j : ℕ} {t u : List ℕ} {tree : Tree} → Value i t j u tree → (n : ℕ) (parent : Option ℕ) (place : ℕ) (name : Option Span) → Rising i (rows_from tree n parent place name) j
  value_rises law (leaf s) n parent place name = (omega arith, scalar_on law s)
  value_rises law (empty_array bs) n parent place name = (omega arith, omega (arith, blanks_on bs))
  value_rises law (array {i = i} {j = j} {children = below} xs) n parent place name = (omega arith, wider (suc i) (suc i) (rows_below below (suc n) n 0) j (suc j) (omega arith) (omega arith) (items_rise law xs (suc n) n 0))
  value_rises law (empty_object bs) n parent place name = (omega arith, omega (arith, blanks_on bs))
  value_rises law (object {i = i} {j = j} {children = below} xs) n parent place name = (omega arith, wider (suc i) (suc i) (rows_below below (suc n) n 0) j (suc j) (omega arith) (omega arith) (members_rise law xs (suc n) n 0))

  items_rise : TokensAreRead → {i j : ℕ} {t u : List ℕ} {below : Children} → Items i t j u below → (n parent place : ℕ) → Rising i (rows_below below n parent place) j
  items_rise law (last_item {i = i} {j = j} {k = k} {l = l} {tree = tree} bs v cs) n parent place =
      joined i (rows_from tree n (Some parent) place None) l [] l
      (wider j i (rows_from tree n (Some parent) place None) k l (blanks_on bs) (blanks_on cs) (value_rises law v n (Some parent) place None)) (omega arith)
  items_rise law (item {i = i} {j = j} {k = k} {l = l} {m = m} {tree = tree} {more = more} bs v cs xs) n parent place =
      joined i (rows_from tree n (Some parent) place None) (suc l) (rows_below more (n + size tree) parent (suc place)) m
      (wider j i (rows_from tree n (Some parent) place None) k (suc l) (blanks_on bs) (omega (arith, blanks_on cs)) (value_rises law v n (Some parent) place None))
      (items_rise law xs (n + size tree) parent (suc place))

  members_rise : TokensAreRead → {i j : ℕ} {t u : List ℕ} {below : Children} → Members i t j u below → (n parent place : ℕ) → Rising i (rows_below below n parent place) j
  members_rise law (last_member {i = i} {j = j} {k = k} {l = l} {m = m} {n = e} {o = o} {tree = tree} bs s cs ds v es) n parent place =
      joined i (rows_from tree n (Some parent) place (Some (record { start = j; end = k }))) o [] o
      (wider m i (rows_from tree n (Some parent) place (Some (record { start = j; end = k }))) e o (omega (arith, blanks_on bs, scalar_on law s, blanks_on cs, blanks_on ds)) (blanks_on es)
      (value_rises law v n (Some parent) place (Some (record { start = j; end = k })))) (omega arith)
  members_rise law (member {i = i} {j = j} {k = k} {l = l} {m = m} {n = e} {o = o} {p = p} {tree = tree} {more = more} bs s cs ds v es xs) n parent place =
      joined i (rows_from tree n (Some parent) place (Some (record { start = j; end = k }))) (suc o) (rows_below more (n + size tree) parent (suc place)) p
      (wider m i (rows_from tree n (Some parent) place (Some (record { start = j; end = k }))) e (suc o) (omega (arith, blanks_on bs, scalar_on law s, blanks_on cs, blanks_on ds)) (omega (arith, blanks_on es))
      (value_rises law v n (Some parent) place (Some (record { start = j; end = k }))))
      (members_rise law xs (n + size tree) parent (suc place))

rises : (low : ℕ) (table : List Row) (high : ℕ) → Rising low table high → IsStrictlyIncreasing (map (λ (row : Row). row.span.start) table)
rises low [] high h k l = absurd (omega arith)
rises low (row ∷ []) high h k l = absurd (omega arith)
rises low (row ∷ next ∷ table) high h zero l = omega (arith, h.1.0)
rises low (row ∷ next ∷ table) high h (suc k) l =
    let starts = map (λ (row : Row). row.span.start) table in
    let e : suc (k + 1) ≡ suc k + 1 = omega arith in
    subst (λ n. get_or (next.span.start ∷ starts) k 0 < get_or (row.span.start ∷ (next.span.start ∷ starts)) n 0) e
    (rises (suc row.span.start) (next ∷ table) high h.1 k (omega arith))

pub starts_rise : TokensAreRead → {start : ℕ} {bytes : List ℕ} {tree : Tree} → Document start bytes tree → IsStrictlyIncreasing (map (λ (row : Row). row.span.start) (rows tree))
starts_rise law {tree = tree} (document {i = i} {j = j} {k = k} {l = l} bs v cs) = rises j (rows tree) k (value_rises law v 0 None 0 None)

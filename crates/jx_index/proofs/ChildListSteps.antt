-- The children of one row more.
use Rattle.std.proofs.Common.{◌≡◌, ℕ, zero, suc, ◌+◌, ◌-◌, ◌<◌, ◌≤◌, List, [], ◌∷◌, ◌++◌, length, take, drop, refl, sym, ap, subst, ◌∙◌, arith, get_or, inl, inr, ◌⊎◌}
use Rattle.std.specs.Prelude.{slice_index, slice_range}
use Rattle.std.proofs.lemmas.List.{length-append, take-append-le}
use Rattle.std.proofs.Math.Seq.{get_or-append_seam, drop-append_seam, take-length}
use Rattle.jx_index.specs.declared.row.Row.{Row}
use Rattle.jx_index.specs.Names.{IsInNameOrder}
use Rattle.jx_index.specs.ChildLists.{child_list, HasChildList, HaveChildLists}
use Rattle.jx_index.specs.Nodes.{IsArrayAt, IsObjectAt}
use Rattle.jx_index.specs.Walk.{walk_children}

get_or-append_front : (xs ys : List ℕ) (i : ℕ) → i < length xs → get_or (xs ++ ys) i 0 ≡ get_or xs i 0
get_or-append_front [] ys i h = absurd (omega arith)
get_or-append_front (x ∷ xs) ys zero h = refl
get_or-append_front (x ∷ xs) ys (suc i) h = get_or-append_front xs ys i (omega arith)

slice_range-append_front : (xs ys : List ℕ) (a b : ℕ) → a ≤ b → b ≤ length xs → slice_range (xs ++ ys) a b ≡ slice_range xs a b
slice_range-append_front xs ys zero b h k =
    let e : b - 0 ≡ b = omega arith in
    ap (λ n. take n (xs ++ ys)) e ∙ take-append-le b xs ys k ∙ sym (ap (λ n. take n xs) e)
slice_range-append_front [] ys (suc a) b h k = absurd (omega arith)
slice_range-append_front (x ∷ xs) ys (suc a) b h k =
    let e : b - suc a ≡ (b - 1) - a = omega arith in
    ap (λ n. take n (drop a (xs ++ ys))) e ∙ slice_range-append_front xs ys a (b - 1) (omega arith) (omega arith) ∙ sym (ap (λ n. take n (drop a xs)) e)

slice_range-append_back : (xs ys : List ℕ) → slice_range (xs ++ ys) (length xs) (length (xs ++ ys)) ≡ ys
slice_range-append_back xs ys =
    let e : length (xs ++ ys) - length xs ≡ length ys = omega (arith, length-append xs ys) in
    ap (λ n. take n (drop (length xs) (xs ++ ys))) e ∙ ap (take (length ys)) (drop-append_seam xs ys) ∙ take-length ys

module _ (text : List ℕ) (rows : List Row) (after starts children list : List ℕ) (n next : ℕ) (long : length starts ≡ n + 1) where
  pub list_kept : (k : ℕ) → k < n → HasChildList text rows after starts children k → child_list starts children k ≡ child_list (starts ++ (next ∷ [])) (children ++ list) k
  list_kept k h p =
      let a : slice_index (starts ++ (next ∷ [])) k ≡ slice_index starts k = get_or-append_front starts (next ∷ []) k (omega arith) in
      let b : slice_index (starts ++ (next ∷ [])) (k + 1) ≡ slice_index starts (k + 1) = get_or-append_front starts (next ∷ []) (k + 1) (omega arith) in
      let o = p.ordered in
      let w = p.within in
      sym (slice_range-append_front children list (slice_index starts k) (slice_index starts (k + 1)) o w)
      ∙ ap (λ x. slice_range (children ++ list) x (slice_index starts (k + 1))) (sym a)
      ∙ ap (λ x. slice_range (children ++ list) (slice_index (starts ++ (next ∷ [])) k) x) (sym b)

  kept : (k : ℕ) → k < n → HasChildList text rows after starts children k → HasChildList text rows after (starts ++ (next ∷ [])) (children ++ list) k
  kept k h p =
      let a : slice_index (starts ++ (next ∷ [])) k ≡ slice_index starts k = get_or-append_front starts (next ∷ []) k (omega arith) in
      let b : slice_index (starts ++ (next ∷ [])) (k + 1) ≡ slice_index starts (k + 1) = get_or-append_front starts (next ∷ []) (k + 1) (omega arith) in
      let o = p.ordered in
      let w = p.within in
      let same = list_kept k h p in
      record {
        ordered = omega arith;
        within = omega (arith, length-append children list);
        by_name = λ o. subst (IsInNameOrder text rows (walk_children after k)) same (p.by_name o);
        by_place = λ o. sym same ∙ p.by_place o;
      }

  last_start : slice_index (starts ++ (next ∷ [])) (n + 1) ≡ next
  last_start = ap (λ x. get_or (starts ++ (next ∷ [])) x 0) (sym long) ∙ get_or-append_seam starts next [] 0

  pub list_added : slice_index starts n ≡ length children → next ≡ length (children ++ list) → list ≡ child_list (starts ++ (next ∷ [])) (children ++ list) n
  list_added l e =
      let a : slice_index (starts ++ (next ∷ [])) n ≡ length children = get_or-append_front starts (next ∷ []) n (omega arith) ∙ l in
      let b : slice_index (starts ++ (next ∷ [])) (n + 1) ≡ length (children ++ list) = last_start ∙ e in
      sym (slice_range-append_back children list)
      ∙ ap (λ x. slice_range (children ++ list) x (length (children ++ list))) (sym a)
      ∙ ap (λ x. slice_range (children ++ list) (slice_index (starts ++ (next ∷ [])) n) x) (sym b)

  added : slice_index starts n ≡ length children → next ≡ length (children ++ list)
      → (IsObjectAt rows n → IsInNameOrder text rows (walk_children after n) list) → (IsArrayAt rows n → list ≡ walk_children after n)
      → HasChildList text rows after (starts ++ (next ∷ [])) (children ++ list) n
  added l e named placed =
      let a : slice_index (starts ++ (next ∷ [])) n ≡ length children = get_or-append_front starts (next ∷ []) n (omega arith) ∙ l in
      let b : slice_index (starts ++ (next ∷ [])) (n + 1) ≡ length (children ++ list) = last_start ∙ e in
      let same = list_added l e in
      record {
        ordered = omega (arith, length-append children list);
        within = omega arith;
        by_name = λ o. subst (IsInNameOrder text rows (walk_children after n)) same (named o);
        by_place = λ o. sym same ∙ placed o;
      }

  last_or : (k : ℕ) → k < n + 1 → (k ≡ n) ⊎ (k < n)
  last_or k h = le k n (omega arith)
    where
      le : (a b : ℕ) → a ≤ b → (a ≡ b) ⊎ (a < b)
      le zero zero l = inl refl
      le zero (suc b) l = inr (omega arith)
      le (suc a) zero l = absurd (omega arith)
      le (suc a) (suc b) l = elim (le a b (omega arith)) [ inl e ↦ inl (omega arith) | inr h ↦ inr (omega arith) ]

  pub child_lists_more : slice_index starts n ≡ length children → next ≡ length (children ++ list) → HaveChildLists text rows after starts children n
      → (IsObjectAt rows n → IsInNameOrder text rows (walk_children after n) list) → (IsArrayAt rows n → list ≡ walk_children after n)
      → HaveChildLists text rows after (starts ++ (next ∷ [])) (children ++ list) (n + 1)
  child_lists_more l e all named placed k h =
      elim (last_or k h) [
        | inl same ↦ subst (HasChildList text rows after (starts ++ (next ∷ [])) (children ++ list)) (sym same) (added l e named placed)
        | inr less ↦ kept k less (all k less)
      ]

  pub start_more : slice_index (starts ++ (next ∷ [])) (n + 1) ≡ next
  start_more = last_start

-- what the lists up to a row are, after a step
pub record HasStarts (text : List ℕ) (rows : List Row) (after starts children : List ℕ) (n : ℕ) : Type 0 where
  pub starts_long : length starts ≡ n + 1
  pub last : slice_index starts n ≡ length children
  pub lists : HaveChildLists text rows after starts children n

pub has_more : (text : List ℕ) (rows : List Row) (after starts children list : List ℕ) (n next : ℕ) (starts' children' : List ℕ)
    → length starts ≡ n + 1 → slice_index starts n ≡ length children → HaveChildLists text rows after starts children n
    → starts' ≡ starts ++ (next ∷ []) → children' ≡ children ++ list → next ≡ length children'
    → (IsObjectAt rows n → IsInNameOrder text rows (walk_children after n) list) → (IsArrayAt rows n → list ≡ walk_children after n)
    → HasStarts text rows after starts' children' (n + 1)
has_more text rows after starts children list n next starts' children' long l all es em en named placed =
    let e : next ≡ length (children ++ list) = en ∙ ap length em in
    subst (λ x. HasStarts text rows after x children' (n + 1)) (sym es)
    (subst (λ x. HasStarts text rows after (starts ++ (next ∷ [])) x (n + 1)) (sym em)
    (record {
      starts_long = omega (arith, length-append starts (next ∷ []));
      last = start_more text rows after starts children list n next long ∙ e;
      lists = child_lists_more text rows after starts children list n next long l e all named placed;
    }))

-- The values of a text, read once more in its compact form.
use Rattle.std.proofs.Common.{◌≡◌, ℕ, suc, ◌+◌, ◌-◌, ◌<◌, ◌≤◌, ◌∙◌, List, [], ◌∷◌, ◌++◌, length, take, drop, add-one, ap, sym, subst, refl, arith}
use Rattle.std.specs.Prelude.{Some, None, max, slice_range}
use Rattle.std.proofs.lemmas.List.{drop-drop}
use Rattle.std.proofs.Math.Seq.{drop-append_seam, take-append_seam}
use Rattle.jx_lex.specs.declared.kind.Kind.{Kind}
use Rattle.jx_lex.specs.declared.kind.Kind.TheVariants.{Object, Array, String, Number, True, False, Null}
use Rattle.jx_lex.specs.Token.{IsBlank, space, tab, line_feed, carriage_return}
use Rattle.jx_run.specs.Grammar.{Blanks, no_blanks, blank, Scalar, Value, leaf, empty_array, array, empty_object, object, Items, last_item, item, Members, last_member, member}
use Rattle.jx_run.specs.Text.{Document, document, IsDocument}
use Rattle.jx_run.specs.Tree.{Tree, node, Children, no_children, child, deepest, depth, span}
use Rattle.jx_compact.specs.declared.place.Place.{Place}
use Rattle.jx_compact.specs.declared.place.Place.TheVariants.{Between}
use Rattle.jx_compact.specs.Compact.{compact, compact_from, place_behind}
use Rattle.jx_compact.proofs.Compacts.{goes_on}
use Rattle.jx_values.specs.Alike.{AreAlike, AreAllAlike, SameScalar}
use Rattle.jx_each.proofs.Stays.{Stays, above, none_between, token_stays}

-- the bytes stand at an offset of one text, and their compact form at an offset of the other
record Stands (xs ys : List ℕ) (i k : ℕ) (bytes : List ℕ) : Type 0 where
  here : bytes ≡ drop i xs
  there : compact bytes ≡ drop k ys

kept_front : (w rest : List ℕ) → Stays Between w → compact (w ++ rest) ≡ w ++ compact rest
kept_front w rest s =
    goes_on Between w rest
    ∙ ap (λ (f : List ℕ). f ++ compact_from (place_behind Between w) rest) s.form
    ∙ ap (λ (p : Place). w ++ compact_from p rest) s.behind

shift : (xs ys : List ℕ) (i k : ℕ) (w rest : List ℕ) → Stays Between w → Stands xs ys i k (w ++ rest) → Stands xs ys (i + length w) (k + length w) rest
shift xs ys i k w rest s p = record {
  here = sym (drop-append_seam w rest) ∙ ap (λ (l : List ℕ). drop (length w) l) p.here ∙ drop-drop (length w) i xs;
  there = sym (drop-append_seam w (compact rest)) ∙ ap (λ (l : List ℕ). drop (length w) l) (sym (kept_front w rest s) ∙ p.there) ∙ drop-drop (length w) k ys;
}

step : (xs ys : List ℕ) (i k b : ℕ) (rest : List ℕ) → 0x22 < b → Stands xs ys i k (b ∷ rest) → Stands xs ys (suc i) (suc k) rest
step xs ys i k b rest h p =
    subst (λ (n : ℕ). Stands xs ys (suc i) n rest) (add-one k)
    (subst (λ (n : ℕ). Stands xs ys n (k + 1) rest) (add-one i) (shift xs ys i k (b ∷ []) rest (above b [] h none_between) p))

-- ---- blanks

one_blank : {b : ℕ} → IsBlank b → (bytes : List ℕ) → compact (b ∷ bytes) ≡ compact bytes
one_blank space bytes = refl
one_blank tab bytes = refl
one_blank line_feed bytes = refl
one_blank carriage_return bytes = refl

behind_one : (xs : List ℕ) (i b : ℕ) (bytes : List ℕ) → (b ∷ bytes) ≡ drop i xs → bytes ≡ drop (suc i) xs
behind_one xs i b bytes e = ap (λ (l : List ℕ). drop 1 l) e ∙ drop-drop 1 i xs ∙ ap (λ (n : ℕ). drop n xs) (add-one i)

record Passed (xs ys : List ℕ) (k : ℕ) (bytes : List ℕ) (j : ℕ) (rest : List ℕ) : Type 0 where
  same : compact bytes ≡ compact rest
  left : Stands xs ys j k rest

blanks_pass : (xs ys : List ℕ) {i j : ℕ} {bytes rest : List ℕ} → Blanks i bytes j rest → (k : ℕ) → Stands xs ys i k bytes → Passed xs ys k bytes j rest
blanks_pass xs ys no_blanks k p = record { same = refl; left = p }
blanks_pass xs ys (blank {b = b} {i = i} {bytes = bytes} is more) k p =
    let behind : Stands xs ys (suc i) k bytes = record { here = behind_one xs i b bytes p.here; there = sym (one_blank is bytes) ∙ p.there } in
    let q = blanks_pass xs ys more k behind in
    record { same = one_blank is bytes ∙ q.same; left = q.left }

passed : (k : ℕ) (bytes rest : List ℕ) → bytes ≡ rest → Blanks k bytes k rest
passed k bytes rest e = subst (λ (b : List ℕ). Blanks k b k rest) (sym e) no_blanks

-- ---- scalars

slice_is : (text : List ℕ) (i j : ℕ) (w rest : List ℕ) → w ++ rest ≡ drop i text → j ≡ i + length w → slice_range text i j ≡ w
slice_is text i j w rest h e =
    let long : j - i ≡ length w = omega (arith, e) in
    ap (λ (n : ℕ). take n (drop i text)) long ∙ sym (ap (λ (l : List ℕ). take (length w) l) h) ∙ take-append_seam w rest

record ScalarCopy (xs ys : List ℕ) (kind : Kind) (i k : ℕ) (bytes : List ℕ) (j : ℕ) (rest : List ℕ) : Type 0 where
  end : ℕ
  reads : Scalar kind k (compact bytes) end (compact rest)
  same : slice_range xs i j ≡ slice_range ys k end
  left : Stands xs ys j end rest

scalar_copy : (xs ys : List ℕ) (kind : Kind) (i : ℕ) (bytes : List ℕ) (j : ℕ) (rest : List ℕ) → Scalar kind i bytes j rest → (k : ℕ) → Stands xs ys i k bytes
    → ScalarCopy xs ys kind i k bytes j rest
scalar_copy xs ys kind i bytes j rest s k p =
    let w : List ℕ = s.token in
    let stays : Stays Between w = token_stays kind w s.is_token in
    let q : Stands xs ys i k (w ++ rest) = subst (λ (b : List ℕ). Stands xs ys i k b) s.whole p in
    record {
      end = k + length w;
      reads = record { token = w; is_token = s.is_token; whole = ap compact s.whole ∙ kept_front w rest stays; end = refl };
      same = slice_is xs i j w rest q.here s.end ∙ sym (slice_is ys k (k + length w) w (compact rest) (sym (kept_front w rest stays) ∙ q.there) refl);
      left = subst (λ (n : ℕ). Stands xs ys n (k + length w) rest) (sym s.end) (shift xs ys i k w rest stays q);
    }

same_scalar : (kind : Kind) {a b : List ℕ} → a ≡ b → SameScalar kind a b
same_scalar Object e = tt
same_scalar Array e = tt
same_scalar String e = e
same_scalar Number e = e
same_scalar True e = e
same_scalar False e = e
same_scalar Null e = e

-- ---- values

record ValueCopy (xs ys : List ℕ) (k : ℕ) (bytes : List ℕ) (j : ℕ) (rest : List ℕ) (tree : Tree) : Type 0 where
  end : ℕ
  other : Tree
  reads : Value k (compact bytes) end (compact rest) other
  alike : AreAlike xs ys tree other
  deep : depth other ≡ depth tree
  left : Stands xs ys j end rest

record ItemsCopy (xs ys : List ℕ) (k : ℕ) (bytes : List ℕ) (j : ℕ) (rest : List ℕ) (children : Children) : Type 0 where
  end : ℕ
  others : Children
  reads : Items k (compact bytes) end (compact rest) others
  alike : AreAllAlike xs ys children others
  deep : deepest others ≡ deepest children
  left : Stands xs ys j end rest

record MembersCopy (xs ys : List ℕ) (k : ℕ) (bytes : List ℕ) (j : ℕ) (rest : List ℕ) (children : Children) : Type 0 where
  end : ℕ
  others : Children
  reads : Members k (compact bytes) end (compact rest) others
  alike : AreAllAlike xs ys children others
  deep : deepest others ≡ deepest children
  left : Stands xs ys j end rest

mutual
  value_copy : (xs ys : List ℕ) {i j : ℕ} {bytes rest : List ℕ} {tree : Tree} → Value i bytes j rest tree → (k : ℕ) → Stands xs ys i k bytes
      → ValueCopy xs ys k bytes j rest tree
  value_copy xs ys (leaf {kind = kind} {i = i} {j = j} {bytes = bytes} {rest = rest} s) k p =
      let s_copy = scalar_copy xs ys kind i bytes j rest s k p in
      record {
        end = s_copy.end;
        other = node kind (span k s_copy.end) no_children;
        reads = leaf s_copy.reads;
        alike = (refl, same_scalar kind s_copy.same, tt);
        deep = refl;
        left = s_copy.left;
      }
  value_copy xs ys (empty_array {i = i} {j = j} {bytes = bytes} {rest = rest} blanks) k p =
      let q = blanks_pass xs ys blanks (suc k) (step xs ys i k 0x5b bytes (omega arith) p) in
      record {
        end = suc (suc k);
        other = node Array (span k (suc (suc k))) no_children;
        reads = empty_array (passed (suc k) (compact bytes) (0x5d ∷ compact rest) q.same);
        alike = (refl, tt, tt);
        deep = refl;
        left = step xs ys j (suc k) 0x5d rest (omega arith) q.left;
      }
  value_copy xs ys (array {i = i} {j = j} {bytes = bytes} {rest = rest} items) k p =
      let q = items_copy xs ys items (suc k) (step xs ys i k 0x5b bytes (omega arith) p) in
      record {
        end = suc q.end;
        other = node Array (span k (suc q.end)) q.others;
        reads = array q.reads;
        alike = (refl, tt, q.alike);
        deep = ap suc q.deep;
        left = step xs ys j q.end 0x5d rest (omega arith) q.left;
      }
  value_copy xs ys (empty_object {i = i} {j = j} {bytes = bytes} {rest = rest} blanks) k p =
      let q = blanks_pass xs ys blanks (suc k) (step xs ys i k 0x7b bytes (omega arith) p) in
      record {
        end = suc (suc k);
        other = node Object (span k (suc (suc k))) no_children;
        reads = empty_object (passed (suc k) (compact bytes) (0x7d ∷ compact rest) q.same);
        alike = (refl, tt, tt);
        deep = refl;
        left = step xs ys j (suc k) 0x7d rest (omega arith) q.left;
      }
  value_copy xs ys (object {i = i} {j = j} {bytes = bytes} {rest = rest} members) k p =
      let q = members_copy xs ys members (suc k) (step xs ys i k 0x7b bytes (omega arith) p) in
      record {
        end = suc q.end;
        other = node Object (span k (suc q.end)) q.others;
        reads = object q.reads;
        alike = (refl, tt, q.alike);
        deep = ap suc q.deep;
        left = step xs ys j q.end 0x7d rest (omega arith) q.left;
      }

  items_copy : (xs ys : List ℕ) {i j : ℕ} {bytes rest : List ℕ} {children : Children} → Items i bytes j rest children → (k : ℕ) → Stands xs ys i k bytes
      → ItemsCopy xs ys k bytes j rest children
  items_copy xs ys (last_item {t0 = t0} {t1 = t1} {t2 = t2} {rest = rest} {tree = tree} before value behind) k p =
      let a = blanks_pass xs ys before k p in
      let v = value_copy xs ys value k a.left in
      let b = blanks_pass xs ys behind v.end v.left in
      record {
        end = v.end;
        others = child None v.other no_children;
        reads = last_item (passed k (compact t0) (compact t1) a.same) v.reads (passed v.end (compact t2) (compact rest) b.same);
        alike = (tt, v.alike, tt);
        deep = ap (λ (n : ℕ). max n 0) v.deep;
        left = b.left;
      }
  items_copy xs ys (item {l = l} {t0 = t0} {t1 = t1} {t2 = t2} {t3 = t3} {rest = rest} {tree = tree} {more = more} before value behind others) k p =
      let a = blanks_pass xs ys before k p in
      let v = value_copy xs ys value k a.left in
      let b = blanks_pass xs ys behind v.end v.left in
      let q = items_copy xs ys others (suc v.end) (step xs ys l v.end 0x2c t3 (omega arith) b.left) in
      record {
        end = q.end;
        others = child None v.other q.others;
        reads = item (passed k (compact t0) (compact t1) a.same) v.reads (passed v.end (compact t2) (0x2c ∷ compact t3) b.same) q.reads;
        alike = (tt, v.alike, q.alike);
        deep = ap (λ (n : ℕ). max n (deepest q.others)) v.deep ∙ ap (λ (n : ℕ). max (depth tree) n) q.deep;
        left = q.left;
      }

  members_copy : (xs ys : List ℕ) {i j : ℕ} {bytes rest : List ℕ} {children : Children} → Members i bytes j rest children → (k : ℕ) → Stands xs ys i k bytes
      → MembersCopy xs ys k bytes j rest children
  members_copy xs ys (last_member {j = j} {k = e} {l = l} {t0 = t0} {t1 = t1} {t2 = t2} {t3 = t3} {t4 = t4} {t5 = t5} {rest = rest} {tree = tree} before name mid then value behind) k p =
      let a = blanks_pass xs ys before k p in
      let n = scalar_copy xs ys String j t1 e t2 name k a.left in
      let c = blanks_pass xs ys mid n.end n.left in
      let d = blanks_pass xs ys then (suc n.end) (step xs ys l n.end 0x3a t3 (omega arith) c.left) in
      let v = value_copy xs ys value (suc n.end) d.left in
      let b = blanks_pass xs ys behind v.end v.left in
      record {
        end = v.end;
        others = child (Some (span k n.end)) v.other no_children;
        reads =
            last_member (passed k (compact t0) (compact t1) a.same) n.reads (passed n.end (compact t2) (0x3a ∷ compact t3) c.same)
            (passed (suc n.end) (compact t3) (compact t4) d.same) v.reads (passed v.end (compact t5) (compact rest) b.same);
        alike = (n.same, v.alike, tt);
        deep = ap (λ (m : ℕ). max m 0) v.deep;
        left = b.left;
      }
  members_copy xs ys (member {j = j} {k = e} {l = l} {o = o} {t0 = t0} {t1 = t1} {t2 = t2} {t3 = t3} {t4 = t4} {t5 = t5} {t6 = t6} {rest = rest} {tree = tree} {more = more} before name mid then value behind others) k p =
      let a = blanks_pass xs ys before k p in
      let n = scalar_copy xs ys String j t1 e t2 name k a.left in
      let c = blanks_pass xs ys mid n.end n.left in
      let d = blanks_pass xs ys then (suc n.end) (step xs ys l n.end 0x3a t3 (omega arith) c.left) in
      let v = value_copy xs ys value (suc n.end) d.left in
      let b = blanks_pass xs ys behind v.end v.left in
      let q = members_copy xs ys others (suc v.end) (step xs ys o v.end 0x2c t6 (omega arith) b.left) in
      record {
        end = q.end;
        others = child (Some (span k n.end)) v.other q.others;
        reads =
            member (passed k (compact t0) (compact t1) a.same) n.reads (passed n.end (compact t2) (0x3a ∷ compact t3) c.same)
            (passed (suc n.end) (compact t3) (compact t4) d.same) v.reads (passed v.end (compact t5) (0x2c ∷ compact t6) b.same) q.reads;
        alike = (n.same, v.alike, q.alike);
        deep = ap (λ (m : ℕ). max m (deepest q.others)) v.deep ∙ ap (λ (m : ℕ). max (depth tree) m) q.deep;
        left = q.left;
      }

-- ---- texts

pub reads_alike : (bytes : List ℕ) (limit : ℕ) (tree : Tree) → IsDocument 0 bytes limit tree
    → (other : Tree) × IsDocument 0 (compact bytes) limit other × AreAlike bytes (compact bytes) tree other
reads_alike bytes limit tree d = of_document bytes tree d.reads d.within
  where
    of_document : (b : List ℕ) (t : Tree) → Document 0 b t → depth t ≤ limit → (other : Tree) × IsDocument 0 (compact b) limit other × AreAlike b (compact b) t other
    of_document b t (document {t1 = t1} {t2 = t2} before value behind) low =
        let a = blanks_pass b (compact b) before 0 (record { here = refl; there = refl }) in
        let v = value_copy b (compact b) value 0 a.left in
        let c = blanks_pass b (compact b) behind v.end v.left in (
          v.other,
          record { reads = document (passed 0 (compact b) (compact t1) a.same) v.reads (passed v.end (compact t2) [] c.same); within = subst (λ (n : ℕ). n ≤ limit) (sym v.deep) low },
          v.alike,
        )

-- The joined run is the summary of the joined bytes.
use Rattle.std.proofs.Common.{◌≡◌, ℕ, ◌+◌, ◌<◌, List, [], ◌∷◌, ◌++◌, length, Option, None, Some, refl, sym, ap, subst, ◌∙◌}
use Rattle.std.specs.List.{AllZip}
use Rattle.std.proofs.lemmas.List.{append_assoc}
use Rattle.std.proofs.lemmas.List.Elements.{filter-append}
use Rattle.jx_summary.specs.declared.span.Span.{Span}
use Rattle.jx_run.specs.Elements.{Part, part, before_separator, after_separators, filled, has_bytes}
use Rattle.jx_run.specs.Parted.{MarkedValue, PartedValue, Meaning, IsMarked, IsSummary, last_piece}
use Rattle.jx_run.specs.inside.PartedJoins.{IsClosed, IsPartedJoin}
use Rattle.jx_run.specs.Tree.{span}
use Rattle.jx_run.proofs.Parts.{unmarked-before, unmarked-before-append, unmarked-after-append, last-before-append, longer, marked-after-append, last-ends}

pub AllZip-append : {A B : Type 0} (R : A → B → Type 0) (xs ys : List A) (vs ws : List B) → AllZip R xs vs → AllZip R ys ws → AllZip R (xs ++ ys) (vs ++ ws)
AllZip-append R [] ys [] ws h k = k
AllZip-append R [] ys (v ∷ vs) ws h k = absurd h
AllZip-append R (x ∷ xs) ys [] ws h k = absurd h
AllZip-append R (x ∷ xs) ys (v ∷ vs) ws h k = (h.0, AllZip-append R xs ys vs ws h.1 k)

pub filled-middle : (ls : List Part) (p : Part) (rs : List Part) → filled (ls ++ p ∷ rs) ≡ filled ls ++ (filled (p ∷ []) ++ filled rs)
filled-middle ls p rs =
    filter-append has_bytes ls (p ∷ rs)
    ∙ ap (λ ps. filled ls ++ ps) (filter-append has_bytes (p ∷ []) rs)

-- a piece stands over as many bytes as it is of
abbrev pub IsLong : {P F : Type 0} → Meaning P F → Type 0
IsLong {P} m = (bytes : List ℕ) (piece : P) → m.is_of piece bytes → (m.span piece).end ≡ (m.span piece).start + length bytes

module _ {P F : Type 0} (m : Meaning P F) (long : IsLong m) where
  abbrev pub Joins : P → P → P → Type 0
  Joins l r j = (xs ys : List ℕ) → m.is_of l xs → m.is_of r ys → m.is_of j (xs ++ ys)

  abbrev start : P → ℕ
  start piece = (m.span piece).start

  abbrev end : P → ℕ
  end piece = (m.span piece).end

  -- ---- where the right begins

  plain_place : (l r : P) (xs : List ℕ) → m.is_of l xs → end l ≡ start r → start l + length xs ≡ start r
  plain_place l r xs h e = sym (long xs l h) ∙ e

  marked_place : (b : P) (v : MarkedValue P F) (r : P) (xs : List ℕ) → IsMarked m (m.depth b) (after_separators (start b) xs) v
      → end v.after ≡ start r → start b + length xs ≡ start r
  marked_place b v r xs h e =
      sym (last-ends xs (start b) h.between h.last h.parts) ∙ ap (λ n. n + length h.last.bytes) (sym h.start) ∙ sym (long h.last.bytes v.after h.after) ∙ e

  -- ---- a left side without separators

  joined_plain : (l r j : P) (v : Option (MarkedValue P F)) → end l ≡ start r → start j ≡ start l → m.depth j ≡ m.depth l → m.depth l ≡ m.depth r
      → Joins l r j → (xs ys : List ℕ) → IsSummary m xs l None → IsSummary m ys r v → IsSummary m (xs ++ ys) j v
  joined_plain l r j v mid first jl lr of xs ys h k = pick v k
    where
      after : after_separators (start j) (xs ++ ys) ≡ after_separators (start r) ys
      after =
          ap (λ n. after_separators n (xs ++ ys)) first
          ∙ unmarked-after-append xs ys (start l) h.0
          ∙ ap (λ n. after_separators n ys) (plain_place l r xs h.1 mid)

      pick : (v : Option (MarkedValue P F)) → IsSummary m ys r v → IsSummary m (xs ++ ys) j v
      pick None k = (after ∙ k.0, of xs ys h.1 k.1)
      pick (Some v) k = (
        subst (λ t. m.is_of j t) (sym (unmarked-before-append xs ys (start l) h.0)) (of xs (before_separator ys) h.1 k.0),
        subst (λ n. IsMarked m n (after_separators (start j) (xs ++ ys)) v) (sym (jl ∙ lr)) (subst (λ ps. IsMarked m (m.depth r) ps v) (sym after) k.1),
      )

  -- ---- a right side without separators

  joined_last : (b : P) (v : MarkedValue P F) (r j : P) → end v.after ≡ start r → start j ≡ start v.after
      → m.depth j ≡ m.depth v.after → Joins v.after r j → (xs ys : List ℕ) → IsSummary m xs b (Some v) → IsSummary m ys r None
      → IsSummary m (xs ++ ys) b (Some (record { done = v.done; after = j }))
  joined_last b v r j mid first jl of xs ys h k =
      let hm = h.1 in (
        subst (λ t. m.is_of b t) (sym (last-before-append xs ys (start b) hm.between hm.last hm.parts)) h.0,
        record {
          between = hm.between;
          last = longer hm.last (before_separator ys);
          parts =
              marked-after-append xs ys (start b) hm.between hm.last hm.parts
              ∙ ap (λ ps. hm.between ++ longer hm.last (before_separator ys) ∷ ps) (ap (λ n. after_separators n ys) (marked_place b v r xs hm mid) ∙ k.0);
          done = hm.done;
          marked = hm.marked;
          start = first ∙ hm.start;
          depth = jl ∙ hm.depth;
          after = of hm.last.bytes (before_separator ys) hm.after (subst (λ t. m.is_of r t) (sym (unmarked-before ys (start r) k.0)) k.1);
        },
      )

  -- ---- separators on both sides

  joined_marked : (b : P) (l : MarkedValue P F) (mid : P) (r : MarkedValue P F) (done : List F)
      → end l.after ≡ start mid → m.depth l.after ≡ m.depth b → m.depth l.after ≡ m.depth mid → IsClosed m l.done l.after mid r.done done
      → (xs ys : List ℕ) → IsSummary m xs b (Some l) → IsSummary m ys mid (Some r) → IsSummary m (xs ++ ys) b (Some (record { done = done; after = r.after }))
  joined_marked b l mid r done meet lb lm closed xs ys h k =
      let hm = h.1 in
      let km = k.1 in
      let p : Part = longer hm.last (before_separator ys) in
      let R = m.is_finished (m.depth b) in
      let deep : m.depth mid ≡ m.depth b = sym lm ∙ lb in
      let right : AllZip R (filled km.between) r.done = subst (λ n. AllZip (m.is_finished n) (filled km.between) r.done) deep km.done in
      let middle : AllZip R (filled (p ∷ [])) closed.middle =
      subst (λ n. AllZip (m.is_finished n) (filled (p ∷ [])) closed.middle) lb
      (subst (λ n. AllZip (m.is_finished (m.depth l.after)) (filled (part n (hm.last.bytes ++ before_separator ys) ∷ [])) closed.middle) hm.start
      (closed.of hm.last.bytes (before_separator ys) (subst (λ n. 0 < n) (sym hm.start) hm.marked) hm.after k.0)) in (
        subst (λ t. m.is_of b t) (sym (last-before-append xs ys (start b) hm.between hm.last hm.parts)) h.0,
        record {
          between = hm.between ++ p ∷ km.between;
          last = km.last;
          parts =
              marked-after-append xs ys (start b) hm.between hm.last hm.parts
              ∙ ap (λ ps. hm.between ++ p ∷ ps) (ap (λ n. after_separators n ys) (marked_place b l mid xs hm meet) ∙ km.parts)
              ∙ sym (append_assoc hm.between (p ∷ km.between) (km.last ∷ []));
          done =
              subst (λ ps. AllZip R ps done) (sym (filled-middle hm.between p km.between))
              (subst (AllZip R (filled hm.between ++ (filled (p ∷ []) ++ filled km.between))) (sym closed.joined_are)
              (AllZip-append R (filled hm.between) (filled (p ∷ []) ++ filled km.between) l.done (closed.middle ++ r.done) hm.done
              (AllZip-append R (filled (p ∷ [])) (filled km.between) closed.middle r.done middle right)));
          marked = km.marked;
          start = km.start;
          depth = km.depth ∙ deep;
          after = km.after;
        },
      )

  -- ---- joined runs

  pub plain_joins : (l : P) (right : PartedValue P F) (j : P) → end l ≡ start right.before → m.depth l ≡ m.depth right.before
      → m.span j ≡ span (start l) (end right.before) → m.depth j ≡ m.depth l → Joins l right.before j
      → IsPartedJoin m (record { before = l; marked = None }) right (record { before = j; marked = right.marked })
  plain_joins l right j mid lr place jl of =
      record {
        span = ap (λ n. span n (end (last_piece j right.marked))) (ap (λ (s : Span). s.start) place) ∙ ap (span (start l)) (ends right.marked);
        depth = jl;
        of = joined_plain l right.before j right.marked mid (ap (λ (s : Span). s.start) place) jl lr of;
      }
    where
      ends : (v : Option (MarkedValue P F)) → end (last_piece j v) ≡ end (last_piece right.before v)
      ends None = ap (λ (s : Span). s.end) place
      ends (Some v) = refl

  pub last_joins : (b : P) (v : MarkedValue P F) (r j : P) → end v.after ≡ start r → m.span j ≡ span (start v.after) (end r)
      → m.depth j ≡ m.depth v.after → Joins v.after r j
      → IsPartedJoin m (record { before = b; marked = Some v }) (record { before = r; marked = None }) (record { before = b; marked = Some (record { done = v.done; after = j }) })
  last_joins b v r j mid place jl of =
      record {
        span = ap (span (start b)) (ap (λ (s : Span). s.end) place);
        depth = refl;
        of = joined_last b v r j mid (ap (λ (s : Span). s.start) place) jl of;
      }

  pub marked_joins : (b : P) (l : MarkedValue P F) (mid : P) (r : MarkedValue P F) (done : List F) → end l.after ≡ start mid
      → m.depth l.after ≡ m.depth b → m.depth l.after ≡ m.depth mid → IsClosed m l.done l.after mid r.done done
      → IsPartedJoin m (record { before = b; marked = Some l }) (record { before = mid; marked = Some r }) (record { before = b; marked = Some (record { done = done; after = r.after }) })
  marked_joins b l mid r done meet lb lm closed =
      record {
        span = refl;
        depth = refl;
        of = joined_marked b l mid r done meet lb lm closed;
      }

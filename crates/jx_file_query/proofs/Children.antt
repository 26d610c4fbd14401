-- The children of a container come to its parts.
use Rattle.std.proofs.Common.{◌≡◌, ℕ, zero, suc, ◌+◌, ◌<◌, List, [], ◌∷◌, ◌++◌, length, drop, refl, sym, ap, subst, ◌∙◌, arith, append_assoc, append-nil, Bool, true, false, Option, None, Some}
use Rattle.std.specs.Prelude.{◌==◌, if◌then◌else◌}
use Rattle.jx_lex.specs.declared.alphabet.mark.MarkKind.{MarkKind}
use Rattle.jx_lex.specs.declared.alphabet.mark.MarkKind.TheVariants as mark
use Rattle.jx_lex.specs.declared.alphabet.state.LexState.TheVariants.{Gap}
use Rattle.jx_lex.specs.Lex.{lex}
use Rattle.jx_summary.specs.declared.span.Span.{Span}
use Rattle.jx_run.specs.Tree.{Tree, Children, no_children, child, span}
use Rattle.jx_run.specs.Grammar.{Items, last_item, item, Members, last_member, member}
use Rattle.jx_run.proofs.Spans.{blanks_stretch, value_stretch}
use Rattle.jx_index.proofs.Builds.{close_array, close_object, colon, comma, blanks_length, value_length, items_length, members_length}
use Rattle.jx_index.proofs.Tokens.{at_close_array, at_close_object, at_colon, at_comma, blanks_delimited, TokensAreRead}
use Rattle.jx_each.specs.Due.{behind}
use Rattle.jx_file_query.specs.declared.cutting.Aim.{Aim}
use Rattle.jx_file_query.specs.declared.part.ContainerPart.{ContainerPart}
use Rattle.jx_file_query.specs.Cuts.{Cuts, at_depth, at_last, cut}
use Rattle.jx_file_query.specs.Parts.{Place, part_of, places}
use Rattle.jx_file_query.proofs.Behinds.{left, left_byte, scalar_stretch, value_behind}
use Rattle.jx_file_query.proofs.Flats.{blanks_cut, colon_cut, cuts, inside, one, scalar_flat, structural_cut, value_flat}
use Rattle.jx_file_query.proofs.Lists.{Chained, no_place, one_place, rest_of}
use Rattle.jx_file_query.proofs.Steps.{all_over, within}

-- ---- the places of children

module _ (text : List ℕ) where
  -- they follow one another up to the bracket
  pub items_chained : {i j : ℕ} {t rest : List ℕ} {children : Children} → Items i t j (0x5d ∷ rest) children → drop i text ≡ t → (at : ℕ) → Chained at j (places text at children)
  items_chained {j = j} (last_item {tree = tree} bs v cs) h at =
      let h1 = left text h (blanks_stretch bs) in
      let h2 = left text h1 (value_stretch v) in
      one_place refl (subst (λ (n : ℕ). Chained n j []) (sym (value_behind text h2 v refl cs None)) no_place)
  items_chained (item {l = l} {t3 = t3} {tree = tree} bs v cs xs) h at =
      let h1 = left text h (blanks_stretch bs) in
      let h2 = left text h1 (value_stretch v) in
      let h3 = left text h2 (blanks_stretch cs) in
      one_place refl (items_chained xs (left_byte text 0x2c t3 l h3) (behind text (record { name = None; tree = tree })))

  pub members_chained : {i j : ℕ} {t rest : List ℕ} {children : Children} → Members i t j (0x7d ∷ rest) children → drop i text ≡ t → (at : ℕ) → Chained at j (places text at children)
  members_chained {j = j} (last_member {j = q} {k = k} {l = l} {t3 = t3} {tree = tree} bs x cs ds v es) h at =
      let h1 = left text h (blanks_stretch bs) in
      let h2 = left text h1 (scalar_stretch x) in
      let h3 = left text h2 (blanks_stretch cs) in
      let h4 = left text (left_byte text 0x3a t3 l h3) (blanks_stretch ds) in
      let h5 = left text h4 (value_stretch v) in
      one_place refl (subst (λ (n : ℕ). Chained n j []) (sym (value_behind text h5 v refl es (Some (span q k)))) no_place)
  members_chained (member {j = q} {k = k} {l = l} {o = o} {t3 = t3} {t6 = t6} {tree = tree} bs x cs ds v es xs) h at =
      let h1 = left text h (blanks_stretch bs) in
      let h2 = left text h1 (scalar_stretch x) in
      let h3 = left text h2 (blanks_stretch cs) in
      let h4 = left text (left_byte text 0x3a t3 l h3) (blanks_stretch ds) in
      let h5 = left text h4 (value_stretch v) in
      let h6 = left text h5 (blanks_stretch es) in
      one_place refl (members_chained xs (left_byte text 0x2c t6 o h6) (behind text (record { name = Some (span q k); tree = tree })))

-- ---- in the container

-- there is a child
pub data IsSome : Children → Type 0 where
  some : {name : Option Span} {tree : Tree} {more : Children} → IsSome (child name tree more)

items_some : {i j : ℕ} {t rest : List ℕ} {children : Children} → Items i t j rest children → IsSome children
items_some (last_item bs v cs) = some
items_some (item bs v cs xs) = some

members_some : {i j : ℕ} {t rest : List ℕ} {children : Children} → Members i t j rest children → IsSome children
members_some (last_member bs x cs ds v es) = some
members_some (member bs x cs ds v es xs) = some

-- it has ended with these parts
pub record Ends (c : Cuts) (ps : List ContainerPart) : Type 0 where
  pub over : (c.sum.closed == 0) ≡ false
  pub ended : c.ended ≡ ps

module _ (aim : Aim) (law : TokensAreRead) (last : ℕ) (text : List ℕ) where
  -- of an open part, and of children that go on in it
  abbrev pub rest_in : ℕ → ℕ → ℕ → ℕ → List Place → List ContainerPart
  rest_in n s f m [] = []
  rest_in n s f m (c ∷ cs) = rest_of aim.parts aim.whole n s f m c cs

  abbrev of : ℕ → ℕ
  of at = part_of aim.parts aim.whole at

  abbrev part : ℕ → ℕ → ℕ → ℕ → ℕ → ContainerPart
  part n s at f end = record { number = n; span = span (suc s) at; first = f; end = end }

  ends_as : (c : Cuts) (d : Cuts) (ps qs : List ContainerPart) → c ≡ d → ps ≡ qs → Ends d ps → Ends c qs
  ends_as c d ps qs e f h = subst (λ (x : Cuts). Ends x qs) (sym e) (subst (Ends d) f h)

  -- at the closing bracket
  at_end : (k : MarkKind) → ((at : ℕ) (c : Cuts) → at_depth 0 aim k at c ≡ at_last at c.some c) → (j : ℕ) (rest : List ℕ) → aim.whole.start < j → (m : ℕ) (es : List ContainerPart) (n s f : ℕ)
      → Ends (cuts aim (suc j) rest (cut aim (one aim k j) (inside 0 m true es n s f))) (es ++ part n s j f (suc m) ∷ [])
  at_end k is j rest far m es n s f =
      let closed : Cuts = at_last j true (inside 0 m true es n s f) in
      let e : cuts aim (suc j) rest (cut aim (one aim k j) (inside 0 m true es n s f)) ≡ closed =
      ap (cuts aim (suc j) rest) (within aim (one aim k j) (inside 0 m true es n s f) far refl ∙ is j (inside 0 m true es n s f))
      ∙ all_over aim (lex Gap (suc j) rest).marks closed refl in
      ends_as (cuts aim (suc j) rest (cut aim (one aim k j) (inside 0 m true es n s f))) closed (es ++ part n s j f (suc m) ∷ []) (es ++ part n s j f (suc m) ∷ []) e refl (record { over = refl; ended = refl })

  -- at a comma between children
  after_comma : (l : ℕ) (t : List ℕ) (more : Children) → IsSome more → aim.whole.start < l
      → ((m : ℕ) (es : List ContainerPart) (n s f : ℕ) → Ends (cuts aim (suc l) t (inside 0 m true es n s f)) (es ++ rest_in n s f m (places text l more)))
      → (at m : ℕ) (es : List ContainerPart) (n s f : ℕ)
      → Ends (cuts aim (suc l) t (cut aim (one aim mark.Comma l) (inside 0 m true es n s f))) (es ++ rest_in n s f m (record { before = at; behind = l } ∷ places text l more))
  after_comma l t no_children x far ih at m es n s f = elim x [ ]
  after_comma l t (child name tree more) some far ih at m es n s f =
      subst (λ (c : Cuts). Ends (cuts aim (suc l) t c) (es ++ rest_in n s f m (record { before = at; behind = l } ∷ places text l (child name tree more))))
      (sym (within aim (one aim mark.Comma l) (inside 0 m true es n s f) far refl)) (choose (of l == n))
    where
      next : Place
      next = record { before = l; behind = behind text (record { name = name; tree = tree }) }

      others : List Place
      others = places text (behind text (record { name = name; tree = tree })) more

      choose : (x : Bool) → Ends (cuts aim (suc l) t (if x then inside 0 (suc m) true es n s f else inside 0 (suc m) true (es ++ part n s l f (suc m) ∷ []) (of l) l (suc m)))
          (es ++ (if x then rest_of aim.parts aim.whole n s f (suc m) next others else part n s l f (suc m) ∷ rest_of aim.parts aim.whole (of l) l (suc m) (suc m) next others))
      choose true = ih (suc m) es n s f
      choose false = subst (Ends (cuts aim (suc l) t (inside 0 (suc m) true (es ++ part n s l f (suc m) ∷ []) (of l) l (suc m))))
          (append_assoc es (part n s l f (suc m) ∷ []) (rest_of aim.parts aim.whole (of l) l (suc m) (suc m) next others)) (ih (suc m) (es ++ part n s l f (suc m) ∷ []) (of l) l (suc m))

  -- the place of a child is where the comma or the bracket behind it stands
  placed : (c : Cuts) (at m : ℕ) (es : List ContainerPart) (n s f : ℕ) (name : Option Span) (tree : Tree) (more : Children) (l : ℕ) → behind text (record { name = name; tree = tree }) ≡ l
      → Ends c (es ++ rest_in n s f m (record { before = at; behind = l } ∷ places text l more)) → Ends c (es ++ rest_in n s f m (places text at (child name tree more)))
  placed c at m es n s f name tree more l e h =
      subst (λ (x : ℕ). Ends c (es ++ rest_in n s f m (record { before = at; behind = x } ∷ places text x more))) (sym e) h

  from : (c d : Cuts) (ps : List ContainerPart) → c ≡ d → Ends d ps → Ends c ps
  from c d ps e h = ends_as c d ps ps e refl h

  pub items_end : {i j : ℕ} {t rest : List ℕ} {children : Children} → Items i t j (0x5d ∷ rest) children → drop i text ≡ t → j + suc (length rest) ≡ last → aim.whole.start < i
      → (at m : ℕ) (b : Bool) (es : List ContainerPart) (n s f : ℕ) → Ends (cuts aim i t (inside 0 m b es n s f)) (es ++ rest_in n s f m (places text at children))
  items_end {i = i} {j = j} {t = t} {rest = rest} (last_item {tree = tree} bs v cs) h z far at m b es n s f =
      let p = (blanks_stretch bs).end in
      let q = (value_stretch v).end in
      let r = (blanks_stretch cs).end in
      let y = blanks_length cs in
      let h1 = left text h (blanks_stretch bs) in
      let h2 = left text h1 (value_stretch v) in
      let e =
      blanks_cut aim bs (inside 0 m b es n s f)
      ∙ value_flat aim law last m es n s f v (blanks_delimited cs at_close_array) (omega (arith, y, z)) (omega (arith, p, far)) 0 b
      ∙ blanks_cut aim cs (inside 0 m true es n s f)
      ∙ structural_cut aim close_array j rest (inside 0 m true es n s f) in
      placed (cuts aim i t (inside 0 m b es n s f)) at m es n s f None tree no_children j (value_behind text h2 v refl cs None)
      (from (cuts aim i t (inside 0 m b es n s f)) (cuts aim (suc j) rest (cut aim (one aim mark.CloseArray j) (inside 0 m true es n s f))) (es ++ part n s j f (suc m) ∷ []) e
      (at_end mark.CloseArray (λ x c. refl) j rest (omega (arith, p, q, r, far)) m es n s f))
  items_end {i = i} {j = j} {t = t} {rest = rest} (item {l = l} {t3 = t3} {tree = tree} {more = more} bs v cs xs) h z far at m b es n s f =
      let p = (blanks_stretch bs).end in
      let q = (value_stretch v).end in
      let r = (blanks_stretch cs).end in
      let y = blanks_length cs in
      let w = items_length xs in
      let h1 = left text h (blanks_stretch bs) in
      let h2 = left text h1 (value_stretch v) in
      let h3 = left text h2 (blanks_stretch cs) in
      let h4 = left_byte text 0x2c t3 l h3 in
      let past : aim.whole.start < l = omega (arith, p, q, r, far) in
      let e =
      blanks_cut aim bs (inside 0 m b es n s f)
      ∙ value_flat aim law last m es n s f v (blanks_delimited cs at_comma) (omega (arith, y, w, z)) (omega (arith, p, far)) 0 b
      ∙ blanks_cut aim cs (inside 0 m true es n s f)
      ∙ structural_cut aim comma l t3 (inside 0 m true es n s f) in
      placed (cuts aim i t (inside 0 m b es n s f)) at m es n s f None tree more l (value_behind text h2 v refl cs None)
      (from (cuts aim i t (inside 0 m b es n s f)) (cuts aim (suc l) t3 (cut aim (one aim mark.Comma l) (inside 0 m true es n s f))) (es ++ rest_in n s f m (record { before = at; behind = l } ∷ places text l more)) e
      (after_comma l t3 more (items_some xs) past (λ m es n s f. items_end xs h4 z (omega (arith, past)) l m true es n s f) at m es n s f))

  pub members_end : {i j : ℕ} {t rest : List ℕ} {children : Children} → Members i t j (0x7d ∷ rest) children → drop i text ≡ t → j + suc (length rest) ≡ last → aim.whole.start < i
      → (at m : ℕ) (b : Bool) (es : List ContainerPart) (n s f : ℕ) → Ends (cuts aim i t (inside 0 m b es n s f)) (es ++ rest_in n s f m (places text at children))
  members_end {i = i} {j = j} {t = t} {rest = rest} (last_member {j = u} {k = k} {l = l} {t3 = t3} {tree = tree} bs x cs ds v es') h z far at m b es n s f =
      let p = (blanks_stretch bs).end in
      let q = x.end in
      let r = (blanks_stretch cs).end in
      let a = (blanks_stretch ds).end in
      let g = (value_stretch v).end in
      let d = (blanks_stretch es').end in
      let y = blanks_length cs in
      let w = blanks_length ds in
      let o = value_length v in
      let y2 = blanks_length es' in
      let h1 = left text h (blanks_stretch bs) in
      let h2 = left text h1 (scalar_stretch x) in
      let h3 = left text h2 (blanks_stretch cs) in
      let h4 = left text (left_byte text 0x3a t3 l h3) (blanks_stretch ds) in
      let h5 = left text h4 (value_stretch v) in
      let e =
      blanks_cut aim bs (inside 0 m b es n s f)
      ∙ scalar_flat aim law last m es n s f x (blanks_delimited cs at_colon) (omega (arith, y, w, o, y2, z)) (omega (arith, p, far)) 0 b
      ∙ blanks_cut aim cs (inside 0 m true es n s f)
      ∙ structural_cut aim colon l t3 (inside 0 m true es n s f)
      ∙ ap (cuts aim (suc l) t3) (colon_cut aim law last m es n s f l 0 true (omega (arith, p, q, r, far)))
      ∙ blanks_cut aim ds (inside 0 m true es n s f)
      ∙ value_flat aim law last m es n s f v (blanks_delimited es' at_close_object) (omega (arith, y2, z)) (omega (arith, p, q, r, a, far)) 0 true
      ∙ blanks_cut aim es' (inside 0 m true es n s f)
      ∙ structural_cut aim close_object j rest (inside 0 m true es n s f) in
      placed (cuts aim i t (inside 0 m b es n s f)) at m es n s f (Some (span u k)) tree no_children j (value_behind text h5 v refl es' (Some (span u k)))
      (from (cuts aim i t (inside 0 m b es n s f)) (cuts aim (suc j) rest (cut aim (one aim mark.CloseObject j) (inside 0 m true es n s f))) (es ++ part n s j f (suc m) ∷ []) e
      (at_end mark.CloseObject (λ x c. refl) j rest (omega (arith, p, q, r, a, g, d, far)) m es n s f))
  members_end {i = i} {j = j} {t = t} {rest = rest} (member {j = u} {k = k} {l = l} {o = c} {t3 = t3} {t6 = t6} {tree = tree} {more = more} bs x cs ds v es' xs) h z far at m b es n s f =
      let p = (blanks_stretch bs).end in
      let q = x.end in
      let r = (blanks_stretch cs).end in
      let a = (blanks_stretch ds).end in
      let g = (value_stretch v).end in
      let d = (blanks_stretch es').end in
      let y = blanks_length cs in
      let w = blanks_length ds in
      let o = value_length v in
      let y2 = blanks_length es' in
      let w2 = members_length xs in
      let h1 = left text h (blanks_stretch bs) in
      let h2 = left text h1 (scalar_stretch x) in
      let h3 = left text h2 (blanks_stretch cs) in
      let h4 = left text (left_byte text 0x3a t3 l h3) (blanks_stretch ds) in
      let h5 = left text h4 (value_stretch v) in
      let h6 = left text h5 (blanks_stretch es') in
      let h7 = left_byte text 0x2c t6 c h6 in
      let past : aim.whole.start < c = omega (arith, p, q, r, a, g, d, far) in
      let e =
      blanks_cut aim bs (inside 0 m b es n s f)
      ∙ scalar_flat aim law last m es n s f x (blanks_delimited cs at_colon) (omega (arith, y, w, o, y2, w2, z)) (omega (arith, p, far)) 0 b
      ∙ blanks_cut aim cs (inside 0 m true es n s f)
      ∙ structural_cut aim colon l t3 (inside 0 m true es n s f)
      ∙ ap (cuts aim (suc l) t3) (colon_cut aim law last m es n s f l 0 true (omega (arith, p, q, r, far)))
      ∙ blanks_cut aim ds (inside 0 m true es n s f)
      ∙ value_flat aim law last m es n s f v (blanks_delimited es' at_comma) (omega (arith, y2, w2, z)) (omega (arith, p, q, r, a, far)) 0 true
      ∙ blanks_cut aim es' (inside 0 m true es n s f)
      ∙ structural_cut aim comma c t6 (inside 0 m true es n s f) in
      placed (cuts aim i t (inside 0 m b es n s f)) at m es n s f (Some (span u k)) tree more c (value_behind text h5 v refl es' (Some (span u k)))
      (from (cuts aim i t (inside 0 m b es n s f)) (cuts aim (suc c) t6 (cut aim (one aim mark.Comma c) (inside 0 m true es n s f))) (es ++ rest_in n s f m (record { before = at; behind = c } ∷ places text c more)) e
      (after_comma c t6 more (members_some xs) past (λ m es n s f. members_end xs h7 z (omega (arith, past)) c m true es n s f) at m es n s f))

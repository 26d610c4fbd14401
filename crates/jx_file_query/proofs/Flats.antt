-- A value that stands in a container leaves what its marks came to as it was, but for the fact that there was a mark.
use Rattle.std.proofs.Common.{◌≡◌, ℕ, zero, suc, ◌+◌, ◌<◌, List, [], ◌∷◌, length, refl, sym, ap, ◌∙◌, arith, Bool, true, false}
use Rattle.jx_lex.specs.declared.kind.Kind.{Kind}
use Rattle.jx_lex.specs.declared.kind.Kind.TheVariants as kind
use Rattle.jx_lex.specs.declared.alphabet.mark.Mark.{Mark}
use Rattle.jx_lex.specs.declared.alphabet.mark.MarkKind.{MarkKind}
use Rattle.jx_lex.specs.declared.alphabet.mark.MarkKind.TheVariants as mark
use Rattle.jx_lex.specs.declared.alphabet.state.LexState.TheVariants as state
use Rattle.jx_lex.specs.Classes.{class_at}
use Rattle.jx_lex.specs.Lex.{lex}
use Rattle.jx_lex.specs.Token.{IsBlank, space, tab, line_feed, carriage_return, IsToken}
use Rattle.jx_lex.specs.TokenStates.{mark_of}
use Rattle.jx_run.specs.Tree.{Tree, Children}
use Rattle.jx_run.specs.Grammar.{Blanks, no_blanks, blank, Scalar, Value, leaf, empty_array, array, empty_object, object, Items, last_item, item, Members, last_member, member}
use Rattle.jx_run.proofs.Spans.{blanks_stretch, items_stretch, members_stretch, value_stretch}
use Rattle.jx_index.proofs.Builds.{Structural, open_array, open_object, close_array, close_object, colon, comma, blanks_length, value_length, items_length, members_length}
use Rattle.jx_index.proofs.Tokens.{Delimited, at_close_array, at_close_object, at_colon, at_comma, blanks_delimited, tokened, TokensAreRead}
use Rattle.jx_file_index.specs.declared.sum.Sum.{Sum}
use Rattle.jx_file_index.specs.Sums.{noted, opening}
use Rattle.jx_file_query.proofs.Sums.{close_some, comma_some}
use Rattle.jx_file_query.specs.declared.cutting.Aim.{Aim}
use Rattle.jx_file_query.specs.declared.part.ContainerPart.{ContainerPart}
use Rattle.jx_file_query.specs.Cuts.{Cuts, at_depth, cut, cut_all, with_mark}
use Rattle.jx_file_query.proofs.Steps.{within}

abbrev pub summed : ℕ → ℕ → Sum
summed o m = record { closed = 0; opened = o; commas = m }

-- in the container, where so many are open in it
abbrev pub inside : ℕ → ℕ → Bool → List ContainerPart → ℕ → ℕ → ℕ → Cuts
inside o m b es n s f = record { sum = summed o m; some = b; ended = es; number = n; start = s; first = f }

module _ (aim : Aim) where
  abbrev pub one : MarkKind → ℕ → Mark
  one k at = record { kind = k; at = at }

  -- what bytes that are read from between tokens come to
  abbrev pub cuts : ℕ → List ℕ → Cuts → Cuts
  cuts at bytes c = cut_all aim (lex state.Gap at bytes).marks c

  blank_cut : {b : ℕ} → IsBlank b → (at : ℕ) (t : List ℕ) (c : Cuts) → cuts at (b ∷ t) c ≡ cuts (suc at) t c
  unfolding lex class_at
  blank_cut space at t c = refl
  blank_cut tab at t c = refl
  blank_cut line_feed at t c = refl
  blank_cut carriage_return at t c = refl

  pub blanks_cut : {i j : ℕ} {t rest : List ℕ} → Blanks i t j rest → (c : Cuts) → cuts i t c ≡ cuts j rest c
  blanks_cut no_blanks c = refl
  blanks_cut (blank h bs) c = blank_cut h _ _ c ∙ blanks_cut bs c

  pub structural_cut : {b : ℕ} {k : MarkKind} → Structural b k → (at : ℕ) (t : List ℕ) (c : Cuts) → cuts at (b ∷ t) c ≡ cuts (suc at) t (cut aim (one k at) c)
  unfolding lex class_at
  structural_cut open_array at t c = refl
  structural_cut open_object at t c = refl
  structural_cut close_array at t c = refl
  structural_cut close_object at t c = refl
  structural_cut colon at t c = refl
  structural_cut comma at t c = refl

  module _ (law : TokensAreRead) (last : ℕ) where
    token_cut : {k : Kind} {i j : ℕ} {t rest : List ℕ} → Scalar k i t j rest → Delimited rest → j + length rest ≡ last → (c : Cuts) → cuts i t c ≡ cuts j rest (cut aim (one (mark_of k) i) c)
    token_cut scalar d h c = ap (λ (ms : List Mark). cut_all aim ms c) (tokened law scalar d last h).marks

    -- ---- one mark

    module _ (m : ℕ) (es : List ContainerPart) (n s f : ℕ) where
      abbrev here : ℕ → Bool → Cuts
      here o b = inside o m b es n s f

      opens_array : (at o : ℕ) (b : Bool) → aim.whole.start < at → cut aim (one mark.OpenArray at) (here o b) ≡ here (suc o) true
      opens_array at zero b far = within aim (one mark.OpenArray at) (here zero b) far refl
      opens_array at (suc o) b far = within aim (one mark.OpenArray at) (here (suc o) b) far refl

      opens_object : (at o : ℕ) (b : Bool) → aim.whole.start < at → cut aim (one mark.OpenObject at) (here o b) ≡ here (suc o) true
      opens_object at zero b far = within aim (one mark.OpenObject at) (here zero b) far refl
      opens_object at (suc o) b far = within aim (one mark.OpenObject at) (here (suc o) b) far refl

      with_sum : Sum → Cuts
      with_sum x = record { sum = x; some = true; ended = es; number = n; start = s; first = f }

      closes_array : (at o : ℕ) (b : Bool) → aim.whole.start < at → cut aim (one mark.CloseArray at) (here (suc o) b) ≡ here o true
      unfolding with_sum
      closes_array at o b far = within aim (one mark.CloseArray at) (here (suc o) b) far refl ∙ ap with_sum (close_some (summed (suc o) m) o refl)

      closes_object : (at o : ℕ) (b : Bool) → aim.whole.start < at → cut aim (one mark.CloseObject at) (here (suc o) b) ≡ here o true
      unfolding with_sum
      closes_object at o b far = within aim (one mark.CloseObject at) (here (suc o) b) far refl ∙ ap with_sum (close_some (summed (suc o) m) o refl)

      comma_below : (at o : ℕ) (b : Bool) → aim.whole.start < at → cut aim (one mark.Comma at) (here (suc o) b) ≡ here (suc o) true
      unfolding with_sum
      comma_below at o b far = within aim (one mark.Comma at) (here (suc o) b) far refl ∙ ap with_sum (comma_some (summed (suc o) m) o refl)

      pub colon_cut : (at o : ℕ) (b : Bool) → aim.whole.start < at → cut aim (one mark.Colon at) (here o b) ≡ here o true
      colon_cut at zero b far = within aim (one mark.Colon at) (here zero b) far refl
      colon_cut at (suc o) b far = within aim (one mark.Colon at) (here (suc o) b) far refl

      leaf_at : (k : Kind) (w : List ℕ) → IsToken k w → (at o : ℕ) (b : Bool) → at_depth o aim (mark_of k) at (here o b) ≡ here o true
      leaf_at kind.Object w h at o b = absurd h
      leaf_at kind.Array w h at o b = absurd h
      leaf_at kind.String w h at zero b = refl
      leaf_at kind.String w h at (suc o) b = refl
      leaf_at kind.Number w h at zero b = refl
      leaf_at kind.Number w h at (suc o) b = refl
      leaf_at kind.True w h at zero b = refl
      leaf_at kind.True w h at (suc o) b = refl
      leaf_at kind.False w h at zero b = refl
      leaf_at kind.False w h at (suc o) b = refl
      leaf_at kind.Null w h at zero b = refl
      leaf_at kind.Null w h at (suc o) b = refl

      pub scalar_flat : {k : Kind} {i j : ℕ} {t rest : List ℕ} → Scalar k i t j rest → Delimited rest → j + length rest ≡ last → aim.whole.start < i → (o : ℕ) (b : Bool)
          → cuts i t (here o b) ≡ cuts j rest (here o true)
      scalar_flat {k = k} {i = i} {j = j} {rest = rest} x d h far o b =
          token_cut x d h (here o b) ∙ ap (cuts j rest) (within aim (one (mark_of k) i) (here o b) far refl ∙ leaf_at k x.token x.is_token i o b)

      -- ---- values

      mutual
        pub value_flat : {i j : ℕ} {t rest : List ℕ} {tree : Tree} → Value i t j rest tree → Delimited rest → j + length rest ≡ last → aim.whole.start < i → (o : ℕ) (b : Bool)
            → cuts i t (here o b) ≡ cuts j rest (here o true)
        value_flat (leaf x) d h far o b = scalar_flat x d h far o b
        value_flat (empty_array {i = i} {j = j} {bytes = t} {rest = rest} bs) d h far o b =
            structural_cut open_array i t (here o b)
            ∙ ap (cuts (suc i) t) (opens_array i o b far)
            ∙ blanks_cut bs (here (suc o) true)
            ∙ structural_cut close_array j rest (here (suc o) true)
            ∙ ap (cuts (suc j) rest) (closes_array j o true (let p = (blanks_stretch bs).end in omega (arith, p, far)))
        value_flat (array {i = i} {j = j} {bytes = t} {rest = rest} xs) d h far o b =
            structural_cut open_array i t (here o b)
            ∙ ap (cuts (suc i) t) (opens_array i o b far)
            ∙ items_flat xs at_close_array (omega (arith, h)) (omega (arith, far)) o true
            ∙ structural_cut close_array j rest (here (suc o) true)
            ∙ ap (cuts (suc j) rest) (closes_array j o true (let p = (items_stretch xs).end in omega (arith, p, far)))
        value_flat (empty_object {i = i} {j = j} {bytes = t} {rest = rest} bs) d h far o b =
            structural_cut open_object i t (here o b)
            ∙ ap (cuts (suc i) t) (opens_object i o b far)
            ∙ blanks_cut bs (here (suc o) true)
            ∙ structural_cut close_object j rest (here (suc o) true)
            ∙ ap (cuts (suc j) rest) (closes_object j o true (let p = (blanks_stretch bs).end in omega (arith, p, far)))
        value_flat (object {i = i} {j = j} {bytes = t} {rest = rest} xs) d h far o b =
            structural_cut open_object i t (here o b)
            ∙ ap (cuts (suc i) t) (opens_object i o b far)
            ∙ members_flat xs at_close_object (omega (arith, h)) (omega (arith, far)) o true
            ∙ structural_cut close_object j rest (here (suc o) true)
            ∙ ap (cuts (suc j) rest) (closes_object j o true (let p = (members_stretch xs).end in omega (arith, p, far)))

        items_flat : {i j : ℕ} {t rest : List ℕ} {children : Children} → Items i t j rest children → Delimited rest → j + length rest ≡ last → aim.whole.start < i → (o : ℕ) (b : Bool)
            → cuts i t (here (suc o) b) ≡ cuts j rest (here (suc o) true)
        items_flat (last_item bs v cs) d h far o b =
            let p = (blanks_stretch bs).end in
            let z = blanks_length cs in
            blanks_cut bs (here (suc o) b)
            ∙ value_flat v (blanks_delimited cs d) (omega (arith, z, h)) (omega (arith, p, far)) (suc o) b
            ∙ blanks_cut cs (here (suc o) true)
        items_flat (item {l = l} {t3 = t3} bs v cs xs) d h far o b =
            let p = (blanks_stretch bs).end in
            let q = (value_stretch v).end in
            let r = (blanks_stretch cs).end in
            let y = items_length xs in
            let z = blanks_length cs in
            blanks_cut bs (here (suc o) b)
            ∙ value_flat v (blanks_delimited cs at_comma) (omega (arith, z, y, h)) (omega (arith, p, far)) (suc o) b
            ∙ blanks_cut cs (here (suc o) true)
            ∙ structural_cut comma l t3 (here (suc o) true)
            ∙ ap (cuts (suc l) t3) (comma_below l o true (omega (arith, p, q, r, far)))
            ∙ items_flat xs d h (omega (arith, p, q, r, far)) o true

        members_flat : {i j : ℕ} {t rest : List ℕ} {children : Children} → Members i t j rest children → Delimited rest → j + length rest ≡ last → aim.whole.start < i → (o : ℕ) (b : Bool)
            → cuts i t (here (suc o) b) ≡ cuts j rest (here (suc o) true)
        members_flat (last_member {l = l} {t3 = t3} bs x cs ds v es) d h far o b =
            let p = (blanks_stretch bs).end in
            let q = x.end in
            let r = (blanks_stretch cs).end in
            let w = (blanks_stretch ds).end in
            let y = blanks_length cs in
            let u = blanks_length ds in
            let g = value_length v in
            let z = blanks_length es in
            blanks_cut bs (here (suc o) b)
            ∙ scalar_flat x (blanks_delimited cs at_colon) (omega (arith, y, u, g, z, h)) (omega (arith, p, far)) (suc o) b
            ∙ blanks_cut cs (here (suc o) true)
            ∙ structural_cut colon l t3 (here (suc o) true)
            ∙ ap (cuts (suc l) t3) (colon_cut l (suc o) true (omega (arith, p, q, r, far)))
            ∙ blanks_cut ds (here (suc o) true)
            ∙ value_flat v (blanks_delimited es d) (omega (arith, z, h)) (omega (arith, p, q, r, w, far)) (suc o) true
            ∙ blanks_cut es (here (suc o) true)
        members_flat (member {l = l} {o = k} {t3 = t3} {t6 = t6} bs x cs ds v es xs) d h far o b =
            let p = (blanks_stretch bs).end in
            let q = x.end in
            let r = (blanks_stretch cs).end in
            let w = (blanks_stretch ds).end in
            let a = (value_stretch v).end in
            let e = (blanks_stretch es).end in
            let y = blanks_length cs in
            let u = blanks_length ds in
            let g = value_length v in
            let z = blanks_length es in
            let i = members_length xs in
            blanks_cut bs (here (suc o) b)
            ∙ scalar_flat x (blanks_delimited cs at_colon) (omega (arith, y, u, g, z, i, h)) (omega (arith, p, far)) (suc o) b
            ∙ blanks_cut cs (here (suc o) true)
            ∙ structural_cut colon l t3 (here (suc o) true)
            ∙ ap (cuts (suc l) t3) (colon_cut l (suc o) true (omega (arith, p, q, r, far)))
            ∙ blanks_cut ds (here (suc o) true)
            ∙ value_flat v (blanks_delimited es at_comma) (omega (arith, z, i, h)) (omega (arith, p, q, r, w, far)) (suc o) true
            ∙ blanks_cut es (here (suc o) true)
            ∙ structural_cut comma k t6 (here (suc o) true)
            ∙ ap (cuts (suc k) t6) (comma_below k o true (omega (arith, p, q, r, w, a, e, far)))
            ∙ members_flat xs d h (omega (arith, p, q, r, w, a, e, far)) o true

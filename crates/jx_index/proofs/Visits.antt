-- Over the marks and ends of a value a finder comes to have met what the tokens lead to in the value's tree, and nothing else.
use Rattle.std.proofs.Common.{◌≡◌, ℕ, zero, suc, ◌+◌, ◌<◌, List, [], ◌∷◌, length, drop, Option, None, Some, Bool, true, false, cond, refl, sym, ap, ◌∙◌, arith}
use Rattle.jx_lex.specs.declared.kind.Kind.{Kind}
use Rattle.jx_lex.specs.declared.kind.Kind.TheVariants as kind
use Rattle.jx_lex.specs.declared.alphabet.mark.Mark.{Mark}
use Rattle.jx_lex.specs.declared.alphabet.mark.MarkKind.{MarkKind}
use Rattle.jx_lex.specs.declared.alphabet.state.LexState.TheVariants as state
use Rattle.jx_lex.specs.Classes.{class_at}
use Rattle.jx_lex.specs.Lex.{lex}
use Rattle.jx_lex.specs.Token.{IsBlank, space, tab, line_feed, carriage_return, IsToken}
use Rattle.jx_lex.specs.TokenStates.{mark_of}
use Rattle.jx_summary.specs.declared.span.Span.{Span}
use Rattle.jx_run.specs.Tree.{Tree, node, Children, no_children, child, span}
use Rattle.jx_run.specs.Grammar.{Blanks, no_blanks, blank, Scalar, Value, leaf, empty_array, array, empty_object, object, Items, last_item, item, Members, last_member, member}
use Rattle.jx_run.specs.Text.{Document, document, IsDocument}
use Rattle.jx_index.specs.declared.finder.Cursor.{Cursor}
use Rattle.jx_index.specs.declared.finder.Met.{Met}
use Rattle.jx_index.specs.declared.finder.Met.TheVariants as met
use Rattle.jx_index.specs.inside.Building.{is_token, next_end}
use Rattle.jx_index.specs.inside.Finding.{is_element, is_member, one_deeper, met_more, met_ended, change, meet, shut, Finding, counted, target, naming, string_at, leaf_at, begin_at, noted, seek, nothing_met}
use Rattle.jx_index.proofs.Builds.{Structural, open_array, open_object, close_array, close_object, colon, comma, token_is, blanks_length, value_length, items_length, members_length, children_count}
use Rattle.jx_index.proofs.Tokens.{Delimited, at_end, at_close_array, at_close_object, at_colon, at_comma, blanks_delimited, tokened, TokensAreRead}

-- ---- what was met

change_past : (f g : Met → Met) (n m : ℕ) → n < m → (all : List Met) → change f n (change g m all) ≡ change g m (change f n all)
change_past f g n m h [] = refl
change_past f g n zero h (x ∷ all) = absurd (omega arith)
change_past f g zero (suc m) h (x ∷ all) = refl
change_past f g (suc n) (suc m) h (x ∷ all) = ap (λ (xs : List Met). x ∷ xs) (change_past f g n m (omega arith) all)

ended_more : (k : Kind) (i end other : ℕ) (m : Met) → met_ended end (met_more (record { kind = k; span = span i other }) m) ≡ met_more (record { kind = k; span = span i end }) m
ended_more k i end other met.Never = refl
ended_more k i end other (met.Once found) = refl
ended_more k i end other met.Again = refl

-- a container that ends has the span that it was met with, but for the end
shut_meet : (k : Kind) (i end other n : ℕ) (all : List Met) → shut end n (meet k (span i other) n all) ≡ meet k (span i end) n all
shut_meet k i end other n [] = refl
shut_meet k i end other zero (x ∷ all) = ap (λ (m : Met). m ∷ all) (ended_more k i end other x)
shut_meet k i end other (suc n) (x ∷ all) = ap (λ (xs : List Met). x ∷ xs) (shut_meet k i end other n all)

shut_if : (b : Bool) (end n : ℕ) (all seen later : List Met) → shut end n seen ≡ later → shut end n (cond b seen all) ≡ cond b later (shut end n all)
shut_if true end n all seen later h = h
shut_if false end n all seen later h = refl

module _ (text : List ℕ) (tokens : List (List ℕ)) where
  -- the token behind so many leads from a value of this kind to a child
  abbrev pub hit : Kind → ℕ → ℕ → Option Span → Bool
  hit kind.Object level place name = is_member text tokens level name
  hit kind.Array level place name = is_element tokens level place
  hit kind.String level place name = false
  hit kind.Number level place name = false
  hit kind.True level place name = false
  hit kind.False level place name = false
  hit kind.Null level place name = false

  -- what was met behind a tree to which so many tokens lead
  abbrev mutual
    pub visit : Tree → ℕ → List Met → List Met
    visit (node k s children) level all = visit_below children k level 0 (meet k s level all)

    pub visit_below : Children → Kind → ℕ → ℕ → List Met → List Met
    visit_below no_children k level place all = all
    visit_below (child name tree more) k level place all = visit_below more k level (suc place) (cond (hit k level place name) (visit tree (suc level) all) all)

  mutual
    shut_past : (tree : Tree) (end n m : ℕ) → n < m → (all : List Met) → shut end n (visit tree m all) ≡ visit tree m (shut end n all)
    shut_past (node k s children) end n m h all =
        shut_past_below children k end n m 0 (omega arith) (meet k s m all)
        ∙ ap (visit_below children k m 0) (change_past (met_ended end) (met_more (record { kind = k; span = s })) n m h all)

    shut_past_below : (children : Children) (k : Kind) (end n m place : ℕ) → n < suc m → (all : List Met)
        → shut end n (visit_below children k m place all) ≡ visit_below children k m place (shut end n all)
    shut_past_below no_children k end n m place h all = refl
    shut_past_below (child name tree more) k end n m place h all =
        shut_past_below more k end n m (suc place) h (cond (hit k m place name) (visit tree (suc m) all) all)
        ∙ ap (visit_below more k m (suc place)) (shut_if (hit k m place name) end n all (visit tree (suc m) all) (visit tree (suc m) (shut end n all)) (shut_past tree end n (suc m) h all))

  -- a container is met when it begins, and its end is set behind what stands in it
  container_met : (k : Kind) (i end level : ℕ) (children : Children) (all : List Met)
      → shut end level (visit_below children k level 0 (meet k (span i (suc i)) level all)) ≡ visit (node k (span i end) children) level all
  container_met k i end level children all =
      shut_past_below children k end level level 0 (omega arith) (meet k (span i (suc i)) level all)
      ∙ ap (visit_below children k level 0) (shut_meet k i end (suc i) level all)

  -- ---- states

  -- nothing is skipped
  abbrev on_path : List Met → List Cursor → Option (Option ℕ) → Finding
  on_path all opened name = record { met = all; opened = opened; skipped = 0; name = name }

  -- so many containers are skipped, and one more
  abbrev passing : ℕ → List Met → List Cursor → Option (Option ℕ) → Finding
  passing n all opened name = record { met = all; opened = opened; skipped = suc n; name = name }

  abbrev inside : ℕ → Bool → ℕ → List Cursor → List Cursor
  inside level is_object count outer = record { level = level; is_object = is_object; count = count } ∷ outer

  -- behind a value
  abbrev valued : Tree → Option ℕ → List Met → List Cursor → Finding
  valued tree None all opened = on_path all (counted opened) None
  valued tree (Some level) all opened = on_path (visit tree level all) (counted opened) None

  valued_if : (b : Bool) (tree : Tree) (all : List Met) (level : ℕ) (is_object : Bool) (count : ℕ) (outer : List Cursor)
      → valued tree (one_deeper b level) all (inside level is_object count outer) ≡ on_path (cond b (visit tree (suc level) all) all) (inside level is_object (suc count) outer) None
  valued_if true tree all level is_object count outer = refl
  valued_if false tree all level is_object count outer = refl

  leaf_valued : (k : Kind) (s : Span) (t : Option ℕ) (all : List Met) (opened : List Cursor) (name : Option (Option ℕ))
      → leaf_at t k s (on_path all opened name) ≡ valued (node k s no_children) t all opened
  leaf_valued k s None all opened name = refl
  leaf_valued k s (Some level) all opened name = refl

  -- ---- bytes

  module _ (last : ℕ) where
    -- the state at the end, where these bytes are read from between tokens
    abbrev seeks : ℕ → List ℕ → Finding → Finding
    seeks at bytes f = let track = lex state.Gap at bytes in seek text tokens last track.marks track.ends f

    blank_seeks : {b : ℕ} → IsBlank b → (at : ℕ) (t : List ℕ) (f : Finding) → seeks at (b ∷ t) f ≡ seeks (suc at) t f
    unfolding lex class_at
    blank_seeks space at t f = refl
    blank_seeks tab at t f = refl
    blank_seeks line_feed at t f = refl
    blank_seeks carriage_return at t f = refl

    blanks_seek : {i j : ℕ} {t rest : List ℕ} → Blanks i t j rest → (f : Finding) → seeks i t f ≡ seeks j rest f
    blanks_seek no_blanks f = refl
    blanks_seek (blank h bs) f = blank_seeks h _ _ f ∙ blanks_seek bs f

    abbrev end_behind : ℕ → List ℕ → ℕ
    end_behind at t = next_end last (lex state.Gap at t).ends

    structural_seeks : {b : ℕ} {k : MarkKind} → Structural b k → (at : ℕ) (t : List ℕ) (f : Finding)
        → seeks at (b ∷ t) f ≡ seeks (suc at) t (noted text tokens k at (end_behind (suc at) t) f)
    unfolding lex class_at seek
    structural_seeks open_array at t f = refl
    structural_seeks open_object at t f = refl
    structural_seeks close_array at t f = refl
    structural_seeks close_object at t f = refl
    structural_seeks colon at t f = refl
    structural_seeks comma at t f = refl

    seek_token : (k : MarkKind) → is_token k ≡ true → (at end : ℕ) (marks marks' : List Mark) (ends ends' : List ℕ) (f : Finding)
        → marks ≡ record { kind = k; at = at } ∷ marks' → next_end last ends ≡ end → drop 1 ends ≡ ends'
        → seek text tokens last marks ends f ≡ seek text tokens last marks' ends' (noted text tokens k at end f)
    unfolding seek
    seek_token k t at end marks marks' ends ends' f m e d =
        ap (λ x. seek text tokens last x ends f) m
        ∙ ap (λ c. seek text tokens last marks' (cond c (drop 1 ends) ends) (noted text tokens k at (next_end last ends) f)) t
        ∙ ap (λ x. seek text tokens last marks' x (noted text tokens k at (next_end last ends) f)) d
        ∙ ap (λ x. seek text tokens last marks' ends' (noted text tokens k at x f)) e

    token_seeks : TokensAreRead → {k : Kind} {i j : ℕ} {t rest : List ℕ} → Scalar k i t j rest → Delimited rest → j + length rest ≡ last → (f : Finding)
        → seeks i t f ≡ seeks j rest (noted text tokens (mark_of k) i j f)
    token_seeks law {k = k} {i = i} {j = j} scalar d h f =
        let p = tokened law scalar d last h in
        seek_token (mark_of k) (token_is k scalar.token scalar.is_token) i j _ _ _ _ f p.marks p.end p.ends

    -- ---- a value that is skipped

    leaf_passed : (k : Kind) (w : List ℕ) → IsToken k w → (i j n : ℕ) (all : List Met) (opened : List Cursor) (name : Option (Option ℕ))
        → noted text tokens (mark_of k) i j (passing n all opened name) ≡ passing n all opened name
    leaf_passed kind.Object w h i j n all opened name = absurd h
    leaf_passed kind.Array w h i j n all opened name = absurd h
    leaf_passed kind.String w h i j n all opened name = refl
    leaf_passed kind.Number w h i j n all opened name = refl
    leaf_passed kind.True w h i j n all opened name = refl
    leaf_passed kind.False w h i j n all opened name = refl
    leaf_passed kind.Null w h i j n all opened name = refl

    module _ (law : TokensAreRead) (all : List Met) (opened : List Cursor) (name : Option (Option ℕ)) where
      scalar_passes : {k : Kind} {i j : ℕ} {t rest : List ℕ} → Scalar k i t j rest → Delimited rest → j + length rest ≡ last → (n : ℕ)
          → seeks i t (passing n all opened name) ≡ seeks j rest (passing n all opened name)
      scalar_passes {k = k} {i = i} {j = j} {rest = rest} s d h n =
          token_seeks law s d h (passing n all opened name) ∙ ap (seeks j rest) (leaf_passed k s.token s.is_token i j n all opened name)

      mutual
        value_passes : {i j : ℕ} {t rest : List ℕ} {tree : Tree} → Value i t j rest tree → Delimited rest → j + length rest ≡ last → (n : ℕ)
            → seeks i t (passing n all opened name) ≡ seeks j rest (passing n all opened name)
        value_passes (leaf s) d h n = scalar_passes s d h n
        value_passes (empty_array {i = i} {j = j} {bytes = t} {rest = rest} bs) d h n =
            structural_seeks open_array i t (passing n all opened name)
            ∙ blanks_seek bs (passing (suc n) all opened name)
            ∙ structural_seeks close_array j rest (passing (suc n) all opened name)
        value_passes (array {i = i} {j = j} {bytes = t} {rest = rest} xs) d h n =
            structural_seeks open_array i t (passing n all opened name)
            ∙ items_pass xs at_close_array (omega arith) (suc n)
            ∙ structural_seeks close_array j rest (passing (suc n) all opened name)
        value_passes (empty_object {i = i} {j = j} {bytes = t} {rest = rest} bs) d h n =
            structural_seeks open_object i t (passing n all opened name)
            ∙ blanks_seek bs (passing (suc n) all opened name)
            ∙ structural_seeks close_object j rest (passing (suc n) all opened name)
        value_passes (object {i = i} {j = j} {bytes = t} {rest = rest} xs) d h n =
            structural_seeks open_object i t (passing n all opened name)
            ∙ members_pass xs at_close_object (omega arith) (suc n)
            ∙ structural_seeks close_object j rest (passing (suc n) all opened name)

        items_pass : {i j : ℕ} {t rest : List ℕ} {children : Children} → Items i t j rest children → Delimited rest → j + length rest ≡ last → (n : ℕ)
            → seeks i t (passing n all opened name) ≡ seeks j rest (passing n all opened name)
        items_pass (last_item bs v cs) d h n =
            blanks_seek bs _ ∙ value_passes v (blanks_delimited cs d) (omega (arith, blanks_length cs)) n ∙ blanks_seek cs _
        items_pass (item {l = l} {t3 = t3} bs v cs xs) d h n =
            blanks_seek bs _
            ∙ value_passes v (blanks_delimited cs at_comma) (omega (arith, blanks_length cs, items_length xs)) n
            ∙ blanks_seek cs _
            ∙ structural_seeks comma l t3 (passing n all opened name)
            ∙ items_pass xs d h n

        members_pass : {i j : ℕ} {t rest : List ℕ} {children : Children} → Members i t j rest children → Delimited rest → j + length rest ≡ last → (n : ℕ)
            → seeks i t (passing n all opened name) ≡ seeks j rest (passing n all opened name)
        members_pass (last_member {l = l} {t3 = t3} bs s cs ds v es) d h n =
            blanks_seek bs _
            ∙ scalar_passes s (blanks_delimited cs at_colon) (omega (arith, blanks_length cs, blanks_length ds, value_length v, blanks_length es)) n
            ∙ blanks_seek cs _
            ∙ structural_seeks colon l t3 (passing n all opened name)
            ∙ blanks_seek ds _
            ∙ value_passes v (blanks_delimited es d) (omega (arith, blanks_length es)) n
            ∙ blanks_seek es _
        members_pass (member {l = l} {o = o} {t3 = t3} {t6 = t6} bs s cs ds v es xs) d h n =
            blanks_seek bs _
            ∙ scalar_passes s (blanks_delimited cs at_colon) (omega (arith, blanks_length cs, blanks_length ds, value_length v, blanks_length es, members_length xs)) n
            ∙ blanks_seek cs _
            ∙ structural_seeks colon l t3 (passing n all opened name)
            ∙ blanks_seek ds _
            ∙ value_passes v (blanks_delimited es at_comma) (omega (arith, blanks_length es, members_length xs)) n
            ∙ blanks_seek es _
            ∙ structural_seeks comma o t6 (passing n all opened name)
            ∙ members_pass xs d h n

    -- ---- a value on the path

    leaf_noted : (k : Kind) (w : List ℕ) → IsToken k w → (i j : ℕ) (all : List Met) (opened : List Cursor) (name : Option (Option ℕ)) → naming opened name ≡ None
        → noted text tokens (mark_of k) i j (on_path all opened name) ≡ valued (node k (span i j) no_children) (target tokens (on_path all opened name)) all opened
    leaf_noted kind.Object w h i j all opened name n = absurd h
    leaf_noted kind.Array w h i j all opened name n = absurd h
    leaf_noted kind.String w h i j all opened name n =
        ap (λ (x : Option ℕ). string_at x text tokens (span i j) (on_path all opened name)) n
        ∙ leaf_valued kind.String (span i j) (target tokens (on_path all opened name)) all opened name
    leaf_noted kind.Number w h i j all opened name n = leaf_valued kind.Number (span i j) (target tokens (on_path all opened name)) all opened name
    leaf_noted kind.True w h i j all opened name n = leaf_valued kind.True (span i j) (target tokens (on_path all opened name)) all opened name
    leaf_noted kind.False w h i j all opened name n = leaf_valued kind.False (span i j) (target tokens (on_path all opened name)) all opened name
    leaf_noted kind.Null w h i j all opened name n = leaf_valued kind.Null (span i j) (target tokens (on_path all opened name)) all opened name

    empty_array_seeks : (i : ℕ) (x : Option ℕ) {j : ℕ} {t rest : List ℕ} → Blanks (suc i) t j (0x5d ∷ rest)
        → (all : List Met) (opened : List Cursor) (name : Option (Option ℕ))
        → seeks (suc i) t (begin_at x kind.Array false i (on_path all opened name)) ≡ seeks (suc j) rest (valued (node kind.Array (span i (suc j)) no_children) x all opened)
    empty_array_seeks i None {j = j} {rest = rest} bs all opened name = blanks_seek bs _ ∙ structural_seeks close_array j rest _
    empty_array_seeks i (Some level) {j = j} {rest = rest} bs all opened name =
        blanks_seek bs _
        ∙ structural_seeks close_array j rest _
        ∙ ap (λ (m : List Met). seeks (suc j) rest (on_path m (counted opened) None)) (shut_meet kind.Array i (suc j) (suc i) level all)

    empty_object_seeks : (i : ℕ) (x : Option ℕ) {j : ℕ} {t rest : List ℕ} → Blanks (suc i) t j (0x7d ∷ rest)
        → (all : List Met) (opened : List Cursor) (name : Option (Option ℕ))
        → seeks (suc i) t (begin_at x kind.Object true i (on_path all opened name)) ≡ seeks (suc j) rest (valued (node kind.Object (span i (suc j)) no_children) x all opened)
    empty_object_seeks i None {j = j} {rest = rest} bs all opened name = blanks_seek bs _ ∙ structural_seeks close_object j rest _
    empty_object_seeks i (Some level) {j = j} {rest = rest} bs all opened name =
        blanks_seek bs _
        ∙ structural_seeks close_object j rest _
        ∙ ap (λ (m : List Met). seeks (suc j) rest (on_path m (counted opened) None)) (shut_meet kind.Object i (suc j) (suc i) level all)

    array_seeks : (i : ℕ) (x : Option ℕ) (j : ℕ) (t rest : List ℕ) (children : Children) (all : List Met) (opened : List Cursor) (name : Option (Option ℕ))
        → seeks (suc i) t (passing 0 all (counted opened) None) ≡ seeks j (0x5d ∷ rest) (passing 0 all (counted opened) None)
        → ((m : List Met) (level : ℕ) → seeks (suc i) t (on_path m (inside level false 0 (counted opened)) None)
        ≡ seeks j (0x5d ∷ rest) (on_path (visit_below children kind.Array level 0 m) (inside level false (0 + children_count children) (counted opened)) None))
        → seeks (suc i) t (begin_at x kind.Array false i (on_path all opened name)) ≡ seeks (suc j) rest (valued (node kind.Array (span i (suc j)) children) x all opened)
    array_seeks i None j t rest children all opened name past within = past ∙ structural_seeks close_array j rest (passing 0 all (counted opened) None)
    array_seeks i (Some level) j t rest children all opened name past within =
        within (meet kind.Array (span i (suc i)) level all) level
        ∙ structural_seeks close_array j rest
        (on_path (visit_below children kind.Array level 0 (meet kind.Array (span i (suc i)) level all)) (inside level false (0 + children_count children) (counted opened)) None)
        ∙ ap (λ (m : List Met). seeks (suc j) rest (on_path m (counted opened) None)) (container_met kind.Array i (suc j) level children all)

    object_seeks : (i : ℕ) (x : Option ℕ) (j : ℕ) (t rest : List ℕ) (children : Children) (all : List Met) (opened : List Cursor) (name : Option (Option ℕ))
        → seeks (suc i) t (passing 0 all (counted opened) None) ≡ seeks j (0x7d ∷ rest) (passing 0 all (counted opened) None)
        → ((m : List Met) (level : ℕ) → seeks (suc i) t (on_path m (inside level true 0 (counted opened)) None)
        ≡ seeks j (0x7d ∷ rest) (on_path (visit_below children kind.Object level 0 m) (inside level true (0 + children_count children) (counted opened)) None))
        → seeks (suc i) t (begin_at x kind.Object true i (on_path all opened name)) ≡ seeks (suc j) rest (valued (node kind.Object (span i (suc j)) children) x all opened)
    object_seeks i None j t rest children all opened name past within = past ∙ structural_seeks close_object j rest (passing 0 all (counted opened) None)
    object_seeks i (Some level) j t rest children all opened name past within =
        within (meet kind.Object (span i (suc i)) level all) level
        ∙ structural_seeks close_object j rest
        (on_path (visit_below children kind.Object level 0 (meet kind.Object (span i (suc i)) level all)) (inside level true (0 + children_count children) (counted opened)) None)
        ∙ ap (λ (m : List Met). seeks (suc j) rest (on_path m (counted opened) None)) (container_met kind.Object i (suc j) level children all)

    mutual
      pub value_seeks : TokensAreRead → {i j : ℕ} {t rest : List ℕ} {tree : Tree} → Value i t j rest tree → Delimited rest → j + length rest ≡ last
          → (all : List Met) (opened : List Cursor) (name : Option (Option ℕ)) → naming opened name ≡ None
          → seeks i t (on_path all opened name) ≡ seeks j rest (valued tree (target tokens (on_path all opened name)) all opened)
      value_seeks law (leaf {kind = k} {i = i} {j = j} {rest = rest} s) d h all opened name n =
          token_seeks law s d h (on_path all opened name) ∙ ap (seeks j rest) (leaf_noted k s.token s.is_token i j all opened name n)
      value_seeks law (empty_array {i = i} {bytes = t} bs) d h all opened name n =
          structural_seeks open_array i t (on_path all opened name)
          ∙ empty_array_seeks i (target tokens (on_path all opened name)) bs all opened name
      value_seeks law (array {i = i} {j = j} {bytes = t} {rest = rest} {children = children} xs) d h all opened name n =
          structural_seeks open_array i t (on_path all opened name)
          ∙ array_seeks i (target tokens (on_path all opened name)) j t rest children all opened name (items_pass law all (counted opened) None xs at_close_array (omega arith) 0)
          (λ m level. items_seek law xs at_close_array (omega arith) m level 0 (counted opened))
      value_seeks law (empty_object {i = i} {bytes = t} bs) d h all opened name n =
          structural_seeks open_object i t (on_path all opened name)
          ∙ empty_object_seeks i (target tokens (on_path all opened name)) bs all opened name
      value_seeks law (object {i = i} {j = j} {bytes = t} {rest = rest} {children = children} xs) d h all opened name n =
          structural_seeks open_object i t (on_path all opened name)
          ∙ object_seeks i (target tokens (on_path all opened name)) j t rest children all opened name (members_pass law all (counted opened) None xs at_close_object (omega arith) 0)
          (λ m level. members_seek law xs at_close_object (omega arith) m level 0 (counted opened))

      items_seek : TokensAreRead → {i j : ℕ} {t rest : List ℕ} {children : Children} → Items i t j rest children → Delimited rest → j + length rest ≡ last
          → (all : List Met) (level count : ℕ) (outer : List Cursor)
          → seeks i t (on_path all (inside level false count outer) None) ≡ seeks j rest (on_path (visit_below children kind.Array level count all) (inside level false (count + children_count children) outer) None)
      items_seek law (last_item {l = l} {rest = rest} {tree = tree} bs v cs) d h all level count outer =
          blanks_seek bs _
          ∙ value_seeks law v (blanks_delimited cs d) (omega (arith, blanks_length cs)) all (inside level false count outer) None refl
          ∙ blanks_seek cs _
          ∙ ap (seeks l rest) (valued_if (is_element tokens level count) tree all level false count outer)
          ∙ ap (λ c. seeks l rest (on_path (visit_below (child None tree no_children) kind.Array level count all) (inside level false c outer) None)) (let e : suc count ≡ count + 1 = omega arith in e)
      items_seek law (item {l = l} {m = m} {t3 = t3} {rest = rest} {tree = tree} {more = more} bs v cs xs) d h all level count outer =
          blanks_seek bs _
          ∙ value_seeks law v (blanks_delimited cs at_comma) (omega (arith, blanks_length cs, items_length xs)) all (inside level false count outer) None refl
          ∙ blanks_seek cs _
          ∙ ap (seeks l (0x2c ∷ t3)) (valued_if (is_element tokens level count) tree all level false count outer)
          ∙ structural_seeks comma l t3 _
          ∙ items_seek law xs d h (cond (is_element tokens level count) (visit tree (suc level) all) all) level (suc count) outer
          ∙ ap (λ c. seeks m rest (on_path (visit_below (child None tree more) kind.Array level count all) (inside level false c outer) None)) (let e : suc count + children_count more ≡ count + suc (children_count more) = omega arith in e)

      members_seek : TokensAreRead → {i j : ℕ} {t rest : List ℕ} {children : Children} → Members i t j rest children → Delimited rest → j + length rest ≡ last
          → (all : List Met) (level count : ℕ) (outer : List Cursor)
          → seeks i t (on_path all (inside level true count outer) None) ≡ seeks j rest (on_path (visit_below children kind.Object level count all) (inside level true (count + children_count children) outer) None)
      members_seek law (last_member {j = j} {k = k} {l = l} {o = o} {t3 = t3} {rest = rest} {tree = tree} bs s cs ds v es) d h all level count outer =
          let hits = is_member text tokens level (Some (span j k)) in
          blanks_seek bs _
          ∙ token_seeks law s (blanks_delimited cs at_colon) (omega (arith, blanks_length cs, blanks_length ds, value_length v, blanks_length es)) (on_path all (inside level true count outer) None)
          ∙ blanks_seek cs _
          ∙ structural_seeks colon l t3 _
          ∙ blanks_seek ds _
          ∙ value_seeks law v (blanks_delimited es d) (omega (arith, blanks_length es)) all (inside level true count outer) (Some (one_deeper hits level)) refl
          ∙ blanks_seek es _
          ∙ ap (seeks o rest) (valued_if hits tree all level true count outer)
          ∙ ap (λ c. seeks o rest (on_path (visit_below (child (Some (span j k)) tree no_children) kind.Object level count all) (inside level true c outer) None)) (let e : suc count ≡ count + 1 = omega arith in e)
      members_seek law (member {j = j} {k = k} {l = l} {o = o} {p = p} {t3 = t3} {t6 = t6} {rest = rest} {tree = tree} {more = more} bs s cs ds v es xs) d h all level count outer =
          let hits = is_member text tokens level (Some (span j k)) in
          blanks_seek bs _
          ∙ token_seeks law s (blanks_delimited cs at_colon) (omega (arith, blanks_length cs, blanks_length ds, value_length v, blanks_length es, members_length xs)) (on_path all (inside level true count outer) None)
          ∙ blanks_seek cs _
          ∙ structural_seeks colon l t3 _
          ∙ blanks_seek ds _
          ∙ value_seeks law v (blanks_delimited es at_comma) (omega (arith, blanks_length es, members_length xs)) all (inside level true count outer) (Some (one_deeper hits level)) refl
          ∙ blanks_seek es _
          ∙ ap (seeks o (0x2c ∷ t6)) (valued_if hits tree all level true count outer)
          ∙ structural_seeks comma o t6 _
          ∙ members_seek law xs d h (cond hits (visit tree (suc level) all) all) level (suc count) outer
          ∙ ap (λ c. seeks p rest (on_path (visit_below (child (Some (span j k)) tree more) kind.Object level count all) (inside level true c outer) None)) (let e : suc count + children_count more ≡ count + suc (children_count more) = omega arith in e)

  -- what is met in a whole text
  pub met_in : TokensAreRead → (start limit : ℕ) (bytes : List ℕ) (tree : Tree) → IsDocument start bytes limit tree → (n : ℕ)
      → (seek text tokens (start + length bytes) (lex state.Gap start bytes).marks (lex state.Gap start bytes).ends (nothing_met n)).met ≡ visit tree 0 (nothing_met n).met
  unfolding seek lex
  met_in law start limit bytes tree doc n = ap (λ (f : Finding). f.met) (whole doc.reads)
    where
      whole : {t : List ℕ} → Document start t tree
          → seek text tokens (start + length t) (lex state.Gap start t).marks (lex state.Gap start t).ends (nothing_met n) ≡ on_path (visit tree 0 (nothing_met n).met) [] None
      whole {t = t} (document {i = i} {l = l} bs v cs) =
          blanks_seek (start + length t) bs (nothing_met n)
          ∙ value_seeks (start + length t) law v (blanks_delimited cs at_end) (sym (blanks_length bs ∙ value_length v)) (nothing_met n).met [] None refl
          ∙ blanks_seek (start + length t) cs _

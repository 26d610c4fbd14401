-- The lines that a text gives: those of the elements of the container that tokens lead to.
use Rattle.std.specs.Prelude.{if◌then◌else◌, Option, Some, None, slice_get}
use Rattle.std.specs.Ordering.{nat_cmp, is_eq}
use Rattle.std.specs.Cmp.Lexicographic.{slice_cmp}
use Rattle.std.proofs.Common.{◌≡◌, ℕ, zero, suc, ◌+◌, List, [], ◌∷◌, ◌++◌, length, drop, Bool, true, false, refl, sym, ap, subst, ◌∙◌, lit≤}
use Rattle.jx_compact.specs.Compact.{compact}
use Rattle.jx_index.specs.declared.units.Spelling.TheVariants.{InText}
use Rattle.jx_index.specs.Names.{is_name}
use Rattle.jx_index.specs.Units.{between_marks, chars_units, units_at}
use Rattle.jx_lex.specs.declared.kind.Kind.{Kind}
use Rattle.jx_lex.specs.declared.kind.Kind.TheVariants as kind
use Rattle.jx_lex.specs.Token.{IsToken}
use Rattle.jx_summary.specs.declared.span.Span.{Span}
use Rattle.jx_run.specs.Tree.{Tree, node, Children, no_children, span}
use Rattle.jx_run.specs.Grammar.{Blanks, Scalar, Value, leaf, empty_array, array, empty_object, object, Items, last_item, item, Members as MembersIn, last_member, member}
use Rattle.jx_run.specs.Text.{Document, document}
use Rattle.jx_each.specs.declared.content.LineContent.{LineContent}
use Rattle.jx_each.specs.declared.content.LineContent.TheVariants.{Alone, Named, NameAlone, Empty}
use Rattle.jx_each.specs.declared.stand.Stage.{Stage}
use Rattle.jx_each.specs.declared.stand.Stage.TheVariants.{Ahead, Elements, Members, Array, Object, Name, Names, Empties, Over}
use Rattle.jx_each.specs.Machine.{Aim, Made, aimed, at_element, at_member, at_value, begins_part, begins_value, height_in, is_spelt, part_at, step}
use Rattle.jx_each.specs.Due.{Element, elements, elements_at, elements_of, first_by, first_child, is_number, members_in, reached, then_to}
use Rattle.jx_each.proofs.Pieces.{blanks_gap, scalar_piece, value_piece}
use Rattle.jx_each.proofs.Gives.{Gives, gives_end, gives_over, gives_step, made, over_gap, over_name, over_piece}
use Rattle.jx_each.proofs.Stays.{token_stays}
use Rattle.jx_each.proofs.Texts.{empty_items_give, empty_members_give, items_give, left_byte, left_piece, members_give, name_piece, names_give, pairs_give, stretch_is}

-- ---- where tokens end and go on

get_none : (path : List (List ℕ)) (level : ℕ) → drop level path ≡ [] → slice_get path level ≡ None
get_none [] level h = refl
get_none (t ∷ path) zero h = absurd (cc)
get_none (t ∷ path) (suc level) h = get_none path level h

get_some : (path : List (List ℕ)) (level : ℕ) (token : List ℕ) (more : List (List ℕ)) → drop level path ≡ token ∷ more → slice_get path level ≡ Some token
get_some [] zero token more h = absurd (cc)
get_some [] (suc level) token more h = absurd (cc)
get_some (t ∷ path) zero token more h = ap (λ (l : List (List ℕ)). slice_get l 0) h
get_some (t ∷ path) (suc level) token more h = get_some path level token more h

drop_next : (path : List (List ℕ)) (level : ℕ) (token : List ℕ) (more : List (List ℕ)) → drop level path ≡ token ∷ more → drop (suc level) path ≡ more
drop_next [] zero token more h = absurd (cc)
drop_next [] (suc level) token more h = absurd (cc)
drop_next (t ∷ path) zero token more h = ap (λ (l : List (List ℕ)). drop 1 l) h
drop_next (t ∷ path) (suc level) token more h = drop_next path level token more h

-- ---- the end of a value

-- what is made at last, where nothing follows a scalar but what ends so
abbrev pub stage_by : Stage → Tree → Stage
stage_by r (node kind.Array s below) = Over
stage_by r (node kind.Object s below) = Over
stage_by r (node kind.String s below) = r
stage_by r (node kind.Number s below) = r
stage_by r (node kind.True s below) = r
stage_by r (node kind.False s below) = r
stage_by r (node kind.Null s below) = r

stays_over : (tree : Tree) → stage_by Over tree ≡ Over
stays_over (node kind.Array s below) = refl
stays_over (node kind.Object s below) = refl
stays_over (node kind.String s below) = refl
stays_over (node kind.Number s below) = refl
stays_over (node kind.True s below) = refl
stays_over (node kind.False s below) = refl
stays_over (node kind.Null s below) = refl

scalar_stage : (k : Kind) (w : List ℕ) (s : Span) (r : Stage) → IsToken k w → stage_by r (node k s no_children) ≡ r
scalar_stage kind.String w s r h = refl
scalar_stage kind.Number w s r h = refl
scalar_stage kind.True w s r h = refl
scalar_stage kind.False w s r h = refl
scalar_stage kind.Null w s r h = refl
scalar_stage kind.Object w s r h = absurd h
scalar_stage kind.Array w s r h = absurd h

no_child : (text token : List ℕ) (k : Kind) (s : Span) → first_child text token (node k s no_children) ≡ None
no_child text token kind.String s = refl
no_child text token kind.Number s = refl
no_child text token kind.True s = refl
no_child text token kind.False s = refl
no_child text token kind.Null s = refl
no_child text token kind.Object s = refl
no_child text token kind.Array s = refl

-- a comma or a bracket behind the value that was ahead
past_gives : (text : List ℕ) (aim : Aim) (level b : ℕ) → step aim (made 0 (Ahead level) false [] []) b ≡ made 0 Over false [] [] → {i j : ℕ} {t u : List ℕ} → Blanks i t j (b ∷ u)
    → Gives text aim (made 0 (Ahead level) false [] []) i t [] Over
past_gives text aim level b ends {j = j} {u = u} bs =
    over_gap text aim 0 (Ahead level) false [] [] [] Over (blanks_gap bs)
    (gives_step text aim (made 0 (Ahead level) false [] []) b j u [] Over (ap (λ (m : Made). m.lines) ends)
    (subst (λ (m : Made). Gives text aim m (suc j) u [] Over) (sym ends) (gives_over text aim 0 false [] [] (suc j) u)))

-- a bracket that ends a container on the way
shut_gives : (text : List ℕ) (aim : Aim) (r : Stage) (takes : Bool) (part : List ℕ) (b : ℕ) → step aim (made 1 r takes [] part) b ≡ made 0 Over false [] [] → {i j : ℕ} {t u : List ℕ} → Blanks i t j (b ∷ u)
    → Gives text aim (made 1 r takes [] part) i t [] Over
shut_gives text aim r takes part b ends {j = j} {u = u} bs =
    over_gap text aim 1 r takes [] part [] Over (blanks_gap bs)
    (gives_step text aim (made 1 r takes [] part) b j u [] Over (ap (λ (m : Made). m.lines) ends)
    (subst (λ (m : Made). Gives text aim m (suc j) u [] Over) (sym ends) (gives_over text aim 0 false [] [] (suc j) u)))

-- ---- in front of children

-- where a stage begins, so many containers being open
abbrev set_at : Stage → Bool → Made
set_at stage takes = made (height_in stage 1) stage takes [] (part_at stage)

abbrev set_value : Stage → Bool → Made
set_value stage takes = made (height_in stage 1) stage takes [] []

abbrev element_made : LineContent → Option (List ℕ) → ℕ → ℕ → Made
element_made content o level n = set_at (at_element content o level n) (begins_part (at_element content o level n))

abbrev member_made : LineContent → Option (List ℕ) → ℕ → Made
member_made content o level = set_at (at_member content o level) (begins_part (at_member content o level))

abbrev value_made : Option (List ℕ) → ℕ → List ℕ → Made
value_made o level name = set_value (at_value o level name) (begins_value (at_value o level name))

abbrev way_made : Bool → ℕ → Stage → Made
way_made b level other = let stage : Stage = if b then Ahead (suc level) else other in set_at stage (begins_part stage)

abbrev way_value : Bool → ℕ → Stage → Made
way_value b level other = let stage : Stage = if b then Ahead (suc level) else other in set_value stage (begins_value stage)

-- a name's string is its span's
name_is : (text token w u : List ℕ) (i j : ℕ) → drop i text ≡ w ++ u → j ≡ i + length w → compact w ≡ w → is_name text token (Some (span i j)) ≡ is_spelt (compact w) token
unfolding units_at
name_is text token w u i j h e same =
    ap (λ (x : List ℕ). is_eq (slice_cmp nat_cmp (chars_units InText 0 (between_marks x)) token)) (stretch_is text w u i j h e ∙ sym same)

-- the first of several, or those behind it
abbrev first_of : LineContent → List ℕ → List (List ℕ) → Bool → Tree → Option Tree → List Element
first_of content text more b tree others = elements_of content (then_to (if b then Some tree else others) (reached text more))

pick_way : (content : LineContent) (text : List ℕ) (path : List (List ℕ)) (level : ℕ) (other : Stage) (b : Bool) (i : ℕ) (t : List ℕ) (more : List (List ℕ)) (tree : Tree) (others : Option Tree)
    → Gives text (aimed content path) (made 0 (Ahead (suc level)) false [] []) i t (elements_at content text more tree) Over
    → Gives text (aimed content path) (set_at other (begins_part other)) i t (elements_of content (then_to others (reached text more))) Over
    → Gives text (aimed content path) (way_made b level other) i t (first_of content text more b tree others) Over
pick_way content text path level other true i t more tree others here there = here
pick_way content text path level other false i t more tree others here there = there

pick_value : (content : LineContent) (text : List ℕ) (path : List (List ℕ)) (level : ℕ) (b : Bool) (i : ℕ) (t : List ℕ) (more : List (List ℕ)) (tree : Tree) (others : Option Tree)
    → Gives text (aimed content path) (made 0 (Ahead (suc level)) false [] []) i t (elements_at content text more tree) Over
    → Gives text (aimed content path) (made 1 (Members level) false [] []) i t (elements_of content (then_to others (reached text more))) Over
    → Gives text (aimed content path) (way_value b level (Members level)) i t (first_of content text more b tree others) Over
pick_value content text path level true i t more tree others here there = here
pick_value content text path level false i t more tree others here there = there

pick_none : (content : LineContent) (text : List ℕ) (path : List (List ℕ)) (level : ℕ) (b : Bool) (i : ℕ) (t : List ℕ)
    → Gives text (aimed content path) (made 0 (Ahead (suc level)) false [] []) i t [] Over
    → Gives text (aimed content path) (made 1 (Elements level 0) false [] []) i t [] Over
    → Gives text (aimed content path) (way_made b level (Elements level 0)) i t [] Over
pick_none content text path level true i t here there = here
pick_none content text path level false i t here there = there

-- a name and the colon behind it
over_name_seek : (content : LineContent) (text : List ℕ) (path : List (List ℕ)) (level : ℕ) (token : List ℕ) (more : List (List ℕ)) → slice_get path level ≡ Some token
    → {i j k l : ℕ} {t0 t1 t2 t3 : List ℕ} → drop i text ≡ t0 → Blanks i t0 j t1 → Scalar kind.String j t1 k t2 → Blanks k t2 l (0x3a ∷ t3)
    → (tree : Tree) (others : Option Tree)
    → Gives text (aimed content path) (way_value (is_name text token (Some (span j k))) level (Members level)) (suc l) t3 (elements_of content (then_to (if is_name text token (Some (span j k)) then Some tree else others) (reached text more))) Over
    → Gives text (aimed content path) (made 1 (Members level) true [] []) i t0 (elements_of content (then_to (if is_name text token (Some (span j k)) then Some tree else others) (reached text more))) Over
over_name_seek content text path level token more some {j = j} {k = k} {l = l} {t1 = t1} {t2 = t2} {t3 = t3} h bs x cs tree others g =
    let w : List ℕ = x.token in
    let ts : List Element = elements_of content (then_to (if is_name text token (Some (span j k)) then Some tree else others) (reached text more)) in
    let h1 : drop j text ≡ w ++ t2 = left_piece text h (blanks_gap bs).piece ∙ x.whole in
    let same : is_name text token (Some (span j k)) ≡ is_spelt (compact w) token = name_is text token w t2 j k h1 x.end (token_stays kind.String w x.is_token).form in
    over_gap text (aimed content path) 1 (Members level) true [] [] ts Over (blanks_gap bs)
    (over_piece text (aimed content path) 1 (Members level) true [] [] ts Over (name_piece x) (lit≤ tt)
    (over_gap text (aimed content path) 1 (Members level) true [] (compact w) ts Over (blanks_gap cs)
    (gives_step text (aimed content path) (made 1 (Members level) true [] (compact w)) 0x3a l t3 ts Over refl
    (subst (λ (o : Option (List ℕ)). Gives text (aimed content path) (value_made o level (compact w)) (suc l) t3 ts Over) (sym some)
    (subst (λ (b : Bool). Gives text (aimed content path) (way_value b level (Members level)) (suc l) t3 ts Over) same g)))))

-- the value that a token named, and the blanks in front of it
named : (content : LineContent) (text : List ℕ) (path : List (List ℕ)) (level : ℕ) (more : List (List ℕ)) (tree : Tree) {i j : ℕ} {t0 t1 : List ℕ} → Blanks i t0 j t1
    → Gives text (aimed content path) (made 0 (Ahead level) false [] []) j t1 (elements_at content text more tree) (stage_by Over tree)
    → Gives text (aimed content path) (made 0 (Ahead level) false [] []) i t0 (elements_at content text more tree) Over
named content text path level more tree {j = j} {t1 = t1} bs g =
    over_gap text (aimed content path) 0 (Ahead level) false [] [] (elements_at content text more tree) Over (blanks_gap bs)
    (subst (λ (s : Stage). Gives text (aimed content path) (made 0 (Ahead level) false [] []) j t1 (elements_at content text more tree) s) (stays_over tree) g)

-- ---- in the container

no_members : (k : Kind) → members_in k no_children ≡ []
no_members kind.Object = refl
no_members kind.Array = refl
no_members kind.String = refl
no_members kind.Number = refl
no_members kind.True = refl
no_members kind.False = refl
no_members kind.Null = refl

no_elements : (content : LineContent) (k : Kind) (s : Span) → elements content (node k s no_children) ≡ []
no_elements Alone k s = refl
no_elements Named k s = no_members k
no_elements NameAlone k s = no_members k
no_elements Empty k s = refl

in_empty_array : (content : LineContent) (text : List ℕ) (path : List (List ℕ)) (s : Span) {i j : ℕ} {t u : List ℕ} → Blanks i t j (0x5d ∷ u)
    → Gives text (aimed content path) (element_made content None 0 0) i t (elements content (node kind.Array s no_children)) Over
in_empty_array Alone text path s bs = shut_gives text (aimed Alone path) Array true [] 0x5d refl bs
in_empty_array Named text path s {i = i} {t = t} bs = gives_over text (aimed Named path) 1 false [] [] i t
in_empty_array NameAlone text path s {i = i} {t = t} bs = gives_over text (aimed NameAlone path) 1 false [] [] i t
in_empty_array Empty text path s bs = shut_gives text (aimed Empty path) Empties true [] 0x5d refl bs

in_an_array : (content : LineContent) (text : List ℕ) (path : List (List ℕ)) (s : Span) {i j : ℕ} {t u : List ℕ} {c : Children} → drop i text ≡ t → Items i t j (0x5d ∷ u) c
    → Gives text (aimed content path) (element_made content None 0 0) i t (elements content (node kind.Array s c)) Over
in_an_array Alone text path s h xs = items_give text path [] h xs
in_an_array Named text path s {i = i} {t = t} h xs = gives_over text (aimed Named path) 1 false [] [] i t
in_an_array NameAlone text path s {i = i} {t = t} h xs = gives_over text (aimed NameAlone path) 1 false [] [] i t
in_an_array Empty text path s h xs = empty_items_give text path [] h xs

in_empty_object : (content : LineContent) (text : List ℕ) (path : List (List ℕ)) (s : Span) {i j : ℕ} {t u : List ℕ} → Blanks i t j (0x7d ∷ u)
    → Gives text (aimed content path) (member_made content None 0) i t (elements content (node kind.Object s no_children)) Over
in_empty_object Alone text path s bs = shut_gives text (aimed Alone path) Object false [] 0x7d refl bs
in_empty_object Named text path s bs = shut_gives text (aimed Named path) Name true (part_at Name) 0x7d refl bs
in_empty_object NameAlone text path s bs = shut_gives text (aimed NameAlone path) Names true [] 0x7d refl bs
in_empty_object Empty text path s bs = shut_gives text (aimed Empty path) Empties true [] 0x7d refl bs

in_an_object : (content : LineContent) (text : List ℕ) (path : List (List ℕ)) (s : Span) {i j : ℕ} {t u : List ℕ} {c : Children} → drop i text ≡ t → MembersIn i t j (0x7d ∷ u) c
    → Gives text (aimed content path) (member_made content None 0) i t (elements content (node kind.Object s c)) Over
in_an_object Alone text path s h xs = members_give text path [] h xs
in_an_object Named text path s h xs = pairs_give text path [] h xs
in_an_object NameAlone text path s h xs = names_give text path [] h xs
in_an_object Empty text path s h xs = empty_members_give text path [] h xs

mutual
  -- a value to which so many tokens lead
  pub value_seeks : (content : LineContent) (text : List ℕ) (path : List (List ℕ)) (level : ℕ) (rest : List (List ℕ)) → drop level path ≡ rest → (r : Stage) {i j : ℕ} {t u : List ℕ} {tree : Tree} → drop i text ≡ t → Value i t j u tree
      → Gives text (aimed content path) (made 0 (Ahead level) false [] []) j u [] r
      → Gives text (aimed content path) (made 0 (Ahead level) false [] []) i t (elements_at content text rest tree) (stage_by r tree)
  value_seeks content text path level [] d r {i = i} {j = j} {t = t} h (leaf {kind = k} x) g =
      subst (λ (es : List Element). Gives text (aimed content path) (made 0 (Ahead level) false [] []) i t es (stage_by r (node k (span i j) no_children))) (sym (no_elements content k (span i j)))
      (subst (λ (s : Stage). Gives text (aimed content path) (made 0 (Ahead level) false [] []) i t [] s) (sym (scalar_stage k x.token (span i j) r x.is_token))
      (over_name text (aimed content path) 0 (Ahead level) [] [] [] r (scalar_piece x) (lit≤ tt) g))
  value_seeks content text path level [] d r {i = i} h (empty_array {j = j} {bytes = t} bs) g =
      gives_step text (aimed content path) (made 0 (Ahead level) false [] []) 0x5b i t (elements content (node kind.Array (span i (suc j)) no_children)) Over refl
      (subst (λ (o : Option (List ℕ)). Gives text (aimed content path) (element_made content o level 0) (suc i) t (elements content (node kind.Array (span i (suc j)) no_children)) Over) (sym (get_none path level d))
      (in_empty_array content text path (span i (suc j)) bs))
  value_seeks content text path level [] d r {i = i} h (array {j = j} {bytes = t} {children = c} xs) g =
      gives_step text (aimed content path) (made 0 (Ahead level) false [] []) 0x5b i t (elements content (node kind.Array (span i (suc j)) c)) Over refl
      (subst (λ (o : Option (List ℕ)). Gives text (aimed content path) (element_made content o level 0) (suc i) t (elements content (node kind.Array (span i (suc j)) c)) Over) (sym (get_none path level d))
      (in_an_array content text path (span i (suc j)) (left_byte text 0x5b t i h) xs))
  value_seeks content text path level [] d r {i = i} h (empty_object {j = j} {bytes = t} bs) g =
      gives_step text (aimed content path) (made 0 (Ahead level) false [] []) 0x7b i t (elements content (node kind.Object (span i (suc j)) no_children)) Over refl
      (subst (λ (o : Option (List ℕ)). Gives text (aimed content path) (member_made content o level) (suc i) t (elements content (node kind.Object (span i (suc j)) no_children)) Over) (sym (get_none path level d))
      (in_empty_object content text path (span i (suc j)) bs))
  value_seeks content text path level [] d r {i = i} h (object {j = j} {bytes = t} {children = c} xs) g =
      gives_step text (aimed content path) (made 0 (Ahead level) false [] []) 0x7b i t (elements content (node kind.Object (span i (suc j)) c)) Over refl
      (subst (λ (o : Option (List ℕ)). Gives text (aimed content path) (member_made content o level) (suc i) t (elements content (node kind.Object (span i (suc j)) c)) Over) (sym (get_none path level d))
      (in_an_object content text path (span i (suc j)) (left_byte text 0x7b t i h) xs))
  value_seeks content text path level (token ∷ more) d r {i = i} {j = j} {t = t} h (leaf {kind = k} x) g =
      subst (λ (o : Option Tree). Gives text (aimed content path) (made 0 (Ahead level) false [] []) i t (elements_of content (then_to o (reached text more))) (stage_by r (node k (span i j) no_children))) (sym (no_child text token k (span i j)))
      (subst (λ (s : Stage). Gives text (aimed content path) (made 0 (Ahead level) false [] []) i t [] s) (sym (scalar_stage k x.token (span i j) r x.is_token))
      (over_name text (aimed content path) 0 (Ahead level) [] [] [] r (scalar_piece x) (lit≤ tt) g))
  value_seeks content text path level (token ∷ more) d r {i = i} h (empty_array {j = j} {bytes = t} {rest = u} bs) g =
      gives_step text (aimed content path) (made 0 (Ahead level) false [] []) 0x5b i t [] Over refl
      (subst (λ (o : Option (List ℕ)). Gives text (aimed content path) (element_made content o level 0) (suc i) t [] Over) (sym (get_some path level token more d))
      (pick_none content text path level (is_number token 0) (suc i) t (past_gives text (aimed content path) (suc level) 0x5d refl bs) (shut_gives text (aimed content path) (Elements level 0) false [] 0x5d refl bs)))
  value_seeks content text path level (token ∷ more) d r {i = i} h (array {bytes = t} {children = c} xs) g =
      gives_step text (aimed content path) (made 0 (Ahead level) false [] []) 0x5b i t (elements_of content (then_to (first_by (λ name n. is_number token n) 0 c) (reached text more))) Over refl
      (subst (λ (o : Option (List ℕ)). Gives text (aimed content path) (element_made content o level 0) (suc i) t (elements_of content (then_to (first_by (λ name n. is_number token n) 0 c) (reached text more))) Over) (sym (get_some path level token more d))
      (items_seek content text path level token more (get_some path level token more d) (drop_next path level token more d) 0 (left_byte text 0x5b t i h) xs))
  value_seeks content text path level (token ∷ more) d r {i = i} h (empty_object {bytes = t} bs) g =
      gives_step text (aimed content path) (made 0 (Ahead level) false [] []) 0x7b i t [] Over refl
      (subst (λ (o : Option (List ℕ)). Gives text (aimed content path) (member_made content o level) (suc i) t [] Over) (sym (get_some path level token more d))
      (shut_gives text (aimed content path) (Members level) true [] 0x7d refl bs))
  value_seeks content text path level (token ∷ more) d r {i = i} h (object {bytes = t} {children = c} xs) g =
      gives_step text (aimed content path) (made 0 (Ahead level) false [] []) 0x7b i t (elements_of content (then_to (first_by (λ name n. is_name text token name) 0 c) (reached text more))) Over refl
      (subst (λ (o : Option (List ℕ)). Gives text (aimed content path) (member_made content o level) (suc i) t (elements_of content (then_to (first_by (λ name n. is_name text token name) 0 c) (reached text more))) Over) (sym (get_some path level token more d))
      (members_seek content text path level token more (get_some path level token more d) (drop_next path level token more d) 0 (left_byte text 0x7b t i h) xs))

  pub items_seek : (content : LineContent) (text : List ℕ) (path : List (List ℕ)) (level : ℕ) (token : List ℕ) (more : List (List ℕ)) → slice_get path level ≡ Some token → drop (suc level) path ≡ more → (n : ℕ)
      → {i j : ℕ} {t u : List ℕ} {c : Children} → drop i text ≡ t → Items i t j (0x5d ∷ u) c
      → Gives text (aimed content path) (element_made content (Some token) level n) i t (elements_of content (then_to (first_by (λ name m. is_number token m) n c) (reached text more))) Over
  items_seek content text path level token more some d n {i = i} {t = t} h (last_item {tree = tree} bs v cs) =
      pick_way content text path level (Elements level n) (is_number token n) i t more tree None
      (named content text path (suc level) more tree bs
      (value_seeks content text path (suc level) more d Over (left_piece text h (blanks_gap bs).piece) v (past_gives text (aimed content path) (suc level) 0x5d refl cs)))
      (over_gap text (aimed content path) 1 (Elements level n) false [] [] [] Over (blanks_gap bs)
      (over_name text (aimed content path) 1 (Elements level n) [] [] [] Over (value_piece v).piece (lit≤ tt)
      (shut_gives text (aimed content path) (Elements level n) false [] 0x5d refl cs)))
  items_seek content text path level token more some d n {i = i} {t = t} h (item {l = l} {t3 = t3} {tree = tree} {more = rest} bs v cs xs) =
      let others : Option Tree = first_by (λ name m. is_number token m) (suc n) rest in
      let left : List Element = elements_of content (then_to others (reached text more)) in
      let behind : drop (suc l) text ≡ t3 =
      left_byte text 0x2c t3 l (left_piece text (left_piece text (left_piece text h (blanks_gap bs).piece) (value_piece v).piece) (blanks_gap cs).piece) in
      pick_way content text path level (Elements level n) (is_number token n) i t more tree others
      (named content text path (suc level) more tree bs
      (value_seeks content text path (suc level) more d Over (left_piece text h (blanks_gap bs).piece) v (past_gives text (aimed content path) (suc level) 0x2c refl cs)))
      (over_gap text (aimed content path) 1 (Elements level n) false [] [] left Over (blanks_gap bs)
      (over_name text (aimed content path) 1 (Elements level n) [] [] left Over (value_piece v).piece (lit≤ tt)
      (over_gap text (aimed content path) 1 (Elements level n) false [] [] left Over (blanks_gap cs)
      (gives_step text (aimed content path) (made 1 (Elements level n) false [] []) 0x2c l t3 left Over refl
      (subst (λ (o : Option (List ℕ)). Gives text (aimed content path) (element_made content o level (suc n)) (suc l) t3 left Over) (sym some)
      (items_seek content text path level token more some d (suc n) behind xs))))))

  pub members_seek : (content : LineContent) (text : List ℕ) (path : List (List ℕ)) (level : ℕ) (token : List ℕ) (more : List (List ℕ)) → slice_get path level ≡ Some token → drop (suc level) path ≡ more → (n : ℕ)
      → {i j : ℕ} {t u : List ℕ} {c : Children} → drop i text ≡ t → MembersIn i t j (0x7d ∷ u) c
      → Gives text (aimed content path) (made 1 (Members level) true [] []) i t (elements_of content (then_to (first_by (λ name m. is_name text token name) n c) (reached text more))) Over
  members_seek content text path level token more some d n h (last_member {j = j} {k = k} {l = l} {t3 = t3} {tree = tree} bs x cs ds v es) =
      let behind : drop (suc l) text ≡ t3 =
      left_byte text 0x3a t3 l (left_piece text (left_piece text (left_piece text h (blanks_gap bs).piece) (scalar_piece x)) (blanks_gap cs).piece) in
      over_name_seek content text path level token more some h bs x cs tree None
      (pick_value content text path level (is_name text token (Some (span j k))) (suc l) t3 more tree None
      (named content text path (suc level) more tree ds
      (value_seeks content text path (suc level) more d Over (left_piece text behind (blanks_gap ds).piece) v (past_gives text (aimed content path) (suc level) 0x7d refl es)))
      (over_gap text (aimed content path) 1 (Members level) false [] [] [] Over (blanks_gap ds)
      (over_name text (aimed content path) 1 (Members level) [] [] [] Over (value_piece v).piece (lit≤ tt)
      (shut_gives text (aimed content path) (Members level) false [] 0x7d refl es))))
  members_seek content text path level token more some d n h (member {j = j} {k = k} {l = l} {o = o} {t3 = t3} {t6 = t6} {tree = tree} {more = rest} bs x cs ds v es xs) =
      let others : Option Tree = first_by (λ name m. is_name text token name) (suc n) rest in
      let left : List Element = elements_of content (then_to others (reached text more)) in
      let behind : drop (suc l) text ≡ t3 =
      left_byte text 0x3a t3 l (left_piece text (left_piece text (left_piece text h (blanks_gap bs).piece) (scalar_piece x)) (blanks_gap cs).piece) in
      let next : drop (suc o) text ≡ t6 =
      left_byte text 0x2c t6 o (left_piece text (left_piece text (left_piece text behind (blanks_gap ds).piece) (value_piece v).piece) (blanks_gap es).piece) in
      over_name_seek content text path level token more some h bs x cs tree others
      (pick_value content text path level (is_name text token (Some (span j k))) (suc l) t3 more tree others
      (named content text path (suc level) more tree ds
      (value_seeks content text path (suc level) more d Over (left_piece text behind (blanks_gap ds).piece) v (past_gives text (aimed content path) (suc level) 0x2c refl es)))
      (over_gap text (aimed content path) 1 (Members level) false [] [] left Over (blanks_gap ds)
      (over_name text (aimed content path) 1 (Members level) [] [] left Over (value_piece v).piece (lit≤ tt)
      (over_gap text (aimed content path) 1 (Members level) false [] [] left Over (blanks_gap es)
      (gives_step text (aimed content path) (made 1 (Members level) false [] []) 0x2c o t6 left Over refl
      (members_seek content text path level token more some d (suc n) next xs))))))

-- ---- texts

-- whether the stage behind a text tells a container
pub document_gives : (content : LineContent) (text : List ℕ) (path : List (List ℕ)) {i : ℕ} {t : List ℕ} {tree : Tree} → drop i text ≡ t → Document i t tree
    → Gives text (aimed content path) (made 0 (Ahead 0) false [] []) i t (elements_at content text path tree) (stage_by (Ahead 0) tree)
document_gives content text path {tree = tree} h (document {l = l} bs v cs) =
    over_gap text (aimed content path) 0 (Ahead 0) false [] [] (elements_at content text path tree) (stage_by (Ahead 0) tree) (blanks_gap bs)
    (value_seeks content text path 0 path refl (Ahead 0) (left_piece text h (blanks_gap bs).piece) v
    (over_gap text (aimed content path) 0 (Ahead 0) false [] [] [] (Ahead 0) (blanks_gap cs) (gives_end text (aimed content path) (made 0 (Ahead 0) false [] []) l)))

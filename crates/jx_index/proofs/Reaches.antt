-- What was met behind the tokens of a pointer tells where they lead.
use Rattle.std.proofs.Common.{◌≡◌, ℕ, zero, suc, ◌+◌, ◌<◌, ◌≤◌, List, [], ◌∷◌, ◌++◌, length, drop, map, Option, Some, Bool, true, false, cond, Result, Ok, Err, refl, sym, ap, subst, ◌∙◌, arith, append-nil, append_assoc}
use Rattle.std.proofs.lemmas.Bool.Decides.{nat_tests}
use Rattle.std.specs.Prelude.{slice_get, filter, ◌==◌, ◌&&◌, nat_lt, not, if◌then◌else◌}
use Rattle.jx_lex.specs.declared.kind.Kind.{Kind}
use Rattle.jx_lex.specs.declared.kind.Kind.TheVariants as kind
use Rattle.jx_summary.specs.declared.span.Span.{Span}
use Rattle.jx_run.specs.Tree.{Tree, node, Children, no_children, child}
use Rattle.jx_index.specs.ArrayTokens.{is_dash, is_index, is_digit, value_after, place_in}
use Rattle.jx_index.specs.declared.array_token.Place.{Place}
use Rattle.jx_index.specs.declared.array_token.Place.TheVariants as place
use Rattle.jx_index.specs.declared.find_fault.FindFault.{FindFault}
use Rattle.jx_index.specs.declared.find_fault.FindFault.TheVariants.{NoSuchMember, NameRepeated, PastEnd, NotAContainer}
use Rattle.jx_index.specs.declared.finder.Met.{Met}
use Rattle.jx_index.specs.declared.finder.Met.TheVariants as met
use Rattle.jx_index.specs.Found.{value_of, found_of}
use Rattle.jx_index.specs.Leads.{Numbered, numbered, kind_of, children_of, only, element, at_place, one_token, and_then, led_from, led, root_of}
use Rattle.jx_index.specs.Names.{is_name}
use Rattle.jx_index.specs.Rows.{size}
use Rattle.jx_index.specs.inside.Finding.{is_place, names_place, names_member, met_more, change, meet, never, met_at, missing_place, missing, read_from, read_met}
use Rattle.jx_index.proofs.Visits.{hit, visit, visit_below}

-- ---- what was met at one place

change_here : (f : Met → Met) → f met.Again ≡ met.Again → (n : ℕ) (all : List Met) → met_at (change f n all) n ≡ f (met_at all n)
change_here f h n [] = sym h
change_here f h zero (x ∷ all) = refl
change_here f h (suc n) (x ∷ all) = change_here f h n all

change_there : (f : Met → Met) (n m : ℕ) → n < m → (all : List Met) → (met_at (change f n all) m ≡ met_at all m) × (met_at (change f m all) n ≡ met_at all n)
change_there f n m h [] = (refl, refl)
change_there f n zero h (x ∷ all) = absurd (omega arith)
change_there f zero (suc m) h (x ∷ all) = (refl, refl)
change_there f (suc n) (suc m) h (x ∷ all) = change_there f n m (omega arith) all

-- trees that are met one after another
abbrev pub tally : List Tree → Met → Met
tally [] m = m
tally (tree ∷ trees) m = tally trees (met_more (value_of tree) m)

tally-append : (xs ys : List Tree) (m : Met) → tally (xs ++ ys) m ≡ tally ys (tally xs m)
tally-append [] ys m = refl
tally-append (x ∷ xs) ys m = tally-append xs ys (met_more (value_of x) m)

-- where a tree is passed over nothing changes
seen_if : (b : Bool) (n : ℕ) (seen all : List Met) → met_at seen n ≡ met_at all n → met_at (cond b seen all) n ≡ met_at all n
seen_if true n seen all h = h
seen_if false n seen all h = refl

tally_if : (b : Bool) (n : ℕ) (seen all : List Met) (trees : List Tree) → met_at seen n ≡ tally trees (met_at all n) → met_at (cond b seen all) n ≡ tally (cond b trees []) (met_at all n)
tally_if true n seen all trees h = h
tally_if false n seen all trees h = refl

tally_again : (trees : List Tree) → tally trees met.Again ≡ met.Again
tally_again [] = refl
tally_again (tree ∷ trees) = tally_again trees

-- ---- tokens

record Steps {A : Type 0} (xs : List A) (n : ℕ) (x : A) (rest : List A) : Type 0 where
  stands : slice_get xs n ≡ Some x
  later : drop (suc n) xs ≡ rest

drop_step : {A : Type 0} (xs : List A) (n : ℕ) (x : A) (rest : List A) → drop n xs ≡ x ∷ rest → Steps xs n x rest
drop_step [] zero x rest h = absurd (cc)
drop_step [] (suc n) x rest h = absurd (cc)
drop_step (y ∷ xs) zero x rest h = record { stands = (let e : y ≡ x = cc in ap Some e); later = (let e : xs ≡ rest = cc in e) }
drop_step (y ∷ xs) (suc n) x rest h = let s = drop_step xs n x rest h in record { stands = s.stands; later = s.later }

-- a hyphen is no index
pub dash_no_index : (token : List ℕ) → is_dash token ≡ true → is_index token ≡ false
dash_no_index [] h = refl
dash_no_index (x ∷ []) h = let e : x ≡ 0x2d = grind (arith, nat_tests) in ap is_digit e
dash_no_index (x ∷ y ∷ more) h = absurd (cc)

pub place_of_dash : (token : List ℕ) (n : ℕ) → is_dash token ≡ true → place_in token n ≡ place.AfterLast
place_of_dash token n d =
    ap (λ (b : Bool). if b then place.AfterLast else
    if not (is_index token) then place.NotAnIndex else
    if nat_lt (value_after 0 token) n then place.Element (value_after 0 token) else place.PastEnd) d

pub place_of_none : (token : List ℕ) (n : ℕ) → is_dash token ≡ false → is_index token ≡ false → place_in token n ≡ place.NotAnIndex
place_of_none token n d i =
    ap (λ (b : Bool). if b then place.AfterLast else
    if not (is_index token) then place.NotAnIndex else
    if nat_lt (value_after 0 token) n then place.Element (value_after 0 token) else place.PastEnd) d
    ∙ ap (λ (b : Bool). if not b then place.NotAnIndex else
    if nat_lt (value_after 0 token) n then place.Element (value_after 0 token) else place.PastEnd) i

pub place_of_index : (token : List ℕ) (n : ℕ) → is_dash token ≡ false → is_index token ≡ true
    → place_in token n ≡ (if nat_lt (value_after 0 token) n then place.Element (value_after 0 token) else place.PastEnd)
place_of_index token n d i =
    ap (λ (b : Bool). if b then place.AfterLast else
    if not (is_index token) then place.NotAnIndex else
    if nat_lt (value_after 0 token) n then place.Element (value_after 0 token) else place.PastEnd) d
    ∙ ap (λ (b : Bool). if not b then place.NotAnIndex else
    if nat_lt (value_after 0 token) n then place.Element (value_after 0 token) else place.PastEnd) i

module _ (text : List ℕ) (tokens : List (List ℕ)) where
  -- the trees to which so many tokens more lead, in order
  abbrev mutual
    pub reach : ℕ → Tree → ℕ → List Tree
    reach zero tree level = tree ∷ []
    reach (suc d) (node k s children) level = reach_below children k level 0 d

    pub reach_below : Children → Kind → ℕ → ℕ → ℕ → List Tree
    reach_below no_children k level place d = []
    reach_below (child name tree more) k level place d = cond (hit text tokens k level place name) (reach d tree (suc level)) [] ++ reach_below more k level (suc place) d

  mutual
    -- below a level nothing changes
    before : (tree : Tree) (level n : ℕ) → n < level → (all : List Met) → met_at (visit text tokens tree level all) n ≡ met_at all n
    before (node k s children) level n h all =
        before_below children k level 0 n (omega arith) (meet k s level all)
        ∙ (change_there (met_more (record { kind = k; span = s })) n level h all).1

    before_below : (children : Children) (k : Kind) (level place n : ℕ) → n < suc level → (all : List Met) → met_at (visit_below text tokens children k level place all) n ≡ met_at all n
    before_below no_children k level place n h all = refl
    before_below (child name tree more) k level place n h all =
        before_below more k level (suc place) n h (cond (hit text tokens k level place name) (visit text tokens tree (suc level) all) all)
        ∙ seen_if (hit text tokens k level place name) n (visit text tokens tree (suc level) all) all (before tree (suc level) n h all)

  mutual
    met_behind : (d : ℕ) (tree : Tree) (level n : ℕ) → n ≡ level + d → (all : List Met) → met_at (visit text tokens tree level all) n ≡ tally (reach d tree level) (met_at all n)
    met_behind zero (node k s children) level n e all =
        let here : level ≡ n = omega arith in
        subst (λ (m : ℕ). met_at (visit text tokens (node k s children) level all) m ≡ met_more (record { kind = k; span = s }) (met_at all m)) here
        (before_below children k level 0 level (omega arith) (meet k s level all) ∙ change_here (met_more (record { kind = k; span = s })) refl level all)
    met_behind (suc d) (node k s children) level n e all =
        met_below children k level 0 d n (omega arith) (meet k s level all)
        ∙ ap (tally (reach_below children k level 0 d)) (change_there (met_more (record { kind = k; span = s })) level n (omega arith) all).0

    met_below : (children : Children) (k : Kind) (level place d n : ℕ) → n ≡ suc level + d → (all : List Met)
        → met_at (visit_below text tokens children k level place all) n ≡ tally (reach_below children k level place d) (met_at all n)
    met_below no_children k level place d n e all = refl
    met_below (child name tree more) k level place d n e all =
        let b = hit text tokens k level place name in
        met_below more k level (suc place) d n e (cond b (visit text tokens tree (suc level) all) all)
        ∙ ap (tally (reach_below more k level (suc place) d)) (tally_if b n (visit text tokens tree (suc level) all) all (reach d tree (suc level)) (met_behind d tree (suc level) n e all))
        ∙ sym (tally-append (cond b (reach d tree (suc level)) []) (reach_below more k level (suc place) d) (met_at all n))

  -- ---- one token more

  abbrev hits : Children → Kind → ℕ → ℕ → List Tree
  hits no_children k level place = []
  hits (child name tree more) k level place = cond (hit text tokens k level place name) (tree ∷ hits more k level (suc place)) (hits more k level (suc place))

  abbrev spread : ℕ → List Tree → List Tree
  spread level [] = []
  spread level (node k s children ∷ trees) = hits children k level 0 ++ spread level trees

  spread-append : (level : ℕ) (xs ys : List Tree) → spread level (xs ++ ys) ≡ spread level xs ++ spread level ys
  spread-append level [] ys = refl
  spread-append level (node k s children ∷ xs) ys =
      ap (λ (t : List Tree). hits children k level 0 ++ t) (spread-append level xs ys) ∙ sym (append_assoc (hits children k level 0) (spread level xs) (spread level ys))

  spread_if : (b : Bool) (n : ℕ) (xs ys : List Tree) → xs ≡ spread n ys → cond b xs [] ≡ spread n (cond b ys [])
  spread_if true n xs ys h = h
  spread_if false n xs ys h = refl

  first_hits : (children : Children) (k : Kind) (level place : ℕ) → reach_below children k level place 0 ≡ hits children k level place
  first_hits no_children k level place = refl
  first_hits (child name tree more) k level place =
      ap (λ (t : List Tree). cond (hit text tokens k level place name) (tree ∷ []) [] ++ t) (first_hits more k level (suc place))
      ∙ one_hit (hit text tokens k level place name) tree (hits more k level (suc place))
    where
      one_hit : (b : Bool) (tree : Tree) (trees : List Tree) → cond b (tree ∷ []) [] ++ trees ≡ cond b (tree ∷ trees) trees
      one_hit true tree trees = refl
      one_hit false tree trees = refl

  mutual
    reach_next : (d : ℕ) (tree : Tree) (level n : ℕ) → n ≡ level + d → reach (suc d) tree level ≡ spread n (reach d tree level)
    reach_next zero (node k s children) level n e =
        let here : level ≡ n = omega arith in
        first_hits children k level 0
        ∙ sym (append-nil (hits children k level 0))
        ∙ ap (λ (m : ℕ). hits children k m 0 ++ []) here
    reach_next (suc d) (node k s children) level n e = below_next children k level 0 d n (omega arith)

    below_next : (children : Children) (k : Kind) (level place d n : ℕ) → n ≡ suc level + d → reach_below children k level place (suc d) ≡ spread n (reach_below children k level place d)
    below_next no_children k level place d n e = refl
    below_next (child name tree more) k level place d n e =
        let b = hit text tokens k level place name in
        ap (λ (t : List Tree). cond b (reach (suc d) tree (suc level)) [] ++ t) (below_next more k level (suc place) d n e)
        ∙ ap (λ (t : List Tree). t ++ spread n (reach_below more k level (suc place) d)) (spread_if b n (reach (suc d) tree (suc level)) (reach d tree (suc level)) (reach_next d tree (suc level) n e))
        ∙ sym (spread-append n (cond b (reach d tree (suc level)) []) (reach_below more k level (suc place) d))

  -- ---- one step of the look-up

  -- a child with this tree
  record LeadsTo (x : Tree) (r : Result Numbered FindFault) : Type 0 where
    child : Numbered
    is : r ≡ Ok child
    tree : child.tree ≡ x

  -- the children that are hit are what a step comes to
  abbrev Agrees : FindFault → ℕ → List Tree → Result Numbered FindFault → Type 0
  Agrees fault level [] r = r ≡ Err fault
  Agrees fault level (x ∷ []) r = LeadsTo x r
  Agrees fault level (x ∷ y ∷ trees) r = r ≡ Err (NameRepeated level)

  module _ (token : List ℕ) (level : ℕ) (stands : slice_get tokens level ≡ Some token) where
    -- ---- members

    member_hit : (place : ℕ) (name : Option Span) → hit text tokens kind.Object level place name ≡ is_name text token name
    member_hit place name = ap (λ (t : Option (List ℕ)). names_member text t name) stands

    abbrev named : Numbered → Bool
    named d = is_name text token d.name

    picked : (b : Bool) (c : Numbered) (xs : List Numbered) (ys : List Tree) → map (λ (d : Numbered). d.tree) xs ≡ ys
        → map (λ (d : Numbered). d.tree) (cond b (c ∷ xs) xs) ≡ cond b (c.tree ∷ ys) ys
    picked true c xs ys h = ap (λ (t : List Tree). c.tree ∷ t) h
    picked false c xs ys h = h

    members_hit : (children : Children) (number place : ℕ) → map (λ (d : Numbered). d.tree) (filter named (numbered children number)) ≡ hits children kind.Object level place
    members_hit no_children number place = refl
    members_hit (child name tree more) number place =
        picked (is_name text token name) (record { name = name; tree = tree; number = number }) (filter named (numbered more (number + size tree))) (hits more kind.Object level (suc place))
        (members_hit more (number + size tree) (suc place))
        ∙ ap (λ (b : Bool). cond b (tree ∷ hits more kind.Object level (suc place)) (hits more kind.Object level (suc place))) (sym (member_hit place name))

    only_agrees : (xs : List Numbered) (ys : List Tree) → map (λ (d : Numbered). d.tree) xs ≡ ys → Agrees (NoSuchMember level) level ys (only xs level)
    only_agrees [] ys h = subst (λ (t : List Tree). Agrees (NoSuchMember level) level t (Err (NoSuchMember level))) h refl
    only_agrees (c ∷ []) ys h = subst (λ (t : List Tree). Agrees (NoSuchMember level) level t (Ok c)) h (record { child = c; is = refl; tree = refl })
    only_agrees (c ∷ d ∷ more) ys h = subst (λ (t : List Tree). Agrees (NoSuchMember level) level t (Err (NameRepeated level))) h refl

    -- ---- elements

    no_hits : (k : Kind) → ((place : ℕ) (name : Option Span) → hit text tokens k level place name ≡ false) → (children : Children) (place : ℕ) → hits children k level place ≡ []
    no_hits k h no_children place = refl
    no_hits k h (child name tree more) place =
        ap (λ (b : Bool). cond b (tree ∷ hits more k level (suc place)) (hits more k level (suc place))) (h place name) ∙ no_hits k h more (suc place)

    element_hit : (place : ℕ) (name : Option Span) → hit text tokens kind.Array level place name ≡ is_place token place
    element_hit place name = ap (λ (t : Option (List ℕ)). names_place t place) stands

    module _ (v : ℕ) (index : is_index token ≡ true) (value : value_after 0 token ≡ v) where
      hit_is : (place : ℕ) (name : Option Span) → hit text tokens kind.Array level place name ≡ (v == place)
      hit_is place name = element_hit place name ∙ ap (λ (b : Bool). b && (value_after 0 token == place)) index ∙ ap (λ (n : ℕ). n == place) value

      off : (place : ℕ) → (v ≡ place → ⊥) → (v == place) ≡ false
      off place h = grind (arith, nat_tests)

      past : (children : Children) (place : ℕ) → v < place → hits children kind.Array level place ≡ []
      past no_children place h = refl
      past (child name tree more) place h =
          ap (λ (b : Bool). cond b (tree ∷ hits more kind.Array level (suc place)) (hits more kind.Array level (suc place))) (hit_is place name ∙ off place (λ q. omega arith))
          ∙ past more (suc place) (omega arith)

      elements_agree : (children : Children) (number place i : ℕ) → place + i ≡ v → Agrees (PastEnd level) level (hits children kind.Array level place) (element (numbered children number) i level)
      elements_agree no_children number place i e = refl
      elements_agree (child name tree more) number place zero e =
          let on : (v == place) ≡ true = grind (arith, nat_tests) in
          subst (λ (t : List Tree). Agrees (PastEnd level) level t (Ok (record { name = name; tree = tree; number = number })))
          (sym (ap (λ (b : Bool). cond b (tree ∷ hits more kind.Array level (suc place)) (hits more kind.Array level (suc place))) (hit_is place name ∙ on)
          ∙ ap (λ (t : List Tree). tree ∷ t) (past more (suc place) (omega arith))))
          (record { child = record { name = name; tree = tree; number = number }; is = refl; tree = refl })
      elements_agree (child name tree more) number place (suc i) e =
          subst (λ (t : List Tree). Agrees (PastEnd level) level t (element (numbered more (number + size tree)) i level))
          (sym (ap (λ (b : Bool). cond b (tree ∷ hits more kind.Array level (suc place)) (hits more kind.Array level (suc place))) (hit_is place name ∙ off place (λ q. omega arith))))
          (elements_agree more (number + size tree) (suc place) i (omega arith))

    none_agrees : (fault : FindFault) (ys : List Tree) (r : Result Numbered FindFault) → ys ≡ [] → r ≡ Err fault → Agrees fault level ys r
    none_agrees fault ys r e h = subst (λ (t : List Tree). Agrees fault level t r) (sym e) h

    -- an element is told past the end where it is
    at_index : (xs : List Numbered) (v : ℕ) (b : Bool) → nat_lt v (length xs) ≡ b → at_place (if b then place.Element v else place.PastEnd) xs level ≡ element xs v level
    at_index xs v true h = refl
    at_index xs v false h = sym (beyond xs v (let p : length xs ≤ v = grind (arith, nat_tests) in p))
      where
        beyond : (xs : List Numbered) (v : ℕ) → length xs ≤ v → element xs v level ≡ Err (PastEnd level)
        beyond [] v h = refl
        beyond (x ∷ xs) zero h = absurd (omega arith)
        beyond (x ∷ xs) (suc v) h = beyond xs v (omega arith)

    array_by : (dash index : Bool) → is_dash token ≡ dash → is_index token ≡ index → (children : Children) (number : ℕ)
        → Agrees (missing kind.Array token level) level (hits children kind.Array level 0) (at_place (place_in token (length (numbered children number))) (numbered children number) level)
    array_by true index d i children number =
        let off : is_index token ≡ false = dash_no_index token d in
        let at : (n : ℕ) → place_in token n ≡ place.AfterLast = λ n. place_of_dash token n d in
        none_agrees (missing kind.Array token level) _ _
        (no_hits kind.Array (λ place name. element_hit place name ∙ ap (λ (b : Bool). b && (value_after 0 token == place)) off) children 0)
        (ap (λ (p : Place). at_place p (numbered children number) level) (at (length (numbered children number)))
        ∙ sym (ap (λ (p : Place). Err (missing_place p level)) (at 0)))
    array_by false false d i children number =
        let at : (n : ℕ) → place_in token n ≡ place.NotAnIndex = λ n. place_of_none token n d i in
        none_agrees (missing kind.Array token level) _ _
        (no_hits kind.Array (λ place name. element_hit place name ∙ ap (λ (b : Bool). b && (value_after 0 token == place)) i) children 0)
        (ap (λ (p : Place). at_place p (numbered children number) level) (at (length (numbered children number)))
        ∙ sym (ap (λ (p : Place). Err (missing_place p level)) (at 0)))
    array_by false true d i children number =
        let v = value_after 0 token in
        let xs = numbered children number in
        let none : nat_lt v 0 ≡ false = grind (arith, nat_tests) in
        let fault : missing kind.Array token level ≡ PastEnd level =
        ap (λ (p : Place). missing_place p level) (place_of_index token 0 d i ∙ ap (λ (b : Bool). if b then place.Element v else place.PastEnd) none) in
        subst (λ (f : FindFault). Agrees f level (hits children kind.Array level 0) (at_place (place_in token (length xs)) xs level)) (sym fault)
        (subst (λ (r : Result Numbered FindFault). Agrees (PastEnd level) level (hits children kind.Array level 0) r)
        (sym (ap (λ (p : Place). at_place p xs level) (place_of_index token (length xs) d i) ∙ at_index xs v (nat_lt v (length xs)) refl))
        (elements_agree v i refl children number 0 v (omega arith)))

    scalar_agrees : (k : Kind) → ((place : ℕ) (name : Option Span) → hit text tokens k level place name ≡ false) → (s : Span) (children : Children)
        → Agrees (NotAContainer level) level (spread level (node k s children ∷ [])) (Err (NotAContainer level))
    scalar_agrees k h s children = none_agrees (NotAContainer level) _ _ (append-nil (hits children k level 0) ∙ no_hits k h children 0) refl

    step_agrees : (tree : Tree) (number : ℕ)
        → Agrees (missing (kind_of tree) token level) level (spread level (tree ∷ [])) (one_token named token (kind_of tree) (numbered (children_of tree) number) level)
    step_agrees (node kind.Object s children) number =
        only_agrees (filter named (numbered children number)) _ (members_hit children number 0 ∙ sym (append-nil (hits children kind.Object level 0)))
    step_agrees (node kind.Array s children) number =
        subst (λ (t : List Tree). Agrees (missing kind.Array token level) level t (at_place (place_in token (length (numbered children number))) (numbered children number) level))
        (sym (append-nil (hits children kind.Array level 0)))
        (array_by (is_dash token) (is_index token) refl refl children number)
    step_agrees (node kind.String s children) number = scalar_agrees kind.String (λ place name. refl) s children
    step_agrees (node kind.Number s children) number = scalar_agrees kind.Number (λ place name. refl) s children
    step_agrees (node kind.True s children) number = scalar_agrees kind.True (λ place name. refl) s children
    step_agrees (node kind.False s children) number = scalar_agrees kind.False (λ place name. refl) s children
    step_agrees (node kind.Null s children) number = scalar_agrees kind.Null (λ place name. refl) s children

  -- ---- all tokens

  -- behind each number of tokens was met what they lead to
  abbrev pub HaveMet : Tree → List Met → Type 0
  HaveMet tree all = (n : ℕ) → n ≤ length tokens → met_at all n ≡ tally (reach n tree 0) met.Never

  pub have_met : (tree : Tree) → HaveMet tree (visit text tokens tree 0 (never (length tokens)))
  have_met tree n h = met_behind n tree 0 n (omega arith) (never (length tokens)) ∙ ap (tally (reach n tree 0)) (never_at (length tokens) n h)
    where
      never_at : (m n : ℕ) → n ≤ m → met_at (never m) n ≡ met.Never
      never_at zero zero h = refl
      never_at zero (suc n) h = absurd (omega arith)
      never_at (suc m) zero h = refl
      never_at (suc m) (suc n) h = never_at m n (omega arith)

  module _ (tree : Tree) (all : List Met) (have : HaveMet tree all) where
    -- where the tokens behind a token lead from the nodes that it leads to
    abbrev LeadOn : List (List ℕ) → ℕ → Type 0
    LeadOn rest level = (c : Numbered) → reach level tree 0 ≡ c.tree ∷ [] → read_from all rest level (value_of c.tree) ≡ found_of (led_from text rest c level)

    one_on : (token : List ℕ) (rest : List (List ℕ)) (level : ℕ) (c : Numbered) → LeadOn rest (suc level)
        → (trees : List Tree) → reach (suc level) tree 0 ≡ trees → (r : Result Numbered FindFault) → Agrees (missing (kind_of c.tree) token level) level trees r
        → read_met (tally trees met.Never) (kind_of c.tree) token level (read_from all rest (suc level)) ≡ found_of (and_then r (λ d. led_from text rest d (suc level)))
    one_on token rest level c on [] n r a = sym (ap (λ (x : Result Numbered FindFault). found_of (and_then x (λ d. led_from text rest d (suc level)))) a)
    one_on token rest level c on (x ∷ []) n r a =
        ap (λ (t : Tree). read_from all rest (suc level) (value_of t)) (sym a.tree)
        ∙ on a.child (n ∙ ap (λ (t : Tree). t ∷ []) (sym a.tree))
        ∙ sym (ap (λ (x : Result Numbered FindFault). found_of (and_then x (λ d. led_from text rest d (suc level)))) a.is)
    one_on token rest level c on (x ∷ y ∷ trees) n r a =
        ap (λ (m : Met). read_met m (kind_of c.tree) token level (read_from all rest (suc level))) (tally_again trees)
        ∙ sym (ap (λ (x : Result Numbered FindFault). found_of (and_then x (λ d. led_from text rest d (suc level)))) a)

    leads_on : (rest : List (List ℕ)) (level : ℕ) → drop level tokens ≡ rest → level + length rest ≡ length tokens → LeadOn rest level
    unfolding led_from
    leads_on [] level d l c r = refl
    leads_on (token ∷ rest) level d l c r =
        let s = drop_step tokens level token rest d in
        let next : reach (suc level) tree 0 ≡ spread level (c.tree ∷ []) = reach_next level tree 0 level (omega arith) ∙ ap (spread level) r in
        let here : met_at all (suc level) ≡ tally (spread level (c.tree ∷ [])) met.Never = have (suc level) (omega arith) ∙ ap (λ (t : List Tree). tally t met.Never) next in
        ap (λ (m : Met). read_met m (kind_of c.tree) token level (read_from all rest (suc level))) here
        ∙ one_on token rest level c (leads_on rest (suc level) s.later (omega (arith, l))) (spread level (c.tree ∷ [])) next
        (one_token (λ (d : Numbered). is_name text token d.name) token (kind_of c.tree) (numbered (children_of c.tree) (suc c.number)) level)
        (step_agrees token level s.stands c.tree (suc c.number))

    -- the root is met once, and from it the tokens lead where they do in the tree
    pub root_met : met_at all 0 ≡ met.Once (value_of tree)
    root_met = have 0 (omega arith)

    pub leads_from_root : read_from all tokens 0 (value_of tree) ≡ found_of (led text tree tokens)
    leads_from_root = leads_on tokens 0 refl (omega arith) (root_of tree) refl

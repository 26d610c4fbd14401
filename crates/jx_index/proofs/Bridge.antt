-- The look-up over a tree's rows is that over the tree.
use Rattle.std.proofs.Common.{◌≡◌, ℕ, zero, suc, ◌+◌, ◌<◌, List, [], ◌∷◌, ◌++◌, length, Option, None, Some, Bool, true, false, cond, refl, sym, ap, ◌∙◌, arith, Result, Ok, Err, subst}
use Rattle.std.specs.Prelude.{slice_get}
use Rattle.std.specs.Ordering.{nat_cmp, is_eq}
use Rattle.std.specs.Cmp.Lexicographic.{slice_cmp}
use Rattle.jx_lex.specs.declared.kind.Kind.{Kind}
use Rattle.jx_lex.specs.declared.kind.Kind.TheVariants as kind
use Rattle.jx_summary.specs.declared.span.Span.{Span}
use Rattle.jx_run.specs.Tree.{Tree, node, Children, no_children, child}
use Rattle.jx_index.specs.declared.find_fault.FindFault.{FindFault}
use Rattle.jx_index.specs.declared.row.Row.{Row}
use Rattle.jx_index.specs.Leads.{Numbered, numbered, kind_of, children_of, one_token, and_then, root_of, led_from, led, number_of, HasRow}
use Rattle.jx_index.specs.Names.{is_name, units_of_name}
use Rattle.jx_index.specs.Nodes.{kind_in, kind_at, name_in, name_at, is_parent, with_parent, child_numbers}
use Rattle.jx_index.specs.Rows.{size, rows}
use Rattle.jx_index.specs.RowsLead.{is_equal, row_token, rows_lead}
use Rattle.jx_index.specs.Standing.{Standing, standing, root_standing, row_of, Stands, itself, StandsBelow, in_first, in_later}
use Rattle.jx_index.proofs.Each.{Each, AtOk, OfObject, each_more, each_both, token_each, map_ok, token_map}
use Rattle.jx_index.proofs.NamedTrees.{HasName, AllNamed, NamedFor, Named, named_inner}
use Rattle.jx_index.proofs.Parents.{children_are, numbers-numbered}
use Rattle.jx_index.proofs.Walks.{has_row, goes_on}

-- ---- rows

pub slice_get_seam : (before : List Row) (row : Row) (behind : List Row) → slice_get (before ++ (row ∷ behind)) (length before) ≡ Some row
slice_get_seam [] row behind = refl
slice_get_seam (r ∷ before) row behind = slice_get_seam before row behind

-- the row at a node's number
pub row_there : {tree inner : Tree} {t : Standing} → Stands tree root_standing inner t → slice_get (rows tree) t.number ≡ Some (row_of inner t)
row_there {tree = tree} {inner = inner} {t = t} w =
    let h = has_row w in
    ap (λ x. slice_get x t.number) h.whole
    ∙ ap (slice_get (h.before ++ (row_of inner t ∷ h.behind))) (let e : t.number ≡ length h.before = omega (arith, h.number_is) in e)
    ∙ slice_get_seam h.before (row_of inner t) h.behind

pub kind_there : (inner : Tree) (t : Standing) → kind_in (Some (row_of inner t)) ≡ kind_of inner
kind_there (node k span below) t = refl

name_there : (inner : Tree) (t : Standing) → name_in (Some (row_of inner t)) ≡ t.name
name_there (node k span below) t = refl

-- ---- children

pub record IsChild (tree : Tree) (c : Numbered) : Type 0 where
  pub t : Standing
  pub stands : Stands tree root_standing c.tree t
  pub number_is : t.number ≡ c.number
  pub name_is : t.name ≡ c.name

each_child : (tree : Tree) (children : Children) (m q p : ℕ) → ((x : Tree) (u : Standing) → StandsBelow children m q p x u → Stands tree root_standing x u)
    → Each (IsChild tree) (numbered children m)
each_child tree no_children m q p into = tt
each_child tree (child name c more) m q p into = (
  record { t = standing m (Some q) p name; stands = into c (standing m (Some q) p name) (in_first itself); number_is = refl; name_is = refl },
  each_child tree more (m + size c) q (suc p) (λ x u w. into x u (in_later w)),
)

-- the children of a node
pub children_stand : (tree inner : Tree) (t : Standing) → Stands tree root_standing inner t → Each (IsChild tree) (numbered (children_of inner) (suc t.number))
children_stand tree inner t w = each_child tree (children_of inner) (suc t.number) t.number 0 (λ x u b. goes_on w b)

pub each_named : (children : Children) (m : ℕ) → AllNamed children → Each (λ (c : Numbered). HasName c.name) (numbered children m)
each_named no_children m h = tt
each_named (child name tree more) m h = (h.0, each_named more (m + size tree) h.1)

same_name : (text token : List ℕ) (name : Option Span) → HasName name → is_eq (slice_cmp nat_cmp (units_of_name text name) token) ≡ is_name text token name
same_name text token None h = absurd h
same_name text token (Some name) h = refl

-- the name in a child's row
pub name_of_child : (tree : Tree) (c : Numbered) → IsChild tree c → name_at (rows tree) c.number ≡ c.name
name_of_child tree c i = ap (name_at (rows tree)) (sym i.number_is) ∙ ap name_in (row_there i.stands) ∙ name_there c.tree i.t ∙ i.name_is

equal_is_name : (text token : List ℕ) (tree : Tree) (c : Numbered) → IsChild tree c × HasName c.name → is_equal text (rows tree) token c.number ≡ is_name text token c.name
equal_is_name text token tree c h =
    ap (λ x. is_eq (slice_cmp nat_cmp (units_of_name text x) token)) (name_of_child tree c h.0) ∙ same_name text token c.name h.1

of_object : (k : Kind) (text token : List ℕ) (tree : Tree) (below : Children) (m : ℕ) → NamedFor k below → Each (IsChild tree) (numbered below m)
    → OfObject (λ (c : Numbered). c.number) k (Each (λ (c : Numbered). is_equal text (rows tree) token c.number ≡ is_name text token c.name) (numbered below m))
of_object kind.Object text token tree below m h e = each_more (equal_is_name text token tree) (numbered below m) (each_both (IsChild tree) (λ (c : Numbered). HasName c.name) (numbered below m) e (each_named below m h))
of_object kind.Array text token tree below m h e = tt
of_object kind.String text token tree below m h e = tt
of_object kind.Number text token tree below m h e = tt
of_object kind.True text token tree below m h e = tt
of_object kind.False text token tree below m h e = tt
of_object kind.Null text token tree below m h e = tt

pub named_for : (inner : Tree) → Named inner → NamedFor (kind_of inner) (children_of inner)
named_for (node k span below) h = h.0

-- ---- one token, and then the others

step_is : (text : List ℕ) (tree : Tree) → Named tree → (token : List ℕ) (inner : Tree) (t : Standing) → Stands tree root_standing inner t → (k : ℕ)
    → row_token text (rows tree) token t.number k
    ≡ map_ok (λ (c : Numbered). c.number) (one_token (λ (c : Numbered). is_name text token c.name) token (kind_of inner) (numbered (children_of inner) (suc t.number)) k)
step_is text tree named token inner t w k =
    let p = is_equal text (rows tree) token in
    let xs = numbered (children_of inner) (suc t.number) in
    ap (λ x. one_token p token x (child_numbers (rows tree) t.number) k) (ap kind_in (row_there w) ∙ kind_there inner t)
    ∙ ap (λ x. one_token p token (kind_of inner) x k) (children_are w ∙ numbers-numbered (children_of inner) (suc t.number))
    ∙ token_map (λ (c : Numbered). c.number) p (λ (c : Numbered). is_name text token c.name) token (kind_of inner) xs k
    (of_object (kind_of inner) text token tree (children_of inner) (suc t.number) (named_for inner (named_inner w named)) (children_stand tree inner t w))

number_then : (r : Result Numbered FindFault) (on : Numbered → Result Numbered FindFault) (to : ℕ → Result ℕ FindFault)
    → AtOk (λ (c : Numbered). number_of (on c) ≡ to c.number) r → number_of (and_then r on) ≡ and_then (map_ok (λ (c : Numbered). c.number) r) to
number_then (Ok c) on to h = h
number_then (Err fault) on to h = refl

pub leads_are : (text : List ℕ) (tree : Tree) → Named tree → (tokens : List (List ℕ)) (name : Option Span) (inner : Tree) (t : Standing) → Stands tree root_standing inner t → (k : ℕ)
    → number_of (led_from text tokens (record { name = name; tree = inner; number = t.number }) k) ≡ rows_lead text (rows tree) tokens t.number k
unfolding led_from rows_lead
leads_are text tree named [] name inner t w k = refl
leads_are text tree named (token ∷ tokens) name inner t w k =
    let on : Numbered → Result Numbered FindFault = λ c. led_from text tokens c (suc k) in
    let to : ℕ → Result ℕ FindFault = λ n. rows_lead text (rows tree) tokens n (suc k) in
    let r = one_token (λ (c : Numbered). is_name text token c.name) token (kind_of inner) (numbered (children_of inner) (suc t.number)) k in
    number_then r on to
    (token_each (λ (c : Numbered). number_of (on c) ≡ to c.number) (λ (c : Numbered). is_name text token c.name) token (kind_of inner) (numbered (children_of inner) (suc t.number)) k
    (each_more
    (λ (c : Numbered) (h : IsChild tree c).
    ap (λ n. number_of (led_from text tokens (record { name = c.name; tree = c.tree; number = n }) (suc k))) (sym h.number_is)
    ∙ leads_are text tree named tokens c.name c.tree h.t h.stands (suc k)
    ∙ ap (λ n. rows_lead text (rows tree) tokens n (suc k)) h.number_is)
    (numbered (children_of inner) (suc t.number))
    (children_stand tree inner t w)))
    ∙ sym (ap (λ x. and_then x to) (step_is text tree named token inner t w k))

-- ---- what tokens lead to is a node, whose row stands at its number

then_each : (P : Numbered → Type 0) (r : Result Numbered FindFault) (on : Numbered → Result Numbered FindFault) → AtOk (λ (c : Numbered). AtOk P (on c)) r → AtOk P (and_then r on)
then_each P (Ok c) on h = h
then_each P (Err fault) on h = tt

led_each : (text : List ℕ) (tree : Tree) (tokens : List (List ℕ)) (c : Numbered) → IsChild tree c → (k : ℕ) → AtOk (IsChild tree) (led_from text tokens c k)
unfolding led_from
led_each text tree [] c h k = h
led_each text tree (token ∷ tokens) c h k =
    let on : Numbered → Result Numbered FindFault = λ d. led_from text tokens d (suc k) in
    let below : Each (IsChild tree) (numbered (children_of c.tree) (suc c.number)) =
    subst (λ n. Each (IsChild tree) (numbered (children_of c.tree) (suc n))) h.number_is
    (each_child tree (children_of c.tree) (suc h.t.number) h.t.number 0 (λ x u b. goes_on h.stands b)) in
    then_each (IsChild tree) (one_token (λ (d : Numbered). is_name text token d.name) token (kind_of c.tree) (numbered (children_of c.tree) (suc c.number)) k) on
    (token_each (λ (d : Numbered). AtOk (IsChild tree) (on d)) (λ (d : Numbered). is_name text token d.name) token (kind_of c.tree) (numbered (children_of c.tree) (suc c.number)) k
    (each_more (λ (d : Numbered) (i : IsChild tree d). led_each text tree tokens d i (suc k)) (numbered (children_of c.tree) (suc c.number)) below))

at_ok : (P : Numbered → Type 0) (r : Result Numbered FindFault) → AtOk P r → (c : Numbered) → r ≡ Ok c → P c
at_ok P (Ok d) h c e = let same : d ≡ c = cc in subst P same h
at_ok P (Err fault) h c e = absurd (cc)

row_fields : (table : List Row) (inner : Tree) (t : Standing) (name : Option Span) (number : ℕ) → slice_get table number ≡ Some (row_of inner t) → t.name ≡ name
    → HasRow table (record { name = name; tree = inner; number = number })
row_fields table (node k span below) t name number e n = record { row = row_of (node k span below) t; is_row = e; kind = refl; span = refl; name = n }

pub led_row : (text : List ℕ) (tree : Tree) (tokens : List (List ℕ)) (c : Numbered) → led text tree tokens ≡ Ok c → HasRow (rows tree) c
led_row text tree tokens c e =
    let root : IsChild tree (root_of tree) = record { t = root_standing; stands = itself; number_is = refl; name_is = refl } in
    let h = at_ok (IsChild tree) (led text tree tokens) (led_each text tree tokens (root_of tree) root 0) c e in
    row_fields (rows tree) c.tree h.t c.name c.number (ap (slice_get (rows tree)) (sym h.number_is) ∙ row_there h.stands) h.name_is

-- ---- numbers of rows

pub children_within : (n i : ℕ) (table : List Row) → Each (λ x. x < i + length table) (with_parent n i table)
children_within n i [] = tt
children_within n i (row ∷ table) =
    pick (is_parent n row.parent) (each_more (λ x h. omega arith) (with_parent n (suc i) table) (children_within n (suc i) table))
  where
    pick : (b : Bool) → Each (λ x. x < i + suc (length table)) (with_parent n (suc i) table) → Each (λ x. x < i + suc (length table)) (cond b (i ∷ with_parent n (suc i) table) (with_parent n (suc i) table))
    pick true h = (omega arith, h)
    pick false h = h

-- a row of that kind is there
pub array_row : (table : List Row) (n : ℕ) → kind_at table n ≡ kind.Array → n < length table
array_row [] n h = absurd (cc)
array_row (row ∷ table) zero h = omega arith
array_row (row ∷ table) (suc n) h = omega (arith, array_row table n h)

pub object_row : (table : List Row) (n : ℕ) → kind_at table n ≡ kind.Object → n < length table
object_row [] n h = absurd (cc)
object_row (row ∷ table) zero h = omega arith
object_row (row ∷ table) (suc n) h = omega (arith, object_row table n h)

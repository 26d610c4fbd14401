-- Where no object repeats a name, no look-up meets a name that is repeated.
use Rattle.std.proofs.Common.{◌≡◌, ℕ, zero, suc, List, [], ◌∷◌, length, drop, map, Option, None, Some, Result, Ok, Err, refl, sym, ap, subst, ◌∙◌, inl}
use Rattle.std.specs.Prelude.{filter}
use Rattle.jx_lex.specs.declared.kind.Kind.{Kind}
use Rattle.jx_lex.specs.declared.kind.Kind.TheVariants as kind
use Rattle.jx_summary.specs.declared.span.Span.{Span}
use Rattle.jx_run.specs.Text.{IsText}
use Rattle.jx_run.specs.Tree.{Tree}
use Rattle.jx_index.specs.declared.array_token.Place.{Place}
use Rattle.jx_index.specs.declared.array_token.Place.TheVariants as place
use Rattle.jx_index.specs.declared.find_fault.FindFault.{FindFault}
use Rattle.jx_index.specs.declared.find_fault.FindFault.TheVariants.{NameRepeated}
use Rattle.jx_index.specs.declared.row.Row.{Row}
use Rattle.jx_index.specs.ArrayTokens.{place_in}
use Rattle.jx_index.specs.Leads.{Numbered, numbered, kind_of, children_of, only, element, at_place, one_token, and_then, leads}
use Rattle.jx_index.specs.Nodes.{IsObjectAt, kind_at, kind_in, name_at, child_numbers}
use Rattle.jx_index.specs.Repeats.{IsAmong, start_in, IsRepeat}
use Rattle.jx_index.specs.Rows.{rows}
use Rattle.jx_index.specs.RowsLead.{is_equal, row_token, rows_lead}
use Rattle.jx_index.proofs.Bridge.{IsChild, children_stand, each_named, kind_there, name_of_child, named_for, object_row}
use Rattle.jx_index.proofs.Each.{Each, each_more, each_both, each_filter}
use Rattle.jx_index.proofs.Indexes.{tree_leads}
use Rattle.jx_index.proofs.NamedTrees.{HasName, Named, NamedFor, AllNamed, named_inner, text_named}
use Rattle.jx_index.proofs.Parents.{children_are, numbers-numbered}
use Rattle.jx_index.proofs.Shapes.{node_at}

-- ---- only an object's members are told to be repeated

module _ {A : Type 0} where
  element_once : (xs : List A) (i k j : ℕ) → element xs i k ≡ Err (NameRepeated j) → ⊥
  element_once [] i k j e = absurd (cc)
  element_once (c ∷ more) zero k j e = absurd (cc)
  element_once (c ∷ more) (suc i) k j e = element_once more i k j e

  place_once : (at : Place) (xs : List A) (k j : ℕ) → at_place at xs k ≡ Err (NameRepeated j) → ⊥
  place_once (place.Element i) xs k j e = element_once xs i k j e
  place_once place.PastEnd xs k j e = absurd (cc)
  place_once place.AfterLast xs k j e = absurd (cc)
  place_once place.NotAnIndex xs k j e = absurd (cc)

  record Two (xs : List A) : Type 0 where
    first : A
    second : A
    more : List A
    are : xs ≡ first ∷ second ∷ more

  repeated_two : (xs : List A) (k j : ℕ) → only xs k ≡ Err (NameRepeated j) → Two xs
  repeated_two [] k j e = absurd (cc)
  repeated_two (c ∷ []) k j e = absurd (cc)
  repeated_two (c ∷ d ∷ more) k j e = record { first = c; second = d; more = more; are = refl }

-- ---- over rows

-- its name begins somewhere
abbrev pub HasStart : List Row → ℕ → Type 0
HasStart table node = (at : ℕ) × (start_in (name_at table node) ≡ Some at)

module _ (text : List ℕ) (table : List Row) (unique : (at : ℕ) → IsRepeat text table at → ⊥)
    (named : (object : ℕ) → IsObjectAt table object → Each (HasStart table) (child_numbers table object)) where
  names_once : (token : List ℕ) (object k j : ℕ) → IsObjectAt table object → only (filter (is_equal text table token) (child_numbers table object)) k ≡ Err (NameRepeated j) → ⊥
  names_once token object k j is e =
      let p = is_equal text table token in
      let members = child_numbers table object in
      let two : Two (filter p members) = repeated_two (filter p members) k j e in
      let starts : Each (HasStart table) (two.first ∷ two.second ∷ two.more) = subst (Each (HasStart table)) two.are (each_filter (HasStart table) p members (named object is)) in
      unique starts.1.0.0 (record {
        object = object;
        is_object = is;
        repeats = record {
          units = token;
          name = two.second;
          behind = subst (λ (xs : List ℕ). IsAmong two.second (drop 1 xs)) (sym two.are) (inl refl);
          starts = starts.1.0.1;
        };
      })

  token_once : (k : Kind) (token : List ℕ) (node n j : ℕ) → kind_at table node ≡ k → one_token (is_equal text table token) token k (child_numbers table node) n ≡ Err (NameRepeated j) → ⊥
  token_once kind.Object token node n j is e = names_once token node n j is e
  token_once kind.Array token node n j is e = place_once (place_in token (length (child_numbers table node))) (child_numbers table node) n j e
  token_once kind.String token node n j is e = absurd (cc)
  token_once kind.Number token node n j is e = absurd (cc)
  token_once kind.True token node n j is e = absurd (cc)
  token_once kind.False token node n j is e = absurd (cc)
  token_once kind.Null token node n j is e = absurd (cc)

  lead_once : (tokens : List (List ℕ)) (node k j : ℕ) → rows_lead text table tokens node k ≡ Err (NameRepeated j) → ⊥
  unfolding rows_lead
  lead_once [] node k j e = absurd (cc)
  lead_once (token ∷ tokens) node k j e = pick (row_token text table token node k) refl e (λ n h. lead_once tokens n (suc k) j h)
    where
      pick : (r : Result ℕ FindFault) → row_token text table token node k ≡ r → and_then r (λ n. rows_lead text table tokens n (suc k)) ≡ Err (NameRepeated j)
          → ((n : ℕ) → rows_lead text table tokens n (suc k) ≡ Err (NameRepeated j) → ⊥) → ⊥
      pick (Ok n) q h rec = rec n h
      pick (Err f) q h rec = token_once (kind_at table node) token node k j refl (q ∙ h)

-- ---- over a text's tree

start_of : (name : Option Span) → HasName name → (at : ℕ) × (start_in name ≡ Some at)
start_of None h = absurd h
start_of (Some span) h = (span.start, refl)

each_map : {A B : Type 0} (f : A → B) (P : B → Type 0) (xs : List A) → Each (λ x. P (f x)) xs → Each P (map f xs)
each_map f P [] h = tt
each_map f P (x ∷ xs) h = (h.0, each_map f P xs h.1)

child_start : (tree : Tree) (c : Numbered) → IsChild tree c × HasName c.name → HasStart (rows tree) c.number
child_start tree c h =
    let s = start_of c.name h.1 in
    (s.0, ap start_in (name_of_child tree c h.0) ∙ s.1)

-- each member of an object has a name
pub members_start : (tree : Tree) → Named tree → (object : ℕ) → IsObjectAt (rows tree) object → Each (HasStart (rows tree)) (child_numbers (rows tree) object)
members_start tree named object is =
    let h = node_at tree object (object_row (rows tree) object is) in
    let below = children_of h.inner in
    let kind_is : kind_of h.inner ≡ kind.Object = sym (kind_there h.inner h.standing) ∙ sym (ap kind_in h.is_row) ∙ is in
    let names : AllNamed below = subst (λ (k : Kind). NamedFor k below) kind_is (named_for h.inner (named_inner h.stands named)) in
    let children = numbered below (suc h.standing.number) in
    let starts : Each (λ (c : Numbered). HasStart (rows tree) c.number) children =
    each_more (child_start tree) children
    (each_both (IsChild tree) (λ (c : Numbered). HasName c.name) children (children_stand tree h.inner h.standing h.stands) (each_named below (suc h.standing.number) names)) in
    let are : child_numbers (rows tree) object ≡ map (λ (c : Numbered). c.number) children =
    ap (child_numbers (rows tree)) (sym h.number_is) ∙ children_are h.stands ∙ numbers-numbered below (suc h.standing.number) in
    subst (Each (HasStart (rows tree))) (sym are) (each_map (λ (c : Numbered). c.number) (HasStart (rows tree)) children starts)

pub never_repeated : (text : List ℕ) (start end limit : ℕ) (tree : Tree) → IsText text start end limit tree → ((at : ℕ) → IsRepeat text (rows tree) at → ⊥)
    → (tokens : List (List ℕ)) (j : ℕ) → leads text tree tokens ≡ Err (NameRepeated j) → ⊥
never_repeated text start end limit tree t unique tokens j e =
    lead_once text (rows tree) unique (members_start tree (text_named t.reads)) tokens 0 0 j (tree_leads text (rows tree) start end limit tree t refl tokens ∙ e)

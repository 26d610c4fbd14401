-- One token after another, from the root of a trie on.
use Rattle.std.proofs.Common.{◌≡◌, ℕ, suc, ◌+◌, ◌<◌, List, [], ◌∷◌, ◌++◌, length, take, drop, None, Some, Bool, true, refl, sym, ap, subst, ◌∙◌, append_assoc, arith}
use Rattle.std.specs.Prelude.{◌==◌, ◌&&◌, slice_get}
use Rattle.std.specs.Ordering.{nat_cmp, is_eq}
use Rattle.std.specs.Cmp.Lexicographic.{slice_cmp, nat_list_cmp_total}
use Rattle.std.proofs.lemmas.Bool.Decides.{nat_tests}
use Rattle.std.proofs.lemmas.Cmp.{tied_itself}
use Rattle.std.proofs.lemmas.Bool.{false_from_ne_true}
use Rattle.jx_index.specs.declared.trie.Edge.{Edge}
use Rattle.jx_index.specs.declared.units.Spelling.TheVariants.{InToken}
use Rattle.jx_index.specs.Pointers.{HasNoSlash, HasSlash, tokens}
use Rattle.jx_index.specs.Units.{chars_units}
use Rattle.jx_index.specs.inside.Trie.{child_at, edge_units, leads_to_units, IsTrie, IsWay, stops, goes}
use Rattle.jx_index.proofs.NameKeys.{same_units}
use Rattle.jx_index.proofs.Tests.{first_true, same, second_true}
use Rattle.jx_index.proofs.TokenSteps.{tokens_next}
use Rattle.jx_index.proofs.Ways.{apart, first_hit}

module _ (edges : List Edge) (trie : IsTrie edges) where
  -- the first node of a way behind its start is the child
  pub child_is : (c : ℕ) (e : Edge) (node : ℕ) (units : List ℕ) → slice_get edges c ≡ Some e → e.parent ≡ node → edge_units e ≡ units → child_at edges node units ≡ Some (suc c)
  child_is c e node units is p u =
      let parent : (e.parent == node) ≡ true = grind (arith, nat_tests, p) in
      let equal : is_eq (slice_cmp nat_cmp units (edge_units e)) ≡ true = ap (λ (v : List ℕ). is_eq (slice_cmp nat_cmp units v)) u ∙ ap is_eq (tied_itself nat_list_cmp_total units) in
      let hit : leads_to_units node units e ≡ true = ap (λ (b : Bool). b && is_eq (slice_cmp nat_cmp units (edge_units e))) parent ∙ equal in
      first_hit (leads_to_units node units) edges 1 c e is hit
      (λ j a l a_is. false_from_ne_true (leads_to_units node units a) (λ t.
      apart edges trie j c a e l a_is is (same a.parent node (first_true (a.parent == node) (is_eq (slice_cmp nat_cmp units (edge_units a))) t) ∙ sym p)
      (sym (same_units units (edge_units a) (second_true (a.parent == node) (is_eq (slice_cmp nat_cmp units (edge_units a))) t)) ∙ sym u)))
      ∙ ap (λ (n : ℕ). Some n) (let z : 1 + c ≡ suc c = omega arith in z)

-- what is left of a way from a node on, where the nodes before it were noted
pub record IsLeft (edges : List Edge) (node : ℕ) (ts : List (List ℕ)) (noted : List ℕ) (path : List ℕ) : Type 0 where
  pub rest : List ℕ
  pub way : IsWay edges node ts rest
  pub whole : noted ++ rest ≡ path

pub left_all : (edges : List Edge) (ts : List (List ℕ)) (noted path : List ℕ) → noted ≡ [] → IsWay edges 0 ts path → IsLeft edges 0 ts noted path
left_all edges ts noted path none way = record { rest = path; way = way; whole = ap (λ (ns : List ℕ). ns ++ path) none }

-- a token of a pointer, and the others
pub token_first : (rest bytes later name : List ℕ) (n : ℕ) → 0 < length rest → HasSlash rest → bytes ≡ drop 1 rest → HasNoSlash (take n bytes) → HasSlash (drop n bytes) → name ≡ take n bytes → later ≡ drop n bytes
    → tokens rest ≡ chars_units InToken 0 name ∷ tokens later
token_first rest bytes later name n here slash from slashless next name_is later_is =
    tokens_next rest bytes n here slash from slashless next
    ∙ ap (λ (x : List ℕ). chars_units InToken 0 x ∷ tokens (drop n bytes)) (sym name_is)
    ∙ ap (λ (x : List ℕ). chars_units InToken 0 name ∷ tokens x) (sym later_is)

module _ (edges : List Edge) (trie : IsTrie edges) (node : ℕ) (noted path : List ℕ) where
  pub left_on : (next : ℕ) (ts : List (List ℕ)) (units : List ℕ) (more : List (List ℕ)) (grown : List ℕ) → ts ≡ units ∷ more → Some next ≡ child_at edges node units → grown ≡ noted ++ node ∷ []
      → IsLeft edges node ts noted path → IsLeft edges next more grown path
  left_on next ts units more grown e h grown_is left = by left.rest (subst (λ (us : List (List ℕ)). IsWay edges node us left.rest) e left.way) left.whole
    where
      by : (rest : List ℕ) → IsWay edges node (units ∷ more) rest → noted ++ rest ≡ path → IsLeft edges next more grown path
      by rest (goes {c = c} {path = later} x is p u le way) whole =
          let n : Some next ≡ Some (suc c) = h ∙ child_is edges trie c x node units is p u in
          let next_is : next ≡ suc c = cc in
          record {
            rest = later;
            way = subst (λ (k : ℕ). IsWay edges k more later) (sym next_is) way;
            whole = ap (λ (ns : List ℕ). ns ++ later) grown_is ∙ append_assoc noted (node ∷ []) later ∙ whole;
          }

  pub no_child : (ts : List (List ℕ)) (units : List ℕ) (more : List (List ℕ)) → ts ≡ units ∷ more → None ≡ child_at edges node units → IsLeft edges node ts noted path → ⊥
  no_child ts units more e h left = by left.rest (subst (λ (us : List (List ℕ)). IsWay edges node us left.rest) e left.way)
    where
      by : (rest : List ℕ) → IsWay edges node (units ∷ more) rest → ⊥
      by rest (goes {c = c} x is p u le way) = let n : None ≡ Some (suc c) = h ∙ child_is edges trie c x node units is p u in absurd (cc)

  pub left_none : (ts : List (List ℕ)) (all : List ℕ) → ts ≡ [] → all ≡ noted ++ node ∷ [] → IsLeft edges node ts noted path → all ≡ path
  left_none ts all e all_is left = by left.rest (subst (λ (us : List (List ℕ)). IsWay edges node us left.rest) e left.way) left.whole
    where
      by : (rest : List ℕ) → IsWay edges node [] rest → noted ++ rest ≡ path → all ≡ path
      by rest stops whole = all_is ∙ whole

-- a way has a node more than tokens lead along it
pub way_long : (edges : List Edge) (node : ℕ) (ts : List (List ℕ)) (path : List ℕ) → IsWay edges node ts path → length path ≡ suc (length ts)
way_long edges node [] path stops = refl
way_long edges node (t ∷ ts) path (goes {c = c} {path = later} x is p u le way) = ap suc (way_long edges (suc c) ts later way)

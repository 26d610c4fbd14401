-- The value to which a pointer leads, told by where it starts.
use Rattle.std.proofs.Common.{◌≡◌, ◌<◌, ◌+◌, ℕ, zero, suc, List, [], ◌∷◌, length, map, refl, sym, ap, subst, ◌∙◌, arith}
use Rattle.std.specs.Prelude.{Some, Result, Ok, Err, slice_get, get_or, option_map}
use Rattle.std.specs.List.Sorted.{IsStrictlyIncreasing}
use Rattle.std.proofs.lemmas.List.Kept.{AllPairs-from_increasing}
use Rattle.std.proofs.lemmas.Option.{get_or_from_slice_get, slice_get-map, slice_get_within}
use Rattle.jx_summary.specs.declared.span.Span.{Span}
use Rattle.jx_run.specs.Settings.{IsDocumentBy, IsFront}
use Rattle.jx_run.specs.Text.{IsDocument}
use Rattle.jx_run.specs.Tree.{Tree}
use Rattle.jx_run.specs.declared.texts.settings.Settings.{Settings}
use Rattle.jx_index.specs.declared.find_fault.FindFault.{FindFault}
use Rattle.jx_index.specs.declared.finder.Found.{Found}
use Rattle.jx_index.specs.declared.row.Row.{Row}
use Rattle.jx_index.specs.Found.{AreFoundIn, found_of, value_of}
use Rattle.jx_index.specs.Leads.{HasRow, Numbered, led, leads, number_of}
use Rattle.jx_index.specs.Pointers.{tokens}
use Rattle.jx_index.specs.Rows.{rows}
use Rattle.jx_index.proofs.Along.{zip_at}
use Rattle.jx_serve.specs.inside.Leading.{StartsAt}

equal_by : (i j : ℕ) → (i < j → ⊥) → (j < i → ⊥) → i ≡ j
equal_by zero zero a b = refl
equal_by zero (suc j) a b = absurd (a (omega arith))
equal_by (suc i) zero a b = absurd (b (omega arith))
equal_by (suc i) (suc j) a b = ap suc (equal_by i j (λ h. a (omega (arith, h))) (λ h. b (omega (arith, h))))

apart : (xs : List ℕ) (i j v w : ℕ) → IsStrictlyIncreasing xs → slice_get xs i ≡ Some v → slice_get xs j ≡ Some w → v ≡ w → i < j → ⊥
apart xs i j v w s a b e h =
    let below : get_or xs i v < get_or xs j v = AllPairs-from_increasing xs s i j v h (slice_get_within xs j w b) in
    omega (arith, below, get_or_from_slice_get xs i v v a, get_or_from_slice_get xs j w v b, e)

abbrev starts : List Row → List ℕ
starts table = map (λ (row : Row). row.span.start) table

at_start : (table : List Row) (n : ℕ) (row : Row) → slice_get table n ≡ Some row → slice_get (starts table) n ≡ Some row.span.start
at_start table n row e = slice_get-map (λ (r : Row). r.span.start) table n ∙ ap (option_map (λ (r : Row). r.span.start)) e

-- rows that start at one place are the same
same_row : (table : List Row) (i j : ℕ) (x y : Row) → IsStrictlyIncreasing (starts table) → slice_get table i ≡ Some x → slice_get table j ≡ Some y → x.span.start ≡ y.span.start → i ≡ j
same_row table i j x y s a b e =
    equal_by i j (apart (starts table) i j x.span.start y.span.start s (at_start table i x a) (at_start table j y b) e)
    (apart (starts table) j i y.span.start x.span.start s (at_start table j y b) (at_start table i x a) (sym e))

-- a look-up that finds something ends at its node
record EndsAt (told : Result Numbered FindFault) (found : Found) : Type 0 where
  node : Numbered
  is : told ≡ Ok node
  found_is : found ≡ value_of node.tree

ends_at : (told : Result Numbered FindFault) (found : Found) → (let x : Result Found FindFault = Ok found in x) ≡ found_of told → EndsAt told found
ends_at (Ok node) found e = record { node = node; is = refl; found_is = (let x : found ≡ value_of node.tree = cc in x) }
ends_at (Err fault) found e = absurd cc

module _ (led_law : (text : List ℕ) (tree : Tree) (ts : List (List ℕ)) (node : Numbered) → led text tree ts ≡ Ok node → HasRow (rows tree) node)
    (starts_law : (start limit : ℕ) (bytes : List ℕ) (tree : Tree) → IsDocument start bytes limit tree → IsStrictlyIncreasing (map (λ (row : Row). row.span.start) (rows tree)))
    (tree_law : (s : Settings) (at : ℕ) (bytes : List ℕ) (x y : Tree) → IsDocumentBy s at bytes x → IsDocumentBy s at bytes y → x ≡ y) where
  leads_there : (text : List ℕ) (tree : Tree) (ts : List (List ℕ)) (found : Found) (row : Row) (number : ℕ) → IsStrictlyIncreasing (starts (rows tree)) → EndsAt (led text tree ts) found
      → found.span.start ≡ row.span.start → slice_get (rows tree) number ≡ Some row → leads text tree ts ≡ Ok number
  leads_there text tree ts found row number rise h e at =
      let there : HasRow (rows tree) h.node = led_law text tree ts h.node h.is in
      let begins : there.row.span.start ≡ row.span.start = ap (λ (s : Span). s.start) there.span ∙ sym (ap (λ (f : Found). f.span.start) h.found_is) ∙ e in
      ap number_of h.is ∙ ap (λ (n : ℕ). let x : Result ℕ FindFault = Ok n in x) (same_row (rows tree) h.node.number number there.row row rise there.is_row at begins)

  pub found_leads : (settings any : Settings) (text pointer : List ℕ) (found : List (Result Found FindFault)) (row : Row) → any.depth ≡ settings.depth → any.mark ≡ settings.mark
      → AreFoundIn any text (pointer ∷ []) found → StartsAt row.span.start found → (tree : Tree) (number : ℕ) → IsDocumentBy settings 0 text tree → slice_get (rows tree) number ≡ Some row
      → leads text tree (tokens pointer) ≡ Ok number
  found_leads settings any text pointer found row depth mark are first tree number d at =
      let same : are.tree ≡ tree =
      tree_law any 0 text are.tree tree are.is_text
      (record {
        front = d.front;
        rest = d.rest;
        is_front = subst (λ m. IsFront m d.front) (sym mark) d.is_front;
        whole = d.whole;
        text = subst (λ n. IsDocument (0 + length d.front) d.rest n tree) (sym depth) d.text;
      }) in
      let zip = zip_at (λ (p : List ℕ) (one : Result Found FindFault). one ≡ found_of (led text are.tree (tokens p))) (pointer ∷ []) found 0 pointer (Ok first.value) are.found_are refl first.is_first in
      leads_there text tree (tokens pointer) first.value row number (starts_law (0 + length d.front) settings.depth d.rest tree d.text)
      (ends_at (led text tree (tokens pointer)) first.value (subst (λ (t : Tree). (let x : Result Found FindFault = Ok first.value in x) ≡ found_of (led text t (tokens pointer))) same zip)) first.starts at

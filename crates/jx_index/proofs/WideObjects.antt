-- The fronts of the names of objects with many members.
use Rattle.std.proofs.Common.{◌≡◌, ℕ, ◌+◌, List, [], ◌∷◌, ◌++◌, length, map, Option, None, Some, sym, ap, subst, ◌∙◌, arith}
use Rattle.std.specs.Prelude.{slice_index, IfSome, Vec}
use Rattle.std.specs.declared.alloc.Global.{Global}
use Rattle.std.proofs.lemmas.List.{append_cancel_left}
use Rattle.std.specs.List.{All}
use Rattle.std.proofs.lemmas.List.Elements.{All-append}
use Rattle.jx_run.proofs.Transitions.{all_at}
use Rattle.jx_index.specs.declared.child_lists.WideObject.{WideObject}
use Rattle.jx_index.specs.declared.row.Row.{Row}
use Rattle.jx_index.specs.ChildLists.{child_list, HaveChildLists}
use Rattle.jx_index.specs.inside.NameFronts.{front_at}
use Rattle.jx_index.specs.inside.WideObjects.{AreFronts, AreFrontsBehind, AreFrontsThere, IsWide, IsWidened}
use Rattle.jx_index.proofs.ChildListSteps.{list_kept, list_added}

-- those of one row more
pub wide_more : (text : List ℕ) (rows : List Row) (after starts children list : List ℕ) (n next : ℕ) (starts' children' : List ℕ) (wide wider : List WideObject)
    → length starts ≡ n + 1 → slice_index starts n ≡ length children → HaveChildLists text rows after starts children n
    → starts' ≡ starts ++ (next ∷ []) → children' ≡ children ++ list → next ≡ length children'
    → All (IsWide text rows starts children n) wide → IsWidened text rows n list wide wider → All (IsWide text rows starts' children' (n + 1)) wider
wide_more text rows after starts children list n next starts' children' wide wider long l all es em en old new =
    let e : next ≡ length (children ++ list) = en ∙ ap length em in
    let s2 = starts ++ (next ∷ []) in
    let c2 = children ++ list in
    let kept : (w : WideObject) → IsWide text rows starts children n w → IsWide text rows s2 c2 (n + 1) w =
    λ w h.
    let b = h.below in
    record {
      below = omega (arith, b);
      fronts_are = h.fronts_are ∙ ap (map (front_at text rows)) (list_kept text rows after starts children list n next long w.object h.below (all w.object h.below));
    } in
    let fresh : (w : WideObject) → (w.object ≡ n) × (w.fronts.items ≡ map (front_at text rows) list) → IsWide text rows s2 c2 (n + 1) w =
    λ w h.
    let b = h.0 in
    record {
      below = omega (arith, b);
      fronts_are = h.1 ∙ ap (map (front_at text rows)) (list_added text rows after starts children list n next long l e ∙ ap (child_list s2 c2) (sym h.0));
    } in
    subst (λ x. All (IsWide text rows x children' (n + 1)) wider) (sym es)
    (subst (λ x. All (IsWide text rows s2 x (n + 1)) wider) (sym em)
    (subst (All (IsWide text rows s2 c2 (n + 1))) (sym new.is)
    (All-append (IsWide text rows s2 c2 (n + 1)) wide new.added (λ k d h. kept _ (old k d h)) (λ k d h. fresh _ (new.fronts_are k d h)))))

-- what is kept of an object are the fronts of its names
pub fronts_there : (text : List ℕ) (rows : List Row) (starts children : List ℕ) (n : ℕ) (wide : List WideObject) (object : ℕ) (fronts : List ℕ)
    → All (IsWide text rows starts children n) wide → AreFrontsThere wide object fronts → fronts ≡ map (front_at text rows) (child_list starts children object)
fronts_there text rows starts children n wide object fronts all h =
    let w = all_at (IsWide text rows starts children n) wide h.place h.kept all h.there in
    sym h.fronts_are ∙ w.fronts_are ∙ ap (λ o. map (front_at text rows) (child_list starts children o)) h.object_is

-- the fronts of the members that were added
pub fronts_behind : (text : List ℕ) (rows : List Row) (before now members : List ℕ) (o : Option (Vec ℕ Global)) → now ≡ before ++ members
    → IfSome o (λ f. AreFronts text rows members f.items) → IfSome o (λ f. AreFrontsBehind text rows before now f.items)
fronts_behind text rows before now members None is h = tt
fronts_behind text rows before now members (Some f) is h =
    λ others e. h ∙ ap (map (front_at text rows)) (append_cancel_left before members others (sym is ∙ e))

pub fronts_of_added : (text : List ℕ) (rows : List Row) (before now members : List ℕ) (o : Option (Vec ℕ Global)) → now ≡ before ++ members
    → IfSome o (λ f. AreFrontsBehind text rows before now f.items) → IfSome o (λ f. AreFronts text rows members f.items)
fronts_of_added text rows before now members None is h = tt
fronts_of_added text rows before now members (Some f) is h = h members is

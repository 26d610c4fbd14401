-- The elements of a list of a message, one by one.
use Rattle.std.proofs.Common.{◌≡◌, ◌≢◌, ℕ, suc, ◌+◌, ◌^◌, ◌<◌, List, [], ◌∷◌, ◌++◌, None, Some, length, refl, sym, ap, subst, ◌∙◌, arith, append_assoc, append-nil}
use Rattle.std.specs.Prelude.{slice_get}
use Rattle.std.proofs.lemmas.List.{length-append, length_push}
use Rattle.std.proofs.lemmas.Option.{slice_get_past}
use Rattle.jx_run.specs.Tree.{Tree}
use Rattle.jx_wire.specs.Requests.{AreListed}
use Rattle.jx_wire.specs.Values.{value_at, IsBody, Says, Values}
use Rattle.jx_wire.specs.inside.Nodes.{IsAt}
use Rattle.jx_wire.proofs.Strings.{no_value, some_value}

-- each element of a message's list is there by its number
abbrev AreThere : List ℕ → (ℕ → List ℕ) → List ℕ → Type 0
AreThere message pointer elements = (n : ℕ) → n < 2 ^ 64 → IsAt message (pointer n) (slice_get elements n)

-- those so far stand in front of those from here on, and no others do
abbrev pub AreSoFar : {T : Type 0} → (Values → List ℕ → T → Type 0) → List ℕ → (ℕ → List ℕ) → List ℕ → List ℕ → List ℕ → List T → Type 0
AreSoFar {T} Is message pointer elements yielded left found = record {
  elements : yielded ++ left ≡ elements;
  so_far : (tree : Tree) → IsBody message tree → (rest : List T) → AreListed Is (value_at message tree) pointer (length yielded) rest → AreListed Is (value_at message tree) pointer 0 (found ++ rest);
  others : (tree : Tree) → IsBody message tree → (all : List T) → AreListed Is (value_at message tree) pointer 0 all
      → (rest : List T) × AreListed Is (value_at message tree) pointer (length yielded) rest;
}

-- the element at which a list is parted
seam : (before behind : List ℕ) (x : ℕ) → slice_get (before ++ (x ∷ behind)) (length before) ≡ Some x
seam [] behind x = refl
seam (y ∷ before) behind x = seam before behind x

here : (message : List ℕ) (pointer : ℕ → List ℕ) (elements yielded behind : List ℕ) (element : ℕ) → AreThere message pointer elements → length elements < 2 ^ 64
    → yielded ++ (element ∷ behind) ≡ elements → IsAt message (pointer (length yielded)) (Some element)
here message pointer elements yielded behind element each few all =
    let count : length elements ≡ length yielded + suc (length behind) = ap length (sym all) ∙ length-append yielded (element ∷ behind) in
    subst (IsAt message (pointer (length yielded))) (ap (λ (l : List ℕ). slice_get l (length yielded)) (sym all) ∙ seam yielded behind element)
    (each (length yielded) (omega (arith, few, count)))

-- behind one that is there come the others
others_behind : {T : Type 0} (Is : Values → List ℕ → T → Type 0) (at : Values) (pointer : ℕ → List ℕ) (number : ℕ) (all : List T) → AreListed Is at pointer number all → at (pointer number) ≢ None
    → (rest : List T) × AreListed Is at pointer (number + 1) rest
others_behind Is at pointer number [] h some = absurd (some h)
others_behind Is at pointer number (one ∷ rest) h some = (rest, h.2)

-- what is none is none of them
no_others : {T : Type 0} (Is : Values → List ℕ → T → Type 0) (at : Values) (pointer : ℕ → List ℕ) (number : ℕ) (all : List T) → AreListed Is at pointer number all → at (pointer number) ≢ None
    → ((one : T) → Is at (pointer number) one → ⊥) → ⊥
no_others Is at pointer number [] h some none = some h
no_others Is at pointer number (one ∷ rest) h some none = none one h.1

module _ {T : Type 0} (Is : Values → List ℕ → T → Type 0) (message : List ℕ) (pointer : ℕ → List ℕ) (elements given yielded left : List ℕ) (found : List T)
    (is_so : AreSoFar Is message pointer elements yielded left found) (same : elements ≡ given) (each : AreThere message pointer given) (few : length given < 2 ^ 64) where
  next_here : (behind : List ℕ) (element : ℕ) → left ≡ element ∷ behind → IsAt message (pointer (length yielded)) (Some element)
  next_here behind element next = here message pointer given yielded behind element each few (ap (λ (l : List ℕ). yielded ++ l) (sym next) ∙ is_so.elements ∙ same)

  -- one element more is told
  pub one_more : (behind : List ℕ) (element : ℕ) (pushed : List T) (one : T) → left ≡ element ∷ behind → pushed ≡ found ++ (one ∷ [])
      → (IsAt message (pointer (length yielded)) (Some element) → Says message (λ at. Is at (pointer (length yielded)) one)) → AreSoFar Is message pointer elements (yielded ++ (element ∷ [])) behind pushed
  one_more behind element pushed one next e is_one =
      let there = next_here behind element next in
      record {
        elements = append_assoc yielded (element ∷ []) behind ∙ ap (λ (l : List ℕ). yielded ++ l) (sym next) ∙ is_so.elements;
        so_far = λ tree is rest h.
            let at = value_at message tree in
            subst (λ (l : List T). AreListed Is at pointer 0 l) (sym (ap (λ (l : List T). l ++ rest) e ∙ append_assoc found (one ∷ []) rest)) (is_so.so_far tree is (one ∷ rest)
            (some_value message tree (pointer (length yielded)) element (there tree is), is_one there tree is, subst (λ (m : ℕ). AreListed Is at pointer m rest) (length_push yielded element) h));
        others = λ tree is all h.
            let at = value_at message tree in
            let before = is_so.others tree is all h in
            let more = others_behind Is at pointer (length yielded) before.0 before.1 (some_value message tree (pointer (length yielded)) element (there tree is)) in
            (more.0, subst (λ (m : ℕ). AreListed Is at pointer m more.0) (sym (length_push yielded element)) more.1);
      }

  -- an element tells nothing, so that nothing is told of all
  pub none_told : (behind : List ℕ) (element : ℕ) → left ≡ element ∷ behind
      → (IsAt message (pointer (length yielded)) (Some element) → Says message (λ at. (one : T) → Is at (pointer (length yielded)) one → ⊥)) → Says message (λ at. (all : List T) → AreListed Is at pointer 0 all → ⊥)
  none_told behind element next none = λ tree is all h.
      let there = next_here behind element next in
      let rest = is_so.others tree is all h in
      no_others Is (value_at message tree) pointer (length yielded) rest.0 rest.1 (some_value message tree (pointer (length yielded)) element (there tree is)) (none there tree is)

  -- no element is left
  pub all_told : left ≡ [] → Says message (λ at. AreListed Is at pointer 0 found)
  all_told none = λ tree is.
      let whole : yielded ≡ given = sym (append-nil yielded) ∙ ap (λ (l : List ℕ). yielded ++ l) (sym none) ∙ is_so.elements ∙ same in
      let count : length yielded ≡ length given = ap length whole in
      let last : IsAt message (pointer (length yielded)) None = subst (IsAt message (pointer (length yielded))) (slice_get_past given (length yielded) (omega (arith, count))) (each (length yielded) (omega (arith, few, count))) in
      subst (λ (l : List T). AreListed Is (value_at message tree) pointer 0 l) (append-nil found) (is_so.so_far tree is [] (no_value message tree (pointer (length yielded)) (last tree is)))

-- What is held before the first byte, and what it comes to behind the last one.
use Rattle.std.proofs.Common.{◌≡◌, ℕ, List, [], length, reverse, refl, sym, ap, subst, ◌∙◌, append-nil, true, Option, None, Some}
use Rattle.std.specs.Prelude.{slice_range}
use Rattle.jx_lex.specs.declared.alphabet.mark.Mark.{Mark}
use Rattle.jx_index.specs.declared.finder.State.{State}
use Rattle.jx_index.specs.declared.seeker.Seeker.{Seeker}
use Rattle.jx_index.specs.declared.trie.Edge.{Edge}
use Rattle.jx_index.specs.inside.Finding.{Finding, nothing_met}
use Rattle.jx_index.specs.inside.Found.{finding}
use Rattle.jx_index.specs.inside.Trie.{IsNextIn, is_name_next, seek_all, sought}
use Rattle.jx_index.proofs.CutNames.{rest}
use Rattle.jx_find.specs.Held.{Comes, IsHeld}
use Rattle.jx_find.proofs.Soughts.{Tells, comes_all, comes_last}

module _ (bytes : List ℕ) (edges : List Edge) (marks : List Mark) (ends : List ℕ) (s : State) (next : ℕ) (name : List ℕ) where
  pub met_all : IsHeld bytes edges marks ends s next None name → s.met.items ≡ (seek_all bytes edges (length bytes) marks ends (nothing_met (length edges))).met
  met_all h =
      let c = subst (λ (t : List ℕ). Comes t edges marks ends (finding s) None) (append-nil bytes) (h.comes []) in
      ap (λ (f : Finding). f.met) (sym (comes_all bytes edges marks ends (finding s) (length bytes) c))

  pub met_last : (m : Mark) (begun : Option Mark) (k after : Seeker) (last : ℕ) → begun ≡ Some m → last ≡ length bytes → k.state ≡ s → k.next ≡ next → Tells edges m.kind m.at last name k after
      → IsHeld bytes edges marks ends s next begun name → after.state.met.items ≡ (seek_all bytes edges (length bytes) marks ends (nothing_met (length edges))).met
  met_last m begun k after last some end same_state same_next tells held =
      let h = subst (λ (o : Option Mark). IsHeld bytes edges marks ends s next o name) some held in
      let c = subst (λ (t : List ℕ). Comes t edges marks ends (finding s) (Some m)) (append-nil bytes) (h.comes []) in
      let ready : IsNextIn edges (reverse k.state.opened.items) k.next =
      subst (λ (x : State). IsNextIn edges (reverse x.opened.items) k.next) (sym same_state) (subst (λ (n : ℕ). IsNextIn edges (reverse s.opened.items) n) (sym same_next) h.ready) in
      let named : is_name_next m.kind (finding k.state) ≡ true → slice_range bytes m.at last ≡ name =
      λ e. ap (slice_range bytes m.at) end ∙ rest bytes m.at ∙ sym (h.name_is m refl (subst (λ (x : State). is_name_next m.kind (finding x) ≡ true) same_state e)) in
      ap (λ (f : Finding). f.met)
      (tells.noted h.trie ready bytes named
      ∙ ap (λ (x : State). sought bytes edges m.kind m.at last (finding x)) same_state
      ∙ ap (λ (i : ℕ). sought bytes edges m.kind m.at i (finding s)) end
      ∙ sym (comes_last bytes edges marks ends (finding s) m (length bytes) c))

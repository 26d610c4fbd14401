-- What is held of a whole text that is read by itself.
use Rattle.std.proofs.Common.{◌≡◌, ℕ, List, [], ◌∷◌, ◌++◌, refl, ap, subst, ◌∙◌, zero-add, Option}
use Rattle.jx_lex.specs.declared.alphabet.mark.Mark.{Mark}
use Rattle.jx_run.specs.Telling.{moved_ends, moved_marks}
use Rattle.jx_index.specs.declared.finder.State.{State}
use Rattle.jx_index.specs.declared.trie.Edge.{Edge}
use Rattle.jx_find.specs.declared.pointer_trie.PointerTrie.{PointerTrie}
use Rattle.jx_find.specs.Held.{IsHeld}
use Rattle.jx_find.specs.PointerTrie.{IsTrieOf}

no_further : (marks : List Mark) → moved_marks 0 marks ≡ marks
no_further [] = refl
no_further (m ∷ marks) =
    ap (λ (i : ℕ). record m { at = i } ∷ moved_marks 0 marks) (zero-add m.at) ∙ ap (λ (ms : List Mark). m ∷ ms) (no_further marks)

ends_no_further : (ends : List ℕ) → moved_ends 0 ends ≡ ends
ends_no_further [] = refl
ends_no_further (end ∷ ends) = ap (λ (i : ℕ). i ∷ moved_ends 0 ends) (zero-add end) ∙ ap (λ (es : List ℕ). end ∷ es) (ends_no_further ends)

pub held_alone : (bytes : List ℕ) (edges : List Edge) (marks : List Mark) (ends : List ℕ) (s : State) (next : ℕ) (begun : Option Mark) (name : List ℕ)
    → IsHeld ([] ++ bytes) edges ([] ++ moved_marks 0 marks) ([] ++ moved_ends 0 ends) s next begun name → IsHeld bytes edges marks ends s next begun name
held_alone bytes edges marks ends s next begun name h =
    subst (λ (ms : List Mark). IsHeld bytes edges ms ends s next begun name) (no_further marks)
    (subst (λ (es : List ℕ). IsHeld bytes edges (moved_marks 0 marks) es s next begun name) (ends_no_further ends) h)

-- a trie of pointers is that of its own
pub trie_of_own : (pointers : List (List ℕ)) (t : PointerTrie) → IsTrieOf pointers t → IsTrieOf t.pointers.items t
trie_of_own pointers t h = record { pointers_are = refl; trie = h.trie; has_ways = h.has_ways; ways_are = h.ways_are }

-- Strings that were read as pointers.
use Rattle.std.specs.Prelude.{◌≡◌, ℕ, List, [], ◌∷◌, Option, None, Some, Result, Ok, Err, ⊤}
use Rattle.jx_index.specs.declared.find_fault.FindFault.{FindFault}
use Rattle.jx_index.specs.declared.finder.Found.{Found}
use Rattle.jx_index.specs.declared.pointer.PointerFault.{PointerFault}
use Rattle.jx_index.specs.PointerFaults.{IsFaultOf}
use Rattle.jx_index.specs.Pointers.{IsPointer}
use Rattle.jx_words.specs.declared.pointer_answer.PointerAnswer.{PointerAnswer}
use Rattle.jx_words.specs.declared.pointer_answer.PointerAnswer.TheVariants as answer

-- the pointer that a string is, or why it is not one
abbrev pub IsReadPointer : List ℕ → List ℕ → Option PointerFault → Type 0
IsReadPointer spelt pointer None = IsPointer spelt × (pointer ≡ spelt)
IsReadPointer spelt pointer (Some fault) = IsFaultOf spelt fault

-- the same of each string, in order
abbrev pub AreReadPointers : List (List ℕ) → List (List ℕ) → List (Option PointerFault) → Type 0
AreReadPointers [] [] [] = ⊤
AreReadPointers [] [] (u ∷ unread) = ⊥
AreReadPointers [] (p ∷ pointers) unread = ⊥
AreReadPointers (s ∷ spelt) [] unread = ⊥
AreReadPointers (s ∷ spelt) (p ∷ pointers) [] = ⊥
AreReadPointers (s ∷ spelt) (p ∷ pointers) (u ∷ unread) = IsReadPointer s p u × AreReadPointers spelt pointers unread

-- ---- answers

-- by what was found in a text that was read once
abbrev pub answer_in : Option PointerFault → Result Found FindFault → PointerAnswer
answer_in (Some fault) found = answer.Unread fault
answer_in None (Ok found) = answer.Found found.kind found.span
answer_in None (Err fault) = answer.Lost fault

-- the answer at each place
module _ {A : Type 0} (told : Option PointerFault → A → PointerAnswer) where
  unfoldable pub each_answer : List (Option PointerFault) → List A → List PointerAnswer
  each_answer [] found = []
  each_answer (u ∷ unread) [] = []
  each_answer (u ∷ unread) (f ∷ found) = told u f ∷ each_answer unread found

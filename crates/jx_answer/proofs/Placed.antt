-- One answer more, in the order of the pointers.
use Rattle.std.proofs.Common.{◌≡◌, ℕ, suc, ◌+◌, ◌<◌, List, [], ◌∷◌, ◌++◌, length, take, sym, ap, subst, ◌∙◌, arith}
use Rattle.std.specs.List.{AllZip}
use Rattle.std.proofs.Math.Seq.{take-suc}
use Rattle.std.proofs.lemmas.Option.{get_or_from_slice_get, slice_get_within}
use Rattle.jx_index.specs.Indexed.{IndexedValue}
use Rattle.jx_answer.specs.declared.find_answer.Answer.{Answer}
use Rattle.jx_answer.specs.Found.{IsAnswerTo, IsAnswerAt}

module _ (index : IndexedValue) (pointers : List (List ℕ)) where
  zip_push : (ps : List (List ℕ)) (p : List ℕ) (answers : List Answer) (answer : Answer) → AllZip (IsAnswerTo index) ps answers → IsAnswerTo index p answer
      → AllZip (IsAnswerTo index) (ps ++ p ∷ []) (answers ++ answer ∷ [])
  zip_push [] p [] answer h i = (i, tt)
  zip_push [] p (a ∷ more) answer h i = absurd h
  zip_push (q ∷ ps) p [] answer h i = absurd h
  zip_push (q ∷ ps) p (a ∷ more) answer h i = (h.0, zip_push ps p more answer h.1 i)

  pub zip_more : (at : ℕ) (answers next : List Answer) (answer : Answer) → AllZip (IsAnswerTo index) (take at pointers) answers → IsAnswerAt index pointers at answer
      → next ≡ answers ++ answer ∷ [] → AllZip (IsAnswerTo index) (take (at + 1) pointers) next
  zip_more at answers next answer h i e =
      let within : at < length pointers = slice_get_within pointers at i.pointer i.stands in
      let more : take at pointers ++ i.pointer ∷ [] ≡ take (at + 1) pointers =
      ap (λ p. take at pointers ++ p ∷ []) (sym (get_or_from_slice_get pointers at i.pointer [] i.stands))
      ∙ sym (take-suc pointers at [] within)
      ∙ ap (λ n. take n pointers) (let s : suc at ≡ at + 1 = omega arith in s) in
      subst (AllZip (IsAnswerTo index) (take (at + 1) pointers)) (sym e)
      (subst (λ ps. AllZip (IsAnswerTo index) ps (answers ++ answer ∷ [])) more (zip_push (take at pointers) i.pointer answers answer h i.is_answer))

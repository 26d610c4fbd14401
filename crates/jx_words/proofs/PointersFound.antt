-- What pointers come to in a text that was read once.
use Rattle.std.proofs.Common.{◌≡◌, ℕ, List, refl, sym, ap, subst, ◌∙◌}
use Rattle.std.specs.Prelude.{Option, None, Some, Result, Ok, Err}
use Rattle.std.specs.List.{AllZip}
use Rattle.jx_run.specs.declared.texts.settings.Settings.{Settings}
use Rattle.jx_run.specs.Tree.{Tree}
use Rattle.jx_index.specs.declared.find_fault.FindFault.{FindFault}
use Rattle.jx_index.specs.declared.finder.Found.{Found}
use Rattle.jx_index.specs.declared.pointer.PointerFault.{PointerFault}
use Rattle.jx_index.specs.Found.{AreFoundIn, found_of}
use Rattle.jx_index.specs.Leads.{HasRow, Numbered, led, number_of}
use Rattle.jx_index.specs.Pointers.{tokens}
use Rattle.jx_index.specs.Rows.{rows}
use Rattle.jx_words.specs.declared.pointer_answer.PointerAnswer.{PointerAnswer}
use Rattle.jx_words.specs.Answers as told
use Rattle.jx_words.specs.inside.ReadPointers.{AreReadPointers, IsReadPointer, answer_in, each_answer}
use Rattle.jx_words.specs.Pointers.{IsAnswerTo}
use Rattle.jx_words.proofs.PointerSteps.{each_answers}

-- what the laws of the index say of a node that a look-up ends at
abbrev pub EndsAtRows : Type 0
EndsAtRows = (text : List ℕ) (tree : Tree) (tokens : List (List ℕ)) (node : Numbered) → led text tree tokens ≡ Ok node → HasRow (rows tree) node

module _ (law : EndsAtRows) (text : List ℕ) (tree : Tree) (spelt pointer : List ℕ) where
  answered : (r : Result Numbered FindFault) → led text tree (tokens pointer) ≡ r → IsReadPointer spelt pointer None → IsAnswerTo text tree spelt (answer_in None (found_of r))
  answered (Ok c) e h =
      let there = law text tree (tokens pointer) c e in
      record {
        is_pointer = h.0;
        node = c.number;
        leads_there = sym (ap (λ (p : List ℕ). number_of (led text tree (tokens p))) h.1) ∙ ap number_of e;
        row = there.row;
        is_row = there.is_row;
        kind_is = there.kind;
        span_is = there.span;
      }
  answered (Err fault) e h = (h.0, sym (ap (λ (p : List ℕ). number_of (led text tree (tokens p))) h.1) ∙ ap number_of e)

  pub answer_is : (unread : Option PointerFault) (found : Result Found FindFault) → IsReadPointer spelt pointer unread → found ≡ found_of (led text tree (tokens pointer))
      → IsAnswerTo text tree spelt (answer_in unread found)
  answer_is (Some fault) found h e = h
  answer_is None found h e =
      subst (λ (f : Result Found FindFault). IsAnswerTo text tree spelt (answer_in None f)) (sym e) (answered (led text tree (tokens pointer)) refl h)

pub are_answered : EndsAtRows → (settings : Settings) (text : List ℕ) (spelt pointers : List (List ℕ)) (unread : List (Option PointerFault))
    (found : List (Result Found FindFault)) (answers : List PointerAnswer) → AreReadPointers spelt pointers unread → AreFoundIn settings text pointers found
    → answers ≡ each_answer answer_in unread found → told.AreAnswersIn settings text spelt answers
are_answered law settings text spelt pointers unread found answers read x e = record {
  tree = x.tree;
  is_text = x.is_text;
  are_answers = subst (λ (xs : List PointerAnswer). AllZip (IsAnswerTo text x.tree) spelt xs) (sym e)
      (each_answers text x.tree answer_in (λ (p : List ℕ) (one : Result Found FindFault). one ≡ found_of (led text x.tree (tokens p))) (answer_is law text x.tree)
      spelt pointers unread found read x.found_are);
}

-- What pointers come to in an index, and the reply.
use Rattle.std.proofs.Common.{◌≡◌, ℕ, List, sym, subst}
use Rattle.std.specs.Prelude.{Option, None, Some, Ok, Err, Vec, slice_get}
use Rattle.std.specs.declared.alloc.Global.{Global}
use Rattle.std.specs.List.{AllZip}
use Rattle.jx_index.specs.declared.row.Row.{Row}
use Rattle.jx_run.specs.declared.texts.settings.Settings.{Settings}
use Rattle.jx_run.specs.declared.texts.verdict.Verdict.TheVariants.{Accepted}
use Rattle.jx_run.specs.Text.{IsText}
use Rattle.jx_run.specs.Tree.{Tree}
use Rattle.jx_index.specs.declared.pointer.PointerFault.{PointerFault}
use Rattle.jx_index.specs.ByNames.{IsVerdictBy}
use Rattle.jx_index.specs.Indexed.{IndexedValue}
use Rattle.jx_index.specs.Leads.{leads}
use Rattle.jx_index.specs.Pointers.{tokens}
use Rattle.jx_index.specs.Rows.{rows}
use Rattle.jx_index.specs.Settled.{IsIndexBy}
use Rattle.jx_answer.specs.declared.find_answer.Answer.{Answer}
use Rattle.jx_answer.specs.declared.find_answer.Answer.TheVariants as in_index
use Rattle.jx_answer.specs.Found as answered_there
use Rattle.jx_ends.specs.declared.exit.Exit.TheVariants.{Good}
use Rattle.jx_words.specs.declared.pointer_answer.PointerAnswer.{PointerAnswer}
use Rattle.jx_words.specs.Answers as told
use Rattle.jx_words.specs.inside.ReadPointers.{AreReadPointers, IsReadPointer, each_answer}
use Rattle.jx_words.specs.inside.Lines.{exit_past_lines, pointer_lines}
use Rattle.jx_words.specs.Pointers.{IsAnswerTo}
use Rattle.jx_words.proofs.PointerSteps.{each_answers, lines_of}
use Rattle.jx_report.specs.inside.IndexAnswers.{AreAnswersIn, answer_of}
use Rattle.jx_report.specs.Output.{AnswersPointers, TextOutput}

-- ---- in an index

module _ (index : IndexedValue) (limit : ℕ) (tree : Tree) (is_text : IsText index.text index.span.start index.span.end limit tree) (same : index.rows ≡ rows tree) where
  answer_there : (spelt pointer : List ℕ) (unread : Option PointerFault) (told : Answer) → IsReadPointer spelt pointer unread → answered_there.IsAnswerTo index pointer told
      → IsAnswerTo index.text tree spelt (answer_of unread told)
  answer_there spelt pointer (Some fault) told h a = h
  answer_there spelt pointer None (in_index.Found node kind span) h a = record {
    is_pointer = h.0;
    node = node;
    leads_there = subst (λ (p : List ℕ). leads index.text tree (tokens p) ≡ Ok node) h.1 (sym (a.0 limit tree is_text));
    row = a.1.row;
    is_row = subst (λ (table : List Row). slice_get table node ≡ Some a.1.row) same a.1.is_row;
    kind_is = a.1.kind_is;
    span_is = a.1.span_is;
  }
  answer_there spelt pointer None (in_index.Fault fault) h a =
      (h.0, subst (λ (p : List ℕ). leads index.text tree (tokens p) ≡ Err fault) h.1 (sym (a limit tree is_text)))

  all_there : (spelt pointers : List (List ℕ)) (unread : List (Option PointerFault)) (told : List Answer) (answers : List PointerAnswer)
      → AreReadPointers spelt pointers unread → AllZip (answered_there.IsAnswerTo index) pointers told → answers ≡ each_answer answer_of unread told
      → AllZip (IsAnswerTo index.text tree) spelt answers
  all_there spelt pointers unread told answers h k e =
      subst (λ (xs : List PointerAnswer). AllZip (IsAnswerTo index.text tree) spelt xs) (sym e)
      (each_answers index.text tree answer_of (answered_there.IsAnswerTo index) answer_there spelt pointers unread told h k)

pub answers_there : (index : IndexedValue) (spelt pointers : List (List ℕ)) (unread : List (Option PointerFault)) (told : List Answer) (answers : List PointerAnswer)
    → AreReadPointers spelt pointers unread → AllZip (answered_there.IsAnswerTo index) pointers told → answers ≡ each_answer answer_of unread told
    → AreAnswersIn index spelt answers
answers_there index spelt pointers unread told answers h k e = λ limit tree is_text same. all_there index limit tree is_text same spelt pointers unread told answers h k e

-- the law of an index over what stands behind a front
abbrev pub StandsBehindFront : Type 0
StandsBehindFront = (settings : Settings) (text : List ℕ) (index : IndexedValue) (x : IsIndexBy settings text index)
    → IsText index.text index.span.start index.span.end settings.depth x.tree

pub indexed_answers : StandsBehindFront → (settings : Settings) (text : List ℕ) (index : IndexedValue) (spelt : List (List ℕ)) (answers : Vec PointerAnswer Global)
    → IsVerdictBy settings text Accepted → IsIndexBy settings text index → AreAnswersIn index spelt answers.items
    → told.AreAnswersBy settings text spelt (Ok answers)
indexed_answers law settings text index spelt answers accepted x h =
    let there : AllZip (IsAnswerTo index.text x.tree) spelt answers.items = h settings.depth x.tree (law settings text index x) x.rows_are in (
      accepted,
      record {
        tree = x.tree;
        is_text = x.is_text;
        are_answers = subst (λ (t : List ℕ). AllZip (IsAnswerTo t x.tree) spelt answers.items) x.text there;
      },
    )

-- ---- the reply

pub reply_is : (settings : Settings) (text : List ℕ) (spelt : List (List ℕ)) (answers : Vec PointerAnswer Global) → told.AreAnswersBy settings text spelt (Ok answers)
    → TextOutput (AnswersPointers spelt settings text) settings text (pointer_lines answers.items) (exit_past_lines Good answers.items)
reply_is settings text spelt answers h = (Accepted, h.0, (h.1.tree, h.1.is_text, lines_of text h.1.tree spelt answers.items h.1.are_answers))

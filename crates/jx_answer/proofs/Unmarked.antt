-- Where a byte order mark is refused, nothing stands in front of a text; and where objects may have any names, none is refused.
use Rattle.std.proofs.Common.{◌≡◌, ℕ, List, [], length, refl, sym, ap, subst, ◌∙◌}
use Rattle.std.specs.Prelude.{◌↔◌}
use Rattle.std.specs.List.{AllZip}
use Rattle.jx_run.specs.declared.texts.settings.FrontMark.{FrontMark}
use Rattle.jx_run.specs.declared.texts.settings.FrontMark.TheVariants as on_mark
use Rattle.jx_run.specs.declared.texts.settings.NameRule.TheVariants.{Any}
use Rattle.jx_run.specs.declared.texts.settings.Settings.{Settings}
use Rattle.jx_run.specs.declared.texts.verdict.Verdict.{Verdict}
use Rattle.jx_run.specs.declared.texts.verdict.Verdict.TheVariants.{Accepted, Refused}
use Rattle.jx_run.specs.Settings.{IsFront, IsDocumentBy, JudgedBy}
use Rattle.jx_run.specs.Text.{IsDocument}
use Rattle.jx_run.specs.Tree.{Tree, span}
use Rattle.jx_run.specs.Verdict.{Judged}
use Rattle.jx_run.specs.MarkAlone.{elements_by}
use Rattle.jx_answer.specs.declared.element.Element.{Element}
use Rattle.jx_index.specs.declared.text_answer.TextAnswer.{TextAnswer}
use Rattle.jx_index.specs.declared.text_answer.TextAnswer.TheVariants as answer
use Rattle.jx_index.specs.ByNames.{IsVerdictBy}
use Rattle.jx_index.specs.Settled.{IsAnswerBy}
use Rattle.jx_answer.specs.Answers.{IsAnswer}
use Rattle.jx_answer.specs.Sequence.{AreElements, IsElement}
use Rattle.jx_answer.specs.Settled.{AreElementsBy, IsElementBy}
use Rattle.jx_answer.proofs.ByNames.{any_element, zip_more}

module _ (texts : (settings : Settings) (at : ℕ) (bytes : List ℕ) (tree : Tree) → settings.mark ≡ on_mark.Refused → IsDocumentBy settings at bytes tree ↔ IsDocument at bytes settings.depth tree)
    (verdicts : (settings : Settings) (at : ℕ) (bytes : List ℕ) (v : Verdict) → settings.mark ≡ on_mark.Refused → JudgedBy settings at bytes v ↔ Judged at bytes settings.depth v)
    (by_names : (settings : Settings) (bytes : List ℕ) (v : Verdict) → settings.names ≡ Any → IsVerdictBy settings bytes v ↔ JudgedBy settings 0 bytes v)
    (settings : Settings) (is : settings.mark ≡ on_mark.Refused) (any : settings.names ≡ Any) where
  no_front : (front : List ℕ) → IsFront settings.mark front → length front ≡ 0
  no_front front h = let none : front ≡ [] = subst (λ (m : FrontMark). IsFront m front) is h in ap length none

  unsettled : (text : List ℕ) (a : TextAnswer) → IsAnswerBy settings text a → IsAnswer text settings.depth a
  unsettled text (answer.Refused r) h = (verdicts settings 0 text (Refused r) is).0 ((by_names settings text (Refused r) any).0 h)
  unsettled text (answer.Accepted index) h = (
    (verdicts settings 0 text Accepted is).0 ((by_names settings text Accepted any).0 h.0),
    record {
      text = h.1.text;
      span = h.1.span ∙ ap (λ (n : ℕ). span n (length text)) (no_front h.1.is_text.front h.1.is_text.is_front);
      tree = h.1.tree;
      is_text = (texts settings 0 text h.1.tree is).0 h.1.is_text;
      rows_are = h.1.rows_are;
    },
  )

  settled : (text : List ℕ) (a : TextAnswer) → IsAnswer text settings.depth a → IsAnswerBy settings text a
  settled text (answer.Refused r) h = (by_names settings text (Refused r) any).1 ((verdicts settings 0 text (Refused r) is).1 h)
  settled text (answer.Accepted index) h = (
    (by_names settings text Accepted any).1 ((verdicts settings 0 text Accepted is).1 h.0),
    record {
      text = h.1.text;
      tree = h.1.tree;
      is_text = record { front = []; rest = text; is_front = subst (λ (m : FrontMark). IsFront m []) (sym is) refl; whole = refl; text = h.1.is_text };
      span = h.1.span;
      rows_are = h.1.rows_are;
    },
  )

  pub same_answers : (text : List ℕ) (a : TextAnswer) → IsAnswerBy settings text a ↔ IsAnswer text settings.depth a
  same_answers text a = (unsettled text a, settled text a)

  pub same_elements : (input : List ℕ) (xs : List Element) → AreElementsBy settings input xs ↔ AreElements input settings.depth xs
  same_elements input xs = (
    (λ h.
        subst (λ (m : FrontMark). AllZip (IsElement input settings.depth) (elements_by m input) xs) is
        (zip_more (IsElementBy settings input) (IsElement input settings.depth) (λ p e k. (any_element settings input p e any).0 k) (elements_by settings.mark input) xs h)),
    (λ h.
        zip_more (IsElement input settings.depth) (IsElementBy settings input) (λ p e k. (any_element settings input p e any).1 k) (elements_by settings.mark input) xs
        (subst (λ (m : FrontMark). AllZip (IsElement input settings.depth) (elements_by m input) xs) (sym is) h)),
  )

-- The definitions of the answers leave no choice, where a text has one tree and one verdict.
use Rattle.std.proofs.Common.{◌≡◌, ℕ, List, [], ◌∷◌, map, refl, sym, ap, subst, ◌∙◌, arith}
use Rattle.std.specs.List.{AllZip}
use Rattle.jx_summary.specs.declared.span.Span.{Span}
use Rattle.jx_run.specs.declared.texts.verdict.Verdict.{Verdict}
use Rattle.jx_run.specs.declared.texts.verdict.Verdict.TheVariants.{Accepted, Refused}
use Rattle.jx_run.specs.declared.texts.verdict.Refusal.{Refusal}
use Rattle.jx_run.specs.declared.texts.settings.Settings.{Settings}
use Rattle.jx_run.specs.declared.sequences.element_verdict.JudgedElement.{JudgedElement}
use Rattle.jx_run.specs.Elements.{Part, elements}
use Rattle.jx_run.specs.ElementVerdict.{IsJudgedElement}
use Rattle.jx_run.specs.Text.{IsDocument}
use Rattle.jx_run.specs.Tree.{Tree}
use Rattle.jx_run.specs.Verdict.{Judged}
use Rattle.jx_index.specs.Indexed.{IndexedValue}
use Rattle.jx_index.specs.Rows.{rows}
use Rattle.jx_answer.specs.declared.element.Element.{Element}
use Rattle.jx_answer.specs.declared.element.ElementAnswer.{ElementAnswer}
use Rattle.jx_answer.specs.declared.element.ElementAnswer.TheVariants as element
use Rattle.jx_index.specs.declared.text_answer.TextAnswer.{TextAnswer}
use Rattle.jx_index.specs.declared.text_answer.TextAnswer.TheVariants as answer
use Rattle.jx_index.specs.ByNames.{AreJudgedBy, IsJudgedBy}
use Rattle.jx_run.specs.Unclosed.{EndsUnclosed, end_of}
use Rattle.jx_run.specs.MarkAlone.{elements_by}
use Rattle.jx_answer.specs.Answers.{IsAnswer}
use Rattle.jx_answer.specs.ByNames.{IsByNames}
use Rattle.jx_answer.specs.Sequence.{IsElementAnswer, IsElementIndex, IsElement, AreElements, judged}
use Rattle.jx_answer.specs.Settled.{AreElementsBy, IsElementBy}
use Rattle.jx_answer.proofs.ByNames.{one_by_names}
use Rattle.jx_answer.proofs.Verdicts.{all_answered, answered, answered_by}

pub same_index : (x y : IndexedValue) → x.text ≡ y.text → x.span ≡ y.span → x.rows ≡ y.rows → x ≡ y
same_index x y e f g =
    ap (λ t. record x { text = t }) e ∙ ap (λ p. record x { text = y.text; span = p }) f ∙ ap (λ r. record y { rows = r }) g

pub same_refusal : (r s : Refusal) → Refused r ≡ Refused s → r ≡ s
same_refusal r s e = cc

pub not_both : {A : Type 0} (r : Refusal) → Accepted ≡ Refused r → A
not_both r e = absurd (cc)

zip_one : {A B : Type 0} (R : A → B → Type 0) → ((a : A) (x y : B) → R a x → R a y → x ≡ y) → (ps : List A) (xs ys : List B) → AllZip R ps xs → AllZip R ps ys → xs ≡ ys
zip_one R one [] [] [] h k = refl
zip_one R one [] [] (y ∷ ys) h k = absurd k
zip_one R one [] (x ∷ xs) ys h k = absurd h
zip_one R one (p ∷ ps) [] ys h k = absurd h
zip_one R one (p ∷ ps) (x ∷ xs) [] h k = absurd k
zip_one R one (p ∷ ps) (x ∷ xs) (y ∷ ys) h k = ap (λ z. z ∷ xs) (one p x y h.0 k.0) ∙ ap (λ zs. y ∷ zs) (zip_one R one ps xs ys h.1 k.1)

module _ (one_tree : (at limit : ℕ) (bytes : List ℕ) (x y : Tree) → IsDocument at bytes limit x → IsDocument at bytes limit y → x ≡ y)
    (one_verdict : (at limit : ℕ) (bytes : List ℕ) (x y : Verdict) → Judged at bytes limit x → Judged at bytes limit y → x ≡ y) where
  pub one_answer : (text : List ℕ) (limit : ℕ) (x y : TextAnswer) → IsAnswer text limit x → IsAnswer text limit y → x ≡ y
  one_answer text limit (answer.Accepted i) (answer.Accepted j) h k =
      ap (λ (v : IndexedValue). answer.Accepted v)
      (same_index i j (h.1.text ∙ sym k.1.text) (h.1.span ∙ sym k.1.span) (h.1.rows_are ∙ ap rows (one_tree 0 limit text h.1.tree k.1.tree h.1.is_text k.1.is_text) ∙ sym k.1.rows_are))
  one_answer text limit (answer.Accepted i) (answer.Refused s) h k = not_both s (one_verdict 0 limit text Accepted (Refused s) h.0 k)
  one_answer text limit (answer.Refused r) (answer.Accepted j) h k = not_both r (one_verdict 0 limit text Accepted (Refused r) k.0 h)
  one_answer text limit (answer.Refused r) (answer.Refused s) h k =
      ap (λ (v : Refusal). answer.Refused v) (same_refusal r s (one_verdict 0 limit text (Refused r) (Refused s) h k))

  module _ (input : List ℕ) (limit : ℕ) where
    one_index : (p : Part) (i j : IndexedValue) → IsElementIndex input p limit i → IsElementIndex input p limit j → i ≡ j
    one_index p i j h k =
        same_index i j (h.text ∙ sym k.text) (h.span ∙ sym k.span)
        (h.rows_are ∙ ap rows (one_tree p.at limit p.bytes h.tree k.tree h.accepted.is_text k.accepted.is_text) ∙ sym k.rows_are)

    -- an index is of a text whose end shows
    shows_end : {A : Type 0} (p : Part) (i : IndexedValue) → IsElementIndex input p limit i → IsElementAnswer input p limit element.MayBeCut → A
    shows_end p i h k =
        absurd (h.closed (subst (λ t. EndsUnclosed t (end_of p)) (one_tree p.at limit p.bytes k.1.0 h.tree k.1.1.is_text h.accepted.is_text) k.1.2))

    one_of : (p : Part) (x y : ElementAnswer) → IsElementAnswer input p limit x → IsElementAnswer input p limit y → x ≡ y
    one_of p (element.Accepted i) (element.Accepted j) h k = ap (λ (v : IndexedValue). element.Accepted v) (one_index p i j h.1 k.1)
    one_of p (element.Accepted i) (element.Refused s) h k = not_both s (one_verdict p.at limit p.bytes Accepted (Refused s) h.1.accepted.judged k.1)
    one_of p (element.Accepted i) element.MayBeCut h k = shows_end p i h.1 k
    one_of p (element.Accepted i) element.Unmarked h k = absurd (omega (arith, h.0, k))
    one_of p (element.Refused r) (element.Accepted j) h k = not_both r (one_verdict p.at limit p.bytes Accepted (Refused r) k.1.accepted.judged h.1)
    one_of p (element.Refused r) (element.Refused s) h k =
        ap (λ (v : Refusal). element.Refused v) (same_refusal r s (one_verdict p.at limit p.bytes (Refused r) (Refused s) h.1 k.1))
    one_of p (element.Refused r) element.MayBeCut h k = not_both r (one_verdict p.at limit p.bytes Accepted (Refused r) k.1.1.judged h.1)
    one_of p (element.Refused r) element.Unmarked h k = absurd (omega (arith, h.0, k))
    one_of p element.MayBeCut (element.Accepted j) h k = shows_end p j k.1 h
    one_of p element.MayBeCut (element.Refused s) h k = not_both s (one_verdict p.at limit p.bytes Accepted (Refused s) h.1.1.judged k.1)
    one_of p element.MayBeCut element.MayBeCut h k = refl
    one_of p element.MayBeCut element.Unmarked h k = absurd (omega (arith, h.0, k))
    one_of p element.Unmarked (element.Accepted j) h k = absurd (omega (arith, h, k.0))
    one_of p element.Unmarked (element.Refused s) h k = absurd (omega (arith, h, k.0))
    one_of p element.Unmarked element.MayBeCut h k = absurd (omega (arith, h, k.0))
    one_of p element.Unmarked element.Unmarked h k = refl

    one_element : (p : Part) (x y : Element) → IsElement input limit p x → IsElement input limit p y → x ≡ y
    one_element p x y h k =
        ap (λ (s : Span). record x { span = s }) (h.span_is ∙ sym k.span_is) ∙ ap (λ (a : ElementAnswer). record y { answer = a }) (one_of p x.answer y.answer h.answer_is k.answer_is)

    pub one_elements : (xs ys : List Element) → AreElements input limit xs → AreElements input limit ys → xs ≡ ys
    one_elements xs ys h k = zip_one (IsElement input limit) one_element (elements 0 input) xs ys h k

    pub one_judged : (xs ys : List JudgedElement) → AllZip (IsJudgedElement limit) (elements 0 input) xs → AllZip (IsJudgedElement limit) (elements 0 input) ys → xs ≡ ys
    one_judged xs ys h k =
        let a = all_answered (IsJudgedElement limit) (IsElement input limit) (λ p j. answered input p limit j) (elements 0 input) xs h in
        let b = all_answered (IsJudgedElement limit) (IsElement input limit) (λ p j. answered input p limit j) (elements 0 input) ys k in
        sym a.2 ∙ ap (map judged) (one_elements a.0 b.0 a.1 b.1) ∙ b.2

  module _ (settings : Settings) (input : List ℕ) where
    one_element_by : (p : Part) (x y : Element) → IsElementBy settings input p x → IsElementBy settings input p y → x ≡ y
    one_element_by p x y h k =
        let same : h.told ≡ k.told = one_of input settings.depth p h.told k.told h.answer_is k.answer_is in
        let answers : x.answer ≡ y.answer = one_by_names settings.names h.told x.answer y.answer h.by_names (subst (λ (a : ElementAnswer). IsByNames settings.names a y.answer) (sym same) k.by_names) in
        ap (λ (s : Span). record x { span = s }) (h.span_is ∙ sym k.span_is) ∙ ap (λ (a : ElementAnswer). record y { answer = a }) answers

    pub one_elements_by : (xs ys : List Element) → AreElementsBy settings input xs → AreElementsBy settings input ys → xs ≡ ys
    one_elements_by xs ys h k = zip_one (IsElementBy settings input) one_element_by (elements_by settings.mark input) xs ys h k

    pub all_judged_by : (xs ys : List JudgedElement) → AreJudgedBy settings input xs → AreJudgedBy settings input ys → xs ≡ ys
    all_judged_by xs ys h k =
        let a = all_answered (IsJudgedBy settings input) (IsElementBy settings input) (λ p j. answered_by input p settings j) (elements_by settings.mark input) xs h in
        let b = all_answered (IsJudgedBy settings input) (IsElementBy settings input) (λ p j. answered_by input p settings j) (elements_by settings.mark input) ys k in
        sym a.2 ∙ ap (map judged) (one_elements_by a.0 b.0 a.1 b.1) ∙ b.2

-- What the rule on names makes of answers, and that it leaves no choice.
use Rattle.std.proofs.Common.{◌≡◌, ℕ, List, [], ◌∷◌, Option, None, Some, refl, sym, ap, subst, ◌∙◌, arith}
use Rattle.std.specs.Prelude.{◌↔◌}
use Rattle.std.specs.List.{AllZip}
use Rattle.jx_run.specs.declared.texts.settings.NameRule.{NameRule}
use Rattle.jx_run.specs.declared.texts.settings.NameRule.TheVariants.{Any, Unique}
use Rattle.jx_run.specs.declared.texts.settings.Settings.{Settings}
use Rattle.jx_run.specs.declared.texts.verdict.Refusal.{Refusal}
use Rattle.jx_run.specs.declared.texts.verdict.Refusal.TheVariants.{RepeatedName}
use Rattle.jx_run.specs.declared.texts.verdict.Verdict.{Verdict}
use Rattle.jx_run.specs.declared.texts.verdict.Verdict.TheVariants.{Accepted, Refused}
use Rattle.jx_run.specs.Elements.{Part}
use Rattle.jx_run.specs.Settings.{IsDocumentBy, JudgedBy, a_text as judged_text}
use Rattle.jx_run.specs.Tree.{Tree}
use Rattle.jx_index.specs.Repeats.{IsLeast, IsRepeat}
use Rattle.jx_index.specs.Rows.{rows}
use Rattle.jx_index.specs.declared.row.Row.{Row}
use Rattle.jx_index.specs.ByNames.{RefusesName, IsVerdictBy, a_text, repeated_name, no_text}
use Rattle.jx_answer.specs.declared.element.Element.{Element}
use Rattle.jx_answer.specs.declared.element.ElementAnswer.{ElementAnswer}
use Rattle.jx_answer.specs.declared.element.ElementAnswer.TheVariants as element
use Rattle.jx_answer.specs.ByNames.{RefusesNameIn, unless_refused, IsByNames}
use Rattle.jx_answer.specs.Sequence.{IsElement, IsElementAnswer}
use Rattle.jx_answer.specs.Settled.{IsElementBy}

-- ---- one choice

one_least : (P : ℕ → Type 0) (x y : Option ℕ) → IsLeast P x → IsLeast P y → x ≡ y
one_least P None None h k = refl
one_least P None (Some n) h k = absurd (h n k.0)
one_least P (Some m) None h k = absurd (k m h.0)
one_least P (Some m) (Some n) h k =
    let low = h.1 n k.0 in
    let high = k.1 m h.0 in
    let same : m ≡ n = omega (arith, low, high) in
    ap (λ (i : ℕ). let o : Option ℕ = Some i in o) same

pub one_refused : (rule : NameRule) (text : List ℕ) (table : List Row) (x y : Option ℕ) → RefusesName rule text table x → RefusesName rule text table y → x ≡ y
one_refused Any text table x y h k = h ∙ sym k
one_refused Unique text table x y h k = one_least (IsRepeat text table) x y h k

one_name_in : (rule : NameRule) (told : ElementAnswer) (x y : Option ℕ) → RefusesNameIn rule told x → RefusesNameIn rule told y → x ≡ y
one_name_in rule (element.Accepted index) x y h k = one_refused rule index.text index.rows x y h k
one_name_in rule (element.Refused r) x y h k = h ∙ sym k
one_name_in rule element.MayBeCut x y h k = h ∙ sym k
one_name_in rule element.Unmarked x y h k = h ∙ sym k

pub one_by_names : (rule : NameRule) (told x y : ElementAnswer) → IsByNames rule told x → IsByNames rule told y → x ≡ y
one_by_names rule told x y h k = h.after_is ∙ ap (λ (name : Option ℕ). unless_refused name told) (one_name_in rule told h.name k.name h.refused k.refused) ∙ sym k.after_is

module _ (one_tree : (settings : Settings) (at : ℕ) (bytes : List ℕ) (x y : Tree) → IsDocumentBy settings at bytes x → IsDocumentBy settings at bytes y → x ≡ y)
    (one_verdict : (settings : Settings) (at : ℕ) (bytes : List ℕ) (x y : Verdict) → JudgedBy settings at bytes x → JudgedBy settings at bytes y → x ≡ y)
    (settings : Settings) (text : List ℕ) where
  one_name_of : (s t : Tree) (x y : Option ℕ) → IsDocumentBy settings 0 text s → IsDocumentBy settings 0 text t → RefusesName settings.names text (rows s) x
      → RefusesName settings.names text (rows t) y → x ≡ y
  one_name_of s t x y d e h k =
      one_refused settings.names text (rows t) x y (subst (λ (tree : Tree). RefusesName settings.names text (rows tree) x) (one_tree settings 0 text s t d e) h) k

  not_both : {A : Type 0} (tree : Tree) (r : Refusal) → IsDocumentBy settings 0 text tree → JudgedBy settings 0 text (Refused r) → A
  not_both tree r document h = let same : Accepted ≡ Refused r = one_verdict settings 0 text Accepted (Refused r) (judged_text document) h in absurd (cc)

  pub one_verdict_by : (x y : Verdict) → IsVerdictBy settings text x → IsVerdictBy settings text y → x ≡ y
  one_verdict_by _ _ (a_text d h) (a_text e k) = refl
  one_verdict_by _ _ (a_text {tree = s} d h) (repeated_name {tree = t} {at = at} e k) = let same : None ≡ Some at = one_name_of s t None (Some at) d e h k in absurd (cc)
  one_verdict_by _ _ (a_text {tree = s} d h) (no_text {refusal = r} j) = not_both s r d j
  one_verdict_by _ _ (repeated_name {tree = s} {at = at} d h) (a_text {tree = t} e k) = let same : Some at ≡ None = one_name_of s t (Some at) None d e h k in absurd (cc)
  one_verdict_by _ _ (repeated_name {tree = s} {at = m} d h) (repeated_name {tree = t} {at = n} e k) =
      let both : Some m ≡ Some n = one_name_of s t (Some m) (Some n) d e h k in
      let same : m ≡ n = cc in
      ap (λ (i : ℕ). Refused (RepeatedName i)) same
  one_verdict_by _ _ (repeated_name {tree = s} d h) (no_text {refusal = r} j) = not_both s r d j
  one_verdict_by _ _ (no_text {refusal = r} j) (a_text {tree = t} e k) = not_both t r e j
  one_verdict_by _ _ (no_text {refusal = r} j) (repeated_name {tree = t} e k) = not_both t r e j
  one_verdict_by _ _ (no_text {refusal = r} j) (no_text {refusal = s} k) = one_verdict settings 0 text (Refused r) (Refused s) j k

-- ---- elements

none_in : (rule : NameRule) (told : ElementAnswer) → rule ≡ Any → RefusesNameIn rule told None
none_in Any (element.Accepted index) is = refl
none_in Any (element.Refused r) is = refl
none_in Any element.MayBeCut is = refl
none_in Any element.Unmarked is = refl
none_in Unique told is = absurd (cc)

pub stays_so : (rule : NameRule) (told : ElementAnswer) → rule ≡ Any → IsByNames rule told told
stays_so rule told is = record { name = None; refused = none_in rule told is; after_is = refl }

same_answer : (rule : NameRule) (told after : ElementAnswer) → rule ≡ Any → IsByNames rule told after → after ≡ told
same_answer rule told after is h = one_by_names rule told after told h (stays_so rule told is)

module _ (settings : Settings) (input : List ℕ) (p : Part) (e : Element) (is : settings.names ≡ Any) where
  pub any_element : IsElementBy settings input p e ↔ IsElement input settings.depth p e
  any_element = (
    (λ h. record { span_is = h.span_is; answer_is = subst (λ (a : ElementAnswer). IsElementAnswer input p settings.depth a) (sym (same_answer settings.names h.told e.answer is h.by_names)) h.answer_is }),
    (λ h. record { told = e.answer; span_is = h.span_is; answer_is = h.answer_is; by_names = stays_so settings.names e.answer is }),
  )

pub zip_more : {A B : Type 0} (P Q : A → B → Type 0) → ((a : A) (b : B) → P a b → Q a b) → (xs : List A) (ys : List B) → AllZip P xs ys → AllZip Q xs ys
zip_more P Q f [] [] z = tt
zip_more P Q f [] (y ∷ ys) z = absurd z
zip_more P Q f (x ∷ xs) [] z = absurd z
zip_more P Q f (x ∷ xs) (y ∷ ys) z = (f x y z.0, zip_more P Q f xs ys z.1)

-- an element's answer, from that whatever names its objects have
pub element_told : (settings : Settings) (rule : NameRule) (input : List ℕ) (p : Part) (e after : Element) → settings.names ≡ rule → IsElement input settings.depth p e
    → after.span ≡ e.span → IsByNames rule e.answer after.answer → IsElementBy settings input p after
element_told settings rule input p e after is h span named =
    record { told = e.answer; span_is = span ∙ h.span_is; answer_is = h.answer_is; by_names = subst (λ (r : NameRule). IsByNames r e.answer after.answer) (sym is) named }

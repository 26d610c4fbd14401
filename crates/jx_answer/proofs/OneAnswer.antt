-- By settings a text has one answer: where its value begins shows what stands in front.
use Rattle.std.proofs.Common.{◌≡◌, ℕ, suc, ◌+◌, ◌≤◌, List, [], ◌∷◌, ◌++◌, length, refl, sym, ap, subst, ◌∙◌, inl, inr, ◌⊎◌, arith}
use Rattle.jx_lex.specs.Token.{IsBlank, space, tab, line_feed, carriage_return}
use Rattle.jx_run.specs.declared.texts.settings.FrontMark.{FrontMark}
use Rattle.jx_run.specs.declared.texts.settings.FrontMark.TheVariants as on_mark
use Rattle.jx_run.specs.declared.texts.settings.Settings.{Settings}
use Rattle.jx_run.specs.declared.texts.verdict.Refusal.{Refusal}
use Rattle.jx_run.specs.declared.texts.verdict.Verdict.{Verdict}
use Rattle.jx_run.specs.declared.texts.verdict.Verdict.TheVariants.{Accepted, Refused}
use Rattle.jx_run.specs.Grammar.{Blanks, no_blanks, blank, Value, leaf, empty_array, array, empty_object, object}
use Rattle.jx_run.specs.Settings.{byte_order_mark, IsDocumentBy, IsFront}
use Rattle.jx_run.specs.Text.{Document, document}
use Rattle.jx_run.specs.Tree.{Tree, node, span}
use Rattle.jx_index.specs.Indexed.{IndexedValue}
use Rattle.jx_index.specs.Rows.{rows}
use Rattle.jx_index.specs.declared.text_answer.TextAnswer.{TextAnswer}
use Rattle.jx_index.specs.declared.text_answer.TextAnswer.TheVariants as answer
use Rattle.jx_index.specs.ByNames.{IsVerdictBy}
use Rattle.jx_index.specs.Settled.{IsAnswerBy, IsIndexBy}
use Rattle.jx_answer.proofs.Ones.{not_both, same_index, same_refusal}

-- ---- where the value of a text begins

abbrev root_start : Tree → ℕ
root_start (node kind place below) = place.start

starts_there : {i j : ℕ} {t u : List ℕ} {tree : Tree} → Value i t j u tree → root_start tree ≡ i
starts_there (leaf x) = refl
starts_there (empty_array bs) = refl
starts_there (array xs) = refl
starts_there (empty_object bs) = refl
starts_there (object xs) = refl

blanks_rise : {i j : ℕ} {t u : List ℕ} → Blanks i t j u → i ≤ j
blanks_rise no_blanks = omega arith
blanks_rise {i = i} {j = j} (blank h bs) = let more : suc i ≤ j = blanks_rise bs in omega (arith, more)

starts_behind : {i : ℕ} {t : List ℕ} {tree : Tree} → Document i t tree → i ≤ root_start tree
starts_behind {i = i} {tree = tree} (document {j = j} bs v cs) =
    let there : root_start tree ≡ j = starts_there v in
    let rise : i ≤ j = blanks_rise bs in
    omega (arith, there, rise)

-- no blank stands before it
starts_at_once : (b : ℕ) (x : List ℕ) → (IsBlank b → ⊥) → (i : ℕ) (tree : Tree) → Document i (b ∷ x) tree → root_start tree ≡ i
starts_at_once b x other i tree (document no_blanks v cs) = starts_there v
starts_at_once b x other i tree (document (blank h bs) v cs) = absurd (other h)

no_blank : (b : ℕ) → b ≡ 0xef → IsBlank b → ⊥
no_blank _ e space = omega (arith, e)
no_blank _ e tab = omega (arith, e)
no_blank _ e line_feed = omega (arith, e)
no_blank _ e carriage_return = omega (arith, e)

-- ---- what stands in front

fronts : (m : FrontMark) (front : List ℕ) → IsFront m front → (front ≡ []) ⊎ (front ≡ byte_order_mark)
fronts on_mark.Refused front h = inl h
fronts on_mark.Ignored front h = h

module _ (settings : Settings) (bytes : List ℕ) where
  -- the same tree does not begin at the mark and behind it
  apart : (x y : Tree) → x ≡ y → (d : IsDocumentBy settings 0 bytes x) (e : IsDocumentBy settings 0 bytes y) → d.front ≡ [] → e.front ≡ byte_order_mark → ⊥
  apart x y same d e none mark =
      let marked : bytes ≡ 0xef ∷ 0xbb ∷ 0xbf ∷ e.rest = e.whole ∙ ap (λ f. f ++ e.rest) mark in
      let bare : d.rest ≡ bytes = sym (d.whole ∙ ap (λ f. f ++ d.rest) none) in
      let reads : Document (0 + length d.front) (0xef ∷ 0xbb ∷ 0xbf ∷ e.rest) x = subst (λ b. Document (0 + length d.front) b x) (bare ∙ marked) d.text.reads in
      let first : root_start x ≡ 0 + length d.front = starts_at_once 0xef (0xbb ∷ 0xbf ∷ e.rest) (no_blank 0xef refl) (0 + length d.front) x reads in
      let behind : 0 + length e.front ≤ root_start y = starts_behind e.text.reads in
      let starts : root_start x ≡ root_start y = ap root_start same in
      let nothing : length d.front ≡ 0 = ap length none in
      let three : length e.front ≡ 3 = ap length mark in
      omega (arith, first, behind, starts, nothing, three)

  one_front : (x y : Tree) → x ≡ y → (d : IsDocumentBy settings 0 bytes x) (e : IsDocumentBy settings 0 bytes y) → length d.front ≡ length e.front
  one_front x y same d e = pick (fronts settings.mark d.front d.is_front) (fronts settings.mark e.front e.is_front)
    where
      pick : (d.front ≡ []) ⊎ (d.front ≡ byte_order_mark) → (e.front ≡ []) ⊎ (e.front ≡ byte_order_mark) → length d.front ≡ length e.front
      pick (inl p) (inl q) = ap length (p ∙ sym q)
      pick (inl p) (inr q) = absurd (apart x y same d e p q)
      pick (inr p) (inl q) = absurd (apart y x (sym same) e d q p)
      pick (inr p) (inr q) = ap length (p ∙ sym q)

-- ---- one answer

module _ (one_tree : (settings : Settings) (at : ℕ) (bytes : List ℕ) (x y : Tree) → IsDocumentBy settings at bytes x → IsDocumentBy settings at bytes y → x ≡ y)
    (settings : Settings) (bytes : List ℕ)
    (one_verdict : (x y : Verdict) → IsVerdictBy settings bytes x → IsVerdictBy settings bytes y → x ≡ y) where
  one_index_by : (i j : IndexedValue) → IsIndexBy settings bytes i → IsIndexBy settings bytes j → i ≡ j
  one_index_by i j h k =
      let same : h.tree ≡ k.tree = one_tree settings 0 bytes h.tree k.tree h.is_text k.is_text in
      let from : length h.is_text.front ≡ length k.is_text.front = one_front settings bytes h.tree k.tree same h.is_text k.is_text in
      same_index i j (h.text ∙ sym k.text)
      (h.span ∙ ap (λ (n : ℕ). span n (length bytes)) from ∙ sym k.span)
      (h.rows_are ∙ ap rows same ∙ sym k.rows_are)

  pub one_answer_by : (x y : TextAnswer) → IsAnswerBy settings bytes x → IsAnswerBy settings bytes y → x ≡ y
  one_answer_by (answer.Accepted i) (answer.Accepted j) h k = ap (λ (v : IndexedValue). answer.Accepted v) (one_index_by i j h.1 k.1)
  one_answer_by (answer.Accepted i) (answer.Refused s) h k = not_both s (one_verdict Accepted (Refused s) h.0 k)
  one_answer_by (answer.Refused r) (answer.Accepted j) h k = not_both r (one_verdict Accepted (Refused r) k.0 h)
  one_answer_by (answer.Refused r) (answer.Refused s) h k =
      ap (λ (v : Refusal). answer.Refused v) (same_refusal r s (one_verdict (Refused r) (Refused s) h k))

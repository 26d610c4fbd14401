-- Where the comma or the bracket behind a value stands.
use Rattle.std.proofs.Common.{◌≡◌, ℕ, suc, ◌+◌, List, [], ◌∷◌, length, drop, true, refl, sym, ap, ◌∙◌, arith}
use Rattle.std.specs.Prelude.{Option, if◌then◌else◌}
use Rattle.std.proofs.lemmas.List.{drop_at, drop-drop}
use Rattle.jx_compact.specs.Compact.{is_no_blank}
use Rattle.jx_lex.specs.declared.kind.Kind.{Kind}
use Rattle.jx_lex.specs.Token.{space, tab, line_feed, carriage_return}
use Rattle.jx_summary.specs.declared.span.Span.{Span}
use Rattle.jx_run.specs.Laws.{span_of}
use Rattle.jx_run.specs.Tree.{Tree, span}
use Rattle.jx_run.specs.Grammar.{Blanks, no_blanks, blank, Scalar, Value, leaf, empty_array, array, empty_object, object}
use Rattle.jx_run.proofs.Spans.{IsStretch}
use Rattle.jx_each.specs.Due.{behind, past_blanks}

-- what stands in a text behind a stretch
pub left : (text : List ℕ) {i j : ℕ} {t u : List ℕ} → drop i text ≡ t → IsStretch i t j u → drop j text ≡ u
left text {i = i} {j = j} {u = u} h p =
    ap (λ (n : ℕ). drop n text) p.end ∙ sym (drop-drop (length p.bytes) i text) ∙ ap (drop (length p.bytes)) (h ∙ p.whole) ∙ drop_at p.bytes u (length p.bytes) refl

pub left_byte : (text : List ℕ) (b : ℕ) (t : List ℕ) (i : ℕ) → drop i text ≡ b ∷ t → drop (suc i) text ≡ t
left_byte text b t i h = left text {i = i} {j = suc i} h (record { bytes = b ∷ []; whole = refl; end = omega arith })

pub scalar_stretch : {k : Kind} {i j : ℕ} {t u : List ℕ} → Scalar k i t j u → IsStretch i t j u
scalar_stretch x = record { bytes = x.token; whole = x.whole; end = x.end }

value_span : {i j : ℕ} {t u : List ℕ} {tree : Tree} → Value i t j u tree → span_of tree ≡ span i j
value_span (leaf x) = refl
value_span (empty_array bs) = refl
value_span (array xs) = refl
value_span (empty_object bs) = refl
value_span (object xs) = refl

-- blanks are skipped up to a byte that is none
blanks_past : {i j b : ℕ} {t u : List ℕ} → is_no_blank b ≡ true → Blanks i t j (b ∷ u) → past_blanks i t ≡ j
blanks_past {i = i} h no_blanks = rw h refl
blanks_past h (blank space bs) = blanks_past h bs
blanks_past h (blank tab bs) = blanks_past h bs
blanks_past h (blank line_feed bs) = blanks_past h bs
blanks_past h (blank carriage_return bs) = blanks_past h bs

pub value_behind : (text : List ℕ) {i j k b : ℕ} {t u v : List ℕ} {tree : Tree} → drop j text ≡ u → Value i t j u tree → is_no_blank b ≡ true → Blanks j u k (b ∷ v) → (name : Option Span)
    → behind text (record { name = name; tree = tree }) ≡ k
value_behind text {j = j} h x is bs name = ap (λ (s : Span). past_blanks s.end (drop s.end text)) (value_span x) ∙ ap (past_blanks j) h ∙ blanks_past is bs

-- What an index over the bytes behind a front says of all bytes.
use Rattle.std.proofs.Common.{◌≡◌, ℕ, suc, ◌+◌, ◌-◌, List, [], ◌∷◌, ◌++◌, length, drop, Bool, true, false, cond, refl, sym, ap, subst, ◌∙◌, inl, inr, arith}
use Rattle.std.specs.Prelude.{◌==◌}
use Rattle.std.proofs.lemmas.Bool.Decides.{nat_tests}
use Rattle.std.proofs.lemmas.List.{take_all, length-drop}
use Rattle.std.proofs.Math.Seq.{drop-append_seam}
use Rattle.jx_run.specs.declared.texts.settings.Front.{Front}
use Rattle.jx_run.specs.declared.texts.settings.Front.TheVariants as seen
use Rattle.jx_run.specs.declared.texts.settings.FrontMark.{FrontMark}
use Rattle.jx_run.specs.declared.texts.settings.FrontMark.TheVariants as on_mark
use Rattle.jx_run.specs.declared.texts.settings.Settings.{Settings}
use Rattle.jx_run.specs.declared.texts.verdict.Refusal.TheVariants as refusal
use Rattle.jx_run.specs.declared.texts.verdict.Verdict.{Verdict}
use Rattle.jx_run.specs.declared.texts.verdict.Verdict.TheVariants.{Accepted}
use Rattle.jx_run.specs.Front.{agreed, front_of, IsTold}
use Rattle.jx_run.specs.Settings.{byte_order_mark, IsFront, JudgedBy}
use Rattle.jx_run.specs.Text.{IsDocument, IsText}
use Rattle.jx_run.specs.Tree.{Tree, span}
use Rattle.jx_run.specs.Verdict.{Judged}
use Rattle.jx_run.proofs.VerdictLaws.{tree_in}
use Rattle.jx_index.specs.Indexed.{IndexedValue}
use Rattle.jx_index.specs.Rows.{rows}
use Rattle.jx_index.specs.Settled.{IsIndexBy, IsIndexFrom, rest_from}

rest_is : (n : ℕ) (text : List ℕ) → rest_from n text ≡ drop n text
rest_is n text = take_all (length text - n) (drop n text) (let e : length (drop n text) ≡ length text - n = length-drop n text in omega arith)

pub over_rest : (text : List ℕ) (start limit : ℕ) (index : IndexedValue) → Judged start (rest_from start text) limit Accepted → index.text ≡ text
    → index.span ≡ span start (length text) → ((d : ℕ) (tree : Tree) → IsText text start (length text) d tree → index.rows ≡ rows tree)
    → IsIndexFrom start text limit index
over_rest text start limit index judged is_text is_span is_rows =
    let t = tree_in judged in
    record { text = is_text; span = is_span; tree = t.0; is_text = t.1; rows_are = is_rows limit t.0 t.1 }

-- ---- what stands in front

-- so many bytes are skipped because they are a front
record IsSkipped (mark : FrontMark) (text : List ℕ) (n : ℕ) : Type 0 where
  pub front : List ℕ
  pub is_front : IsFront mark front
  pub whole : text ≡ front ++ drop n text
  pub long : length front ≡ n

all_agree : (xs ms : List ℕ) → agreed xs ms ≡ length ms → xs ≡ ms ++ drop (length ms) xs
all_agree xs [] e = refl
all_agree [] (m ∷ ms) e = absurd (omega (arith, e))
all_agree (x ∷ xs) (m ∷ ms) e = pick (x == m) refl (all_agree xs ms) e
  where
    pick : (b : Bool) → (x == m) ≡ b → (agreed xs ms ≡ length ms → xs ≡ ms ++ drop (length ms) xs) → cond b (suc (agreed xs ms)) 0 ≡ suc (length ms)
        → x ∷ xs ≡ m ∷ (ms ++ drop (length ms) xs)
    pick true q more h =
        let same : x ≡ m = grind (arith, nat_tests) in
        let less : agreed xs ms ≡ length ms = omega (arith, h) in
        ap (λ y. y ∷ xs) same ∙ ap (λ t. m ∷ t) (more less)
    pick false q more h = absurd (omega (arith, h))

nothing : (mark : FrontMark) (text : List ℕ) → IsFront mark [] → IsSkipped mark text 0
nothing mark text h = record { front = []; is_front = h; whole = refl; long = refl }

skipped_is : (mark : FrontMark) (text : List ℕ) (n : ℕ) → front_of mark text ≡ seen.Skip n → IsSkipped mark text n
skipped_is on_mark.Refused text n e = subst (IsSkipped on_mark.Refused text) (let same : 0 ≡ n = cc in same) (nothing on_mark.Refused text refl)
skipped_is on_mark.Ignored text n e = pick (agreed text byte_order_mark == 0) (agreed text byte_order_mark == 3) (agreed text byte_order_mark == length text) refl e
  where
    pick : (x y z : Bool) → (agreed text byte_order_mark == 3) ≡ y
        → cond x (seen.Skip 0) (cond y (seen.Skip 3) (cond z (seen.Refused refusal.Truncated) (seen.Refused (refusal.Stopped (agreed text byte_order_mark))))) ≡ seen.Skip n
        → IsSkipped on_mark.Ignored text n
    pick true y z q h = subst (IsSkipped on_mark.Ignored text) (let same : 0 ≡ n = cc in same) (nothing on_mark.Ignored text (inl refl))
    pick false true z q h =
        let three : agreed text byte_order_mark ≡ 3 = grind (arith, nat_tests) in
        subst (IsSkipped on_mark.Ignored text) (let same : 3 ≡ n = cc in same)
        (record { front = byte_order_mark; is_front = inr refl; whole = all_agree text byte_order_mark three; long = refl })
    pick false false true q h = absurd cc
    pick false false false q h = absurd cc

-- ---- behind the front

told_behind : (settings : Settings) (text : List ℕ) (f : Front) (n : ℕ) (v : Verdict) → f ≡ seen.Skip n → IsTold settings.mark text f
    → Judged n (rest_from n text) settings.depth v → JudgedBy settings 0 text v
told_behind settings text f n v is told j =
    let here : IsTold settings.mark text (seen.Skip n) = subst (IsTold settings.mark text) is told in
    here.1 settings v refl (subst (λ b. Judged n b settings.depth v) (rest_is n text) j)

pub verdict_behind : ((mark : FrontMark) (text : List ℕ) → IsTold mark text (front_of mark text)) → (settings : Settings) (text : List ℕ) (n : ℕ) (v : Verdict)
    → front_of settings.mark text ≡ seen.Skip n → Judged n (rest_from n text) settings.depth v → JudgedBy settings 0 text v
verdict_behind told settings text n v is j = told_behind settings text (front_of settings.mark text) n v is (told settings.mark text) j

pub index_behind : (settings : Settings) (text : List ℕ) (n : ℕ) (index : IndexedValue) → front_of settings.mark text ≡ seen.Skip n
    → IsIndexFrom n text settings.depth index → IsIndexBy settings text index
index_behind settings text n index is h =
    let s = skipped_is settings.mark text n is in
    let there : IsDocument n (drop n text) settings.depth h.tree = subst (λ b. IsDocument n b settings.depth h.tree) (rest_is n text) h.is_text in
    let long : length s.front ≡ n = s.long in
    let from : n ≡ 0 + length s.front = omega (arith, long) in
    record {
      text = h.text;
      tree = h.tree;
      is_text = record {
        front = s.front;
        rest = drop n text;
        is_front = s.is_front;
        whole = s.whole;
        text = subst (λ (i : ℕ). IsDocument i (drop n text) settings.depth h.tree) from there;
      };
      span = h.span ∙ ap (λ (i : ℕ). span i (length text)) (sym s.long);
      rows_are = h.rows_are;
    }

-- what stands at the span of such an index is the text
pub text_behind : (settings : Settings) (text : List ℕ) (index : IndexedValue) (x : IsIndexBy settings text index) → IsText index.text index.span.start index.span.end settings.depth x.tree
text_behind settings text index x =
    let d = x.is_text in
    let none : 0 + length d.front ≡ length d.front = omega arith in
    let rest : rest_from (length d.front) text ≡ d.rest = rest_is (length d.front) text ∙ ap (drop (length d.front)) d.whole ∙ drop-append_seam d.front d.rest in
    subst (λ p. IsText index.text p.start p.end settings.depth x.tree) (sym x.span)
    (subst (λ t. IsText t (length d.front) (length text) settings.depth x.tree) (sym x.text)
    (subst (λ b. IsDocument (length d.front) b settings.depth x.tree) (sym rest)
    (subst (λ (i : ℕ). IsDocument i d.rest settings.depth x.tree) none d.text)))

-- The output leaves no choice, where a text has one tree and one verdict, and a sequence one list of answers.
use Rattle.std.proofs.Common.{◌≡◌, ℕ, ◌<◌, List, [], ◌∷◌, ◌++◌, length, Some, Ok, Err, map, refl, sym, ap, subst, ◌∙◌, arith}
use Rattle.std.specs.Prelude.{codes, slice_get, string_bytes}
use Rattle.std.proofs.lemmas.List.{length-append, same_from_push}
use Rattle.jx_lex.specs.declared.kind.Kind.{Kind}
use Rattle.jx_summary.specs.declared.span.Span.{Span}
use Rattle.jx_run.specs.declared.texts.verdict.Verdict.{Verdict}
use Rattle.jx_run.specs.declared.texts.verdict.Verdict.TheVariants.{Accepted, Refused}
use Rattle.jx_run.specs.declared.texts.verdict.Refusal.{Refusal}
use Rattle.jx_run.specs.declared.texts.settings.Settings.{Settings}
use Rattle.jx_run.specs.Settings.{IsDocumentBy}
use Rattle.jx_run.specs.Tree.{Tree}
use Rattle.jx_index.specs.declared.find_fault.FindFault.{FindFault}
use Rattle.jx_index.specs.declared.pointer.PointerFault.{PointerFault}
use Rattle.jx_index.specs.declared.pointer.PointerFault.TheVariants.{NoSlash, BadEscape}
use Rattle.jx_index.specs.declared.row.Row.{Row}
use Rattle.jx_index.specs.Leads.{leads}
use Rattle.jx_index.specs.PointerFaults.{IsFaultOf}
use Rattle.jx_index.specs.Pointers.{IsFirstBadEscape, IsPointer, tokens}
use Rattle.jx_index.specs.Rows.{rows}
use Rattle.jx_index.specs.ByNames.{IsVerdictBy}
use Rattle.jx_answer.specs.declared.element.Element.{Element}
use Rattle.jx_answer.specs.Settled.{AreElementsBy}
use Rattle.jx_task.specs.declared.task.Task.{Task}
use Rattle.jx_task.specs.declared.task.Task.TheVariants.{Check, Index, At, Seq}
use Rattle.jx_ends.specs.declared.exit.Exit.{Exit}
use Rattle.jx_ends.specs.declared.exit.Exit.TheVariants.{Good}
use Rattle.jx_words.specs.declared.pointer_answer.PointerAnswer.{PointerAnswer}
use Rattle.jx_words.specs.declared.pointer_answer.PointerAnswer.TheVariants.{Found, Unread, Lost}
use Rattle.jx_report.specs.Elements.{element_lines, exit_past_all}
use Rattle.jx_words.specs.Verdicts.{SaysAccepted, ByVerdict}
use Rattle.jx_report.specs.Output.{ListsRows, AnswersPointers, Output}
use Rattle.jx_words.specs.Pointers.{LeadsTo, IsAnswerTo, answer_words, exit_after, PointerLines, no_pointer, one_more}
use Rattle.jx_report.specs.RowWords.{row_lines}
use Rattle.jx_words.specs.Words.{line, refusal_words}

-- ---- lists that end in one element more

no_front : {A : Type 0} (ys : List A) (y : A) → [] ≡ ys ++ y ∷ [] → ⊥
no_front ys y e = omega (arith, ap length e, length-append ys (y ∷ []))

-- ---- what a pointer comes to

module _ (pointer : List ℕ) where
  no_earlier : (j k : ℕ) → IsFirstBadEscape pointer j → IsFirstBadEscape pointer k → j < k → ⊥
  no_earlier j k x y lt = y.before j lt x.here

  one_offset : (j k : ℕ) → IsFirstBadEscape pointer j → IsFirstBadEscape pointer k → j ≡ k
  one_offset j k x y = let f : j < k → ⊥ = λ lt. no_earlier j k x y lt in let g : k < j → ⊥ = λ lt. no_earlier k j y x lt in omega arith

  one_fault : (f g : PointerFault) → IsFaultOf pointer f → IsFaultOf pointer g → f ≡ g
  one_fault NoSlash NoSlash h k = refl
  one_fault NoSlash (BadEscape b) h k = absurd (h k.slash)
  one_fault (BadEscape a) NoSlash h k = absurd (k h.slash)
  one_fault (BadEscape a) (BadEscape b) h k = ap (λ (n : ℕ). BadEscape n) (one_offset a b h k)

  no_fault : (f : PointerFault) → IsFaultOf pointer f → IsPointer pointer → ⊥
  no_fault NoSlash h p = h p.slash
  no_fault (BadEscape at) h p = p.escapes at h.here

module _ (text : List ℕ) (tree : Tree) where
  one_row : (p : List ℕ) (k l : Kind) (a b : Span) → LeadsTo text tree p k a → LeadsTo text tree p l b → (k ≡ l) × (a ≡ b)
  one_row p k l a b f g =
      let there : Ok f.node ≡ Ok g.node = sym f.leads_there ∙ g.leads_there in
      let node : f.node ≡ g.node = cc in
      let rows_are : Some f.row ≡ Some g.row = sym f.is_row ∙ ap (slice_get (rows tree)) node ∙ g.is_row in
      let same : f.row ≡ g.row = cc in (
        sym f.kind_is ∙ ap (λ (r : Row). r.kind) same ∙ g.kind_is,
        sym f.span_is ∙ ap (λ (r : Row). r.span) same ∙ g.span_is,
      )

  no_loss : (p : List ℕ) (k : Kind) (a : Span) (f : FindFault) → LeadsTo text tree p k a → leads text tree (tokens p) ≡ Err f → ⊥
  no_loss p k a f h g = let both : Ok h.node ≡ Err f = sym h.leads_there ∙ g in absurd (cc)

  one_answer : (p : List ℕ) (x y : PointerAnswer) → IsAnswerTo text tree p x → IsAnswerTo text tree p y → x ≡ y
  one_answer p (Found k a) (Found l b) h g =
      let both = one_row p k l a b h g in ap (λ (x : Kind). Found x a) both.0 ∙ ap (λ (x : Span). Found l x) both.1
  one_answer p (Found k a) (Unread g) h i = absurd (no_fault p g i h.is_pointer)
  one_answer p (Found k a) (Lost g) h i = absurd (no_loss p k a g h i.1)
  one_answer p (Unread f) (Found k a) h i = absurd (no_fault p f h i.is_pointer)
  one_answer p (Unread f) (Unread g) h k = ap (λ (x : PointerFault). Unread x) (one_fault p f g h k)
  one_answer p (Unread f) (Lost g) h k = absurd (no_fault p f h k.0)
  one_answer p (Lost f) (Found k a) h i = absurd (no_loss p k a f i h.1)
  one_answer p (Lost f) (Unread g) h k = absurd (no_fault p g k h.0)
  one_answer p (Lost f) (Lost g) h k =
      let both : Err f ≡ Err g = sym h.1 ∙ k.1 in
      let same : f ≡ g = cc in
      ap (λ (x : FindFault). Lost x) same

  one_lines : (ps qs : List (List ℕ)) (x y : List ℕ) (e f : Exit) → ps ≡ qs → PointerLines text tree ps x e → PointerLines text tree qs y f → (x ≡ y) × (e ≡ f)
  one_lines _ _ _ _ _ _ g no_pointer no_pointer = (refl, refl)
  one_lines _ _ _ _ _ _ g no_pointer (one_more {pointers = qs} m q b is) = absurd (no_front qs q g)
  one_lines _ _ _ _ _ _ g (one_more {pointers = ps} l p a is) no_pointer = absurd (no_front ps p (sym g))
  one_lines _ _ _ _ _ _ g (one_more {pointers = ps} {output = x} {exit = e} l p a is) (one_more {pointers = qs} {output = y} {exit = f} m q b it) =
      let s = same_from_push ps qs p q g in
      let both = one_lines ps qs x y e f s.0 l m in
      let same : a ≡ b = one_answer p a b is (subst (λ z. IsAnswerTo text tree z b) (sym s.1) it) in (
        ap (λ z. z ++ line (answer_words a)) both.0 ∙ ap (λ (z : PointerAnswer). y ++ line (answer_words z)) same,
        ap (λ (z : Exit). exit_after z a) both.1 ∙ ap (λ (z : PointerAnswer). exit_after f z) same,
      )

-- ---- by the verdict

same_refusal : (r s : Refusal) → Refused r ≡ Refused s → r ≡ s
same_refusal r s e = cc

by_verdict : (IsFor : List ℕ → Exit → Type 0) → ((x y : List ℕ) (e f : Exit) → IsFor x e → IsFor y f → (x ≡ y) × (e ≡ f))
    → (v w : Verdict) → v ≡ w → (x y : List ℕ) (e f : Exit) → ByVerdict IsFor v x e → ByVerdict IsFor w y f → (x ≡ y) × (e ≡ f)
by_verdict IsFor one Accepted Accepted g x y e f h k = one x y e f h k
by_verdict IsFor one Accepted (Refused s) g x y e f h k = absurd (cc)
by_verdict IsFor one (Refused r) Accepted g x y e f h k = absurd (cc)
by_verdict IsFor one (Refused r) (Refused s) g x y e f h k =
    (h.0 ∙ ap (λ (z : Refusal). line (refusal_words z)) (same_refusal r s g) ∙ sym k.0, h.1 ∙ sym k.1)

module _ (one_tree : (settings : Settings) (at : ℕ) (bytes : List ℕ) (x y : Tree) → IsDocumentBy settings at bytes x → IsDocumentBy settings at bytes y → x ≡ y)
    (one_verdict : (settings : Settings) (bytes : List ℕ) (x y : Verdict) → IsVerdictBy settings bytes x → IsVerdictBy settings bytes y → x ≡ y)
    (one_elements : (settings : Settings) (input : List ℕ) (xs ys : List Element) → AreElementsBy settings input xs → AreElementsBy settings input ys → xs ≡ ys) where
  module _ (settings : Settings) (input : List ℕ) where
    accepted : (x y : List ℕ) (e f : Exit) → SaysAccepted x e → SaysAccepted y f → (x ≡ y) × (e ≡ f)
    accepted x y e f h k = (h.0 ∙ sym k.0, h.1 ∙ sym k.1)

    listed : (x y : List ℕ) (e f : Exit) → ListsRows settings input x e → ListsRows settings input y f → (x ≡ y) × (e ≡ f)
    listed x y e f (t, d, h) (u, c, k) =
        let same = one_tree settings 0 input t u d c in
        (h.0 ∙ ap (λ (z : Tree). line (codes "accepted") ++ row_lines 0 (rows z)) same ∙ sym k.0, h.1 ∙ sym k.1)

    answered : (pointers : List (List ℕ)) (x y : List ℕ) (e f : Exit) → AnswersPointers pointers settings input x e → AnswersPointers pointers settings input y f → (x ≡ y) × (e ≡ f)
    answered pointers x y e f (t, d, h) (u, c, k) =
        let same = one_tree settings 0 input t u d c in
        one_lines input u pointers pointers x y e f refl (subst (λ z. PointerLines input z pointers x e) same h) k

  pub one_output : (task : Task) (settings : Settings) (input x y : List ℕ) (e f : Exit) → Output task settings input x e → Output task settings input y f → (x ≡ y) × (e ≡ f)
  one_output Check settings input x y e f (v, h, hs) (w, k, ks) = by_verdict SaysAccepted (accepted settings input) v w (one_verdict settings input v w h k) x y e f hs ks
  one_output Index settings input x y e f (v, h, hs) (w, k, ks) = by_verdict (ListsRows settings input) (listed settings input) v w (one_verdict settings input v w h k) x y e f hs ks
  one_output (At pointers) settings input x y e f (v, h, hs) (w, k, ks) =
      let spelt = map string_bytes pointers.items in
      by_verdict (AnswersPointers spelt settings input) (answered settings input spelt) v w (one_verdict settings input v w h k) x y e f hs ks
  one_output Seq settings input x y e f (xs, h, hs) (ys, k, ks) =
      let same = one_elements settings input xs ys h k in
      (hs.0 ∙ ap element_lines same ∙ sym ks.0, hs.1 ∙ ap (exit_past_all Good) same ∙ sym ks.1)

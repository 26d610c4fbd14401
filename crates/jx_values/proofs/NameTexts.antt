-- Lines go on with lines, and their texts with those of the others.
use Rattle.std.specs.Prelude.{◌==◌, ◌||◌, is_none, if◌then◌else◌}
use Rattle.std.proofs.Common.{◌≡◌, ℕ, ◌+◌, ◌<◌, List, [], ◌∷◌, ◌++◌, length, drop, get_or, Bool, true, false, refl, sym, ap, ◌∙◌, append_assoc, append-nil}
use Rattle.std.proofs.lemmas.List.{drop_more}
use Rattle.jx_string.specs.Texts.{text_of}
use Rattle.jx_values.specs.NameTexts.{Texts, lone_in, no_texts, shown_as, text_line, text_run, text_step}
use Rattle.jx_values.specs.inside.Showing.{ShowsAs, behind}

run_both : (t : Texts) (v w : List ℕ) → text_run t (v ++ w) ≡ text_run (text_run t v) w
run_both t [] w = refl
run_both t (b ∷ v) w = run_both (text_step t b) v w

abbrev stepped : Texts → ℕ → Bool → Texts
stepped t b ends =
    if ends then record { part = []; lines = t.lines ++ text_line t.part; lone = t.lone || is_none (text_of t.part) }
    else record { part = t.part ++ b ∷ []; lines = t.lines; lone = t.lone }

stepped_behind : (front : List ℕ) (t : Texts) (b : ℕ) (ends : Bool) → stepped (behind front t) b ends ≡ behind front (stepped t b ends)
stepped_behind front t b true =
    ap (λ (l : List ℕ). let u : Texts = record { part = []; lines = l; lone = t.lone || is_none (text_of t.part) } in u) (append_assoc front t.lines (text_line t.part))
stepped_behind front t b false = refl

step_behind : (front : List ℕ) (t : Texts) (b : ℕ) → text_step (behind front t) b ≡ behind front (text_step t b)
step_behind front t b = stepped_behind front t b (b == 0x0a)

run_behind : (front : List ℕ) (t : Texts) (w : List ℕ) → text_run (behind front t) w ≡ behind front (text_run t w)
run_behind front t [] = refl
run_behind front t (b ∷ w) = ap (λ (u : Texts). text_run u w) (step_behind front t b) ∙ run_behind front (text_step t b) w

-- the rest makes what all make
pub text_next : (t u all : Texts) (lines : List ℕ) (i b : ℕ) → i < length lines → b ≡ get_or lines i 0 → u ≡ text_step t b → text_run t (drop i lines) ≡ all → text_run u (drop (i + 1) lines) ≡ all
text_next t u all lines i b lt is made h =
    ap (λ (x : Texts). text_run x (drop (i + 1) lines)) made
    ∙ ap (λ (c : ℕ). text_run (text_step t c) (drop (i + 1) lines)) is
    ∙ ap (text_run t) (sym (drop_more lines i 0 lt))
    ∙ h

-- ---- what is shown of lines

-- the texts of more lines are taken in
pub shows_on : (by_texts : Bool) (t u : Texts) (made given lines : List ℕ) → by_texts ≡ true → u ≡ text_run t lines → ShowsAs by_texts t made given → ShowsAs by_texts u (made ++ lines) given
shows_on false t u made given lines e run h = absurd cc
shows_on true t u made given lines e run h =
    ap (behind given) run
    ∙ sym (run_behind given t lines)
    ∙ ap (λ (v : Texts). text_run v lines) h
    ∙ sym (run_both no_texts made lines)

-- of lines that were made, and others that wait where no texts are asked for
module _ (t : Texts) (made given waits : List ℕ) where
  none_more : waits ≡ [] → made ≡ made ++ waits
  none_more none = sym (append-nil made) ∙ ap (λ (l : List ℕ). made ++ l) (sym none)

  pub shown_all : (by_texts : Bool) → (by_texts ≡ true → waits ≡ []) → ShowsAs by_texts t made given → given ++ (if by_texts then t.lines else waits) ≡ shown_as by_texts (made ++ waits)
  shown_all true none h = ap (λ (u : Texts). u.lines) h ∙ ap (λ (l : List ℕ). (text_run no_texts l).lines) (none_more (none refl))
  shown_all false none h = ap (λ (l : List ℕ). l ++ waits) h.0

  pub lone_all : (by_texts : Bool) → (by_texts ≡ true → waits ≡ []) → ShowsAs by_texts t made given → t.lone ≡ lone_in by_texts (made ++ waits)
  lone_all true none h = ap (λ (u : Texts). u.lone) h ∙ ap (λ (l : List ℕ). (text_run no_texts l).lone) (none_more (none refl))
  lone_all false none h = ap (λ (u : Texts). u.lone) h.1

  -- what waits was written
  pub shows_after : (by_texts : Bool) → (by_texts ≡ true → waits ≡ []) → ShowsAs by_texts t made given
      → ShowsAs by_texts (record { part = t.part; lines = []; lone = t.lone }) (made ++ waits) (given ++ (if by_texts then t.lines else waits))
  shows_after true none h =
      ap (λ (l : List ℕ). let u : Texts = record { part = t.part; lines = l; lone = t.lone } in u) (append-nil (given ++ t.lines))
      ∙ h
      ∙ ap (text_run no_texts) (none_more (none refl))
  shows_after false none h =
      (ap (λ (l : List ℕ). l ++ waits) h.0, ap (λ (v : Texts). let u : Texts = record { part = v.part; lines = []; lone = v.lone } in u) h.1)

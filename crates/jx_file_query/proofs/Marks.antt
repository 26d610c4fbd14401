-- What a sink has come to, mark by mark.
use Rattle.std.proofs.Common.{◌≡◌, ℕ, ◌+◌, List, [], ◌∷◌, ◌++◌, refl, sym, ap, subst, ◌∙◌, Bool, true, false}
use Rattle.std.specs.Prelude.{◌==◌, map}
use Rattle.std.proofs.lemmas.List.{map-append}
use Rattle.jx_lex.specs.declared.alphabet.mark.Mark.{Mark}
use Rattle.jx_run.specs.Telling.{moved_mark, moved_marks}
use Rattle.jx_file_query.specs.declared.cutting.Aim.{Aim}
use Rattle.jx_file_query.specs.declared.cutting.Parting.{Parting}
use Rattle.jx_file_query.specs.Cuts.{Cuts, cut, cut_all, cuts_of}
use Rattle.jx_file_query.specs.inside.Marked.{HasCut}
use Rattle.jx_file_query.proofs.Steps.{all_append, all_over}

module _ (aim : Aim) (base : ℕ) (earlier : Cuts) where
  pub cut_new : (own : Aim) (own_base : ℕ) (now : Cuts) → own ≡ aim → own_base ≡ base → now ≡ earlier → HasCut aim base earlier [] own own_base now
  cut_new own own_base now a b c = record { aim_is = a; base_is = b; now_is = c }

  pub cut_mark : (marks : List Mark) (own : Aim) (own_base : ℕ) (now next : Cuts) (m : Mark) → next ≡ cut own (moved_mark own_base m) now → HasCut aim base earlier marks own own_base now
      → HasCut aim base earlier (marks ++ m ∷ []) own own_base next
  cut_mark marks own own_base now next m is h = record {
    aim_is = h.aim_is;
    base_is = h.base_is;
    now_is =
        is
        ∙ ap (λ (a : Aim). cut a (moved_mark own_base m) now) h.aim_is
        ∙ ap (λ (n : ℕ). cut aim (moved_mark n m) now) h.base_is
        ∙ ap (cut aim (moved_mark base m)) h.now_is
        ∙ sym (all_append aim (moved_marks base marks) (moved_mark base m ∷ []) earlier)
        ∙ ap (λ (ms : List Mark). cut_all aim ms earlier) (sym (map-append (moved_mark base) marks (m ∷ [])));
  }

  pub cut_done : (marks more : List Mark) (own : Aim) (own_base : ℕ) (now : Cuts) → (now.sum.closed == 0) ≡ false → HasCut aim base earlier marks own own_base now
      → HasCut aim base earlier (marks ++ more) own own_base now
  cut_done marks more own own_base now closed h = record {
    aim_is = h.aim_is;
    base_is = h.base_is;
    now_is =
        sym (all_over aim (moved_marks base more) now closed)
        ∙ ap (cut_all aim (moved_marks base more)) h.now_is
        ∙ sym (all_append aim (moved_marks base marks) (moved_marks base more) earlier)
        ∙ ap (λ (ms : List Mark). cut_all aim ms earlier) (sym (map-append (moved_mark base) marks more));
  }

  -- by what the call had
  pub cut_of : (marks : List Mark) (a : Aim) → a ≡ aim → (b : ℕ) → b ≡ base → (held : Parting) → cuts_of held ≡ earlier → (now : Parting) (own : Aim) (own_base : ℕ) → HasCut aim base earlier marks own own_base (cuts_of now)
      → cuts_of now ≡ cut_all a (moved_marks b marks) (cuts_of held)
  cut_of marks a e b f held g now own own_base h =
      h.now_is
      ∙ ap (λ (x : Aim). cut_all x (moved_marks base marks) earlier) (sym e)
      ∙ ap (λ (n : ℕ). cut_all a (moved_marks n marks) earlier) (sym f)
      ∙ ap (cut_all a (moved_marks b marks)) (sym g)

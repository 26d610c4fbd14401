-- What a split that needs no more has found.
use Rattle.std.proofs.Common.{◌≡◌, ℕ, List, length, Bool, true, false, refl, sym, ap, subst, ◌∙◌, Option, None, Some}
use Rattle.std.specs.Prelude.{◌==◌}
use Rattle.jx_run.specs.declared.texts.settings.Settings.{Settings}
use Rattle.jx_run.specs.Laws.{span_of}
use Rattle.jx_run.specs.Telling.{IsAcceptedFrom, tokens_by}
use Rattle.jx_run.specs.Tree.{Tree}
use Rattle.jx_run.proofs.InTurn.{InPieces}
use Rattle.jx_file_query.specs.declared.cutting.Parting.{Parting}
use Rattle.jx_file_query.specs.declared.split.Split.{Split}
use Rattle.jx_file_query.specs.Cuts.{Cuts, begun, cut_all, cuts_of}
use Rattle.jx_file_query.specs.Parts.{IsIn, parts_of}
use Rattle.jx_file_query.specs.Split.{HasCome, IsCutAt, is_going, needed}
use Rattle.jx_file_query.proofs.SplitComings.{cut_last, cut_over_all}
use Rattle.jx_file_query.proofs.Children.{Ends}
use Rattle.jx_file_query.proofs.Needs.{none_left}
use Rattle.jx_file_query.proofs.Texts.{Laws, container_inside}
use Rattle.jx_file_query.proofs.Wholes.{parts_end}

module _ (laws : Laws) (two : InPieces) (settings : Settings) (chunk : ℕ) (text : List ℕ) (container : Tree) (s : Split) (a : IsAcceptedFrom settings text) (come : HasCome settings chunk text s)
    (x : IsIn settings text container) (spans : span_of container ≡ s.aim.whole) (held : Parting) (is : s.held ≡ Some held) where
  here : IsCutAt settings chunk text s.aim s.at (cuts_of held)
  here = let both : Some come.kept ≡ Some held = sym come.kept_is ∙ is in let same : come.kept ≡ held = cc in subst (λ (h : Parting). IsCutAt settings chunk text s.aim s.at (cuts_of h)) same come.cut

  all : Cuts
  all = cut_all s.aim (tokens_by settings.mark text).marks (begun s.aim.whole)

  ends : Ends all (parts_of s.aim.parts text container)
  unfolding all
  ends = parts_end s.aim laws.tokens (length text) text (tokens_by settings.mark text).marks container (container_inside laws settings text a container x) x.is_container spans

  -- where the closing bracket was seen
  pub found : (held.sum.closed == 0) ≡ false → held.ended.items ≡ parts_of s.aim.parts text container
  unfolding all
  found closed = ap (λ (c : Cuts). c.ended) (cut_over_all settings chunk text s.aim s.index.now come.known two s.at (cuts_of held) closed here) ∙ ends.ended

  -- it was
  pub not_open : (held.sum.closed == 0) ≡ true → needed s ≡ None → ⊥
  unfolding all
  not_open still none =
      let going : is_going s.held ≡ true = ap (λ (o : Option Parting). is_going o) is ∙ still in
      let same = cut_last settings chunk text s.aim s.index.now come.known two s.at (cuts_of held) (none_left s going none) here in
      let clash : true ≡ false = sym still ∙ ap (λ (c : Cuts). c.sum.closed == 0) same ∙ ends.over in
      cc

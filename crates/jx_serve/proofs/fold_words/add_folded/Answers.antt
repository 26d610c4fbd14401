use Rattle.std.proofs.Common.{◌∙◌, ◌++◌, ℕ, List, Bool, Option, ap, false, not, subst, sym}
use Rattle.std.specs.Prelude.{is_some}
use Rattle.jx_serve.specs.inside.Sound.{comma, list_head, IsBegun}
use Rattle.jx_serve.proofs.Ranges.{listed, none_by, one_element}
use Rattle.jx_serve.proofs.fold_words.add_folded.Goals.{then-ne+in_ok-add_comma+in_ok-add_fold, else-ne}
use Rattle.jx_serve.proofs.fold_words.add_folded.Goals as goal

pub loop-symbol-init : goal.loop-symbol-init
loop-symbol-init c = c.in_ok-begin_list.ensures ∙ ap (λ o. o ++ list_head c.args.id.now) c.requires

pub loop-symbol-preserved : goal.loop-symbol-preserved
loop-symbol-preserved c =
    let head : List ℕ = list_head c.args.id.now in
    elim c.if-ne.branch [
      | then-ne+in_ok-add_comma+in_ok-add_fold w ↦
          subst (λ (t : Option ℕ). IsBegun head 510 (not (is_some t)) c.if-ne.out.items) (sym w.told-is)
          (subst (λ (o : List ℕ). IsBegun head 510 false o) (sym (ap (λ v. v.items) w.out-is))
          (one_element head 510 (not (is_some c.loop-symbol.told)) c.loop-symbol.out.items w.add_comma.new.out.items w.add_fold.new.out.items c.loop-symbol.invariant
          (w.in_ok-add_comma.ensures ∙ ap (λ (b : Bool). c.loop-symbol.out.items ++ comma b) (none_by w.is_none.result (is_some c.loop-symbol.told) w.is_none.ensures)) w.in_ok-add_fold.ensures))
      | else-ne w ↦
          subst (λ (t : Option ℕ). IsBegun head 510 (not (is_some t)) c.if-ne.out.items) (sym w.told-is)
          (subst (λ (o : List ℕ). IsBegun head 510 (not (is_some c.loop-symbol.told)) o) (sym (ap (λ v. v.items) w.out-is)) c.loop-symbol.invariant)
    ]

pub returns : goal.returns
returns c = λ yes.
    listed c.args.id.now c.loop-symbol.out.items c.extend_from_slice.new.self.items (not (is_some c.loop-symbol.told)) (c.is_plain_value.ensures yes) c.loop-symbol.invariant c.in_ok-extend_from_slice.ensures.items

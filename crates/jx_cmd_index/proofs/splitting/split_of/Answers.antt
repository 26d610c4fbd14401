use Rattle.std.specs.Prelude.{Option, Result, Ok, Err, None, Some}
use Rattle.std.proofs.Common.{◌≡◌, List, ℕ, subst, ◌∙◌}
use Rattle.std.proofs.lemmas.Result.{err_from_is_err_and}
use Rattle.jx_run.specs.declared.texts.settings.Settings.{Settings}
use Rattle.jx_index.specs.declared.find_fault.FindFault.{FindFault}
use Rattle.jx_index.specs.declared.finder.Found.{Found}
use Rattle.jx_index.specs.declared.pointer.PointerFault.{PointerFault}
use Rattle.jx_index.specs.Found.{IsFoundIn}
use Rattle.jx_words.specs.inside.ReadPointers.{IsReadPointer}
use Rattle.jx_cmd_index.specs.declared.look_fault.LookFault.{LookFault}
use Rattle.jx_cmd_index.specs.inside.Faults.{IsChange}
use Rattle.jx_cmd_index.specs.SavedBytes.{IsKeptOf, TellsApart}
use Rattle.jx_cmd_index.proofs.PlaceReports.{handed}
use Rattle.jx_cmd_index.proofs.Splits.{is_in, leads, split_found, split_lost, split_scalar, split_unread}
use Rattle.jx_cmd_index.proofs.splitting.split_of.Goals as goal

pub returns-in-Some-clause-split : goal.returns-in-Some-clause-split
returns-in-Some-clause-split g c = λ settings chunk text all is_kept is tells.
    let spelt = c.args.spelt.now in
    let pointer = c.read_pointer-pointer.result.pointer in
    split_unread settings c.args.parts spelt text pointer c.in-Some.fault (subst (λ (u : Option PointerFault). IsReadPointer spelt pointer u) c.in-Some.is c.read_pointer-pointer.ensures) is_kept.index.accepted

pub returns-in-Err-clause-split : goal.returns-in-Err-clause-split
returns-in-Err-clause-split g c = λ settings chunk text all is_kept is tells.
    let spelt = c.args.spelt.now in
    let pointer = c.read_pointer-pointer.result.pointer in
    let read : IsReadPointer spelt pointer None = subst (λ (u : Option PointerFault). IsReadPointer spelt pointer u) c.in_default.is c.read_pointer-pointer.ensures in
    split_lost settings c.args.parts spelt text pointer read c.in-Err.fault
    (subst (λ (r : Result Found FindFault). IsFoundIn settings text pointer r) c.in-Err.is (c.in_ok-found.ensures.found settings chunk text all is_kept is tells))

pub returns-then-not-is_container-clause-split : goal.returns-then-not-is_container-clause-split
returns-then-not-is_container-clause-split g c = λ settings chunk text all is_kept is tells.
    let spelt = c.args.spelt.now in
    let pointer = c.read_pointer-pointer.result.pointer in
    let read : IsReadPointer spelt pointer None = subst (λ (u : Option PointerFault). IsReadPointer spelt pointer u) c.in_default.is c.read_pointer-pointer.ensures in
    split_scalar settings c.args.parts spelt text pointer read c.in-Ok.found c.token_count-token.result
    (subst (λ (r : Result Found FindFault). IsFoundIn settings text pointer r) c.in-Ok.is (c.in_ok-found.ensures.found settings chunk text all is_kept is tells))
    (c.is_container.ensures.no c.if-not-is_container.true) c.token_count-token.ensures

pub returns-in_err-parts-clause-changed : goal.returns-in_err-parts-clause-changed
returns-in_err-parts-clause-changed g c =
    let content = g.F.ReadAt.content c.args.file.now in
    let spelt = c.args.spelt.now in
    let pointer = c.read_pointer-pointer.result.pointer in
    let read : IsReadPointer spelt pointer None = subst (λ (u : Option PointerFault). IsReadPointer spelt pointer u) c.in_default.is c.read_pointer-pointer.ensures in
    let p = err_from_is_err_and c.from_residual-in_err-parts.result c.from_residual-in_err-parts.ensures.1 in
    handed (λ (fault : LookFault). (settings : Settings) (chunk : ℕ) (text all : List ℕ) → IsKeptOf settings chunk text c.args.saved.now → content ≡ Some all → TellsApart chunk text all → IsChange text all fault)
    c.from_residual-in_err-parts.result c.in_err-parts.field-0.0 p.0 p.1 p.2
    (λ settings chunk text all is_kept is tells.
    let found = subst (λ (r : Result Found FindFault). IsFoundIn settings text pointer r) c.in-Ok.is (c.in_ok-found.ensures.found settings chunk text all is_kept is tells) in
    let l = leads settings c.args.parts spelt text pointer read c.in-Ok.found found in
    c.in_err-parts.ensures.changed settings chunk text all l.there.tree is_kept.index (c.in_ok-found.ensures.kept ∙ is) tells
    (is_in settings c.args.parts spelt text pointer read c.in-Ok.found found (c.is_container.ensures.yes c.if-not-is_container.false)) l.span_is)

pub returns-clause-split : goal.returns-clause-split
returns-clause-split g c = λ settings chunk text all is_kept is tells.
    let spelt = c.args.spelt.now in
    let pointer = c.read_pointer-pointer.result.pointer in
    let read : IsReadPointer spelt pointer None = subst (λ (u : Option PointerFault). IsReadPointer spelt pointer u) c.in_default.is c.read_pointer-pointer.ensures in
    let found = subst (λ (r : Result Found FindFault). IsFoundIn settings text pointer r) c.in-Ok.is (c.in_ok-found.ensures.found settings chunk text all is_kept is tells) in
    let l = leads settings c.args.parts spelt text pointer read c.in-Ok.found found in
    let yes = c.is_container.ensures.yes c.if-not-is_container.false in
    split_found settings c.args.parts spelt text pointer read c.in-Ok.found found yes c.in_ok-parts.parts
    (c.in_ok-parts.ensures.parts settings chunk text all l.there.tree is_kept.index (c.in_ok-found.ensures.kept ∙ is) tells (is_in settings c.args.parts spelt text pointer read c.in-Ok.found found yes) l.span_is)

use Rattle.std.proofs.Common.{◌≡◌, [], ◌∷◌, ap, sym, subst, ◌∙◌}
use Rattle.std.specs.Prelude.{IfOk, OnOk}
use Rattle.jx_lex.specs.Lex.{Track}
use Rattle.jx_maps.specs.Map.{track}
use Rattle.jx_reduce.specs.Structure.{IsOf}
use Rattle.jx_run.specs.inside.Reduced.{AreReduced, IsReduced}
use Rattle.jx_run.proofs.Reducing.{reduced_ok}
use Rattle.jx_run.proofs.runs.reduce.structure_from.Goals as goal

pub reduce_path-requires-clause-slots : goal.reduce_path-requires-clause-slots
reduce_path-requires-clause-slots c = subst (λ ps. AreReduced c.args.depth ps c.args.slots.now) (sym c.segments.ensures.value) c.requires.slots

pub returns-clause-slots : goal.returns-clause-slots
returns-clause-slots c = subst (λ ps. OnOk c.reduce_path.result (AreReduced c.args.depth ps c.reduce_path.new.slots)) c.segments.ensures.value c.reduce_path.ensures.slots

pub returns-then-is_bare-clause-marks : goal.returns-then-is_bare-clause-marks
returns-then-is_bare-clause-marks c =
    let r = c.new.ensures in
    let bare : (track c.args.map.now c.args.state).marks ≡ [] = ap (λ (t : Track). t.marks) (sym c.entry-track.ensures.track) ∙ c.is_bare.ensures c.if-is_bare.true in
    record { depth = r.depth; reads = subst (λ ms. IsOf ms c.new.result) (sym bare) r.reads; offsets = λ low high h. r.offsets low high }

pub returns-in-Some-clause-marks : goal.returns-in-Some-clause-marks
returns-in-Some-clause-marks c =
    let r = c.of.ensures in
    let lone : (track c.args.map.now c.args.state).marks ≡ c.in-Some.mark ∷ [] = ap (λ (t : Track). t.marks) (sym c.entry-track.ensures.track) ∙ c.in-Some.ensures in
    subst (λ ms. IfOk c.of.result (IsReduced c.args.depth ms)) (sym lone) (reduced_ok c.args.depth (c.in-Some.mark ∷ []) c.of.result r.depth r.reads r.offsets)

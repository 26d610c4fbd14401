use Rattle.std.proofs.Common.{Global, Result, Vec, arith, refl, sym}
use Rattle.std.proofs.lemmas.Option.{get_or_from_slice_get}
use Rattle.std.proofs.lemmas.Result.{IfOk-weaker}
use Rattle.jx_index.specs.declared.find_fault.FindFault.{FindFault}
use Rattle.jx_index.specs.declared.finder.Found.{Found}
use Rattle.jx_c.proofs.Alls.{all_answered, one_more}
use Rattle.jx_c.proofs.texts.all.answer_all.Goals as goal

pub loop-at-init : goal.loop-at-init
loop-at-init c = record { long = refl; told = λ settings text x k d e below. absurd (omega (arith, below)); rest = λ k over. refl }

pub look_up_at-requires : goal.look_up_at-requires
look_up_at-requires c = IfOk-weaker c.args.read.now _ _ (λ (all : Vec (Result Found FindFault) Global) few. omega (arith, few)) c.count_of.ensures.found

pub loop-at-preserved : goal.loop-at-preserved
loop-at-preserved c =
    one_more c.args.read.now c.args.pointers.now c.args.answers.now c.loop-at.answers c.loop-at.at c.pointer_at-pointer.result c.shown_look_up.result
    (omega arith) (omega (arith, c.count_of.ensures.within)) (λ d. sym (get_or_from_slice_get c.args.pointers.now c.loop-at.at c.pointer_at-pointer.result d c.pointer_at-pointer.ensures))
    (λ settings text x. (c.look_up_at.result, (c.look_up_at.ensures settings text c.args.pointers.now x c.pointer_at-pointer.ensures, c.shown_look_up.ensures)))
    c.loop-at.invariant

pub returns : goal.returns
returns c = λ settings text x.
    all_answered c.args.read.now c.args.pointers.now c.args.answers.now c.loop-at.answers c.loop-at.at (omega (arith, c.count_of.ensures.all settings text x)) c.loop-at.invariant settings text x

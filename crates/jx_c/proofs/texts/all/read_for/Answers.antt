use Rattle.std.proofs.Common.{List, ℕ, subst, sym}
use Rattle.std.specs.List.{AllZip}
use Rattle.std.proofs.lemmas.Result.{IfOk-weaker}
use Rattle.jx_c.specs.LookUps.{IsPointerOf}
use Rattle.jx_c.specs.declared.texts.all.JxPointer.{JxPointer}
use Rattle.jx_c.proofs.Alls.{ReadOf, read_of}
use Rattle.jx_c.proofs.texts.all.read_for.Goals as goal

pub returns : goal.returns
returns c =
    let pointers = c.args.pointers.now in
    let all = subst (λ (ps : List (List ℕ)). AllZip (λ (p : JxPointer). IsPointerOf p.bytes.now) pointers ps) (sym c.deref.ensures.value) c.in_ok-all.ensures in
    IfOk-weaker c.find_each_by_names.result _ _ (λ (read : ReadOf) h. read_of c.args.settings.now c.args.text.now pointers _ read all h) c.find_each_by_names.ensures

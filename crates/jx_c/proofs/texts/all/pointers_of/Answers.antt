use Rattle.std.proofs.Common.{List, ℕ, ◌+◌, ◌++◌, ◌∷◌, [], take, sym, ap, ◌∙◌, subst}
use Rattle.std.specs.List.{AllZip}
use Rattle.std.proofs.lemmas.List.{take_more}
use Rattle.std.proofs.lemmas.Option.{get_or_from_slice_get}
use Rattle.std.proofs.lemmas.Slice.Zip.{all_zipped_more}
use Rattle.jx_c.specs.LookUps.{IsPointerOf}
use Rattle.jx_c.specs.declared.texts.all.JxPointer.{JxPointer}
use Rattle.jx_c.proofs.texts.all.pointers_of.Goals as goal

pub loop-at-preserved : goal.loop-at-preserved
loop-at-preserved c =
    let pointers = c.args.pointers.now in
    let at = c.loop-at.at in
    let here : JxPointer = c.pointer_at.result in
    let one_more = take_more pointers at here c.loop-at-test.true ∙ ap (λ (p : JxPointer). take at pointers ++ p ∷ []) (get_or_from_slice_get pointers at here here c.pointer_at.ensures) in
    subst (λ (xs : List (List ℕ)). AllZip (λ (p : JxPointer). IsPointerOf p.bytes.now) (take (at + 1) pointers) xs) (sym c.in_ok-push.ensures.items)
    (subst (λ (ps : List JxPointer). AllZip (λ (p : JxPointer). IsPointerOf p.bytes.now) ps (c.loop-at.all.items ++ c.pointer_or_root.result ∷ [])) (sym one_more)
    (all_zipped_more (λ (p : JxPointer). IsPointerOf p.bytes.now) (take at pointers) c.loop-at.all.items here c.pointer_or_root.result c.loop-at.invariant c.pointer_or_root.ensures))

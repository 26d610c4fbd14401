use Rattle.std.proofs.Common.{◌+◌, List, [], take, sym, subst}
use Rattle.std.specs.List.{AllZip}
use Rattle.jx_serve.specs.Selections.{IsSelection}
use Rattle.jx_serve.specs.declared.selections.Selection.{Selection}
use Rattle.jx_serve.proofs.AllShown.{zip_more, zip_whole}
use Rattle.jx_serve.proofs.selections.selections_of.Goals as goal

pub loop-place-init : goal.loop-place-init
loop-place-init c =
    let R = IsSelection c.args.encoding c.args.document.now.bytes c.args.kept c.args.rows.now in
    subst (λ (xs : List Selection). AllZip R [] xs) (sym c.new-selections.ensures.items) tt

pub loop-place-preserved : goal.loop-place-preserved
loop-place-preserved c =
    let l = c.loop-place in
    let R = IsSelection c.args.encoding c.args.document.now.bytes c.args.kept c.args.rows.now in
    subst (λ (xs : List Selection). AllZip R (take (l.place-index + 1) c.args.places.now) xs) (sym c.in_ok-push.ensures.items)
    (zip_more R c.args.places.now l.selections.items l.place-index _ c.in_ok-selection.selection c.loop-place-test.true l.invariant c.in_ok-selection.ensures)

pub returns : goal.returns
returns c =
    let R = IsSelection c.args.encoding c.args.document.now.bytes c.args.kept c.args.rows.now in
    zip_whole R c.args.places.now c.loop-place.selections.items c.loop-place.place-index c.loop-place-test.false c.loop-place.invariant

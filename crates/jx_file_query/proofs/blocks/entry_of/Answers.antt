use Rattle.std.proofs.Common.{◌≡◌, ◌+◌, ap, arith, ◌∙◌}
use Rattle.std.specs.Prelude.{slice_get}
use Rattle.jx_file_query.proofs.Told.{entry_told}
use Rattle.jx_file_query.proofs.blocks.entry_of.Goals as goal

pub returns : goal.returns
returns c =
    let items = c.args.index.now.entries.items in
    let at : c.in_ok-at.at ≡ c.args.block.start + c.args.block.place = omega (arith, c.in_ok-at.ensures) in
    entry_told c.args.index.now c.args.block c.kept_at.result (c.kept_at.ensures ∙ ap (slice_get items) at)

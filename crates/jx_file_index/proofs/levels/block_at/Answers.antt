use Rattle.std.proofs.Common.{◌≡◌, ◌*◌, ◌-◌, List, ap, arith, drop, length, take}
use Rattle.std.proofs.lemmas.List.{length-drop, take_all}
use Rattle.jx_file_index.specs.declared.entry.Entry.{Entry}
use Rattle.jx_file_index.proofs.Spellings.{both_all}
use Rattle.jx_file_index.proofs.levels.block_at.Goals as goal

pub returns-then-behind-le-BLOCK : goal.returns-then-behind-le-BLOCK
returns-then-behind-le-BLOCK c =
    let xs = c.args.level.now in
    let from = c.args.n * 64 in
    let e : length (drop from xs) ≡ length xs - from = length-drop from xs in
    let l : length (take (length xs - from) (drop from xs)) ≡ length (drop from xs) = ap (λ (ys : List Entry). length ys) (take_all (length xs - from) (drop from xs) (omega (arith, e))) in
    let h = c.if-behind-le-BLOCK.true in
    both_all (length xs - from) 64 (drop from xs) (omega (arith, e)) (omega (arith, l, h))

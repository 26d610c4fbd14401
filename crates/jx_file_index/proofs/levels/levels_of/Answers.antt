use Rattle.std.proofs.Common.{◌<◌, ◌++◌, List, ap, arith, length, subst, sym, vec_len, ◌∙◌}
use Rattle.jx_file_index.specs.declared.entry.Entry.{Entry}
use Rattle.jx_file_index.specs.Chunks.{IsCount}
use Rattle.jx_file_index.specs.Index.{AreLevels, joined_of}
use Rattle.jx_file_index.proofs.LevelSteps.{level_more, levels_end, some_of}
use Rattle.jx_file_index.proofs.levels.levels_of.Goals as goal

pub levels-preserved : goal.levels-preserved
levels-preserved c =
    let lowest = c.args.lowest.items in
    let kept = c.levels.entries.items in
    let es = c.levels.level.items in
    let count = c.block_count-count.result in
    let counted = c.levels.level.ok.0 in
    let len = c.len.ensures in
    let test = c.levels-test.true in
    let several : 1 < length es = omega (arith, counted, len, test) in
    let inner = c.len-in-levels.ensures in
    let enough = c.block_count-count.ensures.enough in
    let fewest = c.block_count-count.ensures.fewest in
    let parts : IsCount 64 (length es) count = record { enough = omega (arith, enough, counted, inner); fewest = omega (arith, fewest, counted, inner) } in
    record {
      none = λ e.
          let l = c.in_ok-above.ensures.count in
          let b = parts.enough in
          absurd (omega (arith, e, l, several, b));
      kept = λ rest top h.
          subst (λ (xs : List Entry). AreLevels lowest (xs ++ rest) top) (sym (c.in_ok-extend_from_slice.ensures.items ∙ ap (λ (ys : List Entry). kept ++ ys) c.deref-in-levels.ensures.value))
          (level_more lowest kept es c.in_ok-above.above.items count c.levels.invariant.kept several parts
          (c.in_ok-above.ensures.joined ∙ ap (λ (ys : List Entry). joined_of ys count) c.deref.ensures.value) rest top h);
    }

pub returns-clause-levels : goal.returns-clause-levels
returns-clause-levels c =
    let es = c.levels.level.items in
    let most = c.levels-test.false in
    let counted = c.levels.level.ok.0 in
    let len = c.len.ensures in
    let some : 0 < vec_len c.levels.level = some_of (vec_len c.levels.level) c.is_empty.result c.is_empty.ensures c.if-is_empty.false in
    levels_end c.args.lowest.items c.levels.entries.items es c.index-top.result.now c.levels.invariant.kept (omega (arith, most, some, counted, len)) c.index-top.ensures

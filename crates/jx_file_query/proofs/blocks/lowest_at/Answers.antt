use Rattle.std.proofs.Common.{◌≡◌, ◌*◌, ℕ, arith, length, subst, sym, ◌∙◌}
use Rattle.jx_file_index.specs.Chunks.{IsCount, entries_of}
use Rattle.jx_file_index.proofs.Decodings.{count_unique}
use Rattle.jx_file_query.specs.inside.Blocks.{IsLevel}
use Rattle.jx_file_query.proofs.BlockLevels.{lowest_level}
use Rattle.jx_file_query.proofs.Chunkings.{entries_long}
use Rattle.jx_file_query.proofs.blocks.lowest_at.Goals as goal

pub returns : goal.returns
returns c = record {
  some = omega arith;
  of = λ settings chunk text known.
      let h = known.indexed in
      let n = c.part_count.result in
      let counted : IsCount chunk (length text) n =
      subst (λ (k : ℕ). IsCount chunk k n) h.size_is
      (subst (λ (k : ℕ). IsCount k c.args.index.now.size n) (c.bytes.ensures.value ∙ h.chunk_is) c.part_count.ensures) in
      let es = entries_of settings chunk text h.count in
      let long = entries_long settings chunk text h.count in
      record {
        begins = omega arith;
        level = es;
        count = count_unique chunk (length text) n h.count counted h.counted ∙ sym long;
        levels = h.levels;
        tells = subst (λ (size : ℕ). IsLevel settings size text es) (let e : chunk ≡ 1 * chunk = omega arith in e) (lowest_level settings chunk text h.count h.counted);
      };
}

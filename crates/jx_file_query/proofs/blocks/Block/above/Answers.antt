use Rattle.std.proofs.Common.{◌≡◌, ◌+◌, ◌*◌, ◌/◌, ◌<◌, ◌++◌, ℕ, List, ap, arith, drop, length, subst, sym, ◌∙◌}
use Rattle.std.proofs.lemmas.List.{drop-drop}
use Rattle.std.proofs.Math.Nat.{mul_assoc, mul_comm}
use Rattle.std.proofs.Math.Seq.{drop-append-add}
use Rattle.jx_file_index.specs.declared.entry.Entry.{Entry}
use Rattle.jx_file_index.specs.Chunks.{IsCount}
use Rattle.jx_file_index.specs.Index.{AreLevels, joined_of}
use Rattle.jx_file_index.proofs.Decodings.{count_unique}
use Rattle.jx_file_query.specs.inside.Blocks.{IsLevel}
use Rattle.jx_file_query.proofs.BlockLevels.{above, joined_level, joined_long}
use Rattle.jx_file_query.proofs.blocks.Block.above.Goals as goal

pub returns-clause-begins : goal.returns-clause-begins
returns-clause-begins c = λ index at b.
    let self = c.args.self in
    let start = c.in_ok-start.start in
    let chunks = c.in_ok-chunks.chunks in
    let n = c.part_count.result in
    let wide : chunks ≡ self.chunks * 64 = omega (arith, c.in_ok-chunks.ensures) in
    let further : start ≡ self.start + self.count = omega (arith, c.in_ok-start.ensures) in
    let some = b.some in
    record {
      some = omega (arith, wide, some);
      of = λ settings chunk text known.
          let two = c.lex_of_two_parts.ensures.two in
          let o = b.of settings chunk text known in
          let items = index.entries.items in
          let long = o.count in
          let several : 1 < length o.level = omega (arith, long) in
          let a = above o.level (drop self.start items) index.top o.levels several in
          let counted : IsCount 64 (length o.level) n = subst (λ (k : ℕ). IsCount 64 k n) long c.part_count.ensures in
          let level = joined_of o.level a.count in
          let kept : a.rest ≡ drop start items =
          sym (drop-append-add o.level a.rest 0)
          ∙ ap (λ (k : ℕ). drop k (o.level ++ a.rest)) (let e : length o.level + 0 ≡ self.count = omega (arith, long) in e)
          ∙ ap (drop self.count) (sym a.kept_is)
          ∙ drop-drop self.count self.start items
          ∙ ap (λ (k : ℕ). drop k items) (sym further) in
          let size : 64 * (self.chunks * chunk) ≡ chunks * chunk =
          sym (mul_assoc 64 self.chunks chunk) ∙ ap (λ (k : ℕ). k * chunk) (omega (arith, wide)) in
          record {
            begins =
                let whole : self.place ≡ (self.place / 64) * 64 = omega arith in
                ap (λ (k : ℕ). (self.place / 64) * k) (wide ∙ mul_comm self.chunks 64) ∙ sym (mul_assoc (self.place / 64) 64 self.chunks) ∙ ap (λ (k : ℕ). k * self.chunks) (sym whole) ∙ o.begins;
            level = level;
            count = count_unique 64 (length o.level) n a.count counted a.counted ∙ sym (joined_long o.level a.count);
            levels = subst (λ (xs : List Entry). AreLevels level xs index.top) kept a.levels;
            tells = subst (λ (k : ℕ). IsLevel settings k text level) size (joined_level settings (self.chunks * chunk) text known.goes two o.level a.count o.tells a.counted);
          };
    }

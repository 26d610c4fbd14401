use Rattle.std.proofs.Common.{◌+◌, ap, bit_or, arith, sym, ◌∙◌}
use Rattle.std.specs.Prelude.{slice_range, ◌==◌, ◌||◌}
use Rattle.std.proofs.lemmas.Nat.{or_lt}
use Rattle.jx_lex.specs.Counts.{Levels, is_comma, is_string, is_scalar, opens, closes}
use Rattle.jx_lex.proofs.Counts.{number_of-has_end}
use Rattle.jx_block.specs.Kinds.{begins_scalar}
use Rattle.jx_block.specs.Listed.{marks_of}
use Rattle.jx_block.proofs.BitCounts.{begins-comma, begins-string, begins-scalar, begins-opening, begins-closing, among_two, counted, token_bytes}
use Rattle.jx_block.proofs.LevelMarks.{begins-value, levels-all}
use Rattle.jx_block.proofs.counting.counts_with.Goals as goal

pub returns : goal.returns
returns c = λ text ends at starts len kinds fits short few ended braces.
    let t = c.args.kinds.now in
    let marks = marks_of starts 0 at (slice_range text at (at + len)) in
    let bytes = token_bytes text at starts t kinds in
    let strings = counted is_string (λ b. b == 0x22) text at starts t.strings begins-string kinds.strings fits bytes len short few (omega arith) in
    let scalars = counted is_scalar begins_scalar text at starts t.scalars begins-scalar kinds.scalars fits bytes len short few (omega arith) in
    let opening = among_two text at starts t.open_arrays t.open_objects (λ b. b == 0x5b) (λ b. b == 0x7b) kinds.open_arrays kinds.open_objects in
    let closing = among_two text at starts t.close_arrays t.close_objects (λ b. b == 0x5d) (λ b. b == 0x7d) kinds.close_arrays kinds.close_objects in
    let scalar = among_two text at starts t.strings t.scalars (λ b. b == 0x22) begins_scalar kinds.strings kinds.scalars in
    let values = among_two text at starts (bit_or t.strings t.scalars) (bit_or t.open_arrays t.open_objects) (λ b. (b == 0x22) || begins_scalar b) (λ b. (b == 0x5b) || (b == 0x7b)) scalar opening in
    let levels =
    levels-all (bit_or t.open_arrays t.open_objects) (bit_or t.close_arrays t.close_objects) t.commas (bit_or (bit_or t.strings t.scalars) (bit_or t.open_arrays t.open_objects))
    (λ b. (b == 0x5b) || (b == 0x7b)) (λ b. (b == 0x5d) || (b == 0x7d)) (λ b. b == 0x2c) (λ b. ((b == 0x22) || begins_scalar b) || ((b == 0x5b) || (b == 0x7b))) text at starts
    begins-opening begins-closing begins-comma begins-value opening closing kinds.commas values fits bytes len short few
    ∙ sym c.level_counts-levels.ensures in
    record {
      commas = counted is_comma (λ b. b == 0x2c) text at starts t.commas begins-comma kinds.commas fits bytes len short few (omega arith);
      strings = strings;
      scalars = scalars;
      opening =
          counted opens (λ b. (b == 0x5b) || (b == 0x7b)) text at starts (bit_or t.open_arrays t.open_objects) begins-opening opening fits bytes len short few (or_lt 64 t.open_arrays t.open_objects (omega arith) (omega arith));
      closing =
          counted closes (λ b. (b == 0x5d) || (b == 0x7d)) text at starts (bit_or t.close_arrays t.close_objects) begins-closing closing fits bytes len short few (or_lt 64 t.close_arrays t.close_objects (omega arith) (omega arith));
      braces = braces;
      lowest = ap (λ (l : Levels). l.lowest) levels;
      lowest_commas = ap (λ (l : Levels). l.commas) levels;
      lowest_values = ap (λ (l : Levels). l.values) levels;
      ended = ended ∙ number_of-has_end marks ∙ (λ i. strings i + scalars i);
    }

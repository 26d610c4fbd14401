use Rattle.std.proofs.Common.{ℕ, arith, length-append, subst}
use Rattle.jx_file_build.specs.LoneChunk.{IsReadAlone}
use Rattle.jx_cmd_index.proofs.index_reader.IndexReaderPartReader.take.Goals as goal

pub returns-then-took-clause-taken : goal.returns-then-took-clause-taken
returns-then-took-clause-taken g c = λ is xs ys given h long alone.
    let n = h.count_is in
    record {
      depth = h.depth;
      saving_is = c.in_ok-took.ensures.taken c.if-took.true g.K.Asked.has_names g.K.Asked.settings g.K.Asked.chunk xs ys h.saving_is
          (subst (λ (d : ℕ). IsReadAlone d ys c.args.part) h.depth alone);
      count_is = omega (arith, n, long, length-append xs ys);
    }

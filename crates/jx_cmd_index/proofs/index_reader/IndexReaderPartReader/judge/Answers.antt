use Rattle.std.proofs.Common.{List, ℕ, Option, subst, sym}
use Rattle.std.specs.Prelude.{IfSome}
use Rattle.jx_run.proofs.ReaderSteps.{slice_all}
use Rattle.jx_file_build.specs.LoneChunk.{IsReadAlone, LoneValue}
use Rattle.jx_cmd_index.proofs.index_reader.IndexReaderPartReader.judge.Goals as goal

pub returns-in-Some-clause-part : goal.returns-in-Some-clause-part
returns-in-Some-clause-part g c =
    let bytes = c.args.bytes.now in
    let depth = c.args.rule.now.depth in
    subst (λ (xs : List ℕ). IsReadAlone depth xs c.in-Some.part) (sym (slice_all bytes)) (subst (λ (o : Option LoneValue). IfSome o (IsReadAlone depth bytes)) c.in-Some.is c.in_ok-read.ensures)

use Rattle.std.specs.Prelude.{map, string_bytes}
use Rattle.std.proofs.lemmas.Result.{err_from_is_err_and}
use Rattle.jx_cmd_index.specs.PlaceReports.{FailsFor}
use Rattle.jx_cmd_index.proofs.PlaceReports.{fails, handed, looked, read_is}
use Rattle.jx_cmd_index.proofs.looking.look_up.Goals as goal

pub returns-in_err-answers-clause-fault : goal.returns-in_err-answers-clause-fault
returns-in_err-answers-clause-fault g c =
    let saved = g.S.Source.remaining c.args.saved.now in
    let content = g.F.ReadAt.content c.args.file.now in
    let p = err_from_is_err_and c.from_residual-in_err-answers.result c.from_residual-in_err-answers.ensures.1 in
    handed (FailsFor saved content) c.from_residual-in_err-answers.result c.in_err-answers.field-0.0 p.0 p.1 p.2
    (fails saved content c.in_ok-read.read c.in_err-answers.field-0.0 c.in_ok-read.ensures.reads c.in_err-answers.ensures.fault c.in_err-answers.ensures.changed)

pub returns-clause-index : goal.returns-clause-index
returns-clause-index g c = λ settings chunk text bytes s e. (read_is (g.S.Source.remaining c.args.saved.now) c.in_ok-read.read c.in_ok-read.ensures.reads settings chunk text bytes s e).index

pub returns-clause-answers : goal.returns-clause-answers
returns-clause-answers g c =
    looked (map string_bytes c.args.pointers.now) (g.S.Source.remaining c.args.saved.now) (g.F.ReadAt.content c.args.file.now) c.in_ok-read.read c.in_ok-answers.answers.items
    c.in_ok-read.ensures.reads c.in_ok-answers.ensures.answers

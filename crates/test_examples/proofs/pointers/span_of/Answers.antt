use Rattle.jx_index.specs.Pointers.{tokens}
use Rattle.test_examples.proofs.Led.{found_at, lost_at}
use Rattle.test_examples.proofs.pointers.span_of.Goals as goal

pub returns-in-Ok : goal.returns-in-Ok
returns-in-Ok c = λ limit tree t.
    let text = c.args.index.now.text in
    found_at text tree c.args.pointer.now c.in-Ok.node c.row.result.now (λ node e. c.rows_of_look_ups.ensures.led text tree (tokens c.args.pointer.now) node e)
    (c.in-Ok.ensures.leads limit tree t) (c.row.ensures.tree limit tree t)

pub returns-in-Err : goal.returns-in-Err
returns-in-Err c = λ limit tree t. lost_at c.args.index.now.text tree c.args.pointer.now c.in-Err.fault (c.in-Err.ensures.leads limit tree t)

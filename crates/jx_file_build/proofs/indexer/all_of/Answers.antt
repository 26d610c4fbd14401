use Rattle.jx_file_build.proofs.Feedings.{all_more, all_none, is_none, is_some}
use Rattle.jx_file_build.proofs.indexer.all_of.Goals as goal

pub returns-then-is_empty : goal.returns-then-is_empty
returns-then-is_empty c = λ has_names settings size bytes h.
    all_none has_names settings size bytes c.args.held c.args.part.now (is_none c.args.part.now c.is_empty.result c.is_empty.ensures c.if-is_empty.true) h

pub returns : goal.returns
returns c = λ has_names settings size bytes h.
    all_more has_names settings size bytes c.args.held c.in_ok-all.all c.args.part.now (is_some c.args.part.now c.is_empty.result c.is_empty.ensures c.if-is_empty.false) h
    c.in_ok-all.ensures.entries (λ before whole. c.in_ok-all.ensures.entered has_names settings size before whole)

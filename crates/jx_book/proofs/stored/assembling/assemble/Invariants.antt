use Rattle.std.proofs.Common.{◌≤◌, vec_len}
use Rattle.std.specs.Prelude.{All}
use Rattle.jx_book.specs.Runs.{IsApart}
use Rattle.jx_book.specs.Shares.{IsOf}
use Rattle.jx_book.specs.Gathered.{IsRest}
use Rattle.jx_book.proofs.stored.assembling.assemble.Given as goal

abbrev pub invariant-loop-run : goal.invariant-loop-run
invariant-loop-run g l = record {
  apart : IsApart l.runs.items;
  of : All (λ r. IsOf l.text l.depth r) l.runs.items;
  rest : IsRest l.text l.depth l.rest.span.start l.rest;
  front : l.front ≤ l.rest.span.start;
  before : All (λ r. r.span.end ≤ l.rest.span.start) l.runs.items;
}

abbrev pub decreases-loop-run : goal.decreases-loop-run
decreases-loop-run g l = vec_len l.runs

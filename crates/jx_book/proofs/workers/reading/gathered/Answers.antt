use Rattle.std.proofs.Common.{rules, ◌≡◌, length, arith}
use Rattle.std.specs.Prelude.{vec_len}
use Rattle.jx_book.proofs.workers.reading.gathered.Goals as goal

pub gather-requires-clause-seats : goal.gather-requires-clause-seats
gather-requires-clause-seats g c =
    let len : length c.in_ok-seats.field-0.seats.items ≡ vec_len c.in_ok-seats.field-0.seats = search rules in
    record {
      count = omega (arith, len, c.in_ok-seats.ensures.len.0, c.requires.len, c.requires.workers);
      of_these = c.in_ok-seats.ensures.seats;
    }

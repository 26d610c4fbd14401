use Rattle.std.proofs.Common.{◌≡◌, ◌+◌, vec_len}
use Rattle.jx_answer.specs.Found.{AreAnswered}
use Rattle.jx_answer.proofs.bytes.lookups.Lookups.answer_piece.Given as goal

abbrev pub invariant-loop-at : goal.invariant-loop-at
invariant-loop-at l = record {
  found : AreAnswered l.self.index.now l.self.pointers.now l.found.items;
  each : vec_len l.found + l.fn.piece.start ≡ vec_len l.initial.found + l.at;
}

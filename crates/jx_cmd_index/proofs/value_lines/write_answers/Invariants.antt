-- The lines so far, what is told of them, and the chunk that is held.
use Rattle.std.proofs.Common.{◌≡◌, false, map}
use Rattle.std.specs.Prelude.{string_bytes}
use Rattle.jx_cmd_index.specs.inside.HeldChunks.{IsHeldIn}
use Rattle.jx_cmd_index.specs.inside.ValueLines.{WroteLinesOf}
use Rattle.jx_cmd_index.proofs.value_lines.write_answers.Given as goal

abbrev pub invariant-answers : goal.invariant-answers
invariant-answers g l = record {
  file : g.F.ReadAt.has_failed l.file ≡ false;
  writer : g.W.Sink.has_failed l.writer ≡ false;
  kept : g.F.ReadAt.content l.file ≡ g.F.ReadAt.content l.initial.file;
  held : IsHeldIn (g.F.ReadAt.content l.initial.file) l.index l.held;
  wrote : WroteLinesOf (g.F.ReadAt.content l.initial.file) l.index l.form (map string_bytes l.pointers) l.answers l.number l.told.items (g.W.Sink.contents l.initial.writer) (g.W.Sink.contents l.writer);
}

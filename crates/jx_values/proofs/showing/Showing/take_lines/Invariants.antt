-- The rest makes what all make.
use Rattle.std.proofs.Common.{◌≡◌, drop}
use Rattle.jx_values.specs.NameTexts.{text_run}
use Rattle.jx_values.specs.inside.Showing.{texts_of}
use Rattle.jx_values.proofs.showing.Showing.take_lines.Given as goal

abbrev pub invariant-loop-number : goal.invariant-loop-number
invariant-loop-number l = record {
  by : l.self.by_texts ≡ l.initial.self.by_texts;
  run : text_run (texts_of l.self) (drop l.number l.lines) ≡ text_run (texts_of l.initial.self) l.lines;
}

-- The lines so far, and those of the rest.
use Rattle.std.proofs.Common.{◌≡◌, ◌++◌, [], drop}
use Rattle.std.specs.Prelude.{flat_map}
use Rattle.jx_ndjson_report.specs.Elements.{element_line}
use Rattle.jx_parallel_report.proofs.elements_part.add_lines.Given as goal

abbrev pub invariant-loop-number : goal.invariant-loop-number
invariant-loop-number l = l.words.items ++ flat_map (element_line []) (drop l.number l.elements) ≡ l.initial.words.items ++ flat_map (element_line []) l.elements

-- The answers that were found in the text that was read last.
use Rattle.std.specs.Prelude.{List, Result}
use Rattle.jx_index.specs.declared.find_fault.FindFault.{FindFault}
use Rattle.jx_index.specs.declared.finder.Found.{Found}
use Rattle.jx_find.specs.declared.texts.Findings.{Findings}

abbrev pub found_in : Findings → List (Result Found FindFault)
found_in f = f.found.items

-- What was made so far, and what the rest of the lines makes, are all.
use Rattle.std.proofs.Common.{◌≡◌, ◌++◌, drop}
use Rattle.jx_files.specs.Naming.{named, named_from}
use Rattle.jx_files.proofs.naming.behind.Given as goal

abbrev pub invariant-loop-byte : goal.invariant-loop-byte
invariant-loop-byte l = l.all.items ++ named_from l.starts l.front (drop l.byte-index l.lines) ≡ named l.front l.lines

use Rattle.std.proofs.Common.{◌+◌}
use Rattle.jx_file_build.specs.inside.OpenKinds.{kinds}
use Rattle.jx_file_build.proofs.chunk_reading.sum_and_name.Given as goal

abbrev pub ghosts-name_chunk : goal.ghosts-name_chunk
ghosts-name_chunk a = record { start = record { kinds = kinds a.standing.kinds; begun = a.standing.begun; name = a.standing.name.items; base = a.reader.now.start + a.reader.now.count; chunk = a.chunk.now } }

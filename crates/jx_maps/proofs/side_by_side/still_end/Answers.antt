use Rattle.jx_maps.proofs.SideBySide.{AllKept-none}
use Rattle.jx_lex.proofs.Slices.{slice-none}
use Rattle.jx_maps.proofs.side_by_side.still_end.Goals as goal

pub returns-else-all_keep_digits-clause-kept : goal.returns-else-all_keep_digits-clause-kept
returns-else-all_keep_digits-clause-kept c = rw (slice-none c.args.text.now c.args.from) (AllKept-none c.args.segments.now)

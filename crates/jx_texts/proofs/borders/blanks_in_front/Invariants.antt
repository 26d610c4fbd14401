-- The bytes so far are blanks.
use Rattle.std.proofs.Common.{◌≡◌, ◌≤◌, ◌-◌, length, take, true}
use Rattle.std.specs.List.{list_all}
use Rattle.jx_lex.specs.Uneventful.{is_blank}
use Rattle.jx_texts.proofs.borders.blanks_in_front.Given as goal

abbrev pub invariant-loop-count : goal.invariant-loop-count
invariant-loop-count l = (l.count ≤ length l.slice) × (list_all is_blank (take l.count l.slice) ≡ true)

abbrev pub decreases-loop-count : goal.decreases-loop-count
decreases-loop-count l = length l.slice - l.count

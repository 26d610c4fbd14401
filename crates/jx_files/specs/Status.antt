-- The status of reports on several inputs.
use Rattle.jx_ends.specs.declared.exit.Exit.{Exit}
use Rattle.jx_ends.specs.declared.exit.Exit.TheVariants as exit
use Rattle.jx_files.specs.declared.status.Status.{Status}
use Rattle.jx_files.specs.declared.status.Status.TheVariants.{Good, Bad, Fault}

abbrev pub status_of : Exit → Status
status_of exit.Good = Good
status_of exit.Bad = Bad

-- a fault is greater than a bad exit, and that greater than a good one
abbrev pub greatest : Status → Status → Status
greatest Good other = other
greatest Bad Good = Bad
greatest Bad Bad = Bad
greatest Bad Fault = Fault
greatest Fault other = Fault

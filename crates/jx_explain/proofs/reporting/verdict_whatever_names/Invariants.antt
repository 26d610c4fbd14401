-- The reader has read the bytes so far.
use Rattle.std.proofs.Common.{◌≡◌, ◌≤◌, ◌-◌, length, take}
use Rattle.jx_run.specs.Reader.{HasRead}
use Rattle.jx_explain.proofs.reporting.verdict_whatever_names.Given as goal

abbrev pub decreases-loop-done : goal.decreases-loop-done
decreases-loop-done g l = length l.text - l.done

abbrev pub invariant-loop-done : goal.invariant-loop-done
invariant-loop-done g l =
    record {
      within : l.done ≤ length l.text;
      settings : l.reader.settings ≡ l.settings;
      start : l.reader.start ≡ 0;
      read : HasRead (take l.done l.text) l.reader;
    }

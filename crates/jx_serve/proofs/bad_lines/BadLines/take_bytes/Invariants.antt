use Rattle.std.proofs.Common.{◌≡◌, ◌≤◌, ◌+◌, ◌-◌, take}
use Rattle.jx_run.specs.declared.texts.settings.Settings.{Settings}
use Rattle.jx_serve.specs.inside.LineTables.{HasBad}
use Rattle.jx_serve.proofs.bad_lines.BadLines.take_bytes.Given as goal

-- the bytes up to here are taken
abbrev pub invariant-loop-at : goal.invariant-loop-at
invariant-loop-at l = record {
  within : l.at ≤ l.to;
  end : l.self.reader.reader.start + l.self.reader.reader.count ≡ l.at;
  bad : (settings : Settings) → HasBad settings (take (l.initial.self.reader.reader.start + l.initial.self.reader.reader.count) l.document.bytes) l.initial.self.bad.items l.initial.self.reader
      → HasBad settings (take l.at l.document.bytes) l.self.bad.items l.self.reader;
}

abbrev pub decreases-loop-at : goal.decreases-loop-at
decreases-loop-at l = l.to - l.at

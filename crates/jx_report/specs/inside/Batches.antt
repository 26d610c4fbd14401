-- An input that is read batch by batch.
use Rattle.std.specs.Prelude.{◌≡◌, ◌≢◌, ◌↔◌, ℕ, ◌+◌, ◌<◌, ◌≤◌, List, ◌++◌, take, Option, Bool, false, true, Vec, Result, vec_len, IfOk, IfErr, IsErrOf}
use Rattle.std.specs.Global.{Global}
use Rattle.std.specs.Io.KnownBytes.{Consumes, IsAtEnd}
use Rattle.jx_run.specs.declared.texts.settings.NameRule.TheVariants.{Any}
use Rattle.jx_run.specs.declared.texts.settings.Settings.{Settings}
use Rattle.jx_run.specs.Reader.{HasRead}
use Rattle.jx_find.specs.Finder as finder
use Rattle.jx_names.specs.Fed as names
use Rattle.jx_task.specs.declared.task.Task.{Task}
use Rattle.jx_task.specs.declared.task.Task.TheVariants.{Check, Seq}
use Rattle.jx_report.specs.declared.reading.Reading.{Reading}
use Rattle.jx_report.specs.declared.reading.Reading.TheVariants.{Text, Names, Pointers, Elements}
use Rattle.jx_ends.specs.declared.report_fault.ReportFault.{ReportFault}
use Rattle.jx_ends.specs.declared.report_fault.ReportFault.TheVariants.{Read, Write, Pieces}
use Rattle.jx_report.specs.inside.PointerReads.{IsPointerRead}
use Rattle.jx_report.specs.inside.Sequences.{IsSequenceRead}

-- ---- what was read

-- these bytes were read from the start of an input, for what the task asks of them
abbrev pub IsReadingOf : Task → Settings → List ℕ → Reading → Type 0
IsReadingOf task settings text (Text reader balance) = (task ≡ Check) × ((settings.names ≡ Any) × ((reader.settings ≡ settings) × ((reader.start ≡ 0) × HasRead text reader)))
IsReadingOf task settings text (Names reader) = (task ≡ Check) × names.HasFed settings text reader
IsReadingOf task settings text (Pointers reader) = IsPointerRead task settings text reader
IsReadingOf task settings text (Elements sequence) = (task ≡ Seq) × IsSequenceRead settings text sequence

-- how many bytes were read
abbrev pub end_of : Reading → ℕ
end_of (Text reader balance) = reader.start + reader.count
end_of (Names reader) = names.end_of reader
end_of (Pointers reader) = finder.end_of reader.finder
end_of (Elements sequence) = sequence.reader.start + sequence.reader.count

-- after any text that was read before, the batch was read
pub record ReadsOn (batch : List ℕ) (old new : Reading) : Type 0 where
  pub reads : (task : Task) (settings : Settings) (text : List ℕ) → IsReadingOf task settings text old → IsReadingOf task settings (text ++ batch) new

-- ---- what was read ahead

-- so many bytes were read into the buffer, up to the limit, or to the end of input; or the reading failed where the fault says so
pub record IsFilled {R : Type 0} (remaining : R → Option (List ℕ)) (has_failed : R → Bool) (limit : ℕ) (old new : R) (buffer : Vec ℕ Global) (result : Result ℕ ReportFault) : Type 0 where
  pub room : IfOk result (λ filled. filled ≤ vec_len buffer)
  pub within : IfOk result (λ _. vec_len buffer ≤ limit)
  pub ok : IfOk result (λ filled. Consumes (remaining old) (remaining new) (take filled buffer.items))
  pub end : IfOk result (λ filled. filled < limit → IsAtEnd (remaining new))
  pub read : IsErrOf result Read ↔ (has_failed new ≡ true)
  pub going : IfOk result (λ _. has_failed new ≡ false)
  pub unwritten : IfErr result (λ fault. fault ≢ Write)
  pub uncut : IfErr result (λ fault. fault ≢ Pieces)

-- a batch follows what was taken in, and both are all that was read
pub record IsPending (IsTaken : List ℕ → Type 0) (unread left : Option (List ℕ)) (pending : List ℕ) : Type 0 where
  pub text : List ℕ
  pub taken : IsTaken text
  pub between : Option (List ℕ)
  pub before : Consumes unread between text
  pub after : Consumes between left pending

-- ---- what was read on one thread

-- the state after the bytes that were read so far
pub record IsTakenIn (task : Task) (settings : Settings) (unread left : Option (List ℕ)) (reading : Reading) : Type 0 where
  pub text : List ℕ
  pub read : Consumes unread left text
  pub taken : IsReadingOf task settings text reading

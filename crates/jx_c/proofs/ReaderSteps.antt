-- Readers that are started and fed.
use Rattle.std.proofs.Common.{◌≡◌, ℕ, List, length, sym, subst}
use Rattle.jx_run.specs.ReaderInside.{IsReadTo}
use Rattle.jx_run.specs.declared.readers.progress.Progress.{Progress}
use Rattle.jx_run.specs.declared.texts.settings.Settings.{Settings}
use Rattle.jx_c.specs.Reader.{HasRead, progress_in}
use Rattle.jx_c.specs.Stack.{known_of}
use Rattle.jx_c.specs.declared.streams.reader.JxReader.{JxReader}
use Rattle.jx_c.specs.declared.streams.stack.JxStack.{JxStack}

-- a reader of which the number of bytes, how far it is and its stack are known
pub has_read : (settings : Settings) (fed : List ℕ) (r : JxReader) (p : Progress) (k : JxStack) → r.started ≡ 0x6A78_7265_6164_6572 → r.count ≡ length fed → progress_in r ≡ p → r.stack ≡ k
    → IsReadTo settings 0 fed p (known_of k) → HasRead settings fed r
has_read settings fed r p k started count at stack read = record {
  started = started;
  count = count;
  read = subst (λ (q : Progress). IsReadTo settings 0 fed q (known_of r.stack)) (sym at) (subst (λ (s : JxStack). IsReadTo settings 0 fed p (known_of s)) (sym stack) read);
}

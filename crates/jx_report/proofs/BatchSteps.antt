-- An input is read batch by batch.
use Rattle.std.proofs.Common.{◌≡◌, ℕ, List, ◌++◌, [], Option, append-nil, arith, length, subst, take}
use Rattle.std.specs.Io.KnownBytes.{Consumes, IsAtEnd}
use Rattle.std.proofs.KnownBytes.{Consumes-nil, Consumes-trans}
use Rattle.jx_run.specs.declared.texts.settings.Settings.{Settings}
use Rattle.jx_names.specs.declared.names_reader.NamesReader.{NamesReader}
use Rattle.jx_names.specs.Fed.{HasFed, end_of}
use Rattle.jx_task.specs.declared.task.Task.{Task}
use Rattle.jx_report.specs.declared.reading.Reading.{Reading}
use Rattle.jx_ends.specs.Ends.{ReadsToEnd}
use Rattle.jx_report.specs.inside.Batches.{IsPending, IsReadingOf, IsTakenIn, ReadsOn}

-- the batch that was held is taken in
module _ (task : Task) (settings : Settings) (unread left : Option (List ℕ)) (slice part : List ℕ) (old new : Reading)
    (p : IsPending (λ text. IsReadingOf task settings text old) unread left part) (same : slice ≡ part) (on : ReadsOn slice old new) where
  taken : IsReadingOf task settings (p.text ++ part) new
  taken = subst (λ (xs : List ℕ). IsReadingOf task settings (p.text ++ xs) new) same (on.reads task settings p.text p.taken)

  consumed : Consumes unread left (p.text ++ part)
  consumed = Consumes-trans unread p.between left p.text part p.before p.after

  -- the next one is held
  pub next_pending : (next : Option (List ℕ)) (more : List ℕ) → Consumes left next more → IsPending (λ text. IsReadingOf task settings text new) unread next more
  next_pending next more after = record { text = p.text ++ part; taken = taken; between = left; before = consumed; after = after }

  -- it was the last one
  pub all_taken : IsAtEnd left → (text : List ℕ) × ReadsToEnd unread left text × IsReadingOf task settings text new
  all_taken end = (p.text ++ part, (consumed, end), taken)

-- as many bytes as a reader of names was fed
pub names_long : (settings : Settings) (text : List ℕ) (r : NamesReader) → HasFed settings text r → end_of r ≡ length text
names_long settings text r h = let start = h.start in let count = h.read.count in omega (arith, start, count)

-- ---- one thread

-- before the first read
pub taken_none : (task : Task) (settings : Settings) (unread : Option (List ℕ)) (r : Reading) → IsReadingOf task settings [] r → IsTakenIn task settings unread unread r
taken_none task settings unread r h = record { text = []; read = Consumes-nil unread; taken = h }

-- what a read gave is taken in
pub taken_more : (task : Task) (settings : Settings) (unread left next : Option (List ℕ)) (slice part : List ℕ) (old new : Reading) → IsTakenIn task settings unread left old
    → Consumes left next part → slice ≡ part → ReadsOn slice old new → IsTakenIn task settings unread next new
taken_more task settings unread left next slice part old new i more same on =
    record {
      text = i.text ++ part;
      read = Consumes-trans unread left next i.text part i.read more;
      taken = subst (λ (xs : List ℕ). IsReadingOf task settings (i.text ++ xs) new) same (on.reads task settings i.text i.taken);
    }

-- a read that gives nothing ends the input
pub taken_out : (task : Task) (settings : Settings) (unread left next : Option (List ℕ)) (count : ℕ) (bytes : List ℕ) (r : Reading) → IsTakenIn task settings unread left r
    → Consumes left next (take count bytes) → count ≡ 0 → IsAtEnd next → (text : List ℕ) × ReadsToEnd unread next text × IsReadingOf task settings text r
taken_out task settings unread left next count bytes r i more none end =
    let nothing : Consumes left next [] = subst (λ (n : ℕ). Consumes left next (take n bytes)) none more in
    (i.text, (subst (Consumes unread next) (append-nil i.text) (Consumes-trans unread left next i.text [] i.read nothing), end), i.taken)

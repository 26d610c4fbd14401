-- A text is read piece by piece.
use Rattle.std.proofs.Common.{◌≡◌, ℕ, ◌+◌, ◌-◌, ◌≤◌, List, ◌++◌, length, take, drop, sym, ◌∙◌, ap, subst, arith, append_assoc}
use Rattle.std.specs.Prelude.{slice_range}
use lib.Seq.{take-add}
use Rattle.jx_run.specs.Reader.{ReaderValue, HasRead}
use Rattle.jx_answer.specs.inside.Pieces.{GoesOnTo}

-- the text up to an offset, and what stands from there up to another
pub up_to : (bytes text : List ℕ) (done end : ℕ) → done ≤ end → (bytes ++ take done text) ++ take (end - done) (drop done text) ≡ bytes ++ take end text
up_to bytes text done end h =
    let sum : done + (end - done) ≡ end = omega (arith, h) in
    append_assoc bytes (take done text) (take (end - done) (drop done text))
    ∙ ap (λ xs. bytes ++ xs) (sym (take-add done (end - done) text) ∙ ap (λ (n : ℕ). take n text) sum)

-- the text was read on from where it is done up to another offset
pub gone_on : (text : List ℕ) (done end : ℕ) (old mid new : ReaderValue) → GoesOnTo text done old mid → done ≤ end → end ≤ length text → new.settings ≡ mid.settings
    → new.start ≡ mid.start → new.count + done ≡ mid.count + end → ((bytes : List ℕ) → HasRead bytes mid → HasRead (bytes ++ slice_range text done end) new) → GoesOnTo text end old new
gone_on text done end old mid new g ordered within settings start count reads =
    let before = g.count in
    record {
      within = within;
      settings = settings ∙ g.settings;
      start = start ∙ g.start;
      count = omega (arith, before, count);
      reads = λ bytes h. subst (λ (xs : List ℕ). HasRead xs new) (up_to bytes text done end ordered) (reads (bytes ++ take done text) (g.reads bytes h));
    }

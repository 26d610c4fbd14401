-- What a walk or a split comes to by an index that C holds.
use Rattle.std.proofs.Common.{◌≡◌, List, ℕ, Result, Bor, inl, refl}
use Rattle.jx_run.specs.declared.texts.settings.Settings.{Settings}
use Rattle.jx_run.specs.Settings.{IsDocumentBy}
use Rattle.jx_index.specs.ByNames.{a_text}
use Rattle.jx_index.specs.declared.find_fault.FindFault.{FindFault}
use Rattle.jx_index.specs.declared.finder.Found.{Found}
use Rattle.jx_index.specs.Found.{AreFoundIn}
use Rattle.jx_file_index.specs.declared.saved_text.SavedText.{SavedText}
use Rattle.jx_file_query.specs.declared.cutting.Aim.{Aim}
use Rattle.jx_file_query.specs.declared.split.PausedSplit.{PausedSplit}
use Rattle.jx_file_query.specs.PausedSplits as split
use Rattle.jx_file_query.specs.declared.walk.PausedWalk.{PausedWalk}
use Rattle.jx_c.specs.LookUps.{AreFoundBy}
use Rattle.jx_c.specs.Opened.{HasWalked, IsLedOn, IsTold, any_names}
use Rattle.jx_c.specs.declared.texts.all.JxPointer.{JxPointer}
use Rattle.jx_c.specs.declared.saving.opened.IndexWork.TheVariants.{Seeking, Splitting}
use Rattle.jx_c.proofs.AnyNames.{each_found}

-- a walk that led on
pub walk_led : (saved : SavedText) (bytes : List ℕ) (given : Bor (List JxPointer)) (w next : PausedWalk)
    → ((settings : Settings) (chunk : ℕ) (text : List ℕ) (read : List (List ℕ)) → HasWalked settings chunk text read saved w → IsTold text saved.index (Seeking given w) bytes
    → HasWalked settings chunk text read saved next) → IsLedOn saved bytes (Seeking given w) (Seeking given next)
walk_led saved bytes given w next h = record {
  sought = λ settings chunk text pointers s told. record { given_are = s.given_are; read = s.read; spelt = s.spelt; come = h settings chunk text s.read s.come told };
  split = λ settings chunk text aim s told. absurd s;
}

-- a split that did
pub split_led : (saved : SavedText) (bytes : List ℕ) (p next : PausedSplit) → ((aim : Aim) → p.aim ≡ aim → next.aim ≡ aim)
    → ((settings : Settings) (chunk : ℕ) (text : List ℕ) → split.HasPaused settings chunk text saved.index p → IsTold text saved.index (Splitting p) bytes → split.HasPaused settings chunk text saved.index next)
    → IsLedOn saved bytes (Splitting p) (Splitting next)
split_led saved bytes p next same h = record {
  sought = λ settings chunk text pointers s told. absurd s;
  split = λ settings chunk text aim s told. (same aim s.0, h settings chunk text s.1 told);
}

-- what was found in a text, whatever names its objects have
pub any_found : (settings : Settings) (text : List ℕ) (read : List (List ℕ)) (found : List (Result Found FindFault)) → AreFoundIn settings text read found → AreFoundBy (any_names settings) text read found
any_found settings text read found h =
    let d : IsDocumentBy (any_names settings) 0 text h.tree = record { front = h.is_text.front; rest = h.is_text.rest; is_front = h.is_text.is_front; whole = h.is_text.whole; text = h.is_text.text } in
    each_found (any_names settings) text (inl refl) h.tree d (a_text d refl) read found h.found_are

-- The results of calls on a saved index.
use Rattle.std.specs.Prelude.{◌≡◌, ◌≢◌, ◌⊎◌, ℕ, ◌/◌, ◌<◌, ◌≤◌, List, length, slice_range, Option, None, Some}
use Rattle.std.specs.List.{AllZip}
use Rattle.jx_summary.specs.declared.span.Span.{Span}
use Rattle.jx_run.specs.declared.texts.settings.NameRule.TheVariants.{Any}
use Rattle.jx_run.specs.declared.texts.settings.Settings.{Settings}
use Rattle.jx_run.specs.Laws.{span_of}
use Rattle.jx_run.specs.Tree.{Tree}
use Rattle.jx_file_index.specs.declared.index_decoding.SavedFault.{SavedFault}
use Rattle.jx_file_index.specs.declared.index_decoding.SavedFault.TheVariants.{Memory, NotAnIndex, OtherVersion, CutShort, Damaged, Malformed, Longer}
use Rattle.jx_file_index.specs.declared.index.Index.{Index}
use Rattle.jx_file_index.specs.Index.{IsIndexOf}
use Rattle.jx_file_index.specs.Saved.{HasItsLevels, SaysOf}
use Rattle.jx_file_index.specs.Spelling.{front_flags}
use Rattle.jx_file_index.specs.declared.saved_text.SavedText.{SavedText}
use Rattle.jx_file_build.specs.TextTables.{KeepsNames}
use Rattle.jx_file_index.specs.SavedTexts.{IsSavableToo, SaysSameToo}
use Rattle.jx_file_index.specs.TextSpelling.{spelt_saved}
use Rattle.jx_file_query.specs.declared.walk.PausedWalk.{PausedWalk}
use Rattle.jx_file_query.specs.Chunks.{chunk_at}
use Rattle.jx_file_query.specs.PausedWalks as walk
use Rattle.jx_file_query.specs.Walk.{IsToldApart}
use Rattle.jx_file_query.specs.declared.cutting.Aim.{Aim}
use Rattle.jx_file_query.specs.declared.part.ContainerPart.{ContainerPart}
use Rattle.jx_file_query.specs.Parts.{IsIn, parts_of}
use Rattle.jx_file_query.specs.PausedSplits as split
use Rattle.jx_c.specs.Buffers.{IsFilled}
use Rattle.jx_c.specs.Indexes.{AreAnswersOf}
use Rattle.jx_c.specs.LookUps.{IsPointerOf}
use Rattle.jx_c.specs.Rows.{shown_span}
use Rattle.jx_c.specs.declared.texts.all.JxPointer.{JxPointer}
use Rattle.jx_c.specs.declared.texts.look_up.JxAnswer.{JxAnswer}
use Rattle.jx_c.specs.declared.saving.opened.IndexWork.{IndexWork}
use Rattle.jx_c.specs.declared.saving.opened.IndexWork.TheVariants.{Nothing, Seeking, Splitting}
use Rattle.jx_c.specs.declared.saving.opened.JxPart.{JxPart}
use Rattle.jx_c.specs.declared.saving.opened.JxSavedText.{JxSavedText}
use Rattle.jx_c.specs.declared.saving.opened.OpenedIndex.{OpenedIndex}
use Rattle.jx_c.specs.declared.shapes.places.JxSpan.{JxSpan}

-- ---- an index from its bytes

-- the status for a fault in the bytes of an index
abbrev pub status_of : SavedFault → ℕ
status_of Memory = 1
status_of NotAnIndex = 20
status_of OtherVersion = 21
status_of CutShort = 22
status_of Damaged = 23
status_of Malformed = 24
status_of Longer = 25

-- nothing goes on by the index in these bytes, of a text of this size, with tables of names or without; any index that these bytes
-- may be says the same, and so do its tables
pub record IsOpened (bytes : List ℕ) (size : ℕ) (s : OpenedIndex) : Type 0 where
  pub spelt : spelt_saved s.saved ≡ bytes
  pub levels : HasItsLevels s.saved.index
  pub size_is : s.saved.index.size ≡ size
  pub idle : s.work ≡ Nothing
  pub says : (t : SavedText) → IsSavableToo t → bytes ≡ spelt_saved t → SaysSameToo s.saved t

abbrev pub IsHeld : List ℕ → ℕ → Option OpenedIndex → Type 0
IsHeld bytes size held = (s : OpenedIndex) × (held ≡ Some s) × IsOpened bytes size s

-- why bytes are not read as an index of a text of this size
abbrev pub IsRefused : List ℕ → ℕ → ℕ → Type 0
IsRefused bytes size status =
    ((fault : SavedFault) × (status ≡ status_of fault) × SaysOf bytes fault) ⊎ ((status ≡ 1) ⊎ ((status ≡ 26) × ((saved : SavedText) × (spelt_saved saved ≡ bytes) × (saved.index.size ≢ size))))

-- the facts that an index has of its text
abbrev pub shown_text : Index → JxSavedText
shown_text i = record { size = i.size; chunk = i.chunk; depth = i.settings.depth; flags = front_flags i.settings.mark i.settings.names }

-- ---- what goes on by it

-- the index is that of a text, and the tables are those of its names, if there are any
pub record IsKeptOf (settings : Settings) (chunk : ℕ) (text : List ℕ) (saved : SavedText) : Type 0 where
  pub index : IsIndexOf settings chunk text saved.index
  pub names : KeepsNames settings chunk text saved.names

-- by what is saved of a text, a walk has come as far as one that was given all of the text before what it needs
pub record HasWalked (settings : Settings) (chunk : ℕ) (text : List ℕ) (read : List (List ℕ)) (saved : SavedText) (w : PausedWalk) : Type 0 where
  pub names : KeepsNames settings chunk text saved.names
  pub come : walk.HasPaused settings chunk text read saved.index w

-- so has this look-up
pub record IsSeeking (settings : Settings) (chunk : ℕ) (text : List ℕ) (pointers : List JxPointer) (saved : SavedText) (given : List JxPointer) (w : PausedWalk) : Type 0 where
  pub given_are : given ≡ pointers
  pub read : List (List ℕ)
  pub spelt : AllZip (λ (pointer : JxPointer). IsPointerOf pointer.bytes.now) pointers read
  pub come : HasWalked settings chunk text read saved w

-- the work that goes on is such a look-up of these pointers
abbrev pub HasSought : Settings → ℕ → List ℕ → List JxPointer → SavedText → IndexWork → Type 0
HasSought settings chunk text pointers saved Nothing = ⊥
HasSought settings chunk text pointers saved (Seeking given w) = IsSeeking settings chunk text pointers saved given.now w
HasSought settings chunk text pointers saved (Splitting p) = ⊥

-- or such a split of this container
abbrev pub HasSplit : Settings → ℕ → List ℕ → Aim → Index → IndexWork → Type 0
HasSplit settings chunk text aim index Nothing = ⊥
HasSplit settings chunk text aim index (Seeking given w) = ⊥
HasSplit settings chunk text aim index (Splitting p) = (p.aim ≡ aim) × split.HasPaused settings chunk text index p

-- one or the other
abbrev pub HasCome : Settings → ℕ → List ℕ → SavedText → IndexWork → Type 0
HasCome settings chunk text saved Nothing = ⊥
HasCome settings chunk text saved (Seeking given w) = (read : List (List ℕ)) × HasWalked settings chunk text read saved w
HasCome settings chunk text saved (Splitting p) = split.HasPaused settings chunk text saved.index p

-- where the bytes stand that it needs next
abbrev pub needed_in : Index → IndexWork → Option Span
needed_in index Nothing = None
needed_in index (Seeking given w) = walk.needed_by index w
needed_in index (Splitting p) = split.needed_by index p

abbrev pub needed : OpenedIndex → Option Span
needed s = needed_in s.saved.index s.work

-- bytes with the digest of the text's bytes there are these
abbrev pub IsTold : List ℕ → Index → IndexWork → List ℕ → Type 0
IsTold text index work bytes = (span : Span) → needed_in index work ≡ Some span → IsToldApart text span bytes

-- a look-up of these pointers, or a split of this container, that was given no byte
abbrev pub IsSought : List JxPointer → OpenedIndex → OpenedIndex → Type 0
IsSought pointers old new = (new.saved ≡ old.saved) × ((settings : Settings) (chunk : ℕ) (text : List ℕ) → IsKeptOf settings chunk text old.saved → HasSought settings chunk text pointers new.saved new.work)

abbrev pub IsSplit : Aim → OpenedIndex → OpenedIndex → Type 0
IsSplit aim old new = (new.saved ≡ old.saved) × ((settings : Settings) (chunk : ℕ) (text : List ℕ) → IsIndexOf settings chunk text old.saved.index → HasSplit settings chunk text aim new.saved.index new.work)

-- bytes of the text led it on
pub record IsLedOn (saved : SavedText) (bytes : List ℕ) (old new : IndexWork) : Type 0 where
  pub sought : (settings : Settings) (chunk : ℕ) (text : List ℕ) (pointers : List JxPointer) → HasSought settings chunk text pointers saved old → IsTold text saved.index old bytes
      → HasSought settings chunk text pointers saved new
  pub split : (settings : Settings) (chunk : ℕ) (text : List ℕ) (aim : Aim) → HasSplit settings chunk text aim saved.index old → IsTold text saved.index old bytes → HasSplit settings chunk text aim saved.index new

abbrev pub IsGiven : OpenedIndex → List ℕ → OpenedIndex → Type 0
IsGiven old bytes new = (new.saved ≡ old.saved) × IsLedOn old.saved bytes old.work new.work

-- the bytes are not those of the text
abbrev pub AreOthers : SavedText → IndexWork → List ℕ → Type 0
AreOthers saved work bytes = (settings : Settings) (chunk : ℕ) (text : List ℕ) (span : Span) → HasCome settings chunk text saved work → needed_in saved.index work ≡ Some span
    → bytes ≢ slice_range text span.start span.end

-- the index is not that of any text, or the bytes have the checksum of others
abbrev pub IsOfNone : SavedText → IndexWork → List ℕ → Type 0
IsOfNone saved work bytes = (settings : Settings) (chunk : ℕ) (text : List ℕ) → HasCome settings chunk text saved work → IsTold text saved.index work bytes → ⊥

-- the work that goes on is a look-up
abbrev pub IsALookUpBy : IndexWork → Type 0
IsALookUpBy Nothing = ⊥
IsALookUpBy (Seeking given w) = Unit {0}
IsALookUpBy (Splitting p) = ⊥

abbrev pub IsALookUp : OpenedIndex → Type 0
IsALookUp s = IsALookUpBy s.work

-- the work that goes on is a split
abbrev pub IsASplitBy : IndexWork → Type 0
IsASplitBy Nothing = ⊥
IsASplitBy (Seeking given w) = ⊥
IsASplitBy (Splitting p) = Unit {0}

abbrev pub IsASplit : OpenedIndex → Type 0
IsASplit s = IsASplitBy s.work

-- nothing goes on by the same index
abbrev pub idle : OpenedIndex → OpenedIndex
idle s = record { saved = s.saved; work = Nothing }

-- ---- results

-- the same settings, whatever names objects have
abbrev pub any_names : Settings → Settings
any_names settings = record { depth = settings.depth; mark = settings.mark; names = Any }

-- of whatever text and pointers the look-up is, the buffer has the answers
abbrev pub AreAnswersIn : OpenedIndex → List JxAnswer → List JxAnswer → Type 0
AreAnswersIn s old new = (settings : Settings) (chunk : ℕ) (text : List ℕ) (pointers : List JxPointer) → HasSought settings chunk text pointers s.saved s.work
    → AreAnswersOf (any_names settings) text pointers old new

abbrev pub shown_part : ContainerPart → JxPart
shown_part p = record { span = shown_span p.span; number = p.number; first = p.first; end = p.end }

-- where the container to be split stands, and into how many parts
abbrev pub aim_in : JxSpan → ℕ → Aim
aim_in s parts = record { whole = record { start = s.start; end = s.end }; parts = parts }

-- a container may stand there in a text of this size, and be split into so many parts
pub record IsWithin (whole : JxSpan) (parts size : ℕ) : Type 0 where
  pub some : whole.start < whole.end
  pub inside : whole.end ≤ size
  pub one : 0 < parts
  pub few : parts ≤ 65536

-- 0 and 0 where no bytes are needed
abbrev pub shown_need : Option Span → JxSpan
shown_need (Some s) = shown_span s
shown_need None = record { start = 0; end = 0 }

-- of whatever text and container the split is, the buffer has the parts, as many as it has room for
abbrev pub ArePartsIn : OpenedIndex → List JxPart → List JxPart → ℕ → Type 0
ArePartsIn s old new count = (settings : Settings) (chunk : ℕ) (text : List ℕ) (aim : Aim) (container : Tree) → HasSplit settings chunk text aim s.saved.index s.work → IsIn settings text container
    → span_of container ≡ aim.whole → (count ≡ length (parts_of aim.parts text container)) × IsFilled shown_part old new (parts_of aim.parts text container)

-- the index is not that of any text that has come so far
abbrev pub IsOfNoText : OpenedIndex → Type 0
IsOfNoText s = (settings : Settings) (chunk : ℕ) (text : List ℕ) (pointers : List JxPointer) → HasSought settings chunk text pointers s.saved s.work → ⊥

-- nor one with such a container
abbrev pub HasNoSuchContainer : OpenedIndex → Type 0
HasNoSuchContainer s = (settings : Settings) (chunk : ℕ) (text : List ℕ) (aim : Aim) (container : Tree) → HasSplit settings chunk text aim s.saved.index s.work → IsIn settings text container
    → span_of container ≡ aim.whole → ⊥

-- ---- chunks

-- where the chunk with the byte at an offset stands, if the text has one there
abbrev pub chunk_with : Index → ℕ → Option Span
chunk_with index at = chunk_at index (at / index.chunk)

-- bytes with the checksum of this chunk are those of the text that was indexed, if other bytes have another one
abbrev pub IsChunk : Index → Span → List ℕ → Type 0
IsChunk index span bytes = (settings : Settings) (chunk : ℕ) (text : List ℕ) → IsIndexOf settings chunk text index → IsToldApart text span bytes → bytes ≡ slice_range text span.start span.end

-- they are not
abbrev pub IsNoChunk : Index → Span → List ℕ → Type 0
IsNoChunk index span bytes = (settings : Settings) (chunk : ℕ) (text : List ℕ) → IsIndexOf settings chunk text index → bytes ≢ slice_range text span.start span.end

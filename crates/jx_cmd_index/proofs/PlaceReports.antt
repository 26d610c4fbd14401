-- What is written and told by an index that was read.
use Rattle.std.specs.Prelude.{Option, None, Some, Result, Ok, Err, IfErr, Vec, slice_get}
use Rattle.std.proofs.Common.{◌≡◌, ℕ, zero, suc, List, [], ◌∷◌, refl, sym, ap, subst, ◌∙◌}
use Rattle.std.specs.declared.alloc.Global.{Global}
use Rattle.jx_run.specs.declared.texts.settings.Settings.{Settings}
use Rattle.jx_file_index.specs.declared.entry.Entry.{Entry}
use Rattle.jx_file_index.specs.declared.index.Index.{Index}
use Rattle.jx_file_index.specs.Chunks.{entries_of}
use Rattle.jx_file_index.specs.Index.{AreLevels, IsIndexOf}
use Rattle.jx_file_index.specs.Saved.{SaysSame}
use Rattle.jx_file_index.specs.declared.name_tables.NameTable.{NameTable}
use Rattle.jx_file_index.specs.declared.name_tables.NameTables.{NameTables}
use Rattle.jx_file_index.specs.NameTables.{IsTableOf}
use Rattle.jx_file_index.specs.declared.saved_text.SavedText.{SavedText}
use Rattle.jx_file_build.specs.TextTables.{KeepsNames}
use Rattle.jx_file_index.specs.SavedTexts.{IsSavableToo, SaysSameToo, SaysTable, SayNames, SayTables}
use Rattle.jx_file_index.specs.TextSpelling.{spelt_saved}
use Rattle.jx_ends.specs.declared.exit.Exit.{Exit}
use Rattle.jx_ends.specs.declared.exit.Exit.TheVariants.{Good}
use Rattle.jx_words.specs.declared.pointer_answer.PointerAnswer.{PointerAnswer}
use Rattle.jx_words.specs.Answers.{AreAnswersIn}
use Rattle.jx_words.specs.inside.Lines.{exit_past_lines, pointer_lines}
use Rattle.jx_report.specs.Output.{AnswersPointers, TextOutput}
use Rattle.jx_report.proofs.PointerReplies.{reply_is}
use Rattle.jx_cmd_index.specs.declared.look_fault.LookFault.{LookFault}
use Rattle.jx_cmd_index.specs.declared.look_fault.LookFault.TheVariants.{Changed, Memory, NoText, OtherSize, Saved, SavedRead, TextRead, Write}
use Rattle.jx_cmd_index.specs.inside.Faults.{IsChange}
use Rattle.jx_cmd_index.specs.inside.Looked.{AreAnswersBySaved}
use Rattle.jx_cmd_index.specs.PlaceReports.{ArePlaces, FailsFor, IsOfText}
use Rattle.jx_cmd_index.specs.SavedBytes.{IsKeptOf, IsSavedOf, TellsApart}

-- an index that says what the index of a text says is that of the text
is_of : (settings : Settings) (chunk : ℕ) (text : List ℕ) (a b : Index) → SaysSame a b → IsIndexOf settings chunk text b → IsIndexOf settings chunk text a
is_of settings chunk text a b same is = record {
  accepted = is.accepted;
  settings_are = same.settings ∙ is.settings_are;
  chunk_is = same.chunk ∙ is.chunk_is;
  size_is = same.size ∙ is.size_is;
  count = is.count;
  counted = is.counted;
  levels =
      subst (λ (t : Entry). AreLevels (entries_of settings chunk text is.count) a.entries.items t) (sym same.top)
      (subst (λ (es : List Entry). AreLevels (entries_of settings chunk text is.count) es b.top) (sym same.entries) is.levels);
}

-- tables that say what those of a text say have its names too
record HasSame (others : List NameTable) (block : ℕ) (one : NameTable) : Type 0 where
  other : NameTable
  is : slice_get others block ≡ Some other
  says : SaysTable one other

same_at : (ones others : List NameTable) (block : ℕ) (one : NameTable) → SayTables ones others → slice_get ones block ≡ Some one → HasSame others block one
same_at [] others block one say e = absurd (cc)
same_at (x ∷ ones) [] block one say e = absurd say
same_at (x ∷ ones) (y ∷ others) zero one say e = record { other = y; is = refl; says = subst (λ (t : NameTable). SaysTable t y) (let h : x ≡ one = cc in h) say.0 }
same_at (x ∷ ones) (y ∷ others) (suc block) one say e = let h = same_at ones others block one say.1 e in record { other = h.other; is = h.is; says = h.says }

names_of : (settings : Settings) (chunk : ℕ) (text : List ℕ) (a b : Option NameTables) → SayNames a b → KeepsNames settings chunk text b → KeepsNames settings chunk text a
names_of settings chunk text None None say keeps = tt
names_of settings chunk text None (Some b) say keeps = tt
names_of settings chunk text (Some a) None say keeps = absurd say
names_of settings chunk text (Some a) (Some b) say keeps = record {
  count = keeps.count;
  counted = keeps.counted;
  begun = keeps.begun;
  names = keeps.names;
  named = keeps.named;
  each = λ block table is kept.
      let h = same_at a.tables.items b.tables.items block table say is in
      subst (λ (keys : List ℕ). IsTableOf keeps.names block keys) (sym h.says.1) (keeps.each block h.other h.is (sym h.says.0 ∙ kept));
}

abbrev pub Reads : Option (List ℕ) → SavedText → Type 0
Reads known read = (s : SavedText) → IsSavableToo s → known ≡ Some (spelt_saved s) → SaysSameToo read s

-- what was read of what is saved of a text is so of the text
pub read_is : (known : Option (List ℕ)) (read : SavedText) → Reads known read → (settings : Settings) (chunk : ℕ) (text bytes : List ℕ) → IsSavedOf settings chunk text bytes → known ≡ Some bytes
    → IsKeptOf settings chunk text read
read_is known read reads settings chunk text bytes s e =
    let same = reads s.saved s.savable (e ∙ ap Some s.spelt) in
    record { index = is_of settings chunk text read.index s.saved.index same.index s.kept.index; names = names_of settings chunk text read.names s.saved.names same.names s.kept.names }

-- ---- what is written

abbrev Answers : List (List ℕ) → Option (List ℕ) → SavedText → List PointerAnswer → Type 0
Answers pointers content read answers = (settings : Settings) (chunk : ℕ) (text all : List ℕ) → IsKeptOf settings chunk text read → content ≡ Some all → TellsApart chunk text all
    → AreAnswersIn settings text pointers answers

pub looked : (pointers : List (List ℕ)) (saved content : Option (List ℕ)) (read : SavedText) (answers : List PointerAnswer) → Reads saved read → Answers pointers content read answers
    → AreAnswersBySaved pointers saved content answers
looked pointers saved content read answers reads answered = λ settings chunk text bytes file s of is tells.
    answered settings chunk text file (read_is saved read reads settings chunk text bytes s of) is tells

pub places : (pointers : List (List ℕ)) (saved content : Option (List ℕ)) (answers : Vec PointerAnswer Global) (exit : Exit) → AreAnswersBySaved pointers saved content answers.items
    → exit ≡ exit_past_lines Good answers.items → ArePlaces pointers saved content (pointer_lines answers.items) exit
places pointers saved content answers exit answered e = λ settings chunk text bytes file s of is tells.
    subst (λ (x : Exit). TextOutput (AnswersPointers pointers settings text) settings text (pointer_lines answers.items) x) (sym e)
    (reply_is settings text pointers answers (s.accepted, answered settings chunk text bytes file s of is tells))

-- ---- faults

pub fails : (saved content : Option (List ℕ)) (read : SavedText) (fault : LookFault) → Reads saved read → IsOfText fault
    → ((settings : Settings) (chunk : ℕ) (text all : List ℕ) → IsKeptOf settings chunk text read → content ≡ Some all → TellsApart chunk text all → IsChange text all fault) → FailsFor saved content fault
fails saved content read SavedRead reads of change = tt
fails saved content read TextRead reads of change = tt
fails saved content read Write reads of change = tt
fails saved content read Memory reads of change = tt
fails saved content read (Saved fault) reads of change = tt
fails saved content read (OtherSize size indexed) reads of change = absurd of
fails saved content read (Changed span) reads of change = λ settings chunk text bytes file s e is tells. change settings chunk text file (read_is saved read reads settings chunk text bytes s e) is tells
fails saved content read NoText reads of change = λ settings chunk text bytes file s e is tells. change settings chunk text file (read_is saved read reads settings chunk text bytes s e) is tells

-- a fault that is handed on is the same
pub handed : {A : Type 0} (P : LookFault → Type 0) (r : Result A LookFault) (x y : LookFault) → r ≡ Err y → y ≡ x → P x → IfErr r P
handed P r x y e same h = subst (λ q. IfErr q P) (sym e) (subst P (sym same) h)

fault_or : {T : Type 0} → Result T LookFault → LookFault → LookFault
fault_or (Ok x) d = d
fault_or (Err e) d = e

fault_is : {T : Type 0} (r : Result T LookFault) (y f : LookFault) → r ≡ Err y → r ≡ Err f → y ≡ f
unfolding fault_or
fault_is r y f a b = ap (λ q. fault_or q y) (sym a ∙ b)

pub same_fault : {T U : Type 0} (q : Result T LookFault) (r : Result U LookFault) (x y f : LookFault) → q ≡ Err x → r ≡ Err y → y ≡ x → r ≡ Err f → q ≡ Err f
same_fault q r x y f a b e c = a ∙ ap Err (sym e ∙ fault_is r y f b c)

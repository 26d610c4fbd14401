-- A report on the elements of a text from a reader to two writers, by their bytes.
use Rattle.std.specs.Prelude.{◌≡◌, ℕ, List, [], ◌++◌, length, codes, decimal, Option, Bool, false, Result, Ok, Err}
use Rattle.std.specs.Io.KnownBytes.{Appends}
use Rattle.jx_run.specs.declared.texts.settings.Settings.{Settings}
use Rattle.jx_run.specs.declared.texts.verdict.Verdict.{Verdict}
use Rattle.jx_run.specs.declared.texts.verdict.Verdict.TheVariants.{Accepted, Refused}
use Rattle.jx_run.specs.Settings.{IsDocumentBy, JudgedBy}
use Rattle.jx_run.specs.Tree.{Tree}
use Rattle.jx_lex.specs.declared.kind.Kind.{Kind}
use Rattle.jx_lex.specs.declared.kind.Kind.TheVariants.{Object, Array, String, Number, True, False, Null}
use Rattle.jx_index.specs.declared.find_fault.FindFault.{FindFault}
use Rattle.jx_index.specs.declared.find_fault.FindFault.TheVariants.{NotAContainer}
use Rattle.jx_index.specs.declared.finder.Found.{Found}
use Rattle.jx_index.specs.Found.{found_of}
use Rattle.jx_index.specs.Leads.{led}
use Rattle.jx_index.specs.Pointers.{tokens}
use Rattle.jx_each.specs.declared.content.LineContent.{LineContent}
use Rattle.jx_each.specs.declared.content.LineContent.TheVariants.{Alone, Named, NameAlone, Empty}
use Rattle.jx_each.specs.Due.{IsDueBy}
use Rattle.jx_ends.specs.declared.exit.Exit.{Exit}
use Rattle.jx_words.specs.declared.pointer_answer.PointerAnswer.TheVariants.{Lost}
use Rattle.jx_words.specs.Pointers.{answer_words}
use Rattle.jx_words.specs.Words.{line, refusal_words}
use Rattle.jx_values.specs.NameTexts.{lone_in, shown_as, told_of_lone}
use Rattle.jx_values.specs.Values.{exit_by, told_words}

-- ---- of an input

-- that a pointer leads to no container
abbrev pub told_of_fault : List ℕ → FindFault → List ℕ
told_of_fault pointer fault = told_words pointer (answer_words (Lost fault))

-- that it leads, by so many tokens, to no object
abbrev pub told_of_no_object : List ℕ → ℕ → List ℕ
told_of_no_object pointer n = told_words pointer (codes "not an object at token " ++ decimal n)

-- of a value of this kind, to which so many tokens lead: nothing where it has elements
abbrev pub told_of_kind : List ℕ → Kind → ℕ → List ℕ
told_of_kind pointer Object n = []
told_of_kind pointer Array n = []
told_of_kind pointer String n = told_of_fault pointer (NotAContainer n)
told_of_kind pointer Number n = told_of_fault pointer (NotAContainer n)
told_of_kind pointer True n = told_of_fault pointer (NotAContainer n)
told_of_kind pointer False n = told_of_fault pointer (NotAContainer n)
told_of_kind pointer Null n = told_of_fault pointer (NotAContainer n)

-- the same where names are written: nothing where it has members
abbrev pub told_of_named : List ℕ → Kind → ℕ → List ℕ
told_of_named pointer Object n = []
told_of_named pointer Array n = told_of_no_object pointer n
told_of_named pointer String n = told_of_no_object pointer n
told_of_named pointer Number n = told_of_no_object pointer n
told_of_named pointer True n = told_of_no_object pointer n
told_of_named pointer False n = told_of_no_object pointer n
told_of_named pointer Null n = told_of_no_object pointer n

abbrev pub told_of_value : LineContent → List ℕ → Kind → ℕ → List ℕ
told_of_value Alone pointer kind n = told_of_kind pointer kind n
told_of_value Named pointer kind n = told_of_named pointer kind n
told_of_value NameAlone pointer kind n = told_of_named pointer kind n
told_of_value Empty pointer kind n = told_of_kind pointer kind n

-- of what a pointer of so many tokens leads to
abbrev pub told_of_found : LineContent → List ℕ → Result Found FindFault → ℕ → List ℕ
told_of_found content pointer (Ok found) n = told_of_value content pointer found.kind n
told_of_found content pointer (Err fault) n = told_of_fault pointer fault

-- of a refused input its verdict, and of a text what the pointer leads to in its tree
abbrev pub TellsByVerdict : LineContent → Settings → List ℕ → List ℕ → Verdict → List ℕ → Type 0
TellsByVerdict content settings pointer input Accepted tells =
    (tree : Tree) × IsDocumentBy settings 0 input tree × (tells ≡ told_of_found content pointer (found_of (led input tree (tokens pointer))) (length (tokens pointer)))
TellsByVerdict content settings pointer input (Refused refusal) tells = tells ≡ line (refusal_words refusal)

-- the lines that are due of an input, all that is reported of it, and the status; where texts are asked for, also that a line
-- has none
pub record ElementsOutput (by_texts : Bool) (content : LineContent) (settings : Settings) (pointer input lines tells : List ℕ) (exit : Exit) : Type 0 where
  pub due : IsDueBy content settings pointer input lines
  pub verdict : Verdict
  pub is_verdict : JudgedBy settings 0 input verdict
  pub said : List ℕ
  pub told : TellsByVerdict content settings pointer input verdict said
  pub all_told : tells ≡ told_of_lone pointer (lone_in by_texts lines) ++ said
  pub ends : exit ≡ exit_by tells

-- ---- as it is written and told

-- the lines that are due of the bytes of an input, as they are written
pub record IsDue (by_texts : Bool) (content : LineContent) (settings : Settings) (pointer input output : List ℕ) : Type 0 where
  pub lines : List ℕ
  pub due : IsDueBy content settings pointer input lines
  pub written : output ≡ shown_as by_texts lines

-- this is written of the lines that are due of an input, this is the status, and the report was written unless reporting failed
pub record ToldOutput (by_texts : Bool) (content : LineContent) (settings : Settings) (pointer : List ℕ) (is_lost : Bool) (told retold : Option (List ℕ)) (input output : List ℕ) (exit : Exit) : Type 0 where
  pub lines : List ℕ
  pub tells : List ℕ
  pub answer : ElementsOutput by_texts content settings pointer input lines tells exit
  pub written : output ≡ shown_as by_texts lines
  pub says : is_lost ≡ false → Appends told retold tells

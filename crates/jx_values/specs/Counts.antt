-- A report on how many elements a container has, from a reader to two writers, by their bytes.
use Rattle.std.specs.Prelude.{◌≡◌, ℕ, List, [], length, decimal, Option, Bool, false}
use Rattle.std.specs.Io.KnownBytes.{Appends}
use Rattle.jx_run.specs.declared.texts.settings.Settings.{Settings}
use Rattle.jx_run.specs.declared.texts.verdict.Verdict.{Verdict}
use Rattle.jx_run.specs.Settings.{IsDocumentBy, JudgedBy}
use Rattle.jx_run.specs.Tree.{Tree}
use Rattle.jx_index.specs.Pointers.{tokens}
use Rattle.jx_each.specs.declared.content.LineContent.TheVariants.{Empty}
use Rattle.jx_each.specs.Due.{elements_at}
use Rattle.jx_ends.specs.declared.exit.Exit.{Exit}
use Rattle.jx_ends.specs.declared.exit.Exit.TheVariants.{Good, Bad}
use Rattle.jx_ends.specs.Ends.{ReadsToEnd, AppendsBeginning}
use Rattle.jx_words.specs.Words.{line}
use Rattle.jx_values.specs.Elements.{TellsByVerdict}
use Rattle.jx_values.specs.Values.{exit_by}

-- a line with the number of elements of the array, or of members of the object, that a pointer leads to
abbrev pub count_line : List ℕ → List ℕ → Tree → List ℕ
count_line text pointer tree = line (decimal (length (elements_at Empty text (tokens pointer) tree)))

-- where nothing is reported, the input is a text, and this is its line; else nothing is written
abbrev pub IsCounted : Settings → List ℕ → List ℕ → Exit → List ℕ → Type 0
IsCounted settings pointer input Good output = (tree : Tree) × IsDocumentBy settings 0 input tree × (output ≡ count_line input pointer tree)
IsCounted settings pointer input Bad output = output ≡ []

-- the whole output for an input, all that is reported of it, and the status
pub record CountOutput (settings : Settings) (pointer input output tells : List ℕ) (exit : Exit) : Type 0 where
  pub verdict : Verdict
  pub is_verdict : JudgedBy settings 0 input verdict
  pub told : TellsByVerdict Empty settings pointer input verdict tells
  pub ends : exit ≡ exit_by tells
  pub counted : IsCounted settings pointer input exit output

-- and the report was written unless reporting failed
pub record ToldCount (settings : Settings) (pointer : List ℕ) (is_lost : Bool) (told retold : Option (List ℕ)) (input output : List ℕ) (exit : Exit) : Type 0 where
  pub tells : List ℕ
  pub answer : CountOutput settings pointer input output tells exit
  pub says : is_lost ≡ false → Appends told retold tells

-- the reader gave all that it had, which is a text, and the writer got a beginning of its line, and not all
pub record WroteCountInPart (settings : Settings) (pointer : List ℕ) (unread left written grown : Option (List ℕ)) : Type 0 where
  pub text : List ℕ
  pub tree : Tree
  pub read : ReadsToEnd unread left text
  pub is_text : IsDocumentBy settings 0 text tree
  pub wrote : AppendsBeginning written grown (count_line text pointer tree)

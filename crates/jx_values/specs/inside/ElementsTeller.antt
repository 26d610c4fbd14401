-- A reporter on elements: the bytes that it has taken, and the lines that wait.
use Rattle.std.specs.Prelude.{◌≡◌, ℕ, List, [], ◌++◌, Bool, true, if◌then◌else◌}
use Rattle.jx_run.specs.declared.texts.settings.Settings.{Settings}
use Rattle.jx_each.specs.declared.content.LineContent.{LineContent}
use Rattle.jx_each.specs.Each.{HasTakenBy}
use Rattle.jx_ends.specs.declared.exit.Exit.{Exit}
use Rattle.jx_values.specs.declared.elements_teller.ElementsTask.{ElementsTask}
use Rattle.jx_values.specs.declared.elements_teller.ElementsTeller.{ElementsTeller}
use Rattle.jx_values.specs.Elements.{ElementsOutput, IsDue}
use Rattle.jx_values.specs.NameTexts.{shown_as}
use Rattle.jx_values.specs.inside.Showing.{IsShownBy}
use Rattle.jx_values.specs.inside.Sought.{HasSought, any_names}

-- the output that waits: the texts of lines, or the lines
abbrev pub waiting : ElementsTeller → List ℕ
waiting t = if t.showing.by_texts then t.showing.ready.items else t.each.ready

-- it has taken these bytes of an input, from its start, and this of their lines was written before what waits
pub record HasMade (by_texts : Bool) (content : LineContent) (settings : Settings) (pointer bytes given : List ℕ) (t : ElementsTeller) : Type 0 where
  pub lines : List ℕ
  pub taken : HasTakenBy content pointer bytes lines t.each
  pub by : t.each.reader.settings ≡ settings
  pub looked : HasSought content (any_names settings) pointer bytes t.sought
  pub shown : IsShownBy by_texts t.showing lines given
  pub none_told : t.told.items ≡ []

-- and where texts are asked for, each line was taken in
pub record HasTaken (by_texts : Bool) (content : LineContent) (settings : Settings) (pointer bytes given : List ℕ) (t : ElementsTeller) : Type 0 where
  pub made : HasMade by_texts content settings pointer bytes given t
  pub none_wait : by_texts ≡ true → t.each.ready ≡ []

-- it has taken the whole input: what waits is the rest of the output, and the report
pub record HasEnded (by_texts : Bool) (content : LineContent) (settings : Settings) (pointer bytes given : List ℕ) (exit : Exit) (t : ElementsTeller) : Type 0 where
  pub lines : List ℕ
  pub answer : ElementsOutput by_texts content settings pointer bytes lines t.told.items exit
  pub written : given ++ waiting t ≡ shown_as by_texts lines

-- ---- before anything is reported

abbrev pub IsDueUntold : {E : Type 0} → ElementsTask → E → E → List ℕ → List ℕ → Type 0
IsDueUntold task was now bytes output = (now ≡ was) × IsDue task.by_texts task.content task.settings task.pointer.now bytes output

abbrev pub HasTakenUntold : {E : Type 0} → ElementsTask → E → E → List ℕ → List ℕ → ElementsTeller → Type 0
HasTakenUntold task was now bytes given t = (now ≡ was) × HasTaken task.by_texts task.content task.settings task.pointer.now bytes given t

abbrev pub HasEndedUntold : {E : Type 0} → ElementsTask → E → E → List ℕ → List ℕ → Exit → ElementsTeller → Type 0
HasEndedUntold task was now bytes given exit t = (now ≡ was) × HasEnded task.by_texts task.content task.settings task.pointer.now bytes given exit t

-- How lines are written while they are made.
use Rattle.std.specs.Prelude.{◌≡◌, ℕ, List, ◌++◌, Bool, true, false}
use Rattle.jx_values.specs.NameTexts.{Texts, no_texts, text_run}
use Rattle.jx_values.specs.declared.showing.Showing.{Showing}

-- the lines that were met, and the texts that wait
abbrev pub texts_of : Showing → Texts
texts_of showing = record { part = showing.part.items; lines = showing.ready.items; lone = showing.has_lone }

-- the same behind the lines of other texts
abbrev pub behind : List ℕ → Texts → Texts
behind front texts = record { part = texts.part; lines = front ++ texts.lines; lone = texts.lone }

-- these lines were made, and this was written of them before the texts that wait
abbrev pub ShowsAs : Bool → Texts → List ℕ → List ℕ → Type 0
ShowsAs true texts made given = behind given texts ≡ text_run no_texts made
ShowsAs false texts made given = (given ≡ made) × (texts ≡ no_texts)

pub record IsShownBy (by_texts : Bool) (showing : Showing) (made given : List ℕ) : Type 0 where
  pub is : showing.by_texts ≡ by_texts
  pub shows : ShowsAs by_texts (texts_of showing) made given

-- The parts of a document, and of an edit, that a contract sees.
use Rattle.std.specs.Prelude.{ℕ, List, ◌++◌, take, drop}
use Rattle.jx_run.specs.declared.texts.settings.Settings.{Settings}

pub record DocumentValue : Type 0 where
  pub settings : Settings
  pub bytes : List ℕ

-- the bytes from `start` up to `end` give place to others
abbrev pub edited : ℕ → ℕ → List ℕ → List ℕ → List ℕ
edited start end replacement bytes = take start bytes ++ replacement ++ drop end bytes

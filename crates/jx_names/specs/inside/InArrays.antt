-- Tokens of which only the counts are known, where arrays alone are open around them.
use Rattle.std.specs.Prelude.{◌≡◌, ℕ, ◌-◌, ◌≤◌, List, ◌++◌, drop, length, take, replicate, None, false}
use Rattle.jx_names.specs.declared.open_names.Container.{Container}
use Rattle.jx_names.specs.declared.open_names.OpenNames.{OpenNames}
use Rattle.jx_names.specs.inside.KeptNames.{end_from}

-- an array that begins after so many names
abbrev pub array_behind : ℕ → Container
array_behind before = record { is_object = false; before = before }

-- so many of a list, or more of them
abbrev pub resized : {A : Type 0} → ℕ → A → List A → List A
resized count a xs = take count xs ++ replicate (count - length xs) a

-- the last of these containers, so many, are arrays that begin after so many names
pub record AreArraysBehind (opened : List Container) (count names : ℕ) : Type 0 where
  pub fits : count ≤ length opened
  pub last : drop (length opened - count) opened ≡ replicate count (array_behind names)

-- the innermost open containers, so many, are arrays that begin after all names; no name waits, and all bytes are those of names
pub record IsInArrays (names : OpenNames) (count : ℕ) : Type 0 where
  pub name : names.name ≡ None
  pub bytes : end_from 0 names.names.items ≡ length names.bytes.items
  pub arrays : AreArraysBehind names.opened.items count (length names.names.items)

-- Which open containers are objects, and where a name stands in the innermost one.
use Rattle.std.specs.Prelude.{◌≡◌, ℕ, ◌-◌, ◌≤◌, List, [], ◌∷◌, ◌++◌, Bool, true, false, cond, drop, length, map, replicate, reverse, take}
use Rattle.jx_lex.specs.declared.alphabet.mark.MarkKind.{MarkKind}
use Rattle.jx_lex.specs.declared.alphabet.mark.MarkKind.TheVariants as mark
use Rattle.jx_reduce.specs.declared.table.expect.Expect.{Expect}
use Rattle.jx_reduce.specs.declared.table.expect.Expect.TheVariants.{Colon, Name, ObjectFirst}
use Rattle.jx_reduce.specs.declared.table.holder.Holder.{Holder}
use Rattle.jx_reduce.specs.declared.table.holder.Holder.TheVariants.{Object}
use Rattle.jx_reduce.specs.Read.{Reading, went, stopped, too_deep}
use Rattle.jx_file_build.specs.declared.open_kinds.NamePlace.{NamePlace}
use Rattle.jx_file_build.specs.declared.open_kinds.NamePlace.TheVariants.{Next, Last, Elsewhere}
use Rattle.jx_file_build.specs.declared.open_kinds.OpenKinds.{OpenKinds}

-- those of the innermost first
pub record Kinds : Type 0 where
  pub opened : List Bool
  pub name : NamePlace

abbrev pub kinds : OpenKinds → Kinds
kinds k = record { opened = reverse k.are_objects.items; name = k.name }

abbrev pub is_last : NamePlace → Bool
is_last Last = true
is_last _ = false

-- ---- one token start

abbrev pub without_first : List Bool → List Bool
without_first [] = []
without_first (is_object ∷ outer) = outer

abbrev pub behind_comma : List Bool → NamePlace
behind_comma [] = Elsewhere
behind_comma (is_object ∷ outer) = cond is_object Next Elsewhere

abbrev pub behind_string : NamePlace → NamePlace
behind_string Next = Last
behind_string _ = Elsewhere

abbrev pub after : MarkKind → Kinds → Kinds
after mark.OpenArray k = record { opened = false ∷ k.opened; name = Elsewhere }
after mark.OpenObject k = record { opened = true ∷ k.opened; name = Next }
after mark.CloseArray k = record { opened = without_first k.opened; name = Elsewhere }
after mark.CloseObject k = record { opened = without_first k.opened; name = Elsewhere }
after mark.Comma k = record k { name = behind_comma k.opened }
after mark.String k = record k { name = behind_string k.name }
after _ k = record k { name = Elsewhere }

-- ---- what they have to do with a reading

abbrev pub is_object : Holder → Bool
is_object Object = true
is_object _ = false

abbrev pub place_of : Expect → NamePlace
place_of ObjectFirst = Next
place_of Name = Next
place_of Colon = Last
place_of _ = Elsewhere

abbrev pub kinds_of : Expect → List Holder → Kinds
kinds_of expect holders = record { opened = map is_object holders; name = place_of expect }

-- unless the reading met a fault, they are those of its open containers
abbrev pub Mirrors : Reading → Kinds → Type 0
Mirrors (went expect holders) k = k ≡ kinds_of expect holders
Mirrors (stopped at) k = Unit {0}
Mirrors (too_deep at) k = Unit {0}

-- ---- tokens of which only the counts are known

-- so many of a list, or more of them, which are arrays
abbrev pub resized : ℕ → List Bool → List Bool
resized count xs = take count xs ++ replicate (count - length xs) false

-- the last of these containers, so many, are arrays
pub record AreArrays (are_objects : List Bool) (count : ℕ) : Type 0 where
  pub fits : count ≤ length are_objects
  pub last : drop (length are_objects - count) are_objects ≡ replicate count false

-- the innermost open containers, so many, are arrays, in which no name stands
pub record IsInArrays (k : OpenKinds) (count : ℕ) : Type 0 where
  pub name : k.name ≡ Elsewhere
  pub arrays : AreArrays k.are_objects.items count

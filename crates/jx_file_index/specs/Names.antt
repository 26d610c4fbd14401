-- The names of members that end in a part of a text, where as few containers are open as anywhere in it.
use Rattle.std.specs.Prelude.{◌≡◌, ℕ, ◌==◌, ◌&&◌, ◌≤◌, List, [], ◌∷◌, ◌++◌, length, Bool, true, false, Option, None, Some, if◌then◌else◌}
use Rattle.jx_lex.specs.declared.alphabet.mark.Mark.{Mark}
use Rattle.jx_lex.specs.declared.alphabet.mark.MarkKind.{MarkKind}
use Rattle.jx_reduce.specs.declared.table.expect.Expect.{Expect}
use Rattle.jx_reduce.specs.declared.table.expect.Expect.TheVariants.{Colon}
use Rattle.jx_reduce.specs.Read.{Reading, went, stopped, too_deep, read}
use Rattle.jx_run.specs.Tree.{span}
use Rattle.jx_index.specs.inside.Building.{is_token}
use Rattle.jx_index.specs.Units.{units_at}
use Rattle.jx_file_index.specs.declared.sum.Sum.{Sum}
use Rattle.jx_file_index.specs.Sums.{noted, sum_of}

-- whether the last string is a name: a colon is expected after it
abbrev pub is_colon : Expect → Bool
is_colon Colon = true
is_colon _ = false

abbrev pub is_behind_name : Reading → Bool
is_behind_name (went e hs) = is_colon e
is_behind_name (stopped at) = false
is_behind_name (too_deep at) = false

-- where a token start closes a container that was open before the part, the names so far are above the lowest level
abbrev pub kept : MarkKind → Sum → List (List ℕ) → List (List ℕ)
kept kind s names = if (noted kind s).closed == s.closed then names else []

-- a string ends: it is one more where it is a name, and no container is open that was opened in the part
abbrev pub with_string : Reading → Sum → List ℕ → List (List ℕ) → List (List ℕ)
with_string reading s units names = if is_behind_name reading && (s.opened == 0) then names ++ units ∷ [] else names

-- by the token starts and ends of a part of a text, in the order of reading: which token has begun and not ended, before the
-- part and after it, and the units of the names. The reading is that before the part; a token may have begun there
pub data NamesOf (text : List ℕ) (depth : ℕ) (reading : Reading) (before : Option Mark) : List Mark → List ℕ → Option Mark → List (List ℕ) → Type 0 where
  none : NamesOf text depth reading before [] [] before []
  plain : {marks : List Mark} {ends : List ℕ} {names : List (List ℕ)} (m : Mark) → is_token m.kind ≡ false
      → NamesOf text depth reading before marks ends None names → NamesOf text depth reading before (marks ++ m ∷ []) ends None (kept m.kind (sum_of marks) names)
  token : {marks : List Mark} {ends : List ℕ} {names : List (List ℕ)} (m : Mark) → is_token m.kind ≡ true
      → NamesOf text depth reading before marks ends None names → NamesOf text depth reading before (marks ++ m ∷ []) ends (Some m) names
  ended : {marks : List Mark} {ends : List ℕ} {names : List (List ℕ)} (m : Mark) (end : ℕ) → end ≤ length text
      → NamesOf text depth reading before marks ends (Some m) names
      → NamesOf text depth reading before marks (ends ++ end ∷ []) None (with_string (read depth marks reading) (sum_of marks) (units_at text (span m.at end)) names)

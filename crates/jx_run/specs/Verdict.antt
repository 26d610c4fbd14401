-- The verdict on a list of bytes that stands from an offset on: whether it is a text (RFC 8259, section 2) within a depth
-- (section 9), and if not, where the longest part that still begins one ends.
use Rattle.std.specs.Prelude.{ℕ, suc, ◌+◌, ◌≤◌, ◌<◌, List, length, take}
use Rattle.jx_run.specs.declared.texts.verdict.Verdict.{Verdict}
use Rattle.jx_run.specs.declared.texts.verdict.Verdict.TheVariants.{Accepted, Refused}
use Rattle.jx_run.specs.declared.texts.verdict.Refusal.TheVariants.{Stopped, Truncated, TooDeep}
use Rattle.jx_run.specs.Tree.{Tree}
use Rattle.jx_run.specs.Text.{Begins, IsDocument}

-- the greatest length whose bytes begin a text within the depth
pub record IsLongestBeginning (bytes : List ℕ) (limit k : ℕ) : Type 0 where
  pub within : k ≤ length bytes
  pub begins : Begins (take k bytes) limit
  pub greatest : (n : ℕ) → k < n → n ≤ length bytes → Begins (take n bytes) limit → ⊥

-- the bytes are not a text within the depth
abbrev pub IsNoText : ℕ → List ℕ → ℕ → Type 0
IsNoText start bytes limit = (tree : Tree) → IsDocument start bytes limit tree → ⊥

-- by cases, the verdict on the bytes
pub data Judged (start : ℕ) (bytes : List ℕ) (limit : ℕ) : Verdict → Type 0 where
  -- a text
  a_text : {tree : Tree} → IsDocument start bytes limit tree → Judged start bytes limit Accepted
  -- the bytes are the beginning of a text
  cut_short : IsNoText start bytes limit → IsLongestBeginning bytes limit (length bytes) → Judged start bytes limit (Refused Truncated)
  -- with the next byte they begin a deeper text
  too_deep : {k e : ℕ} → IsNoText start bytes limit → IsLongestBeginning bytes limit k → k < length bytes
      → Begins (take (suc k) bytes) e → Judged start bytes limit (Refused (TooDeep (start + k)))
  -- with the next byte, they do not begin a text
  stopped : {k : ℕ} → IsNoText start bytes limit → IsLongestBeginning bytes limit k → k < length bytes
      → ((e : ℕ) → Begins (take (suc k) bytes) e → ⊥) → Judged start bytes limit (Refused (Stopped (start + k)))

-- Texts, beginnings and verdicts by settings: a byte order mark may stand in front of a text where it is ignored.
use Rattle.std.specs.Prelude.{◌≡◌, ◌⊎◌, ℕ, suc, ◌+◌, ◌≤◌, ◌<◌, List, [], ◌∷◌, ◌++◌, length, take}
use Rattle.jx_run.specs.declared.texts.settings.FrontMark.{FrontMark}
use Rattle.jx_run.specs.declared.texts.settings.FrontMark.TheVariants as on_mark
use Rattle.jx_run.specs.declared.texts.settings.Settings.{Settings}
use Rattle.jx_run.specs.declared.texts.verdict.Verdict.{Verdict}
use Rattle.jx_run.specs.declared.texts.verdict.Verdict.TheVariants.{Accepted, Refused}
use Rattle.jx_run.specs.declared.texts.verdict.Refusal.TheVariants.{Stopped, Truncated, TooDeep}
use Rattle.jx_run.specs.Tree.{Tree}
use Rattle.jx_run.specs.Text.{IsDocument}

-- U+FEFF in UTF-8
abbrev pub byte_order_mark : List ℕ
byte_order_mark = 0xef ∷ 0xbb ∷ 0xbf ∷ []

-- the bytes that may stand in front of a text (RFC 8259, section 8.1)
abbrev pub IsFront : FrontMark → List ℕ → Type 0
IsFront on_mark.Refused front = front ≡ []
IsFront on_mark.Ignored front = (front ≡ []) ⊎ (front ≡ byte_order_mark)

-- the bytes, which stand from an offset on, are such a front and then a text with this tree within the depth
pub record IsDocumentBy (settings : Settings) (start : ℕ) (bytes : List ℕ) (tree : Tree) : Type 0 where
  pub front : List ℕ
  pub rest : List ℕ
  pub is_front : IsFront settings.mark front
  pub whole : bytes ≡ front ++ rest
  pub text : IsDocument (start + length front) rest settings.depth tree

-- some bytes after these, perhaps none, make such a text
pub record BeginsBy (settings : Settings) (bytes : List ℕ) : Type 0 where
  pub more : List ℕ
  pub tree : Tree
  pub text : IsDocumentBy settings 0 (bytes ++ more) tree

-- the same settings, but for the depth
abbrev pub at_depth : Settings → ℕ → Settings
at_depth settings depth = record settings { depth = depth }

-- the greatest length whose bytes begin such a text
pub record IsLongestBeginningBy (settings : Settings) (bytes : List ℕ) (k : ℕ) : Type 0 where
  pub within : k ≤ length bytes
  pub begins : BeginsBy settings (take k bytes)
  pub greatest : (n : ℕ) → k < n → n ≤ length bytes → BeginsBy settings (take n bytes) → ⊥

-- the bytes are no such text
abbrev pub IsNoTextBy : Settings → ℕ → List ℕ → Type 0
IsNoTextBy settings start bytes = (tree : Tree) → IsDocumentBy settings start bytes tree → ⊥

-- by cases, the verdict on the bytes, whatever names their objects have
pub data JudgedBy (settings : Settings) (start : ℕ) (bytes : List ℕ) : Verdict → Type 0 where
  -- a text
  a_text : {tree : Tree} → IsDocumentBy settings start bytes tree → JudgedBy settings start bytes Accepted
  -- the bytes are the beginning of a text
  cut_short : IsNoTextBy settings start bytes → IsLongestBeginningBy settings bytes (length bytes) → JudgedBy settings start bytes (Refused Truncated)
  -- with the next byte they begin a deeper text
  too_deep : {k e : ℕ} → IsNoTextBy settings start bytes → IsLongestBeginningBy settings bytes k → k < length bytes
      → BeginsBy (at_depth settings e) (take (suc k) bytes) → JudgedBy settings start bytes (Refused (TooDeep (start + k)))
  -- with the next byte, they do not begin a text
  stopped : {k : ℕ} → IsNoTextBy settings start bytes → IsLongestBeginningBy settings bytes k → k < length bytes
      → ((e : ℕ) → BeginsBy (at_depth settings e) (take (suc k) bytes) → ⊥) → JudgedBy settings start bytes (Refused (Stopped (start + k)))

-- The sentence on a text that is refused by settings.
use Rattle.std.specs.Prelude.{◌≡◌, ℕ, ◌≤◌, nat_le, Bool, ◌&&◌, List, [], Option, None, Some, drop, length, slice_range, if◌then◌else◌}
use Rattle.jx_summary.specs.declared.span.Span.{Span}
use Rattle.jx_lex.specs.Lex.{lex}
use Rattle.jx_lex.specs.declared.alphabet.state.LexState.TheVariants.{Gap}
use Rattle.jx_run.specs.Front.{front_of}
use Rattle.jx_run.specs.declared.texts.settings.Front.TheVariants.{Skip}
use Rattle.jx_run.specs.declared.texts.settings.Settings.{Settings}
use Rattle.jx_run.specs.declared.texts.verdict.Refusal.{Refusal}
use Rattle.jx_run.specs.declared.texts.verdict.Refusal.TheVariants.{Stopped, Truncated, TooDeep, RepeatedName}
use Rattle.jx_sentence.specs.Places.{place_at}
use Rattle.jx_sentence.specs.Standing.{StandsBehind, last_at}
use Rattle.jx_sentence.specs.Words.{is_in_string, repeated, stopped, string_open, too_deep, truncated}
use Rattle.jx_sentence.specs.declared.standing.Standing.{Standing}

-- the offset that a refusal is about
abbrev pub offset_of : List ℕ → Refusal → ℕ
offset_of text (Stopped at) = at
offset_of text Truncated = length text
offset_of text (TooDeep at) = at
offset_of text (RepeatedName at) = at

-- ---- where the reading stood

-- the reading of the bytes after the text's front and before an offset led to this
pub record StandsAt (settings : Settings) (text : List ℕ) (at : ℕ) (s : Standing) : Type 0 where
  pub from : ℕ
  pub front : front_of settings.mark text ≡ Skip from
  pub within : (from ≤ at) × (at ≤ length text)
  pub stands : StandsBehind settings.depth from (slice_range text from at) s
  pub token : s.token ≡ last_at from (lex Gap from (slice_range text from at)).marks

-- it led to this, or to nothing
abbrev pub IsStanding : Settings → List ℕ → ℕ → Option Standing → Type 0
IsStanding settings text at None = (s : Standing) → StandsAt settings text at s → ⊥
IsStanding settings text at (Some s) = StandsAt settings text at s

-- ---- the sentence

-- a text that ends too early, by where the reading stood at its end
unfoldable pub ended : List ℕ → Option Standing → List ℕ
ended text None = truncated None
ended text (Some s) = if is_in_string s.state then string_open (Some (place_at text s.token)) else truncated (Some s)

abbrev pub bytes_in : List ℕ → Span → List ℕ
bytes_in text span = if nat_le span.start span.end && nat_le span.end (length text) then slice_range text span.start span.end else []

-- a name, which stands there; or that none is known
unfoldable pub used : List ℕ → Option Span → List ℕ
used text None = repeated [] None
used text (Some name) = repeated (bytes_in text name) (Some (place_at text name.start))

-- the sentence on the text. Which of the names before is meant, no clause says
abbrev pub IsSentence : Settings → List ℕ → Refusal → List ℕ → Type 0
IsSentence settings text (Stopped at) said = (s : Option Standing) × (IsStanding settings text at s × (said ≡ stopped (drop at text) at s))
IsSentence settings text Truncated said = (s : Option Standing) × (IsStanding settings text (length text) s × (said ≡ ended text s))
IsSentence settings text (TooDeep at) said = said ≡ too_deep settings.depth
IsSentence settings text (RepeatedName at) said = (name : Option Span) × (said ≡ used text name)

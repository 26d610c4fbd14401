-- The answer of a call on a refused text: a sentence in a buffer of the caller's, and a place.
use Rattle.std.specs.Prelude.{◌≡◌, ℕ, List, ◌++◌, drop, take, length}
use Rattle.jx_run.specs.declared.texts.settings.Settings.{Settings}
use Rattle.jx_run.specs.declared.texts.verdict.Refusal.{Refusal}
use Rattle.jx_sentence.specs.Places.{place_at}
use Rattle.jx_sentence.specs.Sentences.{IsSentence, offset_of}
use Rattle.jx_sentence.specs.declared.place.Place.{Place}
use Rattle.jx_c.specs.declared.texts.explain.JxPlace.{JxPlace}

abbrev pub shown_place : Place → JxPlace
shown_place place = record { line = place.line; column = place.column }

-- the sentence on the refused text is in the buffer, cut where the buffer ends, and the rest of the buffer is as it was
pub record IsExplained (settings : Settings) (text : List ℕ) (refusal : Refusal) (old new : List ℕ) (size : ℕ) (place : JxPlace) : Type 0 where
  pub sentence : List ℕ
  pub is : IsSentence settings text refusal sentence
  pub size_is : size ≡ length sentence
  pub written : new ≡ take (length old) sentence ++ drop size old
  pub place_is : place ≡ shown_place (place_at text (offset_of text refusal))

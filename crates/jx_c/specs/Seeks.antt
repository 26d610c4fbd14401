-- The results of calls on a look-up that is fed.
use Rattle.std.specs.Prelude.{◌≡◌, ℕ, List, [], ◌++◌, Option, Some}
use Rattle.std.specs.List.{AllZip}
use Rattle.jx_run.specs.declared.texts.settings.Settings.{Settings}
use Rattle.jx_find.specs.Finder as finder
use Rattle.jx_find.specs.Finder.{HasFed}
use Rattle.jx_find.specs.declared.finder.Finder.{Finder}
use Rattle.jx_c.specs.Indexes.{AreAnswersOf}
use Rattle.jx_c.specs.LookUps.{IsPointerOf}
use Rattle.jx_c.specs.declared.texts.all.JxPointer.{JxPointer}
use Rattle.jx_c.specs.declared.texts.look_up.JxAnswer.{JxAnswer}

-- the pointers, and what they were met at in the bytes so far
pub record SeekingValue : Type 0 where
  pub pointers : List JxPointer
  pub finder : Finder

-- by settings and for these pointers, it was fed these bytes since it was made
pub record HasSought (settings : Settings) (pointers : List JxPointer) (text : List ℕ) (s : SeekingValue) : Type 0 where
  pub given : s.pointers ≡ pointers
  pub read : List (List ℕ)
  pub spelt : AllZip (λ (pointer : JxPointer). IsPointerOf pointer.bytes.now) pointers read
  pub fed : HasFed settings read text s.finder

-- how many bytes it was fed
abbrev pub end_of : SeekingValue → ℕ
end_of s = finder.end_of s.finder

-- a look-up of these pointers that was fed no byte
abbrev pub IsBegun : Settings → List JxPointer → Option SeekingValue → Type 0
IsBegun settings pointers held = (s : SeekingValue) × (held ≡ Some s) × HasSought settings pointers [] s

-- after any text that it was fed, now it was fed these bytes
abbrev pub IsFed : SeekingValue → List ℕ → Option SeekingValue → Type 0
IsFed old bytes held = (s : SeekingValue) × (held ≡ Some s)
    × ((settings : Settings) (pointers : List JxPointer) (text : List ℕ) → HasSought settings pointers text old → HasSought settings pointers (text ++ bytes) s)

-- of whatever pointers and text it is, the buffer has the answers
abbrev pub AreAnswersIn : SeekingValue → List JxAnswer → List JxAnswer → Type 0
AreAnswersIn s old new = (settings : Settings) (pointers : List JxPointer) (text : List ℕ) → HasSought settings pointers text s → AreAnswersOf settings text pointers old new

-- A token that has begun, beside a reader that gives tokens to a sink.
use Rattle.std.specs.Prelude.{◌≡◌, false, Option, Some, is_some}
use Rattle.std.specs.Coded.{Coded-set, Unit-prop, coded_bool, Π_prop}
use Rattle.jx_lex.specs.declared.alphabet.mark.Mark.{Mark}
use Rattle.jx_lex.specs.TokenStates.{in_token}
use Rattle.jx_run.specs.Reader.{Outcome, in_front, reads}
use Rattle.jx_run.specs.Reading.{went, stopped, too_deep}
use Rattle.jx_run.specs.Telling.{AwaitsBehind}

-- it is kept just where the reader is inside one; after a fault nothing more is given
abbrev pub IsInTurn : Option Outcome → Option Mark → Type 0
IsInTurn outcome begun = (came : Outcome) → outcome ≡ Some came → AwaitsBehind (λ inside. is_some begun ≡ inside) came

-- the same of what holds it, if anything does
abbrev pub AreInTurn : {H : Type 0} → (H → Option Mark) → Option Outcome → Option H → Type 0
AreInTurn {H} begun outcome held = (h : H) → held ≡ Some h → IsInTurn outcome (begun h)

awaits-prop : (begun : Option Mark) (came : Outcome) → IsProp (AwaitsBehind (λ inside. is_some begun ≡ inside) came)
awaits-prop begun (in_front n) = Coded-set coded_bool (is_some begun) false
awaits-prop begun (reads (went s e o)) = Coded-set coded_bool (is_some begun) (in_token s)
awaits-prop begun (reads (stopped at)) = Unit-prop
awaits-prop begun (reads (too_deep at)) = Unit-prop

pub IsInTurn-prop : (outcome : Option Outcome) (begun : Option Mark) → IsProp (IsInTurn outcome begun)
IsInTurn-prop outcome begun = Π_prop (λ came. Π_prop (λ is. awaits-prop begun came))

pub AreInTurn-prop : {H : Type 0} (begun : H → Option Mark) (outcome : Option Outcome) (held : Option H) → IsProp (AreInTurn begun outcome held)
AreInTurn-prop begun outcome held = Π_prop (λ h. Π_prop (λ is. IsInTurn-prop outcome (begun h)))

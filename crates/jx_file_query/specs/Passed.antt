-- The state of a token that has begun, where its beginning was skipped.
use Rattle.std.specs.Prelude.{◌≡◌, Bool, true, false, Option, None, Some}
use Rattle.jx_lex.specs.declared.alphabet.mark.Mark.{Mark}
use Rattle.jx_lex.specs.declared.alphabet.mark.MarkKind.TheVariants as mark
use Rattle.jx_index.specs.inside.Building.{is_token}

-- a token that stands for any other
abbrev pub some_token : Mark
some_token = record { kind = mark.String; at = 0 }

abbrev pub waiting : Bool → Option Mark
waiting true = Some some_token
waiting false = None

-- where a token has begun and not ended, it is kept
pub data Waits : Bool → Option Mark → Type 0 where
  waits_none : Waits false None
  waits_some : (m : Mark) → is_token m.kind ≡ true → Waits true (Some m)

-- The meaning of the fields of a stack, for any values in them.
use Rattle.std.specs.Prelude.{ℕ, ◌==◌, List, if◌then◌else◌}
use Rattle.jx_reduce.specs.KnownStack.{Known}
use Rattle.jx_reduce.specs.Read.{Reading, went, stopped, too_deep}
use Rattle.jx_reduce.specs.declared.table.expect.Expect.{Expect}
use Rattle.jx_reduce.specs.declared.table.expect.Expect.TheVariants.{Value, ArrayFirst, ObjectFirst, Name, Colon, After}
use Rattle.jx_reduce.specs.declared.table.holder.Holder.{Holder}
use Rattle.jx_c.specs.Containers.{holders}
use Rattle.jx_c.specs.declared.streams.stack.JxStack.{JxStack}
use Rattle.jx_c.specs.declared.streams.stack.Stage.{Stage}
use Rattle.jx_c.specs.declared.streams.stack.Stage.TheVariants.{Going, Stopped, TooDeep}

abbrev pub code_of : Expect → ℕ
code_of Value = 0
code_of ArrayFirst = 1
code_of ObjectFirst = 2
code_of Name = 3
code_of Colon = 4
code_of After = 5

abbrev pub stage_in : ℕ → Stage
stage_in n =
    if n == 0 then Going Value else (if n == 1 then Going ArrayFirst else (if n == 2 then Going ObjectFirst
    else (if n == 3 then Going Name else (if n == 4 then Going Colon else (if n == 5 then Going After
    else (if n == 6 then Stopped else TooDeep))))))

abbrev pub reading_at : Stage → ℕ → List Holder → Reading
reading_at (Going e) at s = went e s
reading_at Stopped at s = stopped at
reading_at TooDeep at s = too_deep at

-- the open containers, innermost first
abbrev pub holders_of : JxStack → List Holder
holders_of s = holders s.count s.bits s.words

abbrev pub known_of : JxStack → Known
known_of s = record { depth = s.depth; reading = reading_at (stage_in s.stage) s.at (holders_of s) }

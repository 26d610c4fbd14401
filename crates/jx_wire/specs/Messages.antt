-- How the messages of the wire are read.
use Rattle.std.specs.Prelude.{ℕ, List}
use Rattle.jx_index.specs.ByNames.{IsVerdictBy}
use Rattle.jx_run.specs.declared.texts.settings.FrontMark.TheVariants as mark
use Rattle.jx_run.specs.declared.texts.settings.NameRule.TheVariants as names
use Rattle.jx_run.specs.declared.texts.settings.Settings.{Settings}
use Rattle.jx_run.specs.declared.texts.verdict.Verdict.TheVariants.{Accepted, Refused}
use Rattle.jx_wire.specs.declared.request_fault.RequestFault.{RequestFault}
use Rattle.jx_wire.specs.declared.request_fault.RequestFault.TheVariants.{NoText, NoRequest, WrongParameters, Memory}

-- no byte order mark, no name twice, and at most 64 containers open
abbrev pub wire_settings : Settings
wire_settings = record { depth = 64; mark = mark.Refused; names = names.Unique }

-- a body is refused as not valid JSON by its verdict, and for another reason only if it is valid
abbrev pub IsFaultOf : List ℕ → RequestFault → Type 0
IsFaultOf body (NoText refusal) = IsVerdictBy wire_settings body (Refused refusal)
IsFaultOf body (NoRequest id) = IsVerdictBy wire_settings body Accepted
IsFaultOf body (WrongParameters id) = IsVerdictBy wire_settings body Accepted
IsFaultOf body Memory = Unit {0}

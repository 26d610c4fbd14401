-- How values are written.
use Rattle.std.specs.Prelude.{◌≡◌, ℕ, List}
use Rattle.jx_lex.specs.declared.kind.Kind.TheVariants.{String}
use Rattle.jx_lex.specs.Token.{IsString}
use Rattle.jx_wire.specs.declared.message.Value.{Value}

-- a string is one (RFC 8259, section 7)
abbrev pub IsSpelt : Value → Type 0
IsSpelt value = value.kind ≡ String → (units : List ℕ) × IsString value.bytes.now units

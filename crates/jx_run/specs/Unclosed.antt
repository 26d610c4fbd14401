-- Elements whose end shows only in what follows them (RFC 7464, section 2.4).
use Rattle.std.specs.Prelude.{◌≡◌, ◌==◌, ℕ, ◌+◌, Bool, true, false, List, [], ◌∷◌, length, if◌then◌else◌}
use Rattle.jx_lex.specs.declared.kind.Kind.{Kind}
use Rattle.jx_lex.specs.declared.kind.Kind.TheVariants.{Object, Array, String, Number, True, False, Null}
use Rattle.jx_run.specs.declared.texts.verdict.Verdict.TheVariants.{Accepted}
use Rattle.jx_run.specs.Elements.{Part}
use Rattle.jx_run.specs.Text.{IsDocument}
use Rattle.jx_run.specs.Tree.{Tree, node}
use Rattle.jx_run.specs.Verdict.{Judged}

-- a value whose end shows only in what follows it
abbrev pub is_unclosed : Kind → Bool
is_unclosed Object = false
is_unclosed Array = false
is_unclosed String = false
is_unclosed Number = true
is_unclosed True = true
is_unclosed False = true
is_unclosed Null = true

-- the root is such a value, and nothing follows it up to this offset
abbrev pub EndsUnclosed : Tree → ℕ → Type 0
EndsUnclosed (node kind span _) end = (is_unclosed kind ≡ true) × (span.end ≡ end)

abbrev pub end_of : Part → ℕ
end_of p = p.at + length p.bytes

-- the element is a text, and this is its tree
pub record IsAccepted (p : Part) (limit : ℕ) (tree : Tree) : Type 0 where
  pub judged : Judged p.at p.bytes limit Accepted
  pub is_text : IsDocument p.at p.bytes limit tree

-- no white space (RFC 8259, section 2), and no byte that ends a string or a container
abbrev pub is_open : ℕ → Bool
is_open byte =
    if byte == 0x20 then false else
    if byte == 0x09 then false else
    if byte == 0x0a then false else
    if byte == 0x0d then false else
    if byte == 0x22 then false else
    if byte == 0x5d then false else
    if byte == 0x7d then false else true

-- whether the last byte is such a byte, or what holds where there is none
abbrev pub last_open : Bool → List ℕ → Bool
last_open none [] = none
last_open none (b ∷ bytes) = last_open (is_open b) bytes

abbrev pub ends_open : List ℕ → Bool
ends_open bytes = last_open false bytes

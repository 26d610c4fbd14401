-- The text of a string, where it has one.
use Rattle.std.specs.Prelude.{◌≡◌, ℕ, List, Option, Some, None, String, string_bytes}
use Rattle.std.specs.declared.alloc.Global.{Global}
use Rattle.jx_string.specs.Texts.{text_of}

abbrev pub IsTextIn : List ℕ → Option (String Global) → Type 0
IsTextIn string (Some text) = text_of string ≡ Some (string_bytes text)
IsTextIn string None = text_of string ≡ None

-- The kinds of things that one byte distinguishes, in the order of their numbers.
use Rattle.std.specs.Prelude.{ℕ, List, [], ◌∷◌, Bool, true, false}
use Rattle.jx_lex.specs.declared.alphabet.mark.MarkKind.{MarkKind}
use Rattle.jx_lex.specs.declared.alphabet.mark.MarkKind.TheVariants as kind
use Rattle.jx_reduce.specs.declared.forms.entry.Entry.{Entry}
use Rattle.jx_reduce.specs.declared.forms.entry.Entry.TheVariants as entry
use Rattle.jx_reduce.specs.declared.table.holder.Holder.{Holder}
use Rattle.jx_reduce.specs.declared.table.holder.Holder.TheVariants as holder

-- whether something follows, or which of two things
abbrev pub flags : List Bool
flags = false ∷ true ∷ []

abbrev pub kinds : List MarkKind
kinds =
    kind.OpenArray ∷
    kind.CloseArray ∷
    kind.OpenObject ∷
    kind.CloseObject ∷
    kind.Colon ∷
    kind.Comma ∷
    kind.String ∷
    kind.Number ∷
    kind.True ∷
    kind.False ∷
    kind.Null ∷
    []

abbrev pub kind_number : MarkKind → ℕ
kind_number kind.OpenArray = 0
kind_number kind.CloseArray = 1
kind_number kind.OpenObject = 2
kind_number kind.CloseObject = 3
kind_number kind.Colon = 4
kind_number kind.Comma = 5
kind_number kind.String = 6
kind_number kind.Number = 7
kind_number kind.True = 8
kind_number kind.False = 9
kind_number kind.Null = 10

abbrev pub holders : List Holder
holders = holder.Array ∷ holder.Object ∷ holder.Bottom ∷ []

abbrev pub holder_number : Holder → ℕ
holder_number holder.Array = 0
holder_number holder.Object = 1
holder_number holder.Bottom = 2

abbrev pub entries : List Entry
entries =
    entry.Value ∷
    entry.ArrayFirst ∷
    entry.ObjectFirst ∷
    entry.Name ∷
    entry.Colon ∷
    entry.After ∷
    entry.ValueOrName ∷
    entry.AfterOrColon ∷
    []

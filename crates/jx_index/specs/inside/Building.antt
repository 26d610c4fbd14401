-- The rows of a text, made in one pass through the token starts and ends of its reading.
use Rattle.std.specs.Prelude.{ℕ, zero, suc, ◌+◌, List, [], ◌∷◌, ◌++◌, length, drop, slice_set, Option, None, Some, Bool, true, false, cond}
use Rattle.jx_lex.specs.declared.kind.Kind.{Kind}
use Rattle.jx_lex.specs.declared.kind.Kind.TheVariants as kind
use Rattle.jx_lex.specs.declared.alphabet.mark.Mark.{Mark}
use Rattle.jx_summary.specs.declared.span.Span.{Span}
use Rattle.jx_lex.specs.declared.alphabet.mark.MarkKind.{MarkKind}
use Rattle.jx_lex.specs.declared.alphabet.mark.MarkKind.TheVariants as mark
use Rattle.jx_lex.specs.Seen.{has_end}
use Rattle.jx_run.specs.Tree.{span}
use Rattle.jx_index.specs.declared.row.Row.{Row}
use Rattle.jx_index.specs.declared.builder.Opened.{Opened}

-- the rows so far, for each the number of the row after all that stands in it, the open containers, innermost first,
-- and a name whose value is still to come
pub record Building : Type 0 where
  pub rows : List Row
  pub after : List ℕ
  pub opened : List Opened
  pub name : Option Span

abbrev pub nothing_built : Building
nothing_built = record { rows = []; after = []; opened = []; name = None }

-- the parent of a next child of the innermost open container
abbrev pub parent_in : List Opened → Option ℕ
parent_in [] = None
parent_in (top ∷ outer) = Some top.row

abbrev pub child_place : List Opened → ℕ
child_place [] = 0
child_place (top ∷ outer) = top.count

-- with one more child in the innermost open container
abbrev pub counted : List Opened → List Opened
counted [] = []
counted (top ∷ outer) = record top { count = suc top.count } ∷ outer

abbrev pub next_row : Kind → Span → Building → Row
next_row kind span b = record { kind = kind; span = span; parent = parent_in b.opened; place = child_place b.opened; name = b.name }

abbrev pub one_after : Building → List ℕ
one_after b = b.after ++ ((length b.rows + 1) ∷ [])

-- a value of one token
abbrev pub add_leaf : Kind → Span → Building → Building
add_leaf kind span b =
    record { rows = b.rows ++ (next_row kind span b ∷ []); after = one_after b; opened = counted b.opened; name = None }

-- a container begins; its end and the number after it are set later
abbrev pub begin_container : Kind → Bool → ℕ → Building → Building
begin_container kind is_object at b =
    record {
      rows = b.rows ++ (next_row kind (span at (suc at)) b ∷ []);
      after = one_after b;
      opened = record { row = length b.rows; is_object = is_object; count = 0 } ∷ counted b.opened;
      name = None;
    }

abbrev pub with_end : ℕ → Row → Row
with_end end row = record row { span = span row.span.start end }

abbrev pub set_end : ℕ → ℕ → List Row → List Row
set_end number end [] = []
set_end zero end (row ∷ rows) = with_end end row ∷ rows
set_end (suc number) end (row ∷ rows) = row ∷ set_end number end rows

-- the innermost open container ends
abbrev pub end_container : ℕ → List Row → List ℕ → List Opened → Option Span → Building
end_container end rows after [] name = record { rows = rows; after = after; opened = []; name = name }
end_container end rows after (top ∷ outer) name =
    record { rows = set_end top.row end rows; after = slice_set after top.row (length rows); opened = outer; name = name }

abbrev pub ended : Building → ℕ → Building
ended b end = end_container end b.rows b.after b.opened b.name

-- a string is a name where a member of an object begins
abbrev pub is_name_next : List Opened → Option Span → Bool
is_name_next (top ∷ outer) None = top.is_object
is_name_next _ _ = false

abbrev pub add_string : Span → Building → Building
add_string span b = cond (is_name_next b.opened b.name) (record b { name = Some span }) (add_leaf kind.String span b)

-- a token start at an offset, and its end where it has one
abbrev pub on_mark : MarkKind → ℕ → ℕ → Building → Building
on_mark mark.OpenArray at end b = begin_container kind.Array false at b
on_mark mark.OpenObject at end b = begin_container kind.Object true at b
on_mark mark.CloseArray at end b = ended b (suc at)
on_mark mark.CloseObject at end b = ended b (suc at)
on_mark mark.Colon at end b = b
on_mark mark.Comma at end b = b
on_mark mark.String at end b = add_string (span at end) b
on_mark mark.Number at end b = add_leaf kind.Number (span at end) b
on_mark mark.True at end b = add_leaf kind.True (span at end) b
on_mark mark.False at end b = add_leaf kind.False (span at end) b
on_mark mark.Null at end b = add_leaf kind.Null (span at end) b

-- a token of this kind has an end of its own
abbrev pub is_token : MarkKind → Bool
is_token = has_end

-- the next token's end; a number that ends with the text has none
abbrev pub next_end : ℕ → List ℕ → ℕ
next_end last [] = last
next_end last (end ∷ ends) = end

abbrev pub ends_after : MarkKind → List ℕ → List ℕ
ends_after kind ends = cond (is_token kind) (drop 1 ends) ends

-- `last` is the end of the text
unfoldable pub make : ℕ → List Mark → List ℕ → Building → Building
make last [] ends b = b
make last (mark ∷ marks) ends b = make last marks (ends_after mark.kind ends) (on_mark mark.kind mark.at (next_end last ends) b)

abbrev pub built_of : ℕ → List Mark → List ℕ → Building
built_of last marks ends = make last marks ends nothing_built

-- Edits of rows, and that no container has more children than there are rows.
use Rattle.std.proofs.Common.{◌≡◌, ℕ, zero, suc, ◌<◌, ◌≤◌, List, [], ◌∷◌, ◌++◌, length, Bool, true, false, cond, refl, sym, ap, subst, arith, get_or, slice_set, Some, Option}
use Rattle.std.proofs.lemmas.List.{length-append}
use Rattle.jx_lex.specs.declared.kind.Kind.{Kind}
use Rattle.jx_lex.specs.declared.kind.Kind.TheVariants as kind
use Rattle.jx_summary.specs.declared.span.Span.{Span}
use Rattle.jx_lex.specs.declared.alphabet.mark.MarkKind.{MarkKind}
use Rattle.jx_lex.specs.declared.alphabet.mark.MarkKind.TheVariants as mark
use Rattle.jx_run.specs.Tree.{span}
use Rattle.jx_index.specs.declared.row.Row.{Row}
use Rattle.jx_index.specs.declared.builder.Opened.{Opened}
use Rattle.jx_index.specs.inside.Building.{Building, counted, next_row, add_leaf, begin_container, with_end, set_end, end_container, is_name_next, on_mark}
use Rattle.jx_index.specs.inside.Built.{AllWithin, Fits}

pub set_end-set : (rows : List Row) (n end : ℕ) (row : Row) → n < length rows → row ≡ get_or rows n row → slice_set rows n (with_end end row) ≡ set_end n end rows
set_end-set [] n end row h e = absurd (omega arith)
set_end-set (r ∷ rows) zero end row h e = ap (λ x. with_end end x ∷ rows) e
set_end-set (r ∷ rows) (suc n) end row h e = ap (λ x. r ∷ x) (set_end-set rows n end row (omega arith) e)

pub set_end-past : (rows : List Row) (n end : ℕ) → length rows ≤ n → rows ≡ set_end n end rows
set_end-past [] n end h = refl
set_end-past (r ∷ rows) zero end h = absurd (omega arith)
set_end-past (r ∷ rows) (suc n) end h = ap (λ x. r ∷ x) (set_end-past rows n end (omega arith))

set_end-length : (rows : List Row) (n end : ℕ) → length (set_end n end rows) ≡ length rows
set_end-length [] n end = refl
set_end-length (r ∷ rows) zero end = refl
set_end-length (r ∷ rows) (suc n) end = ap suc (set_end-length rows n end)

within_more : (n m : ℕ) (opened : List Opened) → n ≤ m → AllWithin n opened → AllWithin m opened
within_more n m [] le h = tt
within_more n m (top ∷ outer) le h = (omega (arith, h.0), within_more n m outer le h.1)

within_counted : (n : ℕ) (opened : List Opened) → AllWithin n opened → AllWithin (suc n) (counted opened)
within_counted n [] h = tt
within_counted n (top ∷ outer) h = (omega (arith, h.0), within_more n (suc n) outer (omega arith) h.1)

added : (b : Building) (row : Row) → Fits b → AllWithin (length (b.rows ++ (row ∷ []))) (counted b.opened)
added b row h =
    let e : suc (length b.rows) ≡ length (b.rows ++ (row ∷ [])) = omega (arith, length-append b.rows (row ∷ [])) in
    subst (λ n. AllWithin n (counted b.opened)) e (within_counted (length b.rows) b.opened h)

leaf_fits : (k : Kind) (s : Span) (b : Building) → Fits b → Fits (add_leaf k s b)
leaf_fits k s b h = added b (next_row k s b) h

begin_fits : (k : Kind) (is_object : Bool) (at : ℕ) (b : Building) → Fits b → Fits (begin_container k is_object at b)
begin_fits k is_object at b h = (omega arith, added b (next_row k (span at (suc at)) b) h)

end_fits : (rows : List Row) (after : List ℕ) (opened : List Opened) (name : Option Span) (end : ℕ) → AllWithin (length rows) opened → Fits (end_container end rows after opened name)
end_fits rows after [] name end h = tt
end_fits rows after (top ∷ outer) name end h = subst (λ n. AllWithin n outer) (sym (set_end-length rows top.row end)) h.1

string_fits : (c : Bool) (s : Span) (b : Building) → Fits b → Fits (cond c (record b { name = Some s }) (add_leaf kind.String s b))
string_fits true s b h = h
string_fits false s b h = leaf_fits kind.String s b h

pub mark_fits : (k : MarkKind) (at end : ℕ) (b : Building) → Fits b → Fits (on_mark k at end b)
mark_fits mark.OpenArray at end b h = begin_fits kind.Array false at b h
mark_fits mark.OpenObject at end b h = begin_fits kind.Object true at b h
mark_fits mark.CloseArray at end b h = end_fits b.rows b.after b.opened b.name (suc at) h
mark_fits mark.CloseObject at end b h = end_fits b.rows b.after b.opened b.name (suc at) h
mark_fits mark.Colon at end b h = h
mark_fits mark.Comma at end b h = h
mark_fits mark.String at end b h = string_fits (is_name_next b.opened b.name) (span at end) b h
mark_fits mark.Number at end b h = leaf_fits kind.Number (span at end) b h
mark_fits mark.True at end b h = leaf_fits kind.True (span at end) b h
mark_fits mark.False at end b h = leaf_fits kind.False (span at end) b h
mark_fits mark.Null at end b h = leaf_fits kind.Null (span at end) b h

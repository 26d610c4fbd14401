-- One row's line more.
use Rattle.std.proofs.Common.{◌≡◌, ℕ, suc, ◌+◌, ◌<◌, ◌≤◌, List, ◌++◌, length, drop, sym, ap, ◌∙◌, arith, get_or, drop-cons, append_assoc, append-nil}
use Rattle.std.proofs.Math.ListN.{drop_of_length-le}
use Rattle.jx_index.specs.declared.row.Row.{Row}
use Rattle.jx_report.specs.RowWords.{row_words, row_lines}
use Rattle.jx_words.specs.Words.{line}

pub rows_step : (i : ℕ) (table : List Row) (row d : Row) (out next : List ℕ) → i < length table → row ≡ get_or table i d
    → next ≡ out ++ line (row_words i row) → next ++ row_lines (i + 1) (drop (i + 1) table) ≡ out ++ row_lines i (drop i table)
unfolding row_lines
rows_step i table row d out next h is e =
    let rest : List ℕ = row_lines (suc i) (drop (suc i) table) in
    ap (λ (n : ℕ). next ++ row_lines n (drop n table)) (let s : i + 1 ≡ suc i = omega arith in s)
    ∙ ap (λ x. x ++ rest) (e ∙ ap (λ (r : Row). out ++ line (row_words i r)) is)
    ∙ append_assoc out (line (row_words i (get_or table i d))) rest
    ∙ sym (ap (λ (x : List Row). out ++ row_lines i x) (drop-cons table i d h))

pub rows_done : (i : ℕ) (table : List Row) (out : List ℕ) → length table ≤ i → out ++ row_lines i (drop i table) ≡ out
unfolding row_lines
rows_done i table out h = ap (λ (x : List Row). out ++ row_lines i x) (drop_of_length-le table h) ∙ append-nil out

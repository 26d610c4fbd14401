use Rattle.std.proofs.Common.{◌≡◌, ◌-◌, ap, arith, length, ℕ, List}
use Rattle.std.specs.Prelude.{slice_range}
use Rattle.std.specs.List.{flat_map}
use Rattle.jx_file_lines.specs.Spelling.{spelt_entry}
use Rattle.jx_file_lines.proofs.Decodings.{inner_is, spelt_long}
use Rattle.jx_file_lines.proofs.decoding.entries_in.Goals as goal

pub returns-then-inner-count-clause-only : goal.returns-then-inner-count-clause-only
returns-then-inner-count-clause-only c = λ i savable many is.
    let bytes = c.args.bytes.now in
    let l : length (slice_range bytes 24 (length bytes - 8)) ≡ length (flat_map spelt_entry i.entries.items) = ap (λ (xs : List ℕ). length xs) (inner_is i bytes is) in
    let h = spelt_long i.entries.items in
    let test = c.if-inner-count.true in
    absurd (omega (arith, l, h, test, many))

pub returns-then-inner-count-2-clause-only : goal.returns-then-inner-count-2-clause-only
returns-then-inner-count-2-clause-only c = λ i savable many is.
    let bytes = c.args.bytes.now in
    let l : length (slice_range bytes 24 (length bytes - 8)) ≡ length (flat_map spelt_entry i.entries.items) = ap (λ (xs : List ℕ). length xs) (inner_is i bytes is) in
    let h = spelt_long i.entries.items in
    let test = c.if-inner-count-2.true in
    absurd (omega (arith, l, h, test, many))

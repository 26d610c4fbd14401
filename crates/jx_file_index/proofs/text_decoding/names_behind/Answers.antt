use Rattle.std.proofs.Common.{◌≡◌, ◌+◌, ◌-◌, ◌≤◌, ◌++◌, List, ℕ, ap, arith, drop, false, length, refl, sym, take, ◌∙◌}
use Rattle.std.specs.Prelude.{IsTrue, slice_range}
use Rattle.std.specs.Int.{w64, to_le_bytes}
use Rattle.std.specs.List.{flat_map}
use Rattle.std.proofs.lemmas.List.{length-append}
use Rattle.std.proofs.lemmas.Result.{err_from_is_err_and}
use Rattle.jx_run.proofs.Tellings.{rest_of}
use Rattle.jx_file_index.specs.Digest.{xxh64}
use Rattle.jx_file_index.specs.TextSpelling.{names_tag, spelt_table, spelt_tables}
use Rattle.jx_file_index.proofs.TextDecodings.{names_front, names_rest}
use Rattle.jx_file_index.proofs.text_decoding.names_behind.Goals as goal

pub returns-in_err-read-clause-said : goal.returns-in_err-read-clause-said
returns-in_err-read-clause-said c =
    let p = err_from_is_err_and c.from_residual.result c.from_residual.ensures.1 in
    rw (p.1, p.2) (λ tagged. c.in_err-read.ensures.said c.args.bytes.now tagged)

pub returns-clause-only : goal.returns-clause-only
returns-clause-only c = λ i t long fits count is.
    let bytes = c.args.bytes.now in
    let rest = slice_range bytes c.args.len (length bytes) in
    let seal = to_le_bytes w64 (xxh64 (spelt_tables i t)) in
    let whole : rest ≡ names_tag ++ (flat_map spelt_table t.tables.items ++ seal) = rest_of bytes c.args.len c.requires.within ∙ names_rest bytes c.args.len i t long is in
    let more = flat_map spelt_table t.tables.items ++ seal in
    let l : length rest ≡ length (names_tag ++ more) = ap (λ (xs : List ℕ). length xs) whole in
    let a : length (names_tag ++ more) ≡ length names_tag + length more = length-append names_tag more in
    let tag : length names_tag ≡ 8 = refl in
    let eight : 8 ≤ length rest = omega (arith, l, a, tag) in
    let behind : slice_range rest 8 (length rest) ≡ flat_map spelt_table t.tables.items ++ seal = rest_of rest 8 eight ∙ ap (drop 8) whole in
    let r = c.in_ok-read.ensures.reads t.tables.items seal fits count behind in
    let front : slice_range bytes 0 (length bytes - 8) ≡ spelt_tables i t =
    ap (λ (n : ℕ). take n bytes) (let e : (length bytes - 8) - 0 ≡ length bytes - 8 = omega arith in e) ∙ names_front bytes i t is in
    let told : IsTrue c.is_sealed.result = c.is_sealed.ensures (r.1 ∙ ap (λ (xs : List ℕ). to_le_bytes w64 (xxh64 xs)) (sym front)) in
    let unlike : c.is_sealed.result ≡ false = c.if-is_sealed.false in
    absurd (cc)

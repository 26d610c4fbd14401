-- All of the index of a text fits its bytes.
use Rattle.std.proofs.Common.{ℕ, zero, suc, ◌*◌, ◌/◌, ◌%◌, ◌^◌, ◌<◌, ◌≤◌, List, [], ◌∷◌, ◌++◌, length, take, bit_xor, mod-lt, subst, sym, arith}
use Rattle.std.proofs.lemmas.List.Sums.{count_by-le-length, sum_by-take-le}
use Rattle.std.proofs.lemmas.Nat.{pow_pos, xor_lt}
use Rattle.std.proofs.Math.Nat.{div-le_self}
use Rattle.std.specs.List.{AllByRecursion}
use Rattle.jx_file_index.specs.Chunks.{IsChunkSize, IsCount, part}
use Rattle.jx_file_index.specs.Digest.{add, avalanche, bytes_after, half_after, mul, prime_2, prime_3, started, words_after, xxh64}
use Rattle.jx_file_lines.specs.declared.line_index.LineEntry.{LineEntry}
use Rattle.jx_file_lines.specs.declared.line_index.LineIndex.{LineIndex}
use Rattle.jx_file_lines.specs.Lines.{feeds_in, is_line_feed}
use Rattle.jx_file_lines.specs.Saved.{FitsEntry, IsSavable}
use Rattle.jx_file_lines.specs.TextLines.{IsLineIndexOf, entries_of, entry_at}
use Rattle.jx_file_lines.proofs.Starts.{one}

-- ---- a digest is a word

word_of : (x y : ℕ) → mul x y < 2 ^ 64
word_of x y = mod-lt (x * y) (pow_pos 64)

shaken : (y : ℕ) → y < 2 ^ 64 → bit_xor y (y / 2 ^ 32) < 2 ^ 64
shaken y low = let less : y / 2 ^ 32 ≤ y = div-le_self y (2 ^ 32) in xor_lt 64 y (y / 2 ^ 32) low (omega (arith, low, less))

avalanche_fits : (hash : ℕ) → avalanche hash < 2 ^ 64
avalanche_fits hash =
    let x : ℕ = mul (bit_xor hash (hash / 2 ^ 33)) prime_2 in
    shaken (mul (bit_xor x (x / 2 ^ 29)) prime_3) (word_of (bit_xor x (x / 2 ^ 29)) prime_3)

digest_fits : (bytes : List ℕ) → xxh64 bytes < 2 ^ 64
unfolding xxh64
digest_fits bytes =
    let words : ℕ = words_after bytes (length bytes / 32 * 32) (add (started bytes) (length bytes)) (length bytes % 32 / 8) in
    avalanche_fits (bytes_after bytes (length bytes / 4 * 4) (half_after bytes words) (length bytes % 4))

-- ---- entries

push_all : (es : List LineEntry) (e : LineEntry) → AllByRecursion FitsEntry es → FitsEntry e → AllByRecursion FitsEntry (es ++ e ∷ [])
push_all [] e all fits = (fits, tt)
push_all (x ∷ es) e all fits = (all.0, push_all es e all.1 fits)

entries_fit : (size : ℕ) (text : List ℕ) (n : ℕ) → length text < 2 ^ 64 → AllByRecursion FitsEntry (entries_of size text n)
unfolding entries_of
entries_fit size text zero low = tt
entries_fit size text (suc n) low =
    let front : feeds_in (take (suc n * size) text) ≤ feeds_in text = sum_by-take-le one text (suc n * size) in
    let count : feeds_in text ≤ length text = count_by-le-length is_line_feed text in
    push_all (entries_of size text n) (entry_at size text n) (entries_fit size text n low) (omega (arith, front, count, low), digest_fits (part size text n))

pub fits : (chunk : ℕ) (text : List ℕ) (index : LineIndex) → IsChunkSize chunk → index.size < 2 ^ 64 → IsLineIndexOf chunk text index → IsSavable index
fits chunk text index valid low is =
    let s = is.size_is in
    let n : ℕ = length index.entries.items in
    record {
      size = low;
      chunk = subst IsChunkSize (sym is.chunk_is) valid;
      counted = subst (λ (k : ℕ). IsCount index.chunk k n) (sym is.size_is) (subst (λ (k : ℕ). IsCount k (length text) n) (sym is.chunk_is) is.counted);
      entries = subst (λ (es : List LineEntry). AllByRecursion FitsEntry es) (sym is.entries_are) (entries_fit chunk text n (omega (arith, s, low)));
    }

-- What the bytes of an index of lines tell.
use Rattle.std.proofs.Common.{◌≡◌, ℕ, zero, suc, ◌+◌, ◌*◌, ◌-◌, ◌<◌, List, [], ◌∷◌, ◌++◌, length, take, drop, refl, ◌∙◌, ap, arith}
use Rattle.std.specs.Prelude.{slice_range}
use Rattle.std.specs.Int.{w32, w64, to_le_bytes}
use Rattle.std.specs.List.{AllByRecursion, flat_map}
use Rattle.std.proofs.lemmas.List.{length-append, take_at}
use Rattle.std.proofs.Math.Seq.{drop-append-add}
use Rattle.jx_file_index.specs.Digest.{xxh64}
use Rattle.jx_file_lines.specs.declared.line_index.LineEntry.{LineEntry}
use Rattle.jx_file_lines.specs.declared.line_index.LineIndex.{LineIndex}
use Rattle.jx_file_lines.specs.Saved.{FitsEntry, SaysSame}
use Rattle.jx_file_lines.specs.Spelling.{lines_tag, spelt_entry, spelt_front, spelt_lines}

pub entry_long : (e : LineEntry) → length (spelt_entry e) ≡ 16
entry_long e = refl

pub spelt_long : (es : List LineEntry) → length (flat_map spelt_entry es) ≡ 16 * length es
spelt_long [] = refl
spelt_long (e ∷ es) =
    let l : length (spelt_entry e ++ flat_map spelt_entry es) ≡ length (spelt_entry e) + length (flat_map spelt_entry es) = length-append (spelt_entry e) (flat_map spelt_entry es) in
    let h = spelt_long es in
    let f = entry_long e in
    omega (arith, l, h, f)

pub one_more : (es : List LineEntry) (n : ℕ) (e : LineEntry) → AllByRecursion FitsEntry es → n < length es
    → ((x : LineEntry) → FitsEntry x → slice_range (flat_map spelt_entry es) (16 * n) (16 * n + 16) ≡ spelt_entry x → e ≡ x) → take n es ++ e ∷ [] ≡ take (suc n) es
one_more [] n e fits low is = absurd (omega arith)
one_more (x ∷ es) zero e fits low is = ap (λ (y : LineEntry). y ∷ []) (is x fits.0 refl)
one_more (x ∷ es) (suc n) e fits low is =
    ap (λ (ys : List LineEntry). x ∷ ys)
    (one_more es n e fits.1 (omega arith)
    (λ y f h. is y f
    (ap (λ (k : ℕ). take ((16 * suc n + 16) - 16 * suc n) (drop k (spelt_entry x ++ flat_map spelt_entry es))) (let a : 16 * suc n ≡ length (spelt_entry x) + 16 * n = let f = entry_long x in omega (arith, f) in a)
    ∙ ap (take ((16 * suc n + 16) - 16 * suc n)) (drop-append-add (spelt_entry x) (flat_map spelt_entry es) (16 * n))
    ∙ ap (λ (k : ℕ). take k (drop (16 * n) (flat_map spelt_entry es))) (let a : (16 * suc n + 16) - 16 * suc n ≡ (16 * n + 16) - 16 * n = omega arith in a)
    ∙ h)))

-- ---- an index

pub front_long : (i : LineIndex) → length (spelt_front i) ≡ 24 + 16 * length i.entries.items
front_long i =
    let head : List ℕ = lines_tag ++ (to_le_bytes w64 i.size ++ (to_le_bytes w32 i.chunk ++ to_le_bytes w32 0)) in
    let l : length (spelt_front i) ≡ length head + length (flat_map spelt_entry i.entries.items) = length-append head (flat_map spelt_entry i.entries.items) in
    let n : length head ≡ 24 = refl in
    let h = spelt_long i.entries.items in
    omega (arith, l, n, h)

pub lines_long : (i : LineIndex) → length (spelt_lines i) ≡ 32 + 16 * length i.entries.items
lines_long i =
    let f = front_long i in
    let l : length (spelt_lines i) ≡ length (spelt_front i) + length (to_le_bytes w64 (xxh64 (spelt_front i))) = length-append (spelt_front i) (to_le_bytes w64 (xxh64 (spelt_front i))) in
    let e : length (to_le_bytes w64 (xxh64 (spelt_front i))) ≡ 8 = refl in
    omega (arith, f, l, e)

-- what stands between the head and the digest
pub inner_is : (i : LineIndex) (bytes : List ℕ) → bytes ≡ spelt_lines i → slice_range bytes 24 (length bytes - 8) ≡ flat_map spelt_entry i.entries.items
inner_is i bytes is =
    let es = flat_map spelt_entry i.entries.items in
    let seal = to_le_bytes w64 (xxh64 (spelt_front i)) in
    let n : length (spelt_lines i) - 8 - 24 ≡ length es = let l = lines_long i in let h = spelt_long i.entries.items in omega (arith, l, h) in
    let rest : drop 24 (spelt_lines i) ≡ es ++ seal = refl in
    ap (λ (xs : List ℕ). slice_range xs 24 (length xs - 8)) is
    ∙ ap (λ (k : ℕ). take k (drop 24 (spelt_lines i))) n
    ∙ ap (take (length es)) rest
    ∙ take_at es seal (length es) refl

-- the bytes, by the fields
abbrev front_by : ℕ → ℕ → List LineEntry → List ℕ
front_by size chunk es = lines_tag ++ (to_le_bytes w64 size ++ (to_le_bytes w32 chunk ++ (to_le_bytes w32 0 ++ flat_map spelt_entry es)))

pub same_spelt : (a b : LineIndex) → SaysSame a b → spelt_lines a ≡ spelt_lines b
same_spelt a b h =
    ap (λ (xs : List ℕ). xs ++ to_le_bytes w64 (xxh64 xs))
    (ap (λ (x : ℕ). front_by x a.chunk a.entries.items) h.size
    ∙ ap (λ (x : ℕ). front_by b.size x a.entries.items) h.chunk
    ∙ ap (λ (es : List LineEntry). front_by b.size b.chunk es) h.entries)

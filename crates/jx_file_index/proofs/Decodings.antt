-- What the bytes of an index tell.
use Rattle.std.proofs.Common.{◌≡◌, ℕ, zero, suc, ◌+◌, ◌*◌, ◌-◌, ◌<◌, ◌≤◌, List, [], ◌∷◌, ◌++◌, length, take, drop, refl, sym, ◌∙◌, ap, subst, arith}
use Rattle.std.specs.Prelude.{slice_range}
use Rattle.std.specs.Int.{w32, w64, to_le_bytes}
use Rattle.std.specs.List.{AllByRecursion, flat_map}
use Rattle.std.proofs.lemmas.List.{length-append, take_all}
use Rattle.std.proofs.Math.Nat.{mul-le-mul_right, suc-mul}
use Rattle.std.proofs.Math.Seq.{drop-append-add}
use Rattle.jx_file_index.specs.declared.entry.Entry.{Entry}
use Rattle.jx_file_index.specs.Chunks.{IsCount}
use Rattle.jx_run.specs.declared.texts.settings.Settings.{Settings}
use Rattle.jx_run.proofs.Tellings.{rest_of}
use Rattle.jx_file_index.specs.declared.index.Index.{Index}
use Rattle.jx_file_index.specs.Saved.{AreKept, at_top, level, FitsEntry, HasItsEntries, SaysSame}
use Rattle.jx_file_index.specs.Digest.{xxh64}
use Rattle.jx_file_index.specs.Spelling.{front_flags, spelt_entry, spelt_front, spelt_index, tag}

-- ---- entries

pub entry_long : (e : Entry) → length (spelt_entry e) ≡ 24
entry_long e = refl

pub entries_long : (es : List Entry) → length (flat_map spelt_entry es) ≡ 24 * length es
entries_long [] = refl
entries_long (e ∷ es) =
    let l : length (spelt_entry e ++ flat_map spelt_entry es) ≡ length (spelt_entry e) + length (flat_map spelt_entry es) = length-append (spelt_entry e) (flat_map spelt_entry es) in
    let h = entries_long es in
    let f = entry_long e in
    omega (arith, l, h, f)

pub one_more : (es : List Entry) (n : ℕ) (e : Entry) → AllByRecursion FitsEntry es → n < length es
    → ((x : Entry) → FitsEntry x → slice_range (flat_map spelt_entry es) (24 * n) (24 * n + 24) ≡ spelt_entry x → e ≡ x) → take n es ++ e ∷ [] ≡ take (suc n) es
one_more [] n e fits low is = absurd (omega arith)
one_more (x ∷ es) zero e fits low is = ap (λ (y : Entry). y ∷ []) (is x fits.0 refl)
one_more (x ∷ es) (suc n) e fits low is =
    ap (λ (ys : List Entry). x ∷ ys)
    (one_more es n e fits.1 (omega arith)
    (λ y f h. is y f
    (ap (λ (k : ℕ). take ((24 * suc n + 24) - 24 * suc n) (drop k (spelt_entry x ++ flat_map spelt_entry es))) (let a : 24 * suc n ≡ length (spelt_entry x) + 24 * n = let f = entry_long x in omega (arith, f) in a)
    ∙ ap (take ((24 * suc n + 24) - 24 * suc n)) (drop-append-add (spelt_entry x) (flat_map spelt_entry es) (24 * n))
    ∙ ap (λ (k : ℕ). take k (drop (24 * n) (flat_map spelt_entry es))) (let a : (24 * suc n + 24) - 24 * suc n ≡ (24 * n + 24) - 24 * n = omega arith in a)
    ∙ h)))

-- ---- counts

pub kept_more : (first total n above : ℕ) → ((k : ℕ) → AreKept n k → AreKept first (total + k)) → 1 < n → IsCount 64 n above → (k : ℕ) → AreKept above k → AreKept first ((total + n) + k)
kept_more first total n above so_far several counted k h =
    subst (λ (i : ℕ). AreKept first i) (let e : total + (n + k) ≡ (total + n) + k = omega arith in e) (so_far (n + k) (level several counted h))

less_not : (size long a b : ℕ) → IsCount size long a → IsCount size long b → a < b → ⊥
less_not size long a b p q low =
    let e = p.enough in
    let f = q.fewest in
    let m : suc a * size ≤ b * size = mul-le-mul_right size low in
    let s = suc-mul a size in
    omega (arith, e, f, m, s)

pub count_unique : (size long a b : ℕ) → IsCount size long a → IsCount size long b → a ≡ b
count_unique size long a b p q =
    let l : (a < b) → ⊥ = less_not size long a b p q in
    let r : (b < a) → ⊥ = less_not size long b a q p in
    grind (arith, l, r)

pub kept_unique : (n a b : ℕ) → AreKept n a → AreKept n b → a ≡ b
kept_unique n a b at_top at_top = refl
kept_unique n a b at_top (level several counted h) = absurd (omega arith)
kept_unique n a b (level several counted h) at_top = absurd (omega arith)
kept_unique n a b (level {above = u} {kept = k} several counted h) (level {above = v} {kept = l} others counts g) =
    let same : u ≡ v = count_unique 64 n u v counted counts in
    ap (λ (i : ℕ). n + i) (kept_unique v k l (subst (λ (i : ℕ). AreKept i k) same h) g)

-- ---- parts

pub all_taken : (n : ℕ) (xs : List ℕ) → length xs ≤ n → xs ≡ take n xs
all_taken n xs h = sym (take_all n xs h)

-- what stands behind the head
pub rest_is : (i : Index) (bytes : List ℕ) → 64 ≤ length bytes → bytes ≡ spelt_index i → slice_range bytes 64 (length bytes) ≡ flat_map spelt_entry i.entries.items
rest_is i bytes long is = rest_of bytes 64 long ∙ ap (drop 64) is

-- ---- an index

pub as_many : (i : Index) → HasItsEntries i → (size chunk n k : ℕ) → size ≡ i.size → chunk ≡ i.chunk → IsCount chunk size n → AreKept n k → k ≡ length i.entries.items
as_many i has size chunk n k s c counted kept =
    let same : n ≡ has.count = count_unique i.chunk i.size n has.count (subst (λ (x : ℕ). IsCount x i.size n) c (subst (λ (x : ℕ). IsCount chunk x n) s counted)) has.counted in
    kept_unique has.count k (length i.entries.items) (subst (λ (x : ℕ). AreKept x k) same kept) has.kept

-- as many bytes as its entries have
pub as_long : (i : Index) (rest : List ℕ) (k : ℕ) → k ≡ length i.entries.items → rest ≡ flat_map spelt_entry i.entries.items → length rest ≡ 24 * k
as_long i rest k is r = let l : length rest ≡ length (flat_map spelt_entry i.entries.items) = ap (λ (xs : List ℕ). length xs) r in let e = entries_long i.entries.items in omega (arith, l, e, is)

-- the bytes of a head, by its fields
abbrev front_by : ℕ → ℕ → ℕ → ℕ → Entry → List ℕ
front_by size chunk depth flags top = tag ++ (to_le_bytes w64 size ++ (to_le_bytes w32 chunk ++ (to_le_bytes w32 depth ++ (to_le_bytes w32 flags ++ (to_le_bytes w32 0 ++ spelt_entry top)))))

same_front : (a b : Index) → SaysSame a b → spelt_front a ≡ spelt_front b
same_front a b h =
    ap (λ (x : ℕ). front_by x a.chunk a.settings.depth (front_flags a.settings.mark a.settings.names) a.top) h.size
    ∙ ap (λ (x : ℕ). front_by b.size x a.settings.depth (front_flags a.settings.mark a.settings.names) a.top) h.chunk
    ∙ ap (λ (x : Settings). front_by b.size b.chunk x.depth (front_flags x.mark x.names) a.top) h.settings
    ∙ ap (λ (x : Entry). front_by b.size b.chunk b.settings.depth (front_flags b.settings.mark b.settings.names) x) h.top

pub same_spelt : (a b : Index) → SaysSame a b → spelt_index a ≡ spelt_index b
same_spelt a b h =
    ap (λ (xs : List ℕ). (xs ++ to_le_bytes w64 (xxh64 xs)) ++ flat_map spelt_entry a.entries.items) (same_front a b h)
    ∙ ap (λ (es : List Entry). (spelt_front b ++ to_le_bytes w64 (xxh64 (spelt_front b))) ++ flat_map spelt_entry es) h.entries

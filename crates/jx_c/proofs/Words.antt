-- Containers in words of bits.
use Rattle.std.proofs.Common.{◌≡◌, ℕ, zero, suc, ◌+◌, ◌-◌, ◌*◌, ◌/◌, ◌%◌, ◌^◌, ◌<◌, ◌≤◌, List, [], ◌∷◌, ◌++◌, length, take, drop, get_or, set, refl, sym, ◌∙◌, ap, arith, bit_and}
use Rattle.std.specs.Prelude.{reverse}
use Rattle.std.proofs.Math.Numerals.{add-one, sub-one}
use Rattle.std.proofs.Math.Nat.{div-add-mod, add-mul, two-pow-succ}
use Rattle.std.proofs.Math.Seq.{drop-append_seam}
use Rattle.std.proofs.lemmas.Nat.{and_mask, mod-mul-add}
use Rattle.std.proofs.lemmas.Nat.Bits.{ones_shr}
use Rattle.std.proofs.lemmas.List.{reverse-append, length-append, length-reverse, length-take, take_more_set, take_more}
use Rattle.jx_reduce.specs.Read.{top, without_top}
use Rattle.jx_reduce.specs.Bits.{holder_of, in_word, in_words}
use Rattle.jx_reduce.specs.Containers.{outer}
use Rattle.jx_reduce.specs.declared.table.holder.Holder.{Holder}
use Rattle.jx_reduce.specs.declared.table.holder.Holder.TheVariants.{Object}
use Rattle.jx_c.specs.Containers.{full_count, holders, inner_count}

-- ---- how many there are

length-in_word : (n b : ℕ) → length (in_word n b) ≡ n
unfolding in_word
length-in_word zero b = refl
length-in_word (suc n) b = omega (arith, length-in_word n (b / 2))

length-in_words : (ws : List ℕ) → length (in_words ws) ≡ length ws * 64
length-in_words [] = refl
length-in_words (w ∷ ws) = omega (arith, length-append (in_word 64 w) (in_words ws), length-in_word 64 w, length-in_words ws)

pub length-holders : (n b : ℕ) (ws : List ℕ) → n < 65536 → length ws ≡ 1024 → length (holders n b ws) ≡ n
length-holders n b ws few all =
    let full = take (full_count n) ws in
    omega (
      arith,
      length-append (in_word (inner_count n) b) (in_words (reverse full)),
      length-in_word (inner_count n) b,
      length-in_words (reverse full),
      length-reverse full,
      length-take (full_count n) ws,
    )

-- ---- the low bits of a word

halves : (b z r : ℕ) → z + z + r ≡ b → b / 2 ≡ z + r / 2
halves b z r e = omega arith

odd : (b z r : ℕ) → z + z + r ≡ b → b % 2 ≡ r % 2
odd b z r e = omega arith

low_half : (b m : ℕ) → 0 < m → (b % (m + m)) / 2 ≡ (b / 2) % m
low_half b m h =
    let q = b / (m + m) in
    let r = b % (m + m) in
    let e : m * q + m * q + r ≡ b = ap (λ (x : ℕ). x + r) (sym (add-mul m m q)) ∙ div-add-mod b (m + m) in
    let low : r < m + m = omega arith in
    let least : r / 2 < m = omega arith in
    let f : b / 2 ≡ q * m + r / 2 = omega (arith, halves b (m * q) r e) in
    sym (ap (λ (x : ℕ). x % m) f ∙ mod-mul-add q m (r / 2) least)

low_odd : (b m : ℕ) → 0 < m → (b % (m + m)) % 2 ≡ b % 2
low_odd b m h =
    let q = b / (m + m) in
    let e : m * q + m * q + b % (m + m) ≡ b = ap (λ (x : ℕ). x + b % (m + m)) (sym (add-mul m m q)) ∙ div-add-mod b (m + m) in
    sym (odd b (m * q) (b % (m + m)) e)

positive : (k : ℕ) → 0 < 2 ^ k
positive zero = omega arith
positive (suc k) = let p = positive k in rw (two-pow-succ k) (omega (arith, positive k))

-- a word's first containers stand in its low bits
low_bits : (k d b : ℕ) → in_word k (b % 2 ^ (k + d)) ≡ in_word k b
unfolding in_word
low_bits zero d b = refl
low_bits (suc k) d b =
    let m = 2 ^ (k + d) in
    let p : 2 ^ (suc k + d) ≡ m + m = ap (λ (x : ℕ). 2 ^ x) (omega arith) ∙ two-pow-succ (k + d) in
    ap (λ (z : ℕ). holder_of (b % z % 2) ∷ in_word k (b % z / 2)) p
    ∙ ap (λ (z : ℕ). holder_of z ∷ in_word k (b % (m + m) / 2)) (low_odd b m (positive (k + d)))
    ∙ ap (λ (z : ℕ). holder_of (b % 2) ∷ in_word k z) (low_half b m (positive (k + d)))
    ∙ ap (λ (l : List Holder). holder_of (b % 2) ∷ l) (low_bits k d (b / 2))

low_63 : (k b : ℕ) → k ≤ 63 → in_word k (b % 9223372036854775808) ≡ in_word k b
low_63 k b h = let e : 63 ≡ k + (63 - k) = omega arith in ap (λ (m : ℕ). in_word k (b % 2 ^ m)) e ∙ low_bits k (63 - k) b

-- ---- moves

pub holder_of-object : (n : ℕ) → (n ≡ 0 → ⊥) → holder_of n ≡ Object
holder_of-object zero h = absurd (h refl)
holder_of-object (suc n) h = refl

pub nothing : (n b : ℕ) (ws : List ℕ) → n ≡ 0 → holders n b ws ≡ []
unfolding in_word
nothing n b ws e = rw e refl

word_top : (k b : ℕ) (r : List Holder) → 0 < k → top (in_word k b ++ r) ≡ holder_of (b % 2)
unfolding in_word
word_top zero b r h = absurd (omega arith)
word_top (suc k) b r h = refl

word_less : (k b : ℕ) (r : List Holder) → 0 < k → in_word (k - 1) (b / 2) ++ r ≡ without_top (in_word k b ++ r)
unfolding in_word
word_less zero b r h = absurd (omega arith)
word_less (suc k) b r h = rw sub-one refl

word_more : (k b x : ℕ) (r : List Holder) → k ≤ 63 → x < 2 → in_word (k + 1) (b % 9223372036854775808 * 2 + x) ++ r ≡ holder_of x ∷ (in_word k b ++ r)
unfolding in_word
word_more k b x r h l =
    let low : (b % 9223372036854775808 * 2 + x) % 2 ≡ x = omega arith in
    let high : (b % 9223372036854775808 * 2 + x) / 2 ≡ b % 9223372036854775808 = omega arith in
    rw (add-one k, low, high) (ap (λ (s : List Holder). holder_of x ∷ (s ++ r)) (low_63 k b h))

-- one container alone in the innermost word
word_one : (v x : ℕ) (r : List Holder) → v % 2 ≡ x → in_word 1 v ++ r ≡ holder_of x ∷ r
unfolding in_word
word_one v x r low = rw low refl

-- the words, by how many containers are in the innermost one, and how many others are full
counted : (n k f b : ℕ) (ws : List ℕ) → inner_count n ≡ k → full_count n ≡ f → holders n b ws ≡ in_word k b ++ in_words (reverse (take f ws))
counted n k f b ws inner full =
    ap (λ (i : ℕ). in_word i b ++ in_words (reverse (take (full_count n) ws))) inner ∙ ap (λ (i : ℕ). in_word k b ++ in_words (reverse (take i ws))) full

pub inner_top : (n b : ℕ) (ws : List ℕ) → 0 < n → top (holders n b ws) ≡ holder_of (b % 2)
inner_top n b ws some = word_top (inner_count n) b _ (omega arith)

-- a container less, where others stay in the innermost word, or none is left
pub less_within : (n b : ℕ) (ws : List ℕ) → 0 < n → (n % 64 ≡ 1 → ⊥) → holders (n - 1) (b / 2) ws ≡ without_top (holders n b ws)
less_within n b ws some more =
    counted (n - 1) (inner_count n - 1) (full_count n) (b / 2) ws (omega arith) (omega arith) ∙ word_less (inner_count n) b _ (omega arith)

pub less_to_none : (n b c : ℕ) (ws : List ℕ) → n ≡ 1 → holders (n - 1) c ws ≡ without_top (holders n b ws)
unfolding in_word
less_to_none n b c ws e = rw e refl

-- a container less, where the word around is the innermost one then
pub less_over : (n b : ℕ) (ws : List ℕ) → (n ≡ 1 → ⊥) → n % 64 ≡ 1 → n < 65536 → length ws ≡ 1024 → holders (n - 1) (get_or ws (n / 64 - 1) 0) ws ≡ without_top (holders n b ws)
unfolding in_word
less_over n b ws more low few all =
    let f = n / 64 - 1 in
    let w = get_or ws f 0 in
    counted (n - 1) 64 f w ws (omega arith) (omega arith)
    ∙ sym (ap in_words (reverse-append (take f ws) (w ∷ [])))
    ∙ sym (ap (λ (xs : List ℕ). in_words (reverse xs)) (take_more ws f 0 (omega arith)))
    ∙ sym (ap without_top (counted n 1 (f + 1) b ws (omega arith) (omega arith)))

-- a container more, where the innermost word is not full
pub more_within : (n b x : ℕ) (ws : List ℕ) → inner_count n ≤ 63 → x < 2 → holders (n + 1) (b % 9223372036854775808 * 2 + x) ws ≡ holder_of x ∷ holders n b ws
more_within n b x ws h l =
    counted (n + 1) (inner_count n + 1) (full_count n) (b % 9223372036854775808 * 2 + x) ws (omega arith) (omega arith) ∙ word_more (inner_count n) b x _ h l

-- a container more, where it is full
pub more_over : (n b x : ℕ) (ws : List ℕ) → inner_count n ≡ 64 → n < 65536 → length ws ≡ 1024 → x < 2
    → holders (n + 1) (b % 9223372036854775808 * 2 + x) (set ws (n / 64 - 1) b) ≡ holder_of x ∷ holders n b ws
more_over n b x ws low few all l =
    let f = n / 64 - 1 in
    let v = b % 9223372036854775808 * 2 + x in
    counted (n + 1) 1 (f + 1) v (set ws f b) (omega arith) (omega arith)
    ∙ ap (λ (xs : List ℕ). in_word 1 v ++ in_words (reverse xs)) (take_more_set ws f b (omega arith))
    ∙ ap (λ (xs : List ℕ). in_word 1 v ++ in_words xs) (reverse-append (take f ws) (b ∷ []))
    ∙ word_one v x _ (omega arith)
    ∙ ap (λ (s : List Holder). holder_of x ∷ s) (sym (counted n 64 f b ws (omega arith) (omega arith)))

-- ---- the innermost word

pub masked : (k b : ℕ) → 0 < k → k ≤ 64 → bit_and b ((2 ^ 64 - 1) / 2 ^ (64 - k)) ≡ b % 2 ^ k
masked k b some h =
    let e : 64 - (64 - k) ≡ k = omega arith in
    ap (bit_and b) (ones_shr 64 (64 - k) (omega arith) ∙ ap (λ (m : ℕ). 2 ^ m - 1) e) ∙ and_mask b k

pub masked-lt : (k b : ℕ) → 0 < k → k ≤ 64 → bit_and b ((2 ^ 64 - 1) / 2 ^ (64 - k)) < 2 ^ k
masked-lt k b some h = let p = positive k in omega (arith, masked k b some h)

some_around : (n b : ℕ) (ws : List ℕ) → 0 < n → n < 65536 → length ws ≡ 1024 → outer (holders n b ws) ≡ in_words (reverse (take (full_count n) ws))
some_around n b ws some few all =
    let count : (length (holders n b ws) - 1) % 64 + 1 ≡ length (in_word (inner_count n) b) = omega (arith, length-holders n b ws few all, length-in_word (inner_count n) b) in
    ap (λ (k : ℕ). drop k (holders n b ws)) count ∙ drop-append_seam (in_word (inner_count n) b) (in_words (reverse (take (full_count n) ws)))

around : (n b : ℕ) (ws : List ℕ) → n < 65536 → length ws ≡ 1024 → outer (holders n b ws) ≡ in_words (reverse (take (full_count n) ws))
unfolding in_word
around zero b ws few all = refl
around (suc n) b ws few all = some_around (suc n) b ws (omega arith) few all

pub inner_is : (n b w : ℕ) (ws : List ℕ) → n < 65536 → length ws ≡ 1024 → w ≡ b % 2 ^ inner_count n → holders n b ws ≡ in_word (inner_count n) w ++ outer (holders n b ws)
inner_is n b w ws few all e =
    let k = inner_count n in
    let z : k + 0 ≡ k = omega arith in
    let low : in_word k w ≡ in_word k b = ap (in_word k) e ∙ ap (λ (m : ℕ). in_word k (b % 2 ^ m)) (sym z) ∙ low_bits k 0 b in
    ap (λ (l : List Holder). l ++ in_words (reverse (take (full_count n) ws))) (sym low) ∙ ap (λ (r : List Holder). in_word k w ++ r) (sym (around n b ws few all))

pub inner_put : (n b m w : ℕ) (ws : List ℕ) → n < 65536 → length ws ≡ 1024 → 0 < m → m ≤ 64 → holders (n - inner_count n + m) w ws ≡ in_word m w ++ outer (holders n b ws)
inner_put n b m w ws few all some low =
    counted (n - inner_count n + m) m (full_count n) w ws (omega arith) (omega arith) ∙ ap (λ (r : List Holder). in_word m w ++ r) (sym (around n b ws few all))

-- How many entries an index of a text has.
use Rattle.std.proofs.Common.{◌≡◌, ℕ, zero, suc, ◌+◌, ◌*◌, ◌<◌, ◌≤◌, List, [], ◌∷◌, ◌++◌, length, take, refl, sym, ap, subst, ◌∙◌, arith}
use Rattle.std.proofs.lemmas.List.{length-append, length-take-le, take-append-le, take_all}
use Rattle.std.proofs.Math.Nat.{suc-mul}
use Rattle.jx_run.specs.declared.texts.settings.Settings.{Settings}
use Rattle.jx_file_index.specs.declared.entry.Entry.{Entry}
use Rattle.jx_file_index.specs.declared.index.Index.{Index}
use Rattle.jx_file_index.specs.Chunks.{IsCount, before, entries_of, entry_behind, part}
use Rattle.jx_file_index.specs.Index.{AreLevels, at_top, joined_entry, joined_of, level, IsIndexOf}
use Rattle.jx_file_index.specs.Saved.{AreKept, HasItsEntries, HasItsLevels, SaysSame, at_top as kept_top, level as kept_level}
use Rattle.jx_file_index.proofs.Decodings.{count_unique}

one_more : (es : List Entry) (e : Entry) (n : ℕ) → length es ≡ n → length (es ++ e ∷ []) ≡ suc n
one_more es e n h = let l : length (es ++ e ∷ []) ≡ length es + length (e ∷ []) = length-append es (e ∷ []) in omega (arith, l, h)

joined_long : (es : List Entry) (n : ℕ) → length (joined_of es n) ≡ n
unfolding joined_of
joined_long es zero = refl
joined_long es (suc n) = one_more (joined_of es n) (joined_entry (part 64 es n)) n (joined_long es n)

entries_long : (settings : Settings) (size : ℕ) (text : List ℕ) (n : ℕ) → length (entries_of settings size text n) ≡ n
unfolding entries_of
entries_long settings size text zero = refl
entries_long settings size text (suc n) = one_more (entries_of settings size text n) (entry_behind (before settings text (n * size)) (part size text n)) n (entries_long settings size text n)

levels_kept : (es kept : List Entry) (top : Entry) → AreLevels es kept top → AreKept (length es) (length kept)
levels_kept es kept top at_top = kept_top
levels_kept es kept top (level {n = n} {rest = rest} several counted h) =
    subst (λ (k : ℕ). AreKept (length es) k) (sym (length-append es rest))
    (kept_level several counted (subst (λ (k : ℕ). AreKept k (length rest)) (joined_long es n) (levels_kept (joined_of es n) rest top h)))

levels_some : (es kept : List Entry) (top : Entry) → AreLevels es kept top → 0 < length es
levels_some es kept top at_top = omega arith
levels_some es kept top (level several counted h) = omega (arith, several)

some_bytes : (chunk long n : ℕ) → 0 < n → IsCount chunk long n → 0 < long
some_bytes chunk long zero h counted = absurd (omega (arith, h))
some_bytes chunk long (suc n) h counted =
    let f = counted.fewest in
    let m = suc-mul n chunk in
    omega (arith, f, m)

pub levels_had : (settings : Settings) (chunk : ℕ) (text : List ℕ) (index : Index) → IsIndexOf settings chunk text index → HasItsLevels index
levels_had settings chunk text index h =
    let es = entries_of settings chunk text h.count in
    let long : length es ≡ h.count = entries_long settings chunk text h.count in
    let some : 0 < h.count = subst (λ (n : ℕ). 0 < n) long (levels_some es index.entries.items index.top h.levels) in
    record {
      some = subst (λ (n : ℕ). 0 < n) (sym h.size_is) (some_bytes chunk (length text) h.count some h.counted);
      lowest = es;
      counted =
          subst (λ (n : ℕ). IsCount index.chunk index.size n) (sym long)
          (subst (λ (n : ℕ). IsCount index.chunk n h.count) (sym h.size_is) (subst (λ (c : ℕ). IsCount c (length text) h.count) (sym h.chunk_is) h.counted));
      levels = h.levels;
    }

pub entries_had : (i : Index) → HasItsLevels i → HasItsEntries i
entries_had i h = record { some = h.some; count = length h.lowest; counted = h.counted; kept = levels_kept h.lowest i.entries.items i.top h.levels }

-- ---- the lowest level

one_top : (es kept : List Entry) (top : Entry) → AreLevels es kept top → length kept < length es → es ≡ top ∷ []
one_top es kept top at_top low = refl
one_top es kept top (level {rest = rest} several counted h) low = absurd (omega (arith, length-append es rest, low))

first_level : (es kept : List Entry) (top : Entry) → AreLevels es kept top → length es ≤ length kept → take (length es) kept ≡ es
first_level es kept top at_top low = absurd (omega (arith, low))
first_level es kept top (level {rest = rest} several counted h) low = take-append-le (length es) es rest (omega arith) ∙ take_all (length es) es (omega arith)

kept_one : (n k : ℕ) → AreKept n k → k < n → n ≡ 1
kept_one n k kept_top low = refl
kept_one n k (kept_level several counted h) low = absurd (omega (arith, low))

-- what is taken for it: the top alone, or the first entries
module _ (i : Index) (has : HasItsEntries i) (count : ℕ) (counted : IsCount i.chunk i.size count) where
  same_count : (n : ℕ) → IsCount i.chunk i.size n → n ≡ count
  same_count n h = count_unique i.chunk i.size n count h counted

  pub top_counted : (xs : List Entry) → length i.entries.items < count → xs ≡ i.top ∷ [] → IsCount i.chunk i.size (length xs)
  top_counted xs low is =
      let one : has.count ≡ 1 = kept_one has.count (length i.entries.items) has.kept (let s = same_count has.count has.counted in omega (arith, s, low)) in
      subst (λ (n : ℕ). IsCount i.chunk i.size n) (one ∙ sym (ap (λ (ys : List Entry). length ys) is)) has.counted

  pub top_lowest : (xs es : List Entry) → length i.entries.items < count → xs ≡ i.top ∷ [] → IsCount i.chunk i.size (length es) → AreLevels es i.entries.items i.top → xs ≡ es
  top_lowest xs es low is h levels = is ∙ sym (one_top es i.entries.items i.top levels (let s = same_count (length es) h in omega (arith, s, low)))

  pub first_counted : (xs : List Entry) → count ≤ length i.entries.items → xs ≡ take count i.entries.items → IsCount i.chunk i.size (length xs)
  first_counted xs high is =
      subst (λ (n : ℕ). IsCount i.chunk i.size n) (sym (ap (λ (ys : List Entry). length ys) is ∙ length-take-le count i.entries.items high)) counted

  pub first_lowest : (xs es : List Entry) → count ≤ length i.entries.items → xs ≡ take count i.entries.items → IsCount i.chunk i.size (length es) → AreLevels es i.entries.items i.top → xs ≡ es
  first_lowest xs es high is h levels =
      let s = same_count (length es) h in
      is ∙ ap (λ (n : ℕ). take n i.entries.items) (sym s) ∙ first_level es i.entries.items i.top levels (omega (arith, s, high))

-- ---- the levels follow from the lowest

pub record SameLevels (one other : List Entry) (top last : Entry) : Type 0 where
  pub entries : one ≡ other
  pub tops : top ≡ last

pub levels_unique : (es one other : List Entry) (top last : Entry) → AreLevels es one top → AreLevels es other last → SameLevels one other top last
levels_unique es one other top last at_top at_top = record { entries = refl; tops = refl }
levels_unique es one other top last at_top (level several counted h) = absurd (omega (arith, several))
levels_unique es one other top last (level several counted h) at_top = absurd (omega (arith, several))
levels_unique es one other top last (level {n = n} {rest = rest} several counted h) (level {n = m} {rest = others} more counts g) =
    let same : n ≡ m = count_unique 64 (length es) n m counted counts in
    let s = levels_unique (joined_of es m) rest others top last (subst (λ (k : ℕ). AreLevels (joined_of es k) rest top) same h) g in
    record { entries = ap (λ (xs : List Entry). es ++ xs) s.entries; tops = s.tops }

-- an index with the levels of its lowest one says what another says that has them too
module _ (made read i : Index) (lowest : List Entry) (has : HasItsLevels i) (same : SaysSame read i)
    (is : (es : List Entry) → IsCount read.chunk read.size (length es) → AreLevels es read.entries.items read.top → lowest ≡ es) where
  lowest_is : lowest ≡ has.lowest
  lowest_is =
      is has.lowest
      (subst (λ (c : ℕ). IsCount c read.size (length has.lowest)) (sym same.chunk) (subst (λ (z : ℕ). IsCount i.chunk z (length has.lowest)) (sym same.size) has.counted))
      (subst (λ (t : Entry). AreLevels has.lowest read.entries.items t) (sym same.top) (subst (λ (es : List Entry). AreLevels has.lowest es i.top) (sym same.entries) has.levels))

  pub says_same : made.settings ≡ read.settings → made.chunk ≡ read.chunk → made.size ≡ read.size → AreLevels lowest made.entries.items made.top → SaysSame made i
  says_same s c z levels =
      let u = levels_unique has.lowest made.entries.items i.entries.items made.top i.top (subst (λ (es : List Entry). AreLevels es made.entries.items made.top) lowest_is levels) has.levels in
      record { settings = s ∙ same.settings; chunk = c ∙ same.chunk; size = z ∙ same.size; entries = u.entries; top = u.tops }

  pub some_lowest : length lowest ≡ 0 → ⊥
  some_lowest none =
      let l : length lowest ≡ length has.lowest = ap (λ (es : List Entry). length es) lowest_is in
      let s = levels_some has.lowest i.entries.items i.top has.levels in
      omega (arith, none, l, s)

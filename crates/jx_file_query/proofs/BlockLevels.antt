-- What the levels of an index tell of the blocks of a text.
use Rattle.std.proofs.Common.{◌≡◌, ℕ, zero, suc, ◌+◌, ◌*◌, ◌-◌, ◌<◌, ◌≤◌, min, List, [], ◌∷◌, ◌++◌, length, take, drop, refl, sym, ap, subst, ◌∙◌, append_assoc, append-nil, arith, Bool, Some, inl, inr, ◌⊎◌}
use Rattle.std.specs.Prelude.{fold, slice_get, ◌||◌}
use Rattle.std.specs.List.{list_any}
use Rattle.std.proofs.lemmas.Bool.{cases_lt}
use Rattle.std.proofs.lemmas.List.{drop-drop, length-drop, length-take, take_all}
use Rattle.std.proofs.lemmas.Option.{slice_get_within}
use Rattle.std.proofs.Math.Bool.{or-false, or_assoc}
use Rattle.std.proofs.Math.Nat.{add-mul, mul_assoc, mul-le-mul_right, suc-mul}
use Rattle.std.proofs.Math.Seq.{take-add}
use Rattle.jx_lex.specs.Lex.{Track}
use Rattle.jx_run.specs.declared.texts.settings.FrontMark.{FrontMark}
use Rattle.jx_run.specs.declared.texts.settings.Settings.{Settings}
use Rattle.jx_run.proofs.InTurn.{InPieces}
use Rattle.jx_file_index.specs.declared.entry.Entry.{Entry}
use Rattle.jx_file_index.specs.declared.sum.Sum.{Sum}
use Rattle.jx_file_index.specs.Chunks.{IsCount, before, entries_of, has_some, part}
use Rattle.jx_file_index.specs.Index.{AreLevels, at_top, level, joined_entry, joined_of}
use Rattle.jx_file_index.specs.Sums.{joined, sum_of}
use Rattle.jx_file_query.specs.inside.Blocks.{IsLevel, TellsOf}
use Rattle.jx_file_query.proofs.Chunkings.{entries_long, entry, entry_got, get_left, get_seam, one_more, part_taken}
use Rattle.jx_file_query.proofs.Joins.{behind_bytes, empty, join}
use Rattle.jx_file_query.proofs.TextParts.{goes_at}
use Rattle.jx_file_query.proofs.Standing.{Goes}

-- ---- elements of parts

got_drop : (n k : ℕ) (xs : List Entry) → slice_get (drop n xs) k ≡ slice_get xs (n + k)
got_drop zero k xs = ap (slice_get xs) (let e : k ≡ 0 + k = omega arith in e)
got_drop (suc n) k [] = refl
got_drop (suc n) k (x ∷ xs) = got_drop n k xs ∙ ap (slice_get (x ∷ xs)) (let e : suc (n + k) ≡ suc n + k = omega arith in e)

got_take : (n k : ℕ) (xs : List Entry) (e : Entry) → slice_get (take n xs) k ≡ Some e → slice_get xs k ≡ Some e
got_take zero k xs e h = absurd cc
got_take (suc n) k [] e h = h
got_take (suc n) zero (x ∷ xs) e h = h
got_take (suc n) (suc k) (x ∷ xs) e h = got_take n k xs e h

got_part : (size n k : ℕ) (xs : List Entry) (e : Entry) → slice_get (part size xs n) k ≡ Some e → slice_get xs (n * size + k) ≡ Some e
got_part size n k xs e h = sym (got_drop (n * size) k xs) ∙ got_take size k (drop (n * size) xs) e h

-- ---- the entry of neighbours

module _ (settings : Settings) (size : ℕ) (text : List ℕ) (goes : Goes settings.mark settings.depth text) (two : InPieces) where
  abbrev m : FrontMark
  m = settings.mark

  abbrev limit : ℕ
  limit = settings.depth

  abbrev bytes : ℕ → List ℕ
  bytes i = take (i * size) text

  abbrev pub Tells : ℕ → Entry → Type 0
  Tells i e = TellsOf (before settings text (i * size)) (part size text i) e

  -- each tells of its part, from a place on
  abbrev pub Tell : ℕ → List Entry → Type 0
  Tell i [] = Unit {0}
  Tell i (e ∷ es) = Tells i e × Tell (suc i) es

  pub all_tell : (i : ℕ) (es : List Entry) → ((k : ℕ) (e : Entry) → slice_get es k ≡ Some e → Tells (i + k) e) → Tell i es
  all_tell i [] each = tt
  all_tell i (e ∷ es) each = (
    subst (λ (k : ℕ). Tells k e) (let z : i + 0 ≡ i = omega arith in z) (each 0 e refl),
    all_tell (suc i) es (λ k x is. subst (λ (n : ℕ). Tells n x) (let z : i + suc k ≡ suc i + k = omega arith in z) (each (suc k) x is)),
  )

  -- the bytes of so many parts
  abbrev rest : ℕ → List Entry → List ℕ
  rest i es = take (length es * size) (drop (i * size) text)

  rest_none : (i : ℕ) → rest i [] ≡ []
  rest_none i = ap (λ (n : ℕ). take n (drop (i * size) text)) (let z : 0 * size ≡ 0 = omega arith in z)

  rest_more : (i : ℕ) (e : Entry) (es : List Entry) → rest i (e ∷ es) ≡ part size text i ++ rest (suc i) es
  rest_more i e es =
      ap (λ (n : ℕ). take n (drop (i * size) text)) (let f = suc-mul (length es) size in let z : suc (length es) * size ≡ size + length es * size = omega (arith, f) in z)
      ∙ take-add size (length es * size) (drop (i * size) text)
      ∙ ap (λ (xs : List ℕ). part size text i ++ take (length es * size) xs)
      (drop-drop size (i * size) text ∙ ap (λ (n : ℕ). drop n text) (let f = suc-mul i size in let z : i * size + size ≡ suc i * size = omega (arith, f) in z))

  abbrev behind : List ℕ → List ℕ → Track
  behind = behind_bytes m limit

  -- what neighbours come to behind the first bytes of a block
  record Come (xs first : List ℕ) (es : List Entry) (last : List ℕ) : Type 0 where
    sum : fold (λ s e. joined s e.sum) (sum_of (behind xs first).marks) es ≡ sum_of (behind xs (first ++ last)).marks
    begins : (has_some (behind xs first).marks || list_any (λ e. e.begins) es) ≡ has_some (behind xs (first ++ last)).marks
    ends : (has_some (behind xs first).ends || list_any (λ e. e.ends) es) ≡ has_some (behind xs (first ++ last)).ends

  come : (xs first : List ℕ) (i : ℕ) (es : List Entry) → Goes m limit xs → xs ++ first ≡ bytes i → Tell i es → Come xs first es (rest i es)
  come xs first i [] fine is tell =
      let same : first ≡ first ++ rest i [] = sym (ap (λ (ys : List ℕ). first ++ ys) (rest_none i) ∙ append-nil first) in
      record {
        sum = ap (λ (ys : List ℕ). sum_of (behind xs ys).marks) same;
        begins = or-false (has_some (behind xs first).marks) ∙ ap (λ (ys : List ℕ). has_some (behind xs ys).marks) same;
        ends = or-false (has_some (behind xs first).ends) ∙ ap (λ (ys : List ℕ). has_some (behind xs ys).ends) same;
      }
  come xs first i (e ∷ es) fine is tell =
      let one = part size text i in
      let told = tell.0 in
      let j = join m limit two xs first one fine (subst (Goes m limit) (sym is) (goes_at settings size text goes two i)) in
      let on : xs ++ (first ++ one) ≡ bytes (suc i) = sym (append_assoc xs first one) ∙ ap (λ (ys : List ℕ). ys ++ one) is ∙ part_taken size text i in
      let c = come xs (first ++ one) (suc i) es fine on tell.1 in
      let whole : (first ++ one) ++ rest (suc i) es ≡ first ++ rest i (e ∷ es) = append_assoc first one (rest (suc i) es) ∙ ap (λ (ys : List ℕ). first ++ ys) (sym (rest_more i e es)) in
      record {
        sum =
            ap (λ (s : Sum). fold (λ s e. joined s e.sum) (joined (sum_of (behind xs first).marks) s) es) (told.sum ∙ ap (λ (ys : List ℕ). sum_of (behind ys one).marks) (sym is))
            ∙ ap (λ (s : Sum). fold (λ s e. joined s e.sum) s es) (sym j.sum)
            ∙ c.sum ∙ ap (λ (ys : List ℕ). sum_of (behind xs ys).marks) whole;
        begins =
            sym (or_assoc (has_some (behind xs first).marks) e.begins (list_any (λ e. e.begins) es))
            ∙ ap (λ (b : Bool). (has_some (behind xs first).marks || b) || list_any (λ e. e.begins) es) (told.begins ∙ ap (λ (ys : List ℕ). has_some (behind ys one).marks) (sym is))
            ∙ ap (λ (b : Bool). b || list_any (λ e. e.begins) es) (sym j.begins)
            ∙ c.begins ∙ ap (λ (ys : List ℕ). has_some (behind xs ys).marks) whole;
        ends =
            sym (or_assoc (has_some (behind xs first).ends) e.ends (list_any (λ e. e.ends) es))
            ∙ ap (λ (b : Bool). (has_some (behind xs first).ends || b) || list_any (λ e. e.ends) es) (told.ends ∙ ap (λ (ys : List ℕ). has_some (behind ys one).ends) (sym is))
            ∙ ap (λ (b : Bool). b || list_any (λ e. e.ends) es) (sym j.ends)
            ∙ c.ends ∙ ap (λ (ys : List ℕ). has_some (behind xs ys).ends) whole;
      }

  -- the entry of neighbours tells of all their bytes
  neighbours : (i : ℕ) (es : List Entry) → 0 < length es → Tell i es → TellsOf (before settings text (i * size)) (rest i es) (joined_entry es)
  neighbours i [] some tell = absurd (omega (arith, some))
  neighbours i (e ∷ es) some tell =
      let c = come (bytes i) [] i (e ∷ es) (goes_at settings size text goes two i) (append-nil (bytes i)) tell in
      let none = empty m limit two (bytes i) (goes_at settings size text goes two i) in
      record {
        state = tell.0.state;
        expect = tell.0.expect;
        sum = ap (λ (s : Sum). fold (λ s e. joined s e.sum) s (e ∷ es)) (sym none.sum) ∙ c.sum;
        begins = ap (λ (b : Bool). b || list_any (λ e. e.begins) (e ∷ es)) (sym none.begins) ∙ c.begins;
        ends = ap (λ (b : Bool). b || list_any (λ e. e.ends) (e ∷ es)) (sym none.ends) ∙ c.ends;
      }

-- ---- a level above

pub joined_long : (es : List Entry) (n : ℕ) → length (joined_of es n) ≡ n
unfolding joined_of
joined_long es zero = refl
joined_long es (suc n) = one_more (joined_of es n) (joined_entry (part 64 es n)) n (joined_long es n)

joined_got : (es : List Entry) (n k : ℕ) → k < n → slice_get (joined_of es n) k ≡ Some (joined_entry (part 64 es k))
unfolding joined_of
joined_got es zero k low = absurd (omega (arith, low))
joined_got es (suc n) k low = pick (cases_lt k n) (λ lt. joined_got es n k lt)
  where
    pick : ((k < n) ⊎ (n ≤ k)) → (k < n → slice_get (joined_of es n) k ≡ Some (joined_entry (part 64 es k))) → slice_get (joined_of es n ++ joined_entry (part 64 es n) ∷ []) k ≡ Some (joined_entry (part 64 es k))
    pick (inl lt) got = get_left (joined_of es n) (joined_entry (part 64 es n) ∷ []) k (let l = joined_long es n in omega (arith, l, lt)) ∙ got lt
    pick (inr ge) got =
        let same : n ≡ k = omega (arith, low, ge) in
        let l = joined_long es n in
        get_seam (joined_of es n) (joined_entry (part 64 es n)) k (omega (arith, l, same)) ∙ ap (λ (i : ℕ). Some (joined_entry (part 64 es i))) same

-- so many parts of 64 each, or fewer that are all there are
taken : (size p : ℕ) (xs : List ℕ) → p ≤ 64 → (p < 64 → length xs ≤ p * size) → take (p * size) xs ≡ take (64 * size) xs
taken size p xs most short = pick (cases_lt p 64)
  where
    pick : ((p < 64) ⊎ (64 ≤ p)) → take (p * size) xs ≡ take (64 * size) xs
    pick (inl lt) =
        let s = short lt in
        let w : p * size ≤ 64 * size = mul-le-mul_right size most in
        take_all (p * size) xs (omega (arith, s)) ∙ sym (take_all (64 * size) xs (omega (arith, s, w)))
    pick (inr ge) = ap (λ (n : ℕ). take (n * size) xs) (let e : p ≡ 64 = omega (arith, most, ge) in e)

module _ (settings : Settings) (size : ℕ) (text : List ℕ) (goes : Goes settings.mark settings.depth text) (two : InPieces) (es : List Entry) (n : ℕ) (below : IsLevel settings size text es) (parts : IsCount 64 (length es) n) where
  abbrev block : ℕ → List Entry
  block k = part 64 es k

  long_block : (k : ℕ) → length (block k) ≡ min 64 (length es - k * 64)
  long_block k = length-take 64 (drop (k * 64) es) ∙ ap (min 64) (length-drop (k * 64) es)

  block_tells : (k : ℕ) → k < n → TellsOf (before settings text (k * (64 * size))) (part (64 * size) text k) (joined_entry (block k))
  block_tells k low =
      let few = parts.fewest in
      let long = long_block k in
      let p = length (block k) in
      let some : 0 < p = omega (arith, few, low, long) in
      let most : p ≤ 64 = omega (arith, long) in
      let tell = all_tell settings size text goes two (k * 64) (block k) (λ j e is. below.each (k * 64 + j) e (got_part 64 k j es e is)) in
      let from : (k * 64) * size ≡ k * (64 * size) = mul_assoc k 64 size in
      let short : p < 64 → length (drop ((k * 64) * size) text) ≤ p * size =
      λ lt.
      let all : length es ≡ k * 64 + p = omega (arith, long, lt, some) in
      let enough = below.counted.enough in
      let split : (k * 64 + p) * size ≡ (k * 64) * size + p * size = add-mul (k * 64) p size in
      let whole : length es * size ≡ (k * 64 + p) * size = ap (λ (i : ℕ). i * size) all in
      let l : length (drop ((k * 64) * size) text) ≡ length text - (k * 64) * size = length-drop ((k * 64) * size) text in
      omega (arith, enough, split, whole, l) in
      subst (λ (i : ℕ). TellsOf (before settings text i) (take (64 * size) (drop i text)) (joined_entry (block k))) from
      (subst (λ (ys : List ℕ). TellsOf (before settings text ((k * 64) * size)) ys (joined_entry (block k))) (taken size p (drop ((k * 64) * size) text) most short)
      (neighbours settings size text goes two (k * 64) (block k) some tell))

  pub joined_level : IsLevel settings (64 * size) text (joined_of es n)
  joined_level = record {
    counted =
        let l = joined_long es n in
        let same : length (joined_of es n) * (64 * size) ≡ (n * 64) * size = ap (λ (i : ℕ). i * (64 * size)) l ∙ sym (mul_assoc n 64 size) in
        let enough = below.counted.enough in
        let fewest = below.counted.fewest in
        let most = parts.enough in
        let few = parts.fewest in
        let up : length es * size ≤ (n * 64) * size = mul-le-mul_right size most in
        let down : (n * 64) * size ≤ (length es + 63) * size = mul-le-mul_right size (omega (arith, few)) in
        let split : (length es + 63) * size ≡ length es * size + 63 * size = add-mul (length es) 63 size in
        record { enough = omega (arith, same, enough, up); fewest = omega (arith, same, fewest, down, split) };
    each = λ k e is.
        let l = joined_long es n in
        let within = slice_get_within (joined_of es n) k e is in
        let low : k < n = omega (arith, l, within) in
        let both : Some e ≡ Some (joined_entry (block k)) = sym is ∙ joined_got es n k low in
        let same : joined_entry (block k) ≡ e = cc in
        subst (λ (x : Entry). TellsOf (before settings text (k * (64 * size))) (part (64 * size) text k) x) same (block_tells k low);
  }

-- ---- the lowest level, and where entries of a level stand

pub lowest_level : (settings : Settings) (size : ℕ) (text : List ℕ) (n : ℕ) → IsCount size (length text) n → IsLevel settings size text (entries_of settings size text n)
lowest_level settings size text n counted = record {
  counted = subst (λ (k : ℕ). IsCount size (length text) k) (sym (entries_long settings size text n)) counted;
  each = λ k e is.
      let l = entries_long settings size text n in
      let within = slice_get_within (entries_of settings size text n) k e is in
      let both : Some e ≡ Some (entry settings size text k) = sym is ∙ entry_got settings size text n k (omega (arith, l, within)) in
      let same : e ≡ entry settings size text k = cc in
      record {
        state = ap (λ (x : Entry). x.state) same;
        expect = ap (λ (x : Entry). x.expect) same;
        sum = ap (λ (x : Entry). x.sum) same;
        begins = ap (λ (x : Entry). x.begins) same;
        ends = ap (λ (x : Entry). x.ends) same;
      };
}

-- a level of several entries stands in front of those above it
pub record Above (es kept : List Entry) (top : Entry) : Type 0 where
  pub count : ℕ
  pub rest : List Entry
  pub kept_is : kept ≡ es ++ rest
  pub counted : IsCount 64 (length es) count
  pub levels : AreLevels (joined_of es count) rest top

pub above : (es kept : List Entry) (top : Entry) → AreLevels es kept top → 1 < length es → Above es kept top
above es kept top at_top several = absurd (omega (arith, several))
above es kept top (level {n = n} {rest = rest} more counted levels) several = record { count = n; rest = rest; kept_is = refl; counted = counted; levels = levels }

-- an entry of such a level
pub entry_in : (es kept : List Entry) (top e : Entry) (start n : ℕ) → AreLevels es (drop start kept) top → suc n < length es → slice_get kept (start + n) ≡ Some e → slice_get es n ≡ Some e
entry_in es kept top e start n levels low is =
    let a = above es (drop start kept) top levels (omega (arith, low)) in
    sym (get_left es a.rest n (omega (arith, low))) ∙ ap (λ (xs : List Entry). slice_get xs n) (sym a.kept_is) ∙ got_drop start n kept ∙ is

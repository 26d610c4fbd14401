-- The names of one chunk more, and blocks that have all their chunks.
use Rattle.std.proofs.Common.{◌≡◌, ℕ, zero, suc, ◌+◌, ◌/◌, ◌%◌, ◌<◌, ◌≤◌, ◌⊎◌, inl, inr, List, [], ◌∷◌, ◌++◌, length, map, refl, sym, ap, subst, ◌∙◌, arith, true, false, None, Some}
use Rattle.std.specs.Prelude.{All, Contains, slice_get}
use Rattle.std.specs.List.Sorted.{IsNonDecreasing, IsPermutation}
use Rattle.std.proofs.lemmas.Bool.{cases_lt}
use Rattle.std.proofs.lemmas.List.{length-append}
use Rattle.std.proofs.lemmas.List.Elements.{All-cons, All-nil, All-weaker, Contains-append_left, Contains-append_right}
use Rattle.std.proofs.lemmas.List.Sorted.{Contains-permutation}
use Rattle.std.proofs.lemmas.Option.{slice_get_within}
use Rattle.jx_file_index.specs.Chunks.{IsCount}
use Rattle.jx_file_index.specs.declared.name_tables.NameTable.{NameTable}
use Rattle.jx_file_index.specs.declared.name_tables.NameTables.{NameTables}
use Rattle.jx_file_index.specs.NameHash.{name_hash}
use Rattle.jx_file_index.specs.NameTables.{AreRising, IsTableOf, key_of}
use Rattle.jx_file_build.specs.declared.blocks.Blocks.{Blocks}
use Rattle.jx_file_build.specs.declared.blocks.OpenBlock.{OpenBlock}
use Rattle.jx_file_build.specs.inside.NameBlocks.{AreBlocksOf, AreBlockTables, AreFilled, HasBlock}

abbrev Names : Type 0
Names = List (List (List ℕ))

-- ---- an element of a list that grew

got_cases : {A : Type 0} (xs : List A) (y x : A) (i : ℕ) → slice_get (xs ++ y ∷ []) i ≡ Some x → (slice_get xs i ≡ Some x) ⊎ ((i ≡ length xs) × (y ≡ x))
got_cases [] y x zero h = inr (refl, cc)
got_cases [] y x (suc i) h = absurd cc
got_cases (z ∷ xs) y x zero h = inl h
got_cases (z ∷ xs) y x (suc i) h = elim (got_cases xs y x i h) [
  | inl got ↦ inl got
  | inr last ↦ inr (ap suc last.0, last.1)
]

one_longer : {A : Type 0} (xs : List A) (y : A) → length (xs ++ y ∷ []) ≡ suc (length xs)
one_longer xs y = length-append xs (y ∷ []) ∙ (let e : length xs + 1 ≡ suc (length xs) = omega arith in e)

-- ---- the keys of a chunk's names

has_keys : (chunk : ℕ) (own : List (List ℕ)) → All (λ (units : List ℕ). Contains (map (λ hash. key_of hash chunk) (map name_hash own)) (key_of (name_hash units) chunk)) own
has_keys chunk [] = All-nil (λ (units : List ℕ). Contains (map (λ hash. key_of hash chunk) (map name_hash [])) (key_of (name_hash units) chunk))
has_keys chunk (units ∷ own) =
    let rest = map (λ hash. key_of hash chunk) (map name_hash own) in
    let first = key_of (name_hash units) chunk in
    All-cons (λ (xs : List ℕ). Contains (first ∷ rest) (key_of (name_hash xs) chunk)) units own (0, omega arith, refl)
    (All-weaker (λ (xs : List ℕ). Contains rest (key_of (name_hash xs) chunk)) (λ (xs : List ℕ). Contains (first ∷ rest) (key_of (name_hash xs) chunk))
    (λ xs h. Contains-append_right (first ∷ []) rest (key_of (name_hash xs) chunk) h) own (has_keys chunk own))

-- what a search wants of keys that a sort gave
pub rising_of : (keys : List ℕ) → IsNonDecreasing keys → AreRising keys
rising_of keys h i j order low = h i j 0 order low

module _ (names : Names) (own : List (List ℕ)) (b : Blocks) (h : AreBlocksOf names b) (hashes : List ℕ) (hashes_are : hashes ≡ map name_hash own) (block_open : OpenBlock)
    (grown : block_open.is_full ≡ false → (b.open.is_full ≡ false) × (block_open.keys.items ≡ b.open.keys.items ++ map (λ hash. key_of hash b.chunks) hashes)) where
  abbrev count : ℕ
  count = length names

  abbrev more : Names
  more = names ++ own ∷ []

  long : length more ≡ suc count
  long = one_longer names own

  -- the block in which the chunk stands
  block_more : block_open.is_full ≡ false → HasBlock more (count / 64) block_open.keys.items
  block_more room n other at got = elim (got_cases names own other n got) [
    | inl was ↦
        All-weaker (λ (units : List ℕ). Contains b.open.keys.items (key_of (name_hash units) n)) (λ (units : List ℕ). Contains block_open.keys.items (key_of (name_hash units) n))
        (λ units has. subst (λ (ks : List ℕ). Contains ks (key_of (name_hash units) n)) (sym keys_are) (Contains-append_left b.open.keys.items new_keys (key_of (name_hash units) n) has))
        other (h.keys (grown room).0 n other at was)
    | inr last ↦
        subst (λ (i : ℕ). All (λ (units : List ℕ). Contains block_open.keys.items (key_of (name_hash units) i)) other) (sym last.0)
        (subst (λ (xs : List (List ℕ)). All (λ (units : List ℕ). Contains block_open.keys.items (key_of (name_hash units) count)) xs) last.1
        (All-weaker (λ (units : List ℕ). Contains (map (λ hash. key_of hash count) (map name_hash own)) (key_of (name_hash units) count))
        (λ (units : List ℕ). Contains block_open.keys.items (key_of (name_hash units) count))
        (λ units has. subst (λ (ks : List ℕ). Contains ks (key_of (name_hash units) count)) (sym keys_are)
        (Contains-append_right b.open.keys.items new_keys (key_of (name_hash units) count)
        (subst (λ (ks : List ℕ). Contains ks (key_of (name_hash units) count)) (sym new_are) has)))
        own (has_keys count own)))
  ]
    where
      new_keys : List ℕ
      new_keys = map (λ hash. key_of hash b.chunks) hashes

      keys_are : block_open.keys.items ≡ b.open.keys.items ++ new_keys
      keys_are = (grown room).1

      new_are : new_keys ≡ map (λ hash. key_of hash count) (map name_hash own)
      new_are = ap (λ (xs : List ℕ). map (λ hash. key_of hash b.chunks) xs) hashes_are ∙ ap (λ (i : ℕ). map (λ hash. key_of hash i) (map name_hash own)) h.chunks

  -- tables of earlier blocks stay
  table_stays : (block : ℕ) (keys : List ℕ) → block < count / 64 → IsTableOf names block keys → IsTableOf more block keys
  table_stays block keys low t = record {
    rising = t.rising;
    has = λ n other at got. elim (got_cases names own other n got) [
      | inl was ↦ t.has n other at was
      | inr last ↦ let e = last.0 in absurd (omega (arith, low, at, e))
    ];
  }

  tables_stay : (block : ℕ) (table : NameTable) → slice_get b.tables.items block ≡ Some table → table.is_kept ≡ true → IsTableOf more block table.keys.items
  tables_stay block table got kept =
      let within = slice_get_within b.tables.items block table got in
      let p = h.place in
      table_stays block table.keys.items (omega (arith, within, p)) (h.tables block table got kept)

  -- the block has fewer chunks
  pub stays_open : (next : ℕ) (all : List NameTable) → all ≡ b.tables.items → next ≡ b.chunks + 1 → ((next % 64 ≡ 0) → ⊥) → AreFilled more all block_open next
  stays_open next all all_is is part =
      let c = h.chunks in
      let p = h.place in
      let whole : next ≡ length more = omega (arith, is, c, long) in
      let same : length more / 64 ≡ count / 64 = pick (cases_lt 0 (next % 64)) whole in
      record {
        chunks = whole;
        place = ap (λ (ts : List NameTable). length ts) all_is ∙ p ∙ sym same;
        tables = λ block table got. tables_stay block table (ap (λ (ts : List NameTable). slice_get ts block) (sym all_is) ∙ got);
        keys = λ room. subst (λ (i : ℕ). HasBlock more i block_open.keys.items) (sym same) (block_more room);
      }
    where
      pick : ((0 < next % 64) ⊎ (next % 64 ≤ 0)) → next ≡ length more → length more / 64 ≡ count / 64
      pick (inl some) whole = omega (arith, some, whole, long)
      pick (inr zero_is) whole = absurd (part (omega (arith, zero_is)))

  -- the block is whole, and has this table
  module _ (table : NameTable) (kept : table.is_kept ≡ true → block_open.is_full ≡ false) (rising : AreRising table.keys.items) (same_keys : IsPermutation block_open.keys.items table.keys.items) where
    table_is : table.is_kept ≡ true → IsTableOf more (count / 64) table.keys.items
    table_is all = record {
      rising = rising;
      has = λ n other at got.
          All-weaker (λ (units : List ℕ). Contains block_open.keys.items (key_of (name_hash units) n)) (λ (units : List ℕ). Contains table.keys.items (key_of (name_hash units) n))
          (λ units has. Contains-permutation block_open.keys.items table.keys.items (key_of (name_hash units) n) same_keys has) other (block_more (kept all) n other at got);
    }

    pub stays_whole : (next : ℕ) (all : List NameTable) (new : OpenBlock) → all ≡ b.tables.items ++ table ∷ [] → next ≡ b.chunks + 1 → next % 64 ≡ 0 → new.keys.items ≡ [] → AreFilled more all new next
    stays_whole next all new all_is is whole none =
        let c = h.chunks in
        let p = h.place in
        let last : next ≡ length more = omega (arith, is, c, long) in
        let up : length more / 64 ≡ suc (count / 64) = omega (arith, whole, last, long) in
        record {
          chunks = last;
          place = ap (λ (ts : List NameTable). length ts) all_is ∙ one_longer b.tables.items table ∙ ap suc p ∙ sym up;
          tables = λ block other got all_kept. elim (got_cases b.tables.items table other block (ap (λ (ts : List NameTable). slice_get ts block) (sym all_is) ∙ got)) [
            | inl was ↦ tables_stay block other was all_kept
            | inr here ↦
                subst (λ (i : ℕ). IsTableOf more i other.keys.items) (sym (here.0 ∙ p))
                (subst (λ (t : NameTable). IsTableOf more (count / 64) t.keys.items) here.1 (table_is (ap (λ (t : NameTable). t.is_kept) here.1 ∙ all_kept)))
          ];
          keys = λ room n other at got. let low = slice_get_within more n other got in absurd (omega (arith, at, low, whole, last));
        }

-- ---- the first chunk, and the last

pub none_filled : (tables : List NameTable) (block_open : OpenBlock) → tables ≡ [] → AreFilled [] tables block_open 0
none_filled tables block_open none = record {
  chunks = refl;
  place = ap (λ (ts : List NameTable). length ts) none;
  tables = λ block table got kept. let no : None ≡ Some table = ap (λ (ts : List NameTable). slice_get ts block) (sym none) ∙ got in absurd cc;
  keys = λ room n own at got. absurd cc;
}

module _ (names : Names) (b : Blocks) (h : AreBlocksOf names b) where
  -- all blocks have all their chunks
  pub tables_whole : (t : NameTables) → t.tables.items ≡ b.tables.items → b.chunks % 64 ≡ 0 → AreBlockTables names t
  tables_whole t same whole =
      let c = h.chunks in
      let p = h.place in
      let l : length t.tables.items ≡ length b.tables.items = ap (λ (ts : List NameTable). length ts) same in
      record {
        counted = record { enough = omega (arith, whole, c, p, l); fewest = omega (arith, whole, c, p, l) };
        each = λ block table got. h.tables block table (ap (λ (ts : List NameTable). slice_get ts block) (sym same) ∙ got);
      }

  -- the last has not
  pub tables_part : (t : NameTables) (table : NameTable) → t.tables.items ≡ b.tables.items ++ table ∷ [] → (b.chunks % 64 ≡ 0 → ⊥)
      → (table.is_kept ≡ true → b.open.is_full ≡ false) → AreRising table.keys.items → IsPermutation b.open.keys.items table.keys.items → AreBlockTables names t
  tables_part t table same part kept rising same_keys =
      let c = h.chunks in
      let p = h.place in
      let l : length t.tables.items ≡ suc (length b.tables.items) = ap (λ (ts : List NameTable). length ts) same ∙ one_longer b.tables.items table in
      record {
        counted = pick (cases_lt 0 (b.chunks % 64)) c p l;
        each = λ block other got all_kept. elim (got_cases b.tables.items table other block (ap (λ (ts : List NameTable). slice_get ts block) (sym same) ∙ got)) [
          | inl was ↦ h.tables block other was all_kept
          | inr here ↦
              subst (λ (i : ℕ). IsTableOf names i other.keys.items) (sym (here.0 ∙ p))
              (subst (λ (x : NameTable). IsTableOf names (length names / 64) x.keys.items) here.1 (table_is (ap (λ (x : NameTable). x.is_kept) here.1 ∙ all_kept)))
        ];
      }
    where
      pick : ((0 < b.chunks % 64) ⊎ (b.chunks % 64 ≤ 0)) → b.chunks ≡ length names → length b.tables.items ≡ length names / 64 → length t.tables.items ≡ suc (length b.tables.items) → IsCount 64 (length names) (length t.tables.items)
      pick (inl some) c p l = record { enough = omega (arith, some, c, p, l); fewest = omega (arith, some, c, p, l) }
      pick (inr zero_is) c p l = absurd (part (omega (arith, zero_is)))

      table_is : table.is_kept ≡ true → IsTableOf names (length names / 64) table.keys.items
      table_is all = record {
        rising = rising;
        has = λ n other at got.
            All-weaker (λ (units : List ℕ). Contains b.open.keys.items (key_of (name_hash units) n)) (λ (units : List ℕ). Contains table.keys.items (key_of (name_hash units) n))
            (λ units has. Contains-permutation b.open.keys.items table.keys.items (key_of (name_hash units) n) same_keys has) other (h.keys (kept all) n other at got);
      }

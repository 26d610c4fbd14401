-- What the bytes of tables tell.
use Rattle.std.proofs.Common.{◌≡◌, ℕ, zero, suc, ◌+◌, ◌*◌, ◌-◌, ◌<◌, ◌≤◌, List, [], ◌∷◌, ◌++◌, length, take, drop, refl, sym, ◌∙◌, ap, subst, append_assoc, arith, Bool, true, false, Option, None, Some}
use Rattle.std.specs.Prelude.{slice_range}
use Rattle.std.specs.Int.{w32, w64, to_le_bytes}
use Rattle.std.specs.List.{AllByRecursion, flat_map}
use Rattle.std.proofs.lemmas.List.{length-append, take_all}
use Rattle.std.proofs.Math.Seq.{drop-append-add, drop-append_seam, take-append_seam}
use Rattle.jx_file_index.specs.declared.index.Index.{Index}
use Rattle.jx_file_index.specs.Digest.{xxh64}
use Rattle.jx_file_index.specs.Saved.{IsSavable, SaysSame}
use Rattle.jx_file_index.specs.Spelling.{spelt_index}
use Rattle.jx_run.proofs.Tellings.{rest_of}
use Rattle.jx_file_index.specs.Chunks.{IsCount}
use Rattle.jx_file_index.proofs.Decodings.{count_unique, same_spelt}
use Rattle.jx_file_index.specs.declared.name_tables.NameTable.{NameTable}
use Rattle.jx_file_index.specs.declared.name_tables.NameTables.{NameTables}
use Rattle.jx_file_index.specs.declared.saved_text.SavedText.{SavedText}
use Rattle.jx_file_index.specs.SavedTexts.{FitsKeys, FitsTable, HasItsTables, HasTablesToo, IsWord, SayNames, SayTables, SaysTable}
use Rattle.jx_file_index.specs.TextSpelling.{key_count, names_tag, spelt_names, spelt_saved, spelt_table, spelt_tables, spelt_with}

-- ---- keys

key_long : (k : ℕ) → length (to_le_bytes w32 k) ≡ 4
key_long k = refl

pub keys_long : (ks : List ℕ) → length (flat_map (to_le_bytes w32) ks) ≡ 4 * length ks
keys_long [] = refl
keys_long (k ∷ ks) =
    let l : length (to_le_bytes w32 k ++ flat_map (to_le_bytes w32) ks) ≡ length (to_le_bytes w32 k) + length (flat_map (to_le_bytes w32) ks) = length-append (to_le_bytes w32 k) (flat_map (to_le_bytes w32) ks) in
    let h = keys_long ks in
    let f = key_long k in
    omega (arith, l, h, f)

pub one_key : (ks : List ℕ) (n k : ℕ) → AllByRecursion IsWord ks → n < length ks
    → ((x : ℕ) → IsWord x → slice_range (flat_map (to_le_bytes w32) ks) (4 * n) (4 * n + 4) ≡ to_le_bytes w32 x → k ≡ x) → take n ks ++ k ∷ [] ≡ take (suc n) ks
one_key [] n k fits low is = absurd (omega arith)
one_key (x ∷ ks) zero k fits low is = ap (λ (y : ℕ). y ∷ []) (is x fits.0 refl)
one_key (x ∷ ks) (suc n) k fits low is =
    ap (λ (ys : List ℕ). x ∷ ys)
    (one_key ks n k fits.1 (omega arith)
    (λ y f h. is y f
    (ap (λ (j : ℕ). take ((4 * suc n + 4) - 4 * suc n) (drop j (to_le_bytes w32 x ++ flat_map (to_le_bytes w32) ks))) (let a : 4 * suc n ≡ length (to_le_bytes w32 x) + 4 * n = let f = key_long x in omega (arith, f) in a)
    ∙ ap (take ((4 * suc n + 4) - 4 * suc n)) (drop-append-add (to_le_bytes w32 x) (flat_map (to_le_bytes w32) ks) (4 * n))
    ∙ ap (λ (j : ℕ). take j (drop (4 * n) (flat_map (to_le_bytes w32) ks))) (let a : (4 * suc n + 4) - 4 * suc n ≡ (4 * n + 4) - 4 * n = omega arith in a)
    ∙ h)))

-- ---- a table

-- the count, and what stands behind it
pub table_front : (t : NameTable) (more : List ℕ) → spelt_table t ++ more ≡ to_le_bytes w32 (key_count t.is_kept t.keys.items) ++ (flat_map (to_le_bytes w32) t.keys.items ++ more)
table_front t more = append_assoc (to_le_bytes w32 (key_count t.is_kept t.keys.items)) (flat_map (to_le_bytes w32) t.keys.items) more

pub count_front : (bytes : List ℕ) (t : NameTable) (more : List ℕ) → bytes ≡ spelt_table t ++ more → slice_range bytes 0 4 ≡ to_le_bytes w32 (key_count t.is_kept t.keys.items)
count_front bytes t more is = ap (λ (xs : List ℕ). slice_range xs 0 4) (is ∙ table_front t more)

pub behind_count : (bytes : List ℕ) (t : NameTable) (more : List ℕ) → bytes ≡ spelt_table t ++ more → drop 4 bytes ≡ flat_map (to_le_bytes w32) t.keys.items ++ more
behind_count bytes t more is = ap (drop 4) (is ∙ table_front t more)

count_word : (b : Bool) (keys : List ℕ) → FitsKeys b keys → IsWord (key_count b keys)
count_word true keys fits = let l = fits.0 in omega (arith, l)
count_word false keys fits = omega arith

pub count_of : (bytes : List ℕ) (t : NameTable) (more : List ℕ) (count : ℕ) → FitsTable t → bytes ≡ spelt_table t ++ more
    → ((k : ℕ) → IsWord k → slice_range bytes 0 4 ≡ to_le_bytes w32 k → count ≡ k) → count ≡ key_count t.is_kept t.keys.items
count_of bytes t more count fits is told = told (key_count t.is_kept t.keys.items) (count_word t.is_kept t.keys.items fits) (count_front bytes t more is)

-- no name is kept
none_kept : (b : Bool) (keys : List ℕ) → FitsKeys b keys → key_count b keys ≡ 4294967295 → (b ≡ false) × (keys ≡ [])
none_kept true keys fits is = let l = fits.0 in absurd (omega (arith, l, is))
none_kept false keys fits is = (refl, fits)

all_kept : (b : Bool) (keys : List ℕ) → (key_count b keys ≡ 4294967295 → ⊥) → (b ≡ true) × (key_count b keys ≡ length keys)
all_kept true keys other = (refl, refl)
all_kept false keys other = absurd (other refl)

pub read_none : (bytes rest : List ℕ) (t : NameTable) (more : List ℕ) (read : NameTable) → FitsTable t → bytes ≡ spelt_table t ++ more → key_count t.is_kept t.keys.items ≡ 4294967295
    → read.is_kept ≡ false → read.keys.items ≡ [] → rest ≡ drop 4 bytes → SaysTable read t × (rest ≡ more)
read_none bytes rest t more read fits is count unkept none behind =
    let n = none_kept t.is_kept t.keys.items fits count in
    ((unkept ∙ sym n.0, none ∙ sym n.1), behind ∙ behind_count bytes t more is ∙ ap (λ (ks : List ℕ). flat_map (to_le_bytes w32) ks ++ more) n.1)

module _ (bytes behind : List ℕ) (t : NameTable) (more : List ℕ) (count : ℕ) (fits : FitsTable t) (is : bytes ≡ spelt_table t ++ more) (count_is : count ≡ key_count t.is_kept t.keys.items)
    (other : count ≡ 4294967295 → ⊥) (behind_is : behind ≡ drop 4 bytes) where
  abbrev keys : List ℕ
  keys = t.keys.items

  kept : (t.is_kept ≡ true) × (key_count t.is_kept keys ≡ length keys)
  kept = all_kept t.is_kept keys (λ e. other (count_is ∙ e))

  pub count_long : count ≡ length keys
  count_long = count_is ∙ kept.1

  all_behind : behind ≡ flat_map (to_le_bytes w32) keys ++ more
  all_behind = behind_is ∙ behind_count bytes t more is

  pub long_enough : 4 * count ≤ length behind
  long_enough =
      let l : length behind ≡ length (flat_map (to_le_bytes w32) keys ++ more) = ap (λ (xs : List ℕ). length xs) all_behind in
      let a : length (flat_map (to_le_bytes w32) keys ++ more) ≡ length (flat_map (to_le_bytes w32) keys) + length more = length-append (flat_map (to_le_bytes w32) keys) more in
      let k = keys_long keys in
      let c = count_long in
      omega (arith, l, a, k, c)

  words_of : (b : Bool) (ks : List ℕ) → b ≡ true → FitsKeys b ks → AllByRecursion IsWord ks
  words_of true ks e f = f.1
  words_of false ks e f = absurd cc

  pub are_words : AllByRecursion IsWord keys
  are_words = words_of t.is_kept keys kept.0 fits

  seam : (len : ℕ) → len ≡ 4 * count → len ≡ length (flat_map (to_le_bytes w32) keys)
  seam len is_len = let c = count_long in let k = keys_long keys in omega (arith, c, k, is_len)

  pub keys_front : (len : ℕ) → len ≡ 4 * count → slice_range behind 0 len ≡ flat_map (to_le_bytes w32) keys
  keys_front len is_len =
      ap (λ (xs : List ℕ). slice_range xs 0 len) all_behind
      ∙ ap (λ (n : ℕ). take n (flat_map (to_le_bytes w32) keys ++ more)) (let e : len - 0 ≡ len = omega arith in e ∙ seam len is_len)
      ∙ take-append_seam (flat_map (to_le_bytes w32) keys) more

  pub rest_behind : (len : ℕ) → len ≡ 4 * count → drop len behind ≡ more
  rest_behind len is_len =
      ap (drop len) all_behind ∙ ap (λ (n : ℕ). drop n (flat_map (to_le_bytes w32) keys ++ more)) (seam len is_len)
      ∙ drop-append_seam (flat_map (to_le_bytes w32) keys) more

  pub read_some : (read : NameTable) → read.is_kept ≡ true → read.keys.items ≡ keys → SaysTable read t
  read_some read full same = (full ∙ sym kept.0, same)

-- ---- tables

pub record Next (ts : List NameTable) (n : ℕ) : Type 0 where
  pub table : NameTable
  pub rest_is : drop n ts ≡ table ∷ drop (suc n) ts
  pub front_is : take (suc n) ts ≡ take n ts ++ table ∷ []
  pub fits : AllByRecursion FitsTable ts → FitsTable table

pub next_of : (ts : List NameTable) (n : ℕ) → n < length ts → Next ts n
next_of [] n low = absurd (omega arith)
next_of (t ∷ ts) zero low = record { table = t; rest_is = refl; front_is = refl; fits = λ all. all.0 }
next_of (t ∷ ts) (suc n) low =
    let r = next_of ts n (omega arith) in
    record { table = r.table; rest_is = r.rest_is; front_is = ap (λ (xs : List NameTable). t ∷ xs) r.front_is; fits = λ all. r.fits all.1 }

-- the bytes of the next table stand in front
pub next_bytes : (ts : List NameTable) (n : ℕ) (low : n < length ts) (more rest : List ℕ) → rest ≡ flat_map spelt_table (drop n ts) ++ more
    → rest ≡ spelt_table (next_of ts n low).table ++ (flat_map spelt_table (drop (suc n) ts) ++ more)
next_bytes ts n low more rest is =
    let x = next_of ts n low in
    is ∙ ap (λ (xs : List NameTable). flat_map spelt_table xs ++ more) x.rest_is ∙ append_assoc (spelt_table x.table) (flat_map spelt_table (drop (suc n) ts)) more

pub say_more : (xs ys : List NameTable) (x y : NameTable) → SayTables xs ys → SaysTable x y → SayTables (xs ++ x ∷ []) (ys ++ y ∷ [])
say_more [] [] x y all one = (one, tt)
say_more [] (z ∷ ys) x y all one = absurd all
say_more (z ∷ xs) [] x y all one = absurd all
say_more (z ∷ xs) (w ∷ ys) x y all one = (all.0, say_more xs ys x y all.1 one)

same_table : (a b : NameTable) → SaysTable a b → spelt_table a ≡ spelt_table b
same_table a b h =
    ap (λ (k : Bool). to_le_bytes w32 (key_count k a.keys.items) ++ flat_map (to_le_bytes w32) a.keys.items) h.0
    ∙ ap (λ (ks : List ℕ). to_le_bytes w32 (key_count b.is_kept ks) ++ flat_map (to_le_bytes w32) ks) h.1

pub same_tables : (xs ys : List NameTable) → SayTables xs ys → flat_map spelt_table xs ≡ flat_map spelt_table ys
same_tables [] [] h = refl
same_tables [] (y ∷ ys) h = absurd h
same_tables (x ∷ xs) [] h = absurd h
same_tables (x ∷ xs) (y ∷ ys) h = ap (λ (bs : List ℕ). bs ++ flat_map spelt_table xs) (same_table x y h.0) ∙ ap (λ (bs : List ℕ). spelt_table y ++ bs) (same_tables xs ys h.1)

-- ---- an index and tables

pub same_names : (i j : Index) (s t : NameTables) → SaysSame i j → SayTables s.tables.items t.tables.items → spelt_names i s ≡ spelt_names j t
same_names i j s t same say =
    ap (λ (xs : List ℕ). xs ++ to_le_bytes w64 (xxh64 xs))
    (ap (λ (xs : List ℕ). xs ++ (names_tag ++ flat_map spelt_table s.tables.items)) (same_spelt i j same)
    ∙ ap (λ (xs : List ℕ). spelt_index j ++ (names_tag ++ xs)) (same_tables s.tables.items t.tables.items say))

-- what stands behind the index
abbrev seal : Index → NameTables → List ℕ
seal i t = to_le_bytes w64 (xxh64 (spelt_tables i t))

pub names_split : (i : Index) (t : NameTables) → spelt_names i t ≡ spelt_index i ++ (names_tag ++ (flat_map spelt_table t.tables.items ++ seal i t))
names_split i t =
    append_assoc (spelt_index i) (names_tag ++ flat_map spelt_table t.tables.items) (seal i t)
    ∙ ap (λ (xs : List ℕ). spelt_index i ++ xs) (append_assoc names_tag (flat_map spelt_table t.tables.items) (seal i t))

pub names_rest : (bytes : List ℕ) (len : ℕ) (i : Index) (t : NameTables) → length (spelt_index i) ≡ len → bytes ≡ spelt_names i t → drop len bytes ≡ names_tag ++ (flat_map spelt_table t.tables.items ++ seal i t)
names_rest bytes len i t long is =
    ap (λ (n : ℕ). drop n bytes) (sym long) ∙ ap (drop (length (spelt_index i))) (is ∙ names_split i t)
    ∙ drop-append_seam (spelt_index i) (names_tag ++ (flat_map spelt_table t.tables.items ++ seal i t))

pub names_front : (bytes : List ℕ) (i : Index) (t : NameTables) → bytes ≡ spelt_names i t → take (length bytes - 8) bytes ≡ spelt_tables i t
names_front bytes i t is =
    let l : length (spelt_tables i t ++ seal i t) ≡ length (spelt_tables i t) + length (seal i t) = length-append (spelt_tables i t) (seal i t) in
    let e : length (seal i t) ≡ 8 = refl in
    let b : length bytes ≡ length (spelt_names i t) = ap (λ (xs : List ℕ). length xs) is in
    ap (take (length bytes - 8)) is
    ∙ ap (λ (n : ℕ). take n (spelt_tables i t ++ seal i t)) (let s : length bytes - 8 ≡ length (spelt_tables i t) = omega (arith, l, e, b) in s)
    ∙ take-append_seam (spelt_tables i t) (seal i t)

-- ---- what was read

-- what stands behind an index
pub behind_index : (bytes : List ℕ) (len : ℕ) (i : Index) (rest : List ℕ) → len ≤ length bytes → len ≡ length (spelt_index i) → bytes ≡ spelt_index i ++ rest → slice_range bytes len (length bytes) ≡ rest
behind_index bytes len i rest within long is =
    rest_of bytes len within ∙ ap (λ (n : ℕ). drop n bytes) long ∙ ap (drop (length (spelt_index i))) is ∙ drop-append_seam (spelt_index i) rest

abbrev EndsAlone : List ℕ → ℕ → Type 0
EndsAlone bytes len = (i : Index) → IsSavable i → bytes ≡ spelt_index i → len ≡ length bytes

abbrev EndsBehind : List ℕ → ℕ → Type 0
EndsBehind bytes len = (i : Index) (rest : List ℕ) → IsSavable i → bytes ≡ spelt_index i ++ (names_tag ++ rest) → len ≡ length (spelt_index i)

front_with : (bytes : List ℕ) (len : ℕ) (i : Index) (n : Option NameTables) → IsSavable i → EndsAlone bytes len → EndsBehind bytes len → bytes ≡ spelt_with i n → slice_range bytes 0 len ≡ spelt_index i
front_with bytes len i None savable alone behind is =
    let e : len - 0 ≡ length bytes = let a = alone i savable is in omega (arith, a) in
    ap (λ (n : ℕ). take n bytes) e ∙ take_all (length bytes) bytes (omega arith) ∙ is
front_with bytes len i (Some t) savable alone behind is =
    let split = is ∙ names_split i t in
    let e : len - 0 ≡ length (spelt_index i) = let b = behind i (flat_map spelt_table t.tables.items ++ seal i t) savable split in omega (arith, b) in
    ap (λ (n : ℕ). take n bytes) e ∙ ap (take (length (spelt_index i))) split ∙ take-append_seam (spelt_index i) (names_tag ++ (flat_map spelt_table t.tables.items ++ seal i t))

pub front_is : (bytes : List ℕ) (len : ℕ) (s : SavedText) → IsSavable s.index → EndsAlone bytes len → EndsBehind bytes len → bytes ≡ spelt_saved s → slice_range bytes 0 len ≡ spelt_index s.index
front_is bytes len s savable alone behind is = front_with bytes len s.index s.names savable alone behind is

-- where all bytes are those of an index, no tables are kept
none_with : (bytes : List ℕ) (len : ℕ) (i : Index) (n : Option NameTables) → IsSavable i → EndsBehind bytes len → len ≡ length bytes → bytes ≡ spelt_with i n → SayNames None n
none_with bytes len i None savable behind all is = tt
none_with bytes len i (Some t) savable behind all is =
    let split = is ∙ names_split i t in
    let rest = flat_map spelt_table t.tables.items ++ seal i t in
    let b = behind i rest savable split in
    let l : length bytes ≡ length (spelt_index i ++ (names_tag ++ rest)) = ap (λ (xs : List ℕ). length xs) split in
    let a : length (spelt_index i ++ (names_tag ++ rest)) ≡ length (spelt_index i) + length (names_tag ++ rest) = length-append (spelt_index i) (names_tag ++ rest) in
    let c : length (names_tag ++ rest) ≡ length names_tag + length rest = length-append names_tag rest in
    let eight : length names_tag ≡ 8 = refl in
    absurd (omega (arith, b, l, a, c, eight, all))

pub none_said : (bytes : List ℕ) (len : ℕ) (s : SavedText) → IsSavable s.index → EndsBehind bytes len → len ≡ length bytes → bytes ≡ spelt_saved s → SayNames None s.names
none_said bytes len s savable behind all is = none_with bytes len s.index s.names savable behind all is

-- else some are, behind the index
pub record Kept (bytes : List ℕ) (len : ℕ) (s : SavedText) : Type 0 where
  pub tables : NameTables
  pub is : s.names ≡ Some tables
  pub long : length (spelt_index s.index) ≡ len
  pub spelt : bytes ≡ spelt_names s.index tables
  pub has : HasItsTables s.index tables

pub kept_with : (bytes : List ℕ) (len : ℕ) (s : SavedText) (n : Option NameTables) → s.names ≡ n → IsSavable s.index → HasTablesToo s.index n → EndsAlone bytes len → EndsBehind bytes len → (len ≡ length bytes → ⊥) → bytes ≡ spelt_with s.index n → Kept bytes len s
kept_with bytes len s None same savable has alone behind other is = absurd (other (alone s.index savable is))
kept_with bytes len s (Some t) same savable has alone behind other is = record {
  tables = t;
  is = same;
  long = sym (behind s.index (flat_map spelt_table t.tables.items ++ seal s.index t) savable (is ∙ names_split s.index t));
  spelt = is;
  has = has;
}

-- as many tables as blocks
pub as_many_tables : (read i : Index) (t : NameTables) (chunks count : ℕ) → SaysSame read i → HasItsTables i t → IsCount read.chunk read.size chunks → IsCount 64 chunks count → length t.tables.items ≡ count
as_many_tables read i t chunks count same has counted blocks =
    let there : IsCount i.chunk i.size chunks = subst (λ (n : ℕ). IsCount n i.size chunks) same.chunk (subst (λ (n : ℕ). IsCount read.chunk n chunks) same.size counted) in
    let e : has.chunks ≡ chunks = count_unique i.chunk i.size has.chunks chunks has.counted there in
    count_unique 64 chunks (length t.tables.items) count (subst (λ (n : ℕ). IsCount 64 n (length t.tables.items)) e has.blocks) blocks

-- One token more of a pointer, over the rows of a body.
use Rattle.std.proofs.Common.{◌≡◌, ◌≢◌, ℕ, zero, suc, ◌+◌, ◌-◌, ◌*◌, ◌/◌, ◌%◌, ◌^◌, ◌<◌, ◌≤◌, Bool, true, false, List, [], ◌∷◌, ◌++◌, length, map, drop, Option, None, Some, Result, Ok, Err, refl, sym, ap, ◌∙◌, arith, decimal}
use Rattle.std.specs.Prelude.{◌==◌, nat_lt, nat_le, if◌then◌else◌, cond, filter, slice_get, slice_range}
use Rattle.std.specs.Result.{result_ok}
use Rattle.std.proofs.lemmas.Bool.Decides.{nat_tests}
use Rattle.std.proofs.lemmas.Fmt.{decimal_by_steps}
use Rattle.std.proofs.lemmas.List.{map-append}
use Rattle.std.proofs.lemmas.Option.{slice_get_past}
use Rattle.std.proofs.lemmas.Bool.{and_parts}
use Rattle.jx_lex.specs.declared.kind.Kind.{Kind}
use Rattle.jx_lex.specs.declared.kind.Kind.TheVariants as kind
use Rattle.jx_run.specs.Text.{IsText}
use Rattle.jx_run.specs.Tree.{Tree}
use Rattle.jx_index.specs.ArrayTokens.{all_digits, is_dash, is_digit, is_index, place_in, value_after}
use Rattle.jx_index.specs.declared.array_token.Place.{Place}
use Rattle.jx_index.specs.declared.array_token.Place.TheVariants as place
use Rattle.jx_index.specs.declared.find_fault.FindFault.{FindFault}
use Rattle.jx_index.specs.declared.find_fault.FindFault.TheVariants.{NameRepeated}
use Rattle.jx_index.specs.declared.row.Row.{Row}
use Rattle.jx_index.specs.declared.units.Spelling.TheVariants.{InToken}
use Rattle.jx_index.specs.Leads.{and_then, at_place, element, leads, led_from, one_token, only}
use Rattle.jx_index.specs.Nodes.{child_numbers, is_parent, kind_at, kind_in, with_parent}
use Rattle.jx_index.specs.Pointers.{onto_first, parted, tokens, HasNoSlash}
use Rattle.jx_index.specs.Rows.{rows}
use Rattle.jx_index.specs.RowsLead.{is_equal, row_token, rows_lead}
use Rattle.jx_index.specs.Units.{chars_units, units_at}
use Rattle.jx_index.proofs.Indexes.{tree_leads}
use Rattle.jx_string.specs.Texts.{string_units}
use Rattle.jx_wire.specs.Requests.{IsOfKind}
use Rattle.jx_wire.specs.inside.Nodes.{is_letter, is_word, row_in, row_value}

-- ---- the tokens of a pointer with one more

record Parts (parts : List (List ℕ)) : Type 0 where
  first : List ℕ
  rest : List (List ℕ)
  is : parts ≡ first ∷ rest

-- there is always a first part
some_part : (p : List ℕ) → Parts (parted p)
unfolding parted
some_part [] = record { first = []; rest = []; is = refl }
some_part (b ∷ p) = pick (b == 0x2f) (some_part p)
  where
    pick : (t : Bool) → Parts (parted p) → Parts (if t then [] ∷ parted p else onto_first b (parted p))
    pick true more = record { first = []; rest = parted p; is = refl }
    pick false more = record { first = b ∷ more.first; rest = more.rest; is = ap (onto_first b) more.is }

parted_more : (p n : List ℕ) → parted (p ++ (0x2f ∷ n)) ≡ parted p ++ parted n
unfolding parted
parted_more [] n = refl
parted_more (b ∷ p) n = pick (b == 0x2f) (parted_more p n)
  where
    pick : (t : Bool) → parted (p ++ (0x2f ∷ n)) ≡ parted p ++ parted n → (if t then [] ∷ parted (p ++ (0x2f ∷ n)) else onto_first b (parted (p ++ (0x2f ∷ n)))) ≡ (if t then [] ∷ parted p else onto_first b (parted p)) ++ parted n
    pick true more = ap (λ (l : List (List ℕ)). [] ∷ l) more
    pick false more =
        let some = some_part p in
        ap (onto_first b) (more ∙ ap (λ (l : List (List ℕ)). l ++ parted n) some.is) ∙ ap (λ (l : List (List ℕ)). onto_first b l ++ parted n) (sym some.is)

no_slash : (b : ℕ) → b ≢ 0x2f → (b == 0x2f) ≡ false
no_slash b h = grind (arith, nat_tests)

one_part : (n : List ℕ) → HasNoSlash n → parted n ≡ n ∷ []
unfolding parted
one_part [] h = refl
one_part (b ∷ n) h = let other = no_slash b h.0 in rw other (ap (onto_first b) (one_part n h.1))

tokens_more : (p n : List ℕ) → HasNoSlash n → tokens (p ++ (0x2f ∷ n)) ≡ tokens p ++ (chars_units InToken 0 n ∷ [])
tokens_more p n h =
    let some = some_part p in
    let units = chars_units InToken 0 in
    ap (λ (l : List (List ℕ)). map units (drop 1 l)) (parted_more p n ∙ ap (λ (l : List (List ℕ)). l ++ parted n) some.is ∙ ap (λ (l : List (List ℕ)). (some.first ∷ some.rest) ++ l) (one_part n h))
    ∙ map-append units some.rest (n ∷ [])
    ∙ ap (λ (l : List (List ℕ)). map units (drop 1 l) ++ (units n ∷ [])) (sym some.is)

-- ---- tokens that stand for themselves

-- neither a slash nor what begins an escape, and of one byte
abbrev pub IsPlain : List ℕ → Type 0
IsPlain [] = Unit {0}
IsPlain (b ∷ n) = (b ≢ 0x2f) × (b ≢ 0x7e) × (b < 0x80) × IsPlain n

slashless : (n : List ℕ) → IsPlain n → HasNoSlash n
slashless [] h = tt
slashless (b ∷ n) h = (h.0, slashless n h.3)

plain_units : (n : List ℕ) → IsPlain n → chars_units InToken 0 n ≡ n
unfolding chars_units
plain_units [] h = refl
plain_units (b ∷ n) h =
    let other : (b == 0x7e) ≡ false = grind (arith, nat_tests) in
    let low : nat_lt b 0x80 ≡ true = grind (arith, nat_tests) in
    let one : nat_lt b 0x1_0000 ≡ true = grind (arith, nat_tests) in
    rw (other, low, one) (ap (λ (l : List ℕ). b ∷ l) (plain_units n h.3))

plain_more : (m n : List ℕ) → IsPlain m → IsPlain n → IsPlain (m ++ n)
plain_more [] n g h = h
plain_more (b ∷ m) n g h = (g.0, g.1, g.2, plain_more m n g.3 h)

record Letter (b : ℕ) : Type 0 where
  from : 0x41 ≤ b
  to : b ≤ 0x7a

letter : (b : ℕ) → is_letter b ≡ true → Letter b
letter b h =
    let is = and_parts (nat_le 0x41 b) (nat_le b 0x7a) h in
    let p = is.0 in
    let q = is.1 in
    record { from = grind (arith, nat_tests); to = grind (arith, nat_tests) }

pub word_plain : (n : List ℕ) → is_word n ≡ true → IsPlain n
word_plain [] h = tt
word_plain (b ∷ n) h =
    let is = and_parts (is_letter b) (is_word n) h in
    let l = letter b is.0 in
    let from = l.from in
    let to = l.to in
    (λ e. omega (arith, e, from), λ e. omega (arith, e, to), omega (arith, to), word_plain n is.1)

no_digit : (b : ℕ) → is_letter b ≡ true → is_digit b ≡ false
no_digit b h = let from = (letter b h).from in grind (arith, nat_tests)

no_dash : (b : ℕ) → is_letter b ≡ true → (b == 0x2d) ≡ false
no_dash b h = let from = (letter b h).from in grind (arith, nat_tests)

-- a word is no index
no_index : (n : List ℕ) (count : ℕ) → is_word n ≡ true → place_in n count ≡ place.NotAnIndex
no_index [] count h = refl
no_index (b ∷ []) count h = let l = (and_parts (is_letter b) (is_word []) h).0 in let digit = no_digit b l in let dash = no_dash b l in rw (dash, digit) refl
no_index (b ∷ c ∷ n) count h = let l = (and_parts (is_letter b) (is_word (c ∷ n)) h).0 in let digit = no_digit b l in rw digit refl

-- ---- the numbers of elements

record Digits (n : ℕ) (ds : List ℕ) : Type 0 where
  first : ℕ
  more : List ℕ
  is : ds ≡ first ∷ more
  digit : is_digit first ≡ true
  digits : all_digits more ≡ true
  high : 0 < length more → 49 ≤ first
  positive : 1 ≤ n → 49 ≤ first
  value : value_after 0 ds ≡ n
  plain : IsPlain ds

digit_is : (d : ℕ) → d < 10 → is_digit (48 + d) ≡ true
digit_is d h = grind (arith, nat_tests)

digit_plain : (d : ℕ) → d < 10 → IsPlain ((48 + d) ∷ [])
digit_plain d h = (λ e. omega (arith, e), λ e. omega (arith, e, h), omega (arith, h), tt)

one_digit : (n : ℕ) → n < 10 → Digits n ((48 + n) ∷ [])
one_digit n h =
    record {
      first = 48 + n;
      more = [];
      is = refl;
      digit = digit_is n h;
      digits = refl;
      high = λ some. absurd (omega (arith, some));
      positive = λ some. omega (arith, some);
      value = omega arith;
      plain = digit_plain n h;
    }

digits_more : (ds : List ℕ) (d : ℕ) → all_digits ds ≡ true → is_digit d ≡ true → all_digits (ds ++ (d ∷ [])) ≡ true
digits_more [] d g h = rw h refl
digits_more (e ∷ ds) d g h = let is = and_parts (is_digit e) (all_digits ds) g in let p = is.0 in let q = digits_more ds d is.1 h in rw (p, q) refl

value_more : (ds : List ℕ) (n d : ℕ) → value_after n (ds ++ (d ∷ [])) ≡ value_after n ds * 10 + (d - 0x30)
value_more [] n d = refl
value_more (e ∷ ds) n d = value_more ds (n * 10 + (e - 0x30)) d

next_digit : (n : ℕ) (ds : List ℕ) → 10 ≤ n → Digits (n / 10) ds → Digits n (ds ++ ((48 + n % 10) ∷ []))
next_digit n ds h so_far =
    let last : n % 10 < 10 = omega arith in
    let tens : 1 ≤ n / 10 = omega (arith, h) in
    record {
      first = so_far.first;
      more = so_far.more ++ ((48 + n % 10) ∷ []);
      is = ap (λ (l : List ℕ). l ++ ((48 + n % 10) ∷ [])) so_far.is;
      digit = so_far.digit;
      digits = digits_more so_far.more (48 + n % 10) so_far.digits (digit_is (n % 10) last);
      high = λ some. so_far.positive tens;
      positive = λ some. so_far.positive tens;
      value = value_more ds 0 (48 + n % 10) ∙ omega (arith, so_far.value);
      plain = plain_more ds ((48 + n % 10) ∷ []) so_far.plain (digit_plain (n % 10) last);
    }

digits_of : (n : ℕ) → n < 2 ^ 64 → Digits n (decimal n)
digits_of = decimal_by_steps Digits one_digit next_digit

index_is : (first : ℕ) (more : List ℕ) → is_digit first ≡ true → all_digits more ≡ true → (0 < length more → 49 ≤ first) → is_index (first ∷ more) ≡ true
index_is first [] d ds high = d
index_is first (c ∷ more) d ds high =
    let from : 49 ≤ first = high (omega arith) in
    let other : (first == 0x30) ≡ false = grind (arith, nat_tests) in
    rw (d, other, ds) refl

no_hyphen : (first : ℕ) (more : List ℕ) → is_digit first ≡ true → is_dash (first ∷ more) ≡ false
no_hyphen first [] d = let is = and_parts (nat_le 0x30 first) (nat_le first 0x39) d in let low = is.0 in grind (arith, nat_tests)
no_hyphen first (c ∷ more) d = refl

element_is : (cs : List ℕ) (n k : ℕ) → result_ok (element cs n k) ≡ slice_get cs n
element_is [] n k = refl
element_is (c ∷ cs) zero k = refl
element_is (c ∷ cs) (suc n) k = element_is cs n k

past_end : (cs : List ℕ) (n : ℕ) → nat_lt n (length cs) ≡ false → None ≡ slice_get cs n
past_end cs n e = sym (slice_get_past cs n (let h : length cs ≤ n = grind (arith, nat_tests) in h))

-- the element of a number
place_is : (cs : List ℕ) (n k : ℕ) → n < 2 ^ 64 → result_ok (at_place (place_in (decimal n) (length cs)) cs k) ≡ slice_get cs n
place_is cs n k small =
    let ds = digits_of n small in
    let dash : is_dash (decimal n) ≡ false = ap is_dash ds.is ∙ no_hyphen ds.first ds.more ds.digit in
    let index : is_index (decimal n) ≡ true = ap is_index ds.is ∙ index_is ds.first ds.more ds.digit ds.digits ds.high in
    let value = ds.value in
    rw (dash, index, value) (pick (nat_lt n (length cs)) refl)
  where
    pick : (t : Bool) → nat_lt n (length cs) ≡ t → result_ok (at_place (if t then place.Element n else place.PastEnd) cs k) ≡ slice_get cs n
    pick true e = element_is cs n k
    pick false e = past_end cs n e

-- ---- one token more

pub at_root : (text : List ℕ) (tree : Tree) → result_ok (leads text tree (tokens [])) ≡ Some 0
unfolding parted led_from
at_root text tree = refl

and_ok : (r : Result ℕ FindFault) → and_then r (λ d. Ok d) ≡ r
and_ok (Ok d) = refl
and_ok (Err fault) = refl

module _ (text : List ℕ) (table : List Row) where
  rows_more : (ts : List (List ℕ)) (t : List ℕ) (node k : ℕ)
      → rows_lead text table (ts ++ (t ∷ [])) node k ≡ and_then (rows_lead text table ts node k) (λ d. row_token text table t d (k + length ts))
  unfolding rows_lead
  rows_more [] t node k = and_ok (row_token text table t node k) ∙ ap (row_token text table t node) (let e : k ≡ k + 0 = omega arith in e)
  rows_more (u ∷ ts) t node k = pick (λ m. rows_more ts t m (suc k)) (row_token text table u node k)
    where
      pick : ((m : ℕ) → rows_lead text table (ts ++ (t ∷ [])) m (suc k) ≡ and_then (rows_lead text table ts m (suc k)) (λ d. row_token text table t d (suc k + length ts))) → (r : Result ℕ FindFault)
          → and_then r (λ n. rows_lead text table (ts ++ (t ∷ [])) n (suc k)) ≡ and_then (and_then r (λ n. rows_lead text table ts n (suc k))) (λ d. row_token text table t d (k + suc (length ts)))
      pick more (Ok m) =
          more m
          ∙ ap (λ j. and_then (rows_lead text table ts m (suc k)) (λ d. row_token text table t d j)) (let e : suc k + length ts ≡ k + suc (length ts) = omega arith in e)
      pick more (Err fault) = refl

  module _ (a b limit : ℕ) (tree : Tree) (is_text : IsText text a b limit tree) (is : table ≡ rows tree) where
    token_more : (p n : List ℕ) → IsPlain n → leads text tree (tokens (p ++ (0x2f ∷ n))) ≡ and_then (leads text tree (tokens p)) (λ d. row_token text table n d (length (tokens p)))
    token_more p n h =
        sym (tree_leads text table a b limit tree is_text is (tokens (p ++ (0x2f ∷ n))))
        ∙ ap (λ (l : List (List ℕ)). rows_lead text table l 0 0) (tokens_more p n (slashless n h) ∙ ap (λ (t : List ℕ). tokens p ++ (t ∷ [])) (plain_units n h))
        ∙ rows_more (tokens p) n 0 0
        ∙ ap (λ (k : ℕ). and_then (rows_lead text table (tokens p) 0 0) (λ d. row_token text table n d k)) (let e : 0 + length (tokens p) ≡ length (tokens p) = omega arith in e)
        ∙ ap (λ (r : Result ℕ FindFault). and_then r (λ d. row_token text table n d (length (tokens p)))) (tree_leads text table a b limit tree is_text is (tokens p))

    -- nothing stands in what is not there
    pub none_more : (p n : List ℕ) → IsPlain n → result_ok (leads text tree (tokens p)) ≡ None → result_ok (leads text tree (tokens (p ++ (0x2f ∷ n)))) ≡ None
    none_more p n h none = ap result_ok (token_more p n h) ∙ pick (leads text tree (tokens p)) none
      where
        pick : (r : Result ℕ FindFault) → result_ok r ≡ None → result_ok (and_then r (λ d. row_token text table n d (length (tokens p)))) ≡ None
        pick (Ok d) e = absurd cc
        pick (Err fault) e = refl

    pub some_more : (p n : List ℕ) (node : ℕ) → IsPlain n → result_ok (leads text tree (tokens p)) ≡ Some node
        → leads text tree (tokens (p ++ (0x2f ∷ n))) ≡ row_token text table n node (length (tokens p))
    some_more p n node h some = token_more p n h ∙ pick (leads text tree (tokens p)) some
      where
        pick : (r : Result ℕ FindFault) → result_ok r ≡ Some node → and_then r (λ d. row_token text table n d (length (tokens p))) ≡ row_token text table n node (length (tokens p))
        pick (Ok d) e = let same : d ≡ node = cc in ap (λ m. row_token text table n m (length (tokens p))) same
        pick (Err fault) e = absurd cc

-- ---- members

-- where no other has its name, the first is the only one
only_first : (cs : List ℕ) (k : ℕ) → only cs k ≢ Err (NameRepeated k) → result_ok (only cs k) ≡ slice_get cs 0
only_first [] k once = refl
only_first (c ∷ []) k once = refl
only_first (c ∷ d ∷ cs) k once = absurd (once refl)

pub member_is : (text : List ℕ) (table : List Row) (name : List ℕ) (node k : ℕ) (k_is : kind_at table node ≡ kind.Object) → row_token text table name node k ≢ Err (NameRepeated k)
    → result_ok (row_token text table name node k) ≡ slice_get (filter (is_equal text table name) (child_numbers table node)) 0
member_is text table name node k k_is once =
    let step : (k : Kind) → Result ℕ FindFault = λ (o : Kind). one_token (is_equal text table name) name o (child_numbers table node) k in
    let here = ap step k_is in
    ap result_ok here ∙ only_first (filter (is_equal text table name) (child_numbers table node)) k (λ e. once (here ∙ e))

no_child : (p : ℕ → Bool) (name cs : List ℕ) (o : Kind) (k : ℕ) → is_word name ≡ true → o ≢ kind.Object → result_ok (one_token p name o cs k) ≡ None
no_child p name cs kind.Object k word other = absurd (other refl)
no_child p name cs kind.Array k word other = ap (λ (x : Place). result_ok (at_place x cs k)) (no_index name (length cs) word)
no_child p name cs _ k word other = refl

pub no_member : (text : List ℕ) (table : List Row) (name : List ℕ) (node k : ℕ) → is_word name ≡ true → kind_at table node ≢ kind.Object → result_ok (row_token text table name node k) ≡ None
no_member text table name node k word other = no_child (is_equal text table name) name (child_numbers table node) (kind_at table node) k word other

-- ---- elements

pub element_at : (text : List ℕ) (table : List Row) (node k n : ℕ) → kind_at table node ≡ kind.Array → n < 2 ^ 64
    → result_ok (row_token text table (decimal n) node k) ≡ slice_get (child_numbers table node) n
element_at text table node k n k_is small =
    let children = child_numbers table node in
    ap (λ (o : Kind). result_ok (one_token (is_equal text table (decimal n)) (decimal n) o children k)) k_is ∙ place_is children n k small

pub decimal_plain : (n : ℕ) → n < 2 ^ 64 → IsPlain (decimal n)
decimal_plain n small = (digits_of n small).plain

few_with_parent : (n i : ℕ) (table : List Row) → length (with_parent n i table) ≤ length table
few_with_parent n i [] = omega arith
few_with_parent n i (row ∷ table) = pick (is_parent n row.parent) (few_with_parent n (suc i) table)
  where
    pick : (b : Bool) → length (with_parent n (suc i) table) ≤ length table → length (cond b (i ∷ with_parent n (suc i) table) (with_parent n (suc i) table)) ≤ suc (length table)
    pick true few = omega (arith, few)
    pick false few = omega (arith, few)

-- no more children than rows
pub few_children : (table : List Row) (node : ℕ) → length (child_numbers table node) ≤ length table
few_children table node = few_with_parent node 0 table

array_in : (body : List ℕ) (row : Option Row) → kind_in row ≡ kind.Array → IsOfKind kind.Array (row_value body row)
array_in body None e = absurd cc
array_in body (Some row) e = e

pub is_array : (body : List ℕ) (table : List Row) (node : ℕ) → kind_at table node ≡ kind.Array → IsOfKind kind.Array (row_value body (row_in table (Some node)))
is_array body table node e = array_in body (slice_get table node) e

no_array_in : (body : List ℕ) (row : Option Row) → kind_in row ≢ kind.Array → IsOfKind kind.Array (row_value body row) → ⊥
no_array_in body None other h = h
no_array_in body (Some row) other h = other h

pub is_no_array : (body : List ℕ) (table : List Row) (node : ℕ) → kind_at table node ≢ kind.Array → IsOfKind kind.Array (row_value body (row_in table (Some node))) → ⊥
is_no_array body table node other h = no_array_in body (slice_get table node) other h

-- ---- names

pub string_at : (text : List ℕ) (span : _) → string_units (slice_range text span.start span.end) ≡ units_at text span
unfolding units_at
string_at text span = refl

pub no_units : string_units [] ≡ []
unfolding chars_units
no_units = refl

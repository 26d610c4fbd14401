-- A text has one tree: a plain parser finds the tree of each derivation.
use Rattle.std.proofs.Common.{◌≡◌, ℕ, zero, suc, ◌+◌, ◌≤◌, max, List, [], ◌∷◌, ◌++◌, length, Option, Some, None, Bool, true, false, cond, eqb, refl, sym, ap, subst, ◌∙◌, inl, inr, ◌⊎◌, arith}
use Rattle.std.specs.Prelude.{◌==◌, ◌||◌}
use Rattle.std.proofs.lemmas.Bool.Decides.{eqb_tells}
use Rattle.jx_lex.specs.declared.kind.Kind.{Kind}
use Rattle.jx_lex.specs.declared.kind.Kind.TheVariants as kind
use Rattle.jx_lex.specs.declared.alphabet.state.LexState.{LexState}
use Rattle.jx_lex.specs.declared.alphabet.state.LexState.TheVariants as state
use Rattle.jx_lex.specs.declared.alphabet.mark.MarkKind.{MarkKind}
use Rattle.jx_lex.specs.declared.alphabet.mark.MarkKind.TheVariants as mark
use Rattle.jx_lex.specs.declared.alphabet.state.TokenEnd.{TokenEnd}
use Rattle.jx_lex.specs.declared.alphabet.state.TokenEnd.TheVariants.{Before, After}
use Rattle.jx_lex.specs.Classes.{class_at}
use Rattle.jx_lex.specs.Moves.{move, as_gap}
use Rattle.jx_lex.specs.Token.{IsBlank, space, tab, line_feed, carriage_return, IsToken}
use Rattle.jx_lex.specs.TokenStates.{Spells, here, goes, shuts, IsFinal, final_gap, final_zero, final_int, final_frac, final_exp, mark_of, in_token}
use Rattle.jx_run.specs.Tree.{Tree, node, Children, no_children, child, span}
use Rattle.jx_summary.specs.declared.span.Span.{Span}
use Rattle.jx_run.specs.Grammar.{Blanks, no_blanks, blank, Scalar, Value, leaf, empty_array, array, empty_object, object, Items, last_item, item, Members, last_member, member}
use Rattle.jx_run.specs.Text.{Document, document}
use Rattle.jx_run.proofs.Lexical.{TokensAreRead}

-- an offset, and the bytes from there on
pub record Spot : Type 0 where
  pub at : ℕ
  pub bytes : List ℕ

abbrev spot : ℕ → List ℕ → Spot
spot at bytes = record { at = at; bytes = bytes }

-- ---- the parser

abbrev is_blank : ℕ → Bool
is_blank b = (b == 0x20) || ((b == 0x09) || ((b == 0x0a) || (b == 0x0d)))

abbrev skip : ℕ → List ℕ → Spot
skip i [] = spot i []
skip i (b ∷ t) = cond (is_blank b) (skip (suc i) t) (spot i (b ∷ t))

-- where a token ends
abbrev scan_end : ℕ → ℕ → List ℕ → Option TokenEnd → Option LexState → (LexState → Spot) → Spot
scan_end i b t (Some Before) next more = spot i (b ∷ t)
scan_end i b t (Some After) next more = spot (suc i) t
scan_end i b t None None more = spot i (b ∷ t)
scan_end i b t None (Some s) more = more s

unfoldable scan : LexState → ℕ → List ℕ → Spot
scan s i [] = spot i []
scan s i (b ∷ t) = scan_end i b t ((move s b).end) ((move s b).next) (λ n. scan n (suc i) t)

abbrev scan_from : Option LexState → ℕ → List ℕ → Spot
scan_from None i t = spot i t
scan_from (Some s) i t = scan s i t

-- the end of the token that begins here
abbrev token_end : ℕ → List ℕ → Spot
token_end i [] = spot i []
token_end i (b ∷ t) = scan_from ((move state.Gap b).next) (suc i) t

record Found : Type 0 where
  tree : Tree
  rest : Spot

record FoundAll : Type 0 where
  children : Children
  rest : Spot

abbrev found : Tree → Spot → Option Found
found tree rest = Some (record { tree = tree; rest = rest })

abbrev leaf_found : Kind → ℕ → Spot → Option Found
leaf_found k i p = found (node k (span i p.at) no_children) p

abbrev close_found : Kind → ℕ → Children → Spot → Option Found
close_found k i kids p = close_bytes p.bytes
  where
    close_bytes : List ℕ → Option Found
    close_bytes [] = None
    close_bytes (b ∷ t) = found (node k (span i (suc p.at)) kids) (spot (suc p.at) t)

abbrev all_found : Kind → ℕ → Option FoundAll → Option Found
all_found k i None = None
all_found k i (Some x) = close_found k i x.children x.rest

-- a container: its close at once, or its children
abbrev container_on : Kind → ℕ → ℕ → Spot → (Spot → Option FoundAll) → List ℕ → Option Found
container_on k close_byte i p more [] = None
container_on k close_byte i p more (b ∷ t) = cond (b == close_byte) (close_found k i no_children p) (all_found k i (more p))

abbrev container : Kind → ℕ → ℕ → Spot → (Spot → Option FoundAll) → Option Found
container k close_byte i p more = container_on k close_byte i p more p.bytes

abbrev value_by : Option MarkKind → (Spot → Option FoundAll) → (Spot → Option FoundAll) → ℕ → List ℕ → List ℕ → Option Found
value_by (Some mark.OpenArray) items members i bytes t = container kind.Array 0x5d i (skip (suc i) t) items
value_by (Some mark.OpenObject) items members i bytes t = container kind.Object 0x7d i (skip (suc i) t) members
value_by (Some mark.String) items members i bytes t = leaf_found kind.String i (token_end i bytes)
value_by (Some mark.Number) items members i bytes t = leaf_found kind.Number i (token_end i bytes)
value_by (Some mark.True) items members i bytes t = leaf_found kind.True i (token_end i bytes)
value_by (Some mark.False) items members i bytes t = leaf_found kind.False i (token_end i bytes)
value_by (Some mark.Null) items members i bytes t = leaf_found kind.Null i (token_end i bytes)
value_by _ items members i bytes t = None

abbrev value_with : (Spot → Option FoundAll) → (Spot → Option FoundAll) → ℕ → List ℕ → Option Found
value_with items members i [] = None
value_with items members i (b ∷ t) = value_by ((move state.Gap b).begin) items members i (b ∷ t) t

abbrev with_child : Option Span → Tree → Option FoundAll → Option FoundAll
with_child name tree None = None
with_child name tree (Some x) = Some (record { children = child name tree x.children; rest = x.rest })

-- after a child: a comma and more, or the end
abbrev after_child : Option Span → Tree → Spot → (Spot → Option FoundAll) → Option FoundAll
after_child name tree p more = after_bytes p.bytes
  where
    after_bytes : List ℕ → Option FoundAll
    after_bytes [] = None
    after_bytes (b ∷ t) = cond (b == 0x2c) (with_child name tree (more (skip (suc p.at) t))) (Some (record { children = child name tree no_children; rest = p }))

abbrev child_found : Option Span → Option Found → (Spot → Option FoundAll) → Option FoundAll
child_found name None more = None
child_found name (Some x) more = after_child name x.tree (skip x.rest.at x.rest.bytes) more

abbrev rest_of : List ℕ → List ℕ
rest_of [] = []
rest_of (b ∷ t) = t

-- each reads from a byte that is no blank
mutual
  value_at : ℕ → ℕ → List ℕ → Option Found
  value_at zero i t = None
  value_at (suc n) i t = value_with (λ p. items_at n p) (λ p. members_at n p) i t

  items_at : ℕ → Spot → Option FoundAll
  items_at zero p = None
  items_at (suc n) p = child_found None (value_at n p.at p.bytes) (λ q. items_at n q)

  members_at : ℕ → Spot → Option FoundAll
  members_at zero p = None
  members_at (suc n) p =
      let e = token_end p.at p.bytes in
      let q = skip e.at e.bytes in
      let v = skip (suc q.at) (rest_of q.bytes) in
      child_found (Some (span p.at e.at)) (value_at n v.at v.bytes) (λ q. members_at n q)

-- ---- blanks and delimiters

data NotBlank : List ℕ → Type 0 where
  no_byte : NotBlank []
  other : {b : ℕ} {t : List ℕ} → is_blank b ≡ false → NotBlank (b ∷ t)

skip_is : {i j : ℕ} {t u : List ℕ} → Blanks i t j u → NotBlank u → skip i t ≡ spot j u
skip_is no_blanks no_byte = refl
skip_is (no_blanks {i = i}) (other {b = b} {t = t} h) = ap (λ c. cond c (skip (suc i) t) (spot i (b ∷ t))) h
skip_is (blank space bs) n = skip_is bs n
skip_is (blank tab bs) n = skip_is bs n
skip_is (blank line_feed bs) n = skip_is bs n
skip_is (blank carriage_return bs) n = skip_is bs n

-- what may stand after a token
data Delim : List ℕ → Type 0 where
  at_the_end : Delim []
  a_blank : {b : ℕ} {t : List ℕ} → IsBlank b → Delim (b ∷ t)
  a_comma : {t : List ℕ} → Delim (0x2c ∷ t)
  an_array_end : {t : List ℕ} → Delim (0x5d ∷ t)
  an_object_end : {t : List ℕ} → Delim (0x7d ∷ t)
  a_colon : {t : List ℕ} → Delim (0x3a ∷ t)

blanks_delim : {i j : ℕ} {t u : List ℕ} → Blanks i t j u → Delim u → Delim t
blanks_delim no_blanks d = d
blanks_delim (blank h bs) d = a_blank h

-- ---- tokens

number_end : (s : LexState) → IsFinal s → in_token s ≡ true → (i : ℕ) {t : List ℕ} → Delim t → scan s i t ≡ spot i t
unfolding scan class_at as_gap
number_end _ final_gap h i d = absurd cc
number_end _ final_zero h i at_the_end = refl
number_end _ final_zero h i (a_blank space) = refl
number_end _ final_zero h i (a_blank tab) = refl
number_end _ final_zero h i (a_blank line_feed) = refl
number_end _ final_zero h i (a_blank carriage_return) = refl
number_end _ final_zero h i a_comma = refl
number_end _ final_zero h i an_array_end = refl
number_end _ final_zero h i an_object_end = refl
number_end _ final_zero h i a_colon = refl
number_end _ final_int h i at_the_end = refl
number_end _ final_int h i (a_blank space) = refl
number_end _ final_int h i (a_blank tab) = refl
number_end _ final_int h i (a_blank line_feed) = refl
number_end _ final_int h i (a_blank carriage_return) = refl
number_end _ final_int h i a_comma = refl
number_end _ final_int h i an_array_end = refl
number_end _ final_int h i an_object_end = refl
number_end _ final_int h i a_colon = refl
number_end _ final_frac h i at_the_end = refl
number_end _ final_frac h i (a_blank space) = refl
number_end _ final_frac h i (a_blank tab) = refl
number_end _ final_frac h i (a_blank line_feed) = refl
number_end _ final_frac h i (a_blank carriage_return) = refl
number_end _ final_frac h i a_comma = refl
number_end _ final_frac h i an_array_end = refl
number_end _ final_frac h i an_object_end = refl
number_end _ final_frac h i a_colon = refl
number_end _ final_exp h i at_the_end = refl
number_end _ final_exp h i (a_blank space) = refl
number_end _ final_exp h i (a_blank tab) = refl
number_end _ final_exp h i (a_blank line_feed) = refl
number_end _ final_exp h i (a_blank carriage_return) = refl
number_end _ final_exp h i a_comma = refl
number_end _ final_exp h i an_array_end = refl
number_end _ final_exp h i an_object_end = refl
number_end _ final_exp h i a_colon = refl

scan-spells : TokensAreRead → {s last : LexState} {w : List ℕ} → Spells s w last → in_token s ≡ true → IsFinal last → (i : ℕ) (rest : List ℕ) → Delim rest
    → scan s i (w ++ rest) ≡ spot (i + length w) rest
unfolding scan
scan-spells law (here {s = s}) h f i rest d = number_end s f h i d ∙ ap (λ n. spot n rest) (let x : i ≡ i + 0 = omega arith in x)
scan-spells law (goes {s = s} {next = n} {b = b} {bs = bs} e p) h f i rest d =
    ap (λ m. scan_end i b (bs ++ rest) m.end m.next (λ n. scan n (suc i) (bs ++ rest))) e
    ∙ scan-spells law p (law.stays s n b h e) f (suc i) rest d
    ∙ ap (λ n. spot n rest) (let x : suc i + length bs ≡ i + suc (length bs) = omega arith in x)
scan-spells law (shuts {b = b} e) h f i rest d =
    ap (λ m. scan_end i b rest m.end m.next (λ n. scan n (suc i) rest)) e ∙ ap (λ n. spot n rest) (let x : suc i ≡ i + 1 = omega arith in x)

-- a token begins with its mark, and its end is found
record TokenFound (k : Kind) (i : ℕ) (t : List ℕ) (j : ℕ) (rest : List ℕ) : Type 0 where
  first : ℕ
  bytes : List ℕ
  whole : t ≡ first ∷ bytes
  marks : (move state.Gap first).begin ≡ Some (mark_of k)
  end : token_end i t ≡ spot j rest

token_found : TokensAreRead → {k : Kind} {i j : ℕ} {t rest : List ℕ} → Scalar k i t j rest → Delim rest → TokenFound k i t j rest
token_found law {k = k} {i = i} {j = j} {t = t} {rest = rest} x d =
    let r = law.reads k x.token x.is_token in
    let whole : t ≡ r.first ∷ (r.bytes ++ rest) = x.whole ∙ ap (λ v. v ++ rest) r.whole in
    record {
      first = r.first;
      bytes = r.bytes ++ rest;
      whole = whole;
      marks = ap (λ m. m.begin) r.begins;
      end = ap (token_end i) whole ∙ ap (λ m. scan_from m.next (suc i) (r.bytes ++ rest)) r.begins
          ∙ scan-spells law r.inside r.entered r.final (suc i) rest d
          ∙ ap (λ n. spot n rest) (let y : suc i + length r.bytes ≡ j = omega (arith, x.end, ap length r.whole) in y);
    }

-- ---- what a value begins with

abbrev starts : Option MarkKind → Bool
starts (Some mark.String) = true
starts (Some mark.Number) = true
starts (Some mark.True) = true
starts (Some mark.False) = true
starts (Some mark.Null) = true
starts (Some mark.OpenArray) = true
starts (Some mark.OpenObject) = true
starts _ = false

starts_scalar : (k : Kind) (w : List ℕ) → IsToken k w → starts (Some (mark_of k)) ≡ true
starts_scalar kind.Object w h = absurd h
starts_scalar kind.Array w h = absurd h
starts_scalar kind.String w h = refl
starts_scalar kind.Number w h = refl
starts_scalar kind.True w h = refl
starts_scalar kind.False w h = refl
starts_scalar kind.Null w h = refl

not_byte : (n b : ℕ) → starts ((move state.Gap n).begin) ≡ false → starts ((move state.Gap b).begin) ≡ true → eqb b n ≡ false
not_byte n b never starting = pick (eqb_tells b n)
  where
    pick : ((eqb b n ≡ true) × (b ≡ n)) ⊎ ((eqb b n ≡ false) × (b ≡ n → ⊥)) → eqb b n ≡ false
    pick (inl e) = let x = ap (λ m. starts ((move state.Gap m).begin)) e.1 in absurd cc
    pick (inr e) = e.0

record Start (t : List ℕ) : Type 0 where
  first : ℕ
  bytes : List ℕ
  whole : t ≡ first ∷ bytes
  no_blank : is_blank first ≡ false
  no_array_end : eqb first 0x5d ≡ false
  no_object_end : eqb first 0x7d ≡ false

four_false : (p q r s : Bool) → p ≡ false → q ≡ false → r ≡ false → s ≡ false → (p || (q || (r || s))) ≡ false
four_false p q r s a b c d = rw (a, b, c, d) refl

start_of : (b : ℕ) (bytes t : List ℕ) → t ≡ b ∷ bytes → starts ((move state.Gap b).begin) ≡ true → Start t
unfolding class_at
start_of b bytes t h starting =
    record {
      first = b;
      bytes = bytes;
      whole = h;
      no_blank = four_false _ _ _ _ (not_byte 0x20 b refl starting) (not_byte 0x09 b refl starting) (not_byte 0x0a b refl starting) (not_byte 0x0d b refl starting);
      no_array_end = not_byte 0x5d b refl starting;
      no_object_end = not_byte 0x7d b refl starting;
    }

token_start : TokensAreRead → {k : Kind} {i j : ℕ} {t rest : List ℕ} → Scalar k i t j rest → Start t
token_start law {k = k} {rest = rest} x =
    let r = law.reads k x.token x.is_token in
    start_of r.first (r.bytes ++ rest) _ (x.whole ∙ ap (λ v. v ++ rest) r.whole) (ap (λ m. starts m.begin) r.begins ∙ starts_scalar k x.token x.is_token)

value_start : TokensAreRead → {i j : ℕ} {t rest : List ℕ} {tree : Tree} → Value i t j rest tree → Start t
unfolding class_at
value_start law (leaf s) = token_start law s
value_start law (empty_array {bytes = t} bs) = start_of 0x5b t _ refl refl
value_start law (array {bytes = t} xs) = start_of 0x5b t _ refl refl
value_start law (empty_object {bytes = t} bs) = start_of 0x7b t _ refl refl
value_start law (object {bytes = t} xs) = start_of 0x7b t _ refl refl

start_not_blank : (t : List ℕ) → Start t → NotBlank t
start_not_blank t s = subst NotBlank (sym s.whole) (other s.no_blank)

-- ---- the parser finds the tree

-- the close after the children
data Ends : List ℕ → Type 0 where
  array_ends : {t : List ℕ} → Ends (0x5d ∷ t)
  object_ends : {t : List ℕ} → Ends (0x7d ∷ t)

ends_delim : {t : List ℕ} → Ends t → Delim t
ends_delim array_ends = an_array_end
ends_delim object_ends = an_object_end

ends_not_blank : {t : List ℕ} → Ends t → NotBlank t
ends_not_blank array_ends = other refl
ends_not_blank object_ends = other refl

-- with enough fuel
record Enough (P : ℕ → Type 0) : Type 0 where
  from : ℕ
  holds : (n : ℕ) → from ≤ n → P n

one_more : (P : ℕ → Type 0) (k : ℕ) → ((m : ℕ) → k ≤ m → P (suc m)) → Enough P
one_more P k h = record { from = suc k; holds = go }
  where
    go : (n : ℕ) → suc k ≤ n → P n
    go zero le = absurd (omega arith)
    go (suc m) le = h m (omega arith)

abbrev ValueFound : ℕ → List ℕ → ℕ → List ℕ → Tree → ℕ → Type 0
ValueFound i t j rest tree n = value_at n i t ≡ found tree (spot j rest)

abbrev all : Children → Spot → Option FoundAll
all kids p = Some (record { children = kids; rest = p })

abbrev ItemsFound : Spot → ℕ → List ℕ → Children → ℕ → Type 0
ItemsFound p j rest kids n = items_at n p ≡ all kids (spot j rest)

abbrev MembersFound : Spot → ℕ → List ℕ → Children → ℕ → Type 0
MembersFound p j rest kids n = members_at n p ≡ all kids (spot j rest)

child_last : (name : Option Span) (tree : Tree) (j l : ℕ) (t rest : List ℕ) (v : Option Found) (more : Spot → Option FoundAll)
    → v ≡ found tree (spot j t) → skip j t ≡ spot l rest → Ends rest → child_found name v more ≡ all (child name tree no_children) (spot l rest)
child_last name tree j l t rest v more h s array_ends = ap (λ v. child_found name v more) h ∙ ap (λ p. after_child name tree p more) s
child_last name tree j l t rest v more h s object_ends = ap (λ v. child_found name v more) h ∙ ap (λ p. after_child name tree p more) s

child_more : (name : Option Span) (tree : Tree) (j l m : ℕ) (t u rest : List ℕ) (kids : Children) (v : Option Found) (more : Spot → Option FoundAll)
    → v ≡ found tree (spot j t) → skip j t ≡ spot l (0x2c ∷ u) → more (skip (suc l) u) ≡ all kids (spot m rest)
    → child_found name v more ≡ all (child name tree kids) (spot m rest)
child_more name tree j l m t u rest kids v more h s r =
    ap (λ v. child_found name v more) h ∙ ap (λ p. after_child name tree p more) s ∙ ap (with_child name tree) r

leaf_case : (k : Kind) (w : List ℕ) → IsToken k w → (items members : Spot → Option FoundAll) (i : ℕ) (bytes t : List ℕ)
    → value_by (Some (mark_of k)) items members i bytes t ≡ leaf_found k i (token_end i bytes)
leaf_case kind.Object w h items members i bytes t = absurd h
leaf_case kind.Array w h items members i bytes t = absurd h
leaf_case kind.String w h items members i bytes t = refl
leaf_case kind.Number w h items members i bytes t = refl
leaf_case kind.True w h items members i bytes t = refl
leaf_case kind.False w h items members i bytes t = refl
leaf_case kind.Null w h items members i bytes t = refl

leaf_value : TokensAreRead → {k : Kind} {i j : ℕ} {t rest : List ℕ} → Scalar k i t j rest → Delim rest → (items members : Spot → Option FoundAll)
    → value_with items members i t ≡ found (node k (span i j) no_children) (spot j rest)
leaf_value law {k = k} {i = i} {t = t} x d items members =
    let f = token_found law x d in
    ap (value_with items members i) f.whole
    ∙ ap (λ m. value_by m items members i (f.first ∷ f.bytes) f.bytes) f.marks
    ∙ leaf_case k x.token x.is_token items members i (f.first ∷ f.bytes) f.bytes
    ∙ ap (λ v. leaf_found k i (token_end i v)) (sym f.whole)
    ∙ ap (leaf_found k i) f.end

container_more : (k : Kind) (c i j : ℕ) (rest : List ℕ) (kids : Children) (p : Spot) (b : ℕ) (t : List ℕ) (close_byte : ℕ) (more : Spot → Option FoundAll)
    → p.bytes ≡ b ∷ t → eqb b c ≡ false → more p ≡ all kids (spot j (close_byte ∷ rest))
    → container k c i p more ≡ found (node k (span i (suc j)) kids) (spot (suc j) rest)
container_more k c i j rest kids p b t close_byte more h differs r =
    ap (container_on k c i p more) h ∙ ap (λ x. cond x (close_found k i no_children p) (all_found k i (more p))) differs ∙ ap (all_found k i) r

-- the children begin behind the blanks
items_skip : TokensAreRead → {i j : ℕ} {t rest : List ℕ} {kids : Children} → Items i t j rest kids → Start ((skip i t).bytes)
items_skip law (last_item bs v cs) = let s = value_start law v in subst Start (sym (ap (λ p. p.bytes) (skip_is bs (start_not_blank _ s)))) s
items_skip law (item bs v cs xs) = let s = value_start law v in subst Start (sym (ap (λ p. p.bytes) (skip_is bs (start_not_blank _ s)))) s

members_skip : TokensAreRead → {i j : ℕ} {t rest : List ℕ} {kids : Children} → Members i t j rest kids → Start ((skip i t).bytes)
members_skip law (last_member bs n cs ds v es) = let s = token_start law n in subst Start (sym (ap (λ p. p.bytes) (skip_is bs (start_not_blank _ s)))) s
members_skip law (member bs n cs ds v es xs) = let s = token_start law n in subst Start (sym (ap (λ p. p.bytes) (skip_is bs (start_not_blank _ s)))) s

-- a name's end, and the place of the value behind the colon
record NamePlace : Type 0 where
  end : ℕ
  value : Spot

abbrev name_spot : Spot → NamePlace
name_spot e = let q = skip e.at e.bytes in record { end = e.at; value = skip (suc q.at) (rest_of q.bytes) }

abbrev after_name : ℕ → ℕ → NamePlace → Option FoundAll
after_name m j x = child_found (Some (span j x.end)) (value_at m x.value.at x.value.bytes) (λ q. members_at m q)

name_is : TokensAreRead → {j k l a : ℕ} {t1 t2 t3 t4 : List ℕ} → Scalar kind.String j t1 k t2 → Delim t2 → Blanks k t2 l (0x3a ∷ t3) → Blanks (suc l) t3 a t4 → Start t4
    → name_spot (token_end j t1) ≡ record { end = k; value = spot a t4 }
name_is law {k = k} {l = l} {t3 = t3} w d cs ds s =
    let f = token_found law w d in
    ap name_spot f.end
    ∙ ap (λ (q : Spot). record { end = k; value = skip (suc q.at) (rest_of q.bytes) }) (skip_is cs (other refl))
    ∙ ap (λ (v : Spot). record { end = k; value = v }) (skip_is ds (start_not_blank _ s))

mutual
  unfolding class_at value_at

  value_parsed : TokensAreRead → {i j : ℕ} {t rest : List ℕ} {tree : Tree} → Value i t j rest tree → Delim rest → Enough (ValueFound i t j rest tree)
  value_parsed law (leaf {i = i} {j = j} {bytes = t} {rest = rest} x) d = one_more (ValueFound i t j rest _) 0 (λ m le. leaf_value law x d (λ p. items_at m p) (λ p. members_at m p))
  value_parsed law (empty_array {i = i} {j = j} {bytes = t} {rest = rest} bs) d =
      one_more (ValueFound i (0x5b ∷ t) (suc j) rest _) 0 (λ m le. ap (λ p. container kind.Array 0x5d i p (λ p. items_at m p)) (skip_is bs (other refl)))
  value_parsed law (array {i = i} {j = j} {bytes = t} {rest = rest} {children = kids} xs) d =
      let s = items_skip law xs in let e = items_parsed law xs array_ends in
      one_more (ValueFound i (0x5b ∷ t) (suc j) rest _) e.from
      (λ m le. container_more kind.Array 0x5d i j rest kids (skip (suc i) t) s.first s.bytes 0x5d (λ p. items_at m p) s.whole s.no_array_end (e.holds m le))
  value_parsed law (empty_object {i = i} {j = j} {bytes = t} {rest = rest} bs) d =
      one_more (ValueFound i (0x7b ∷ t) (suc j) rest _) 0 (λ m le. ap (λ p. container kind.Object 0x7d i p (λ p. members_at m p)) (skip_is bs (other refl)))
  value_parsed law (object {i = i} {j = j} {bytes = t} {rest = rest} {children = kids} xs) d =
      let s = members_skip law xs in let e = members_parsed law xs object_ends in
      one_more (ValueFound i (0x7b ∷ t) (suc j) rest _) e.from
      (λ m le. container_more kind.Object 0x7d i j rest kids (skip (suc i) t) s.first s.bytes 0x7d (λ p. members_at m p) s.whole s.no_object_end (e.holds m le))

  items_parsed : TokensAreRead → {i j : ℕ} {t rest : List ℕ} {kids : Children} → Items i t j rest kids → Ends rest → Enough (ItemsFound (skip i t) j rest kids)
  items_parsed law (last_item {i = i} {j = j} {k = k} {l = l} {t0 = t0} {t1 = t1} {t2 = t2} {rest = rest} {tree = tree} bs v cs) d =
      let e = value_parsed law v (blanks_delim cs (ends_delim d)) in
      one_more (ItemsFound (skip i t0) l rest _) e.from (λ m le.
      ap (λ p. items_at (suc m) p) (skip_is bs (start_not_blank _ (value_start law v)))
      ∙ child_last None tree k l t2 rest (value_at m j t1) (λ q. items_at m q) (e.holds m le) (skip_is cs (ends_not_blank d)) d)
  items_parsed law (item {i = i} {j = j} {k = k} {l = l} {m = n} {t0 = t0} {t1 = t1} {t2 = t2} {t3 = t3} {rest = rest} {tree = tree} {more = kids} bs v cs xs) d =
      let e = value_parsed law v (blanks_delim cs a_comma) in let f = items_parsed law xs d in
      one_more (ItemsFound (skip i t0) n rest _) (max e.from f.from) (λ m le.
      ap (λ p. items_at (suc m) p) (skip_is bs (start_not_blank _ (value_start law v)))
      ∙ child_more None tree k l n t2 t3 rest kids (value_at m j t1) (λ q. items_at m q) (e.holds m (omega arith)) (skip_is cs (other refl)) (f.holds m (omega arith)))

  members_parsed : TokensAreRead → {i j : ℕ} {t rest : List ℕ} {kids : Children} → Members i t j rest kids → Ends rest → Enough (MembersFound (skip i t) j rest kids)
  members_parsed law (last_member {i = i} {j = j} {k = k} {l = l} {m = a} {n = b} {o = c} {t0 = t0} {t1 = t1} {t2 = t2} {t3 = t3} {t4 = t4} {t5 = t5} {rest = rest} {tree = tree} bs w cs ds v es) d =
      let e = value_parsed law v (blanks_delim es (ends_delim d)) in
      one_more (MembersFound (skip i t0) c rest _) e.from (λ m le.
      ap (λ p. members_at (suc m) p) (skip_is bs (start_not_blank _ (token_start law w)))
      ∙ ap (after_name m j) (name_is law w (blanks_delim cs a_colon) cs ds (value_start law v))
      ∙ child_last (Some (span j k)) tree b c t5 rest (value_at m a t4) (λ q. members_at m q) (e.holds m le) (skip_is es (ends_not_blank d)) d)
  members_parsed law (member {i = i} {j = j} {k = k} {l = l} {m = a} {n = b} {o = c} {p = q} {t0 = t0} {t1 = t1} {t2 = t2} {t3 = t3} {t4 = t4} {t5 = t5} {t6 = t6} {rest = rest} {tree = tree} {more = kids} bs w cs ds v es xs) d =
      let e = value_parsed law v (blanks_delim es a_comma) in let f = members_parsed law xs d in
      one_more (MembersFound (skip i t0) q rest _) (max e.from f.from) (λ m le.
      ap (λ p. members_at (suc m) p) (skip_is bs (start_not_blank _ (token_start law w)))
      ∙ ap (after_name m j) (name_is law w (blanks_delim cs a_colon) cs ds (value_start law v))
      ∙ child_more (Some (span j k)) tree b c q t5 t6 rest kids (value_at m a t4) (λ q. members_at m q) (e.holds m (omega arith)) (skip_is es (other refl)) (f.holds m (omega arith)))

-- ---- a text has one tree

record Parsed (i : ℕ) (t : List ℕ) (x : Tree) : Type 0 where
  after : Spot
  enough : Enough (λ n. value_at n (skip i t).at (skip i t).bytes ≡ found x after)

parsed : TokensAreRead → {i : ℕ} {t : List ℕ} {x : Tree} → Document i t x → Parsed i t x
parsed law {i = i} {t = t} (document {k = k} {t2 = t2} bs v cs) =
    let e = value_parsed law v (blanks_delim cs at_the_end) in
    record { after = spot k t2; enough = record { from = e.from; holds = λ n le. ap (λ (p : Spot). value_at n p.at p.bytes) (skip_is bs (start_not_blank _ (value_start law v))) ∙ e.holds n le } }

some_found : {x y : Found} → Some x ≡ Some y → x ≡ y
some_found e = cc

same_tree : {x y : Tree} {p q : Spot} → found x p ≡ found y q → x ≡ y
same_tree e = ap (λ (f : Found). f.tree) (some_found e)

pub one_tree : TokensAreRead → {i : ℕ} {t : List ℕ} {x y : Tree} → Document i t x → Document i t y → x ≡ y
one_tree law {i = i} {t = t} a b =
    let p = parsed law a in let q = parsed law b in
    let n : ℕ = max (p.enough.from) (q.enough.from) in
    same_tree (sym (p.enough.holds n (omega arith)) ∙ q.enough.holds n (omega arith))

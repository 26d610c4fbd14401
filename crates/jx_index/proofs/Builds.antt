-- Over the marks and ends of a value the building comes to have the value's rows, and nothing else.
use Rattle.std.proofs.Common.{◌≡◌, ℕ, suc, ◌+◌, List, [], ◌∷◌, ◌++◌, length, drop, append_assoc, slice_set, Option, None, Some, Bool, true, false, cond, refl, sym, ap, ◌∙◌, arith}
use Rattle.std.proofs.lemmas.List.{length-append, append-nil}
use Rattle.std.proofs.Math.Seq.{set-append_seam}
use Rattle.jx_lex.specs.declared.kind.Kind.{Kind}
use Rattle.jx_lex.specs.declared.kind.Kind.TheVariants as kind
use Rattle.jx_lex.specs.declared.alphabet.mark.Mark.{Mark}
use Rattle.jx_summary.specs.declared.span.Span.{Span}
use Rattle.jx_lex.specs.declared.alphabet.state.LexState.TheVariants as state
use Rattle.jx_lex.specs.declared.alphabet.mark.MarkKind.{MarkKind}
use Rattle.jx_lex.specs.declared.alphabet.mark.MarkKind.TheVariants as mark
use Rattle.jx_lex.specs.Classes.{class_at}
use Rattle.jx_lex.specs.Lex.{lex}
use Rattle.jx_lex.specs.Token.{IsBlank, space, tab, line_feed, carriage_return, IsToken}
use Rattle.jx_lex.specs.TokenStates.{mark_of}
use Rattle.jx_run.specs.Tree.{Tree, node, Children, no_children, child, span}
use Rattle.jx_run.specs.Grammar.{Blanks, no_blanks, blank, Scalar, Value, leaf, empty_array, array, empty_object, object, Items, last_item, item, Members, last_member, member}
use Rattle.jx_run.specs.Text.{Document, document, IsDocument}
use Rattle.jx_index.specs.declared.row.Row.{Row}
use Rattle.jx_index.specs.declared.builder.Opened.{Opened}
use Rattle.jx_index.specs.Rows.{size, sizes, rows_from, rows_below, rows}
use Rattle.jx_index.specs.Afters.{afters_from, afters_below, afters}
use Rattle.jx_index.specs.inside.Building.{Building, nothing_built, parent_in, child_place, counted, next_row, add_leaf, begin_container, with_end, set_end, is_name_next, on_mark, is_token, next_end, make, built_of}
use Rattle.jx_index.proofs.Tokens.{Delimited, at_end, at_close_array, at_close_object, at_colon, at_comma, blanks_delimited, tokened, TokensAreRead}

-- ---- numbers of rows

mutual
  pub size-length : (tree : Tree) (number : ℕ) (parent : Option ℕ) (place : ℕ) (name : Option Span) → length (rows_from tree number parent place name) ≡ size tree
  size-length (node kind s children) number parent at name = ap suc (sizes-length children (suc number) number 0)

  sizes-length : (children : Children) (number parent place : ℕ) → length (rows_below children number parent place) ≡ sizes children
  sizes-length no_children number parent place = refl
  sizes-length (child name tree more) number parent place =
      length-append (rows_from tree number (Some parent) place name) (rows_below more (number + size tree) parent (suc place))
      ∙ ap (λ n. n + length (rows_below more (number + size tree) parent (suc place))) (size-length tree number (Some parent) place name)
      ∙ ap (λ n. size tree + n) (sizes-length more (number + size tree) parent (suc place))

mutual
  pub afters-length : (tree : Tree) (number : ℕ) → length (afters_from tree number) ≡ size tree
  afters-length (node kind s children) number = ap suc (afters_below-length children (suc number))

  pub afters_below-length : (children : Children) (number : ℕ) → length (afters_below children number) ≡ sizes children
  afters_below-length no_children number = refl
  afters_below-length (child name tree more) number =
      length-append (afters_from tree number) (afters_below more (number + size tree))
      ∙ ap (λ n. n + length (afters_below more (number + size tree))) (afters-length tree number)
      ∙ ap (λ n. size tree + n) (afters_below-length more (number + size tree))

set_end-append : (before : List Row) (row : Row) (after : List Row) (end : ℕ) → set_end (length before) end (before ++ (row ∷ after)) ≡ before ++ (with_end end row ∷ after)
set_end-append [] row after end = refl
set_end-append (r ∷ before) row after end = ap (λ x. r ∷ x) (set_end-append before row after end)

-- ---- bytes

-- the building at the end, where these bytes are read from between tokens
abbrev pub reads : ℕ → ℕ → List ℕ → Building → Building
reads last at bytes b = let track = lex state.Gap at bytes in make last track.marks track.ends b

blank_reads : (last : ℕ) {b : ℕ} → IsBlank b → (at : ℕ) (t : List ℕ) (building : Building) → reads last at (b ∷ t) building ≡ reads last (suc at) t building
unfolding lex class_at
blank_reads last space at t building = refl
blank_reads last tab at t building = refl
blank_reads last line_feed at t building = refl
blank_reads last carriage_return at t building = refl

blanks_read : (last : ℕ) {i j : ℕ} {t rest : List ℕ} → Blanks i t j rest → (building : Building) → reads last i t building ≡ reads last j rest building
blanks_read last no_blanks building = refl
blanks_read last (blank h bs) building = blank_reads last h _ _ building ∙ blanks_read last bs building

-- a structural byte
pub data Structural : ℕ → MarkKind → Type 0 where
  open_array : Structural 0x5b mark.OpenArray
  open_object : Structural 0x7b mark.OpenObject
  close_array : Structural 0x5d mark.CloseArray
  close_object : Structural 0x7d mark.CloseObject
  colon : Structural 0x3a mark.Colon
  comma : Structural 0x2c mark.Comma

structural_reads : (last : ℕ) {b : ℕ} {k : MarkKind} → Structural b k → (at : ℕ) (t : List ℕ) (building : Building)
    → reads last at (b ∷ t) building ≡ reads last (suc at) t (on_mark k at 0 building)
unfolding lex class_at make
structural_reads last open_array at t building = refl
structural_reads last open_object at t building = refl
structural_reads last close_array at t building = refl
structural_reads last close_object at t building = refl
structural_reads last colon at t building = refl
structural_reads last comma at t building = refl

-- a token, with its mark and its end
make_token : (last : ℕ) (k : MarkKind) → is_token k ≡ true → (at end : ℕ) (marks marks' : List Mark) (ends ends' : List ℕ) (building : Building)
    → marks ≡ record { kind = k; at = at } ∷ marks' → next_end last ends ≡ end → drop 1 ends ≡ ends'
    → make last marks ends building ≡ make last marks' ends' (on_mark k at end building)
unfolding make
make_token last k t at end marks marks' ends ends' building m e d =
    ap (λ x. make last x ends building) m
    ∙ ap (λ c. make last marks' (cond c (drop 1 ends) ends) (on_mark k at (next_end last ends) building)) t
    ∙ ap (λ x. make last marks' x (on_mark k at (next_end last ends) building)) d
    ∙ ap (λ x. make last marks' ends' (on_mark k at x building)) e

pub token_is : (k : Kind) (w : List ℕ) → IsToken k w → is_token (mark_of k) ≡ true
token_is kind.Object w h = absurd h
token_is kind.Array w h = absurd h
token_is kind.String w h = refl
token_is kind.Number w h = refl
token_is kind.True w h = refl
token_is kind.False w h = refl
token_is kind.Null w h = refl

token_read : TokensAreRead → (last : ℕ) {k : Kind} {i j : ℕ} {t rest : List ℕ} → Scalar k i t j rest → Delimited rest → j + length rest ≡ last → (building : Building)
    → reads last i t building ≡ reads last j rest (on_mark (mark_of k) i j building)
token_read law last {k = k} {i = i} {j = j} scalar d h building =
    let p = tokened law scalar d last h in
    make_token last (mark_of k) (token_is k scalar.token scalar.is_token) i j _ _ _ _ building p.marks p.end p.ends

-- ---- rows, and the numbers behind them

-- the two lists of a building
pub record Laid : Type 0 where
  pub rows : List Row
  pub after : List ℕ

abbrev pub two : List Row → List ℕ → Laid
two rows after = record { rows = rows; after = after }

-- they are of one length
abbrev pub Even : Laid → Type 0
Even x = length x.after ≡ length x.rows

abbrev pub with_tree : Tree → Option ℕ → ℕ → Option Span → Laid → Laid
with_tree tree parent place name x =
    record { rows = x.rows ++ rows_from tree (length x.rows) parent place name; after = x.after ++ afters_from tree (length x.rows) }

abbrev pub with_below : Children → ℕ → ℕ → Laid → Laid
with_below children parent place x =
    record { rows = x.rows ++ rows_below children (length x.rows) parent place; after = x.after ++ afters_below children (length x.rows) }

even_tree : (tree : Tree) (parent : Option ℕ) (place : ℕ) (name : Option Span) (x : Laid) → Even x → Even (with_tree tree parent place name x)
even_tree tree parent place name x h =
    omega (
      arith,
      length-append x.rows (rows_from tree (length x.rows) parent place name),
      length-append x.after (afters_from tree (length x.rows)),
      size-length tree (length x.rows) parent place name,
      afters-length tree (length x.rows),
    )

-- one child, and then the others
one_more : (name : Option Span) (tree : Tree) (more : Children) (parent place : ℕ) (x : Laid)
    → with_below more parent (suc place) (with_tree tree (Some parent) place name x) ≡ with_below (child name tree more) parent place x
one_more name tree more parent place x =
    let here = rows_from tree (length x.rows) (Some parent) place name in
    let behind = afters_from tree (length x.rows) in
    let n : length (x.rows ++ here) ≡ length x.rows + size tree = length-append x.rows here ∙ ap (λ n. length x.rows + n) (size-length tree (length x.rows) (Some parent) place name) in
    ap (λ (m : ℕ). two ((x.rows ++ here) ++ rows_below more m parent (suc place)) ((x.after ++ behind) ++ afters_below more m)) n
    ∙ ap (λ (r : List Row). two (r) ((x.after ++ behind) ++ afters_below more (length x.rows + size tree)))
    (append_assoc x.rows here (rows_below more (length x.rows + size tree) parent (suc place)))
    ∙ ap (λ (a : List ℕ). two (x.rows ++ (here ++ rows_below more (length x.rows + size tree) parent (suc place))) (a))
    (append_assoc x.after behind (afters_below more (length x.rows + size tree)))

last_one : (name : Option Span) (tree : Tree) (parent place : ℕ) (x : Laid)
    → with_tree tree (Some parent) place name x ≡ with_below (child name tree no_children) parent place x
last_one name tree parent place x =
    ap (λ (r : List Row). two (x.rows ++ r) (x.after ++ afters_from tree (length x.rows)))
    (sym (append-nil (rows_from tree (length x.rows) (Some parent) place name)))
    ∙ ap (λ (a : List ℕ). two (x.rows ++ (rows_from tree (length x.rows) (Some parent) place name ++ [])) (x.after ++ a))
    (sym (append-nil (afters_from tree (length x.rows))))

-- a container begins: its own row, and the number behind that
abbrev pub begun : Row → Laid → Laid
begun row x = record { rows = x.rows ++ (row ∷ []); after = x.after ++ ((length x.rows + 1) ∷ []) }

-- it ends
abbrev pub over : ℕ → ℕ → Laid → Laid
over number end x = record { rows = set_end number end x.rows; after = slice_set x.after number (length x.rows) }

begun-length : (row : Row) (x : Laid) → length (begun row x).rows ≡ suc (length x.rows)
begun-length row x = omega (arith, length-append x.rows (row ∷ []))

-- the row of a container that begins
abbrev pub first_row : Kind → ℕ → Option ℕ → ℕ → Option Span → Row
first_row k i parent place name = record { kind = k; span = span i (suc i); parent = parent; place = place; name = name }

-- its end and the number behind it are set where it stands, before what stands in it
over_is : (k : Kind) (i j : ℕ) (children : Children) (parent : Option ℕ) (place : ℕ) (name : Option Span) (x : Laid) → Even x
    → over (length x.rows) (suc j) (with_below children (length x.rows) 0 (begun (first_row k i parent place name) x)) ≡ with_tree (node k (span i (suc j)) children) parent place name x
over_is k i j children parent place name x even =
    let row = first_row k i parent place name in
    let n = length x.rows in
    let below = rows_below children (suc n) n 0 in
    let behind = afters_below children (suc n) in
    let last : length (x.rows ++ (row ∷ below)) ≡ n + suc (sizes children) = omega (arith, length-append x.rows (row ∷ below), sizes-length children (suc n) n 0) in
    ap (λ (m : ℕ). over n (suc j) (two ((x.rows ++ (row ∷ [])) ++ rows_below children m n 0) ((x.after ++ ((n + 1) ∷ [])) ++ afters_below children m))) (begun-length row x)
    ∙ ap (λ (r : List Row). over n (suc j) (two (r) ((x.after ++ ((n + 1) ∷ [])) ++ behind))) (append_assoc x.rows (row ∷ []) below)
    ∙ ap (λ (a : List ℕ). over n (suc j) (two (x.rows ++ (row ∷ below)) (a))) (append_assoc x.after ((n + 1) ∷ []) behind)
    ∙ ap (λ (r : List Row). two (r) (slice_set (x.after ++ ((n + 1) ∷ behind)) n (length (x.rows ++ (row ∷ below))))) (set_end-append x.rows row below (suc j))
    ∙ ap (λ (a : List ℕ). two (x.rows ++ (with_end (suc j) row ∷ below)) (a))
    (ap (λ m. slice_set (x.after ++ ((n + 1) ∷ behind)) n m) last
    ∙ ap (λ m. slice_set (x.after ++ ((n + 1) ∷ behind)) m (n + suc (sizes children))) (sym even)
    ∙ set-append_seam x.after (n + 1) behind (n + suc (sizes children)))

-- ---- values

abbrev pub laid : Building → Laid
laid b = record { rows = b.rows; after = b.after }

-- with other rows, where a value has been read
abbrev pub past : Laid → List Opened → Building
past x opened = record { rows = x.rows; after = x.after; opened = opened; name = None }

-- with the rows of a value
abbrev pub with_value : Tree → Building → Building
with_value tree b = past (with_tree tree (parent_in b.opened) (child_place b.opened) b.name (laid b)) (counted b.opened)

leaf_marks : (k : Kind) (w : List ℕ) → IsToken k w → (i j : ℕ) (b : Building) → is_name_next b.opened b.name ≡ false
    → on_mark (mark_of k) i j b ≡ with_value (node k (span i j) no_children) b
leaf_marks kind.Object w h i j b n = absurd h
leaf_marks kind.Array w h i j b n = absurd h
leaf_marks kind.String w h i j b n = ap (λ c. cond c (record b { name = Some (span i j) }) (add_leaf kind.String (span i j) b)) n
leaf_marks kind.Number w h i j b n = refl
leaf_marks kind.True w h i j b n = refl
leaf_marks kind.False w h i j b n = refl
leaf_marks kind.Null w h i j b n = refl

abbrev pub children_count : Children → ℕ
children_count no_children = 0
children_count (child name tree more) = suc (children_count more)

-- inside a container: its row, what it is, and how many children it has
abbrev pub inside : Laid → ℕ → Bool → ℕ → List Opened → Building
inside x row is_object count outer = past x (record { row = row; is_object = is_object; count = count } ∷ outer)

abbrev pub with_children : Children → Laid → ℕ → Bool → ℕ → List Opened → Building
with_children children x row is_object count outer = inside (with_below children row count x) row is_object (count + children_count children) outer

then_more : (name : Option Span) (tree : Tree) (more : Children) (x : Laid) (row : ℕ) (is_object : Bool) (count : ℕ) (outer : List Opened)
    → with_children more (with_tree tree (Some row) count name x) row is_object (suc count) outer ≡ with_children (child name tree more) x row is_object count outer
then_more name tree more x row is_object count outer =
    ap (λ (l : Laid). inside l row is_object (suc count + children_count more) outer) (one_more name tree more row count x)
    ∙ ap (λ m. inside (with_below (child name tree more) row count x) row is_object m outer) (let c : suc count + children_count more ≡ count + suc (children_count more) = omega arith in c)

then_none : (name : Option Span) (tree : Tree) (x : Laid) (row : ℕ) (is_object : Bool) (count : ℕ) (outer : List Opened)
    → inside (with_tree tree (Some row) count name x) row is_object (suc count) outer ≡ with_children (child name tree no_children) x row is_object count outer
then_none name tree x row is_object count outer =
    ap (λ (l : Laid). inside l row is_object (suc count) outer) (last_one name tree row count x)
    ∙ ap (λ m. inside (with_below (child name tree no_children) row count x) row is_object m outer) (let e : suc count ≡ count + 1 = omega arith in e)

-- where a container begins
abbrev pub opening : Kind → ℕ → Building → Laid
opening k i b = begun (next_row k (span i (suc i)) b) (laid b)

even_opening : (k : Kind) (i : ℕ) (b : Building) → Even (laid b) → Even (opening k i b)
even_opening k i b h =
    omega (arith, length-append b.rows (next_row k (span i (suc i)) b ∷ []), length-append b.after ((length b.rows + 1) ∷ []))

-- a container without children, whose two lists end in its own entries
empty_over : (k : Kind) (i j : ℕ) (b : Building) → Even (laid b) → over (length b.rows) (suc j) (opening k i b) ≡ with_tree (node k (span i (suc j)) no_children) (parent_in b.opened) (child_place b.opened) b.name (laid b)
empty_over k i j b h =
    ap (λ (r : List Row). over (length b.rows) (suc j) (two (r) ((opening k i b).after))) (sym (append-nil (opening k i b).rows))
    ∙ ap (λ (a : List ℕ). over (length b.rows) (suc j) (two ((opening k i b).rows ++ []) (a))) (sym (append-nil (opening k i b).after))
    ∙ over_is k i j no_children (parent_in b.opened) (child_place b.opened) b.name (laid b) h

-- ---- lengths

pub blanks_length : {i j : ℕ} {t rest : List ℕ} → Blanks i t j rest → i + length t ≡ j + length rest
blanks_length no_blanks = refl
blanks_length (blank {i = i} {bytes = bytes} h bs) = (let e : i + suc (length bytes) ≡ suc i + length bytes = omega arith in e) ∙ blanks_length bs

scalar_length : {k : Kind} {i j : ℕ} {t rest : List ℕ} → Scalar k i t j rest → i + length t ≡ j + length rest
scalar_length {rest = rest} x = omega (arith, ap length x.whole, length-append x.token rest, x.end)

mutual
  pub value_length : {i j : ℕ} {t rest : List ℕ} {tree : Tree} → Value i t j rest tree → i + length t ≡ j + length rest
  value_length (leaf x) = scalar_length x
  value_length (empty_array bs) = omega (arith, blanks_length bs)
  value_length (array xs) = omega (arith, items_length xs)
  value_length (empty_object bs) = omega (arith, blanks_length bs)
  value_length (object xs) = omega (arith, members_length xs)

  pub items_length : {i j : ℕ} {t rest : List ℕ} {children : Children} → Items i t j rest children → i + length t ≡ j + length rest
  items_length (last_item bs v cs) = blanks_length bs ∙ value_length v ∙ blanks_length cs
  items_length (item bs v cs xs) = omega (arith, blanks_length bs, value_length v, blanks_length cs, items_length xs)

  pub members_length : {i j : ℕ} {t rest : List ℕ} {children : Children} → Members i t j rest children → i + length t ≡ j + length rest
  members_length (last_member bs n cs ds v es) = omega (arith, blanks_length bs, scalar_length n, blanks_length cs, blanks_length ds, value_length v, blanks_length es)
  members_length (member bs n cs ds v es xs) =
      omega (arith, blanks_length bs, scalar_length n, blanks_length cs, blanks_length ds, value_length v, blanks_length es, members_length xs)

-- ---- the induction

mutual
  pub value_reads : TokensAreRead → (last : ℕ) {i j : ℕ} {t rest : List ℕ} {tree : Tree} → Value i t j rest tree → Delimited rest → j + length rest ≡ last
      → (b : Building) → is_name_next b.opened b.name ≡ false → Even (laid b) → reads last i t b ≡ reads last j rest (with_value tree b)
  value_reads law last (leaf {kind = k} {i = i} {j = j} {rest = rest} s) d h b n even =
      token_read law last s d h b ∙ ap (λ x. reads last j rest x) (leaf_marks k s.token s.is_token i j b n)
  value_reads law last (empty_array {i = i} {j = j} {bytes = t} {rest = rest} bs) d h b n even =
      structural_reads last open_array i t b
      ∙ blanks_read last bs (begin_container kind.Array false i b)
      ∙ structural_reads last close_array j rest (begin_container kind.Array false i b)
      ∙ ap (λ (x : Laid). reads last (suc j) rest (past x (counted b.opened))) (empty_over kind.Array i j b even)
  value_reads law last (array {i = i} {j = j} {bytes = t} {rest = rest} {children = children} xs) d h b n even =
      structural_reads last open_array i t b
      ∙ items_read law last xs at_close_array (omega arith) (opening kind.Array i b) (length b.rows) 0 (counted b.opened) (even_opening kind.Array i b even)
      ∙ structural_reads last close_array j rest (with_children children (opening kind.Array i b) (length b.rows) false 0 (counted b.opened))
      ∙ ap (λ (x : Laid). reads last (suc j) rest (past x (counted b.opened))) (over_is kind.Array i j children (parent_in b.opened) (child_place b.opened) b.name (laid b) even)
  value_reads law last (empty_object {i = i} {j = j} {bytes = t} {rest = rest} bs) d h b n even =
      structural_reads last open_object i t b
      ∙ blanks_read last bs (begin_container kind.Object true i b)
      ∙ structural_reads last close_object j rest (begin_container kind.Object true i b)
      ∙ ap (λ (x : Laid). reads last (suc j) rest (past x (counted b.opened))) (empty_over kind.Object i j b even)
  value_reads law last (object {i = i} {j = j} {bytes = t} {rest = rest} {children = children} xs) d h b n even =
      structural_reads last open_object i t b
      ∙ members_read law last xs at_close_object (omega arith) (opening kind.Object i b) (length b.rows) 0 (counted b.opened) (even_opening kind.Object i b even)
      ∙ structural_reads last close_object j rest (with_children children (opening kind.Object i b) (length b.rows) true 0 (counted b.opened))
      ∙ ap (λ (x : Laid). reads last (suc j) rest (past x (counted b.opened))) (over_is kind.Object i j children (parent_in b.opened) (child_place b.opened) b.name (laid b) even)

  pub items_read : TokensAreRead → (last : ℕ) {i j : ℕ} {t rest : List ℕ} {children : Children} → Items i t j rest children → Delimited rest → j + length rest ≡ last
      → (x : Laid) (row count : ℕ) (outer : List Opened) → Even x → reads last i t (inside x row false count outer) ≡ reads last j rest (with_children children x row false count outer)
  items_read law last (last_item {k = k} {l = l} {t2 = t2} {rest = rest} {tree = tree} bs v cs) d h x row count outer even =
      blanks_read last bs _
      ∙ value_reads law last v (blanks_delimited cs d) (omega (arith, blanks_length cs)) (inside x row false count outer) refl even
      ∙ blanks_read last cs _
      ∙ ap (λ b. reads last l rest b) (then_none None tree x row false count outer)
  items_read law last (item {l = l} {m = m} {t3 = t3} {rest = rest} {tree = tree} {more = more} bs v cs xs) d h x row count outer even =
      blanks_read last bs _
      ∙ value_reads law last v (blanks_delimited cs at_comma) (omega (arith, blanks_length cs, items_length xs)) (inside x row false count outer) refl even
      ∙ blanks_read last cs _
      ∙ structural_reads last comma l t3 _
      ∙ items_read law last xs d h (with_tree tree (Some row) count None x) row (suc count) outer (even_tree tree (Some row) count None x even)
      ∙ ap (λ b. reads last m rest b) (then_more None tree more x row false count outer)

  pub members_read : TokensAreRead → (last : ℕ) {i j : ℕ} {t rest : List ℕ} {children : Children} → Members i t j rest children → Delimited rest → j + length rest ≡ last
      → (x : Laid) (row count : ℕ) (outer : List Opened) → Even x → reads last i t (inside x row true count outer) ≡ reads last j rest (with_children children x row true count outer)
  members_read law last (last_member {j = j} {k = k} {l = l} {m = m} {n = n} {o = o} {t3 = t3} {rest = rest} {tree = tree} bs s cs ds v es) d h x row count outer even =
      blanks_read last bs _
      ∙ token_read law last s (blanks_delimited cs at_colon) (omega (arith, blanks_length cs, blanks_length ds, value_length v, blanks_length es)) (inside x row true count outer)
      ∙ blanks_read last cs _
      ∙ structural_reads last colon l t3 _
      ∙ blanks_read last ds _
      ∙ value_reads law last v (blanks_delimited es d) (omega (arith, blanks_length es)) (record (inside x row true count outer) { name = Some (span j k) }) refl even
      ∙ blanks_read last es _
      ∙ ap (λ b. reads last o rest b) (then_none (Some (span j k)) tree x row true count outer)
  members_read law last (member {j = j} {k = k} {l = l} {m = m} {n = n} {o = o} {p = p} {t3 = t3} {t6 = t6} {rest = rest} {tree = tree} {more = more} bs s cs ds v es xs) d h x row count outer even =
      blanks_read last bs _
      ∙ token_read law last s (blanks_delimited cs at_colon) (omega (arith, blanks_length cs, blanks_length ds, value_length v, blanks_length es, members_length xs)) (inside x row true count outer)
      ∙ blanks_read last cs _
      ∙ structural_reads last colon l t3 _
      ∙ blanks_read last ds _
      ∙ value_reads law last v (blanks_delimited es at_comma) (omega (arith, blanks_length es, members_length xs)) (record (inside x row true count outer) { name = Some (span j k) }) refl even
      ∙ blanks_read last es _
      ∙ structural_reads last comma o t6 _
      ∙ members_read law last xs d h (with_tree tree (Some row) count (Some (span j k)) x) row (suc count) outer (even_tree tree (Some row) count (Some (span j k)) x even)
      ∙ ap (λ b. reads last p rest b) (then_more (Some (span j k)) tree more x row true count outer)

-- what is built of a whole text
pub record IsBuilt (tree : Tree) (b : Building) : Type 0 where
  pub rows_are : b.rows ≡ rows tree
  pub after_are : b.after ≡ afters tree
  pub none_open : b.opened ≡ []

pub built_is : TokensAreRead → (start limit : ℕ) (bytes : List ℕ) (tree : Tree) → IsDocument start bytes limit tree
    → IsBuilt tree (built_of (start + length bytes) (lex state.Gap start bytes).marks (lex state.Gap start bytes).ends)
unfolding make lex
built_is law start limit bytes tree text =
    let e = whole text.reads in record { rows_are = ap (λ (b : Building). b.rows) e; after_are = ap (λ (b : Building). b.after) e; none_open = ap (λ (b : Building). b.opened) e }
  where
    whole : {t : List ℕ} → Document start t tree → built_of (start + length t) (lex state.Gap start t).marks (lex state.Gap start t).ends ≡ with_value tree nothing_built
    whole {t = t} (document {i = i} {l = l} bs v cs) =
        blanks_read (start + length t) bs nothing_built
        ∙ value_reads law (start + length t) v (blanks_delimited cs at_end) (sym (blanks_length bs ∙ value_length v)) nothing_built refl refl
        ∙ blanks_read (start + length t) cs _

-- The values of a text are spelt by the grammar: where they stand, and that strings are strings.
use Rattle.std.proofs.Common.{◌≡◌, true, false, ℕ, suc, ◌+◌, ◌-◌, ◌<◌, List, [], ◌∷◌, ◌++◌, length, take, drop, Option, None, Some, Result, Ok, Err, refl, sym, ap, subst, ◌∙◌, arith}
use Rattle.std.specs.Prelude.{is_some, slice_get, slice_range}
use Rattle.std.specs.Result.{result_ok}
use Rattle.std.proofs.lemmas.Option.{slice_get_within, same_Some}
use Rattle.std.proofs.lemmas.List.{drop_at, take_all, take_at, drop-drop}
use Rattle.jx_lex.specs.declared.kind.Kind.{Kind}
use Rattle.jx_lex.specs.declared.kind.Kind.TheVariants.{String}
use Rattle.jx_lex.specs.Token.{IsString, IsToken}
use Rattle.jx_run.specs.Grammar.{Value, leaf, empty_array, array, empty_object, object, Items, last_item, item, Members, last_member, member}
use Rattle.jx_run.specs.Laws.{span_of}
use Rattle.jx_run.specs.Text.{Document, document, IsDocument, IsText, Reads}
use Rattle.jx_run.specs.Tree.{Children, Tree, node, span}
use Rattle.jx_run.proofs.Spans.{IsStretch, blanks_stretch, reads_of, then_stretch, value_stretch, scalar_stretch}
use Rattle.jx_run.proofs.LawProofs.{value_span}
use Rattle.jx_run.specs.declared.texts.verdict.Verdict.TheVariants.{Accepted}
use Rattle.jx_index.specs.ByNames.{a_text, IsVerdictBy}
use Rattle.jx_index.specs.Indexed.{IndexedValue}
use Rattle.jx_index.specs.declared.find_fault.FindFault.{FindFault}
use Rattle.jx_index.specs.declared.row.Row.{Row}
use Rattle.jx_index.specs.Leads.{kind_of, leads, led, number_of, HasRow, Numbered}
use Rattle.jx_index.specs.Pointers.{tokens}
use Rattle.jx_index.specs.Repeats.{IsLeast, IsRepeat}
use Rattle.jx_index.specs.Rows.{rows}
use Rattle.jx_index.specs.Standing.{in_first, in_later, inside, itself, root_standing, row_of, HasNode, Standing, Stands, StandsBelow}
use Rattle.jx_wire.specs.Messages.{wire_settings}
use Rattle.jx_wire.specs.inside.Nodes.{row_in, row_value}
use Rattle.jx_wire.specs.Values.{value_at, value_in, IsBody}

-- a value that stands somewhere in a text
record IsIn (text : List ℕ) (tree : Tree) : Type 0 where
  start : ℕ
  end : ℕ
  reads : Reads text start end tree

left_is : (text t u : List ℕ) (i j : ℕ) → drop i text ≡ t → IsStretch i t j u → drop j text ≡ u
left_is text t u i j at s =
    let there : i + length s.bytes ≡ j = sym s.end in
    sym (drop-drop (length s.bytes) i text ∙ ap (λ n. drop n text) there) ∙ ap (drop (length s.bytes)) (at ∙ s.whole) ∙ drop_at s.bytes u (length s.bytes) refl

one_byte : {i b : ℕ} {t : List ℕ} → IsStretch i (b ∷ t) (suc i) t
one_byte {b = b} = record { bytes = b ∷ []; whole = refl; end = omega arith }

value_there : (text : List ℕ) {i j : ℕ} {t u : List ℕ} {tree : Tree} → drop i text ≡ t → Value i t j u tree → IsIn text tree
value_there text {i = i} {j = j} {u = u} {tree = tree} at v =
    record { start = i; end = j; reads = reads_of text i (subst (λ (x : List ℕ). Value i x j u tree) (sym at) v) }

mutual
  in_value : (text : List ℕ) {i j : ℕ} {t u : List ℕ} {tree inner : Tree} {s r : Standing} → drop i text ≡ t → Value i t j u tree → Stands tree s inner r → IsIn text inner
  in_value text at v itself = value_there text at v
  in_value text at (leaf x) (inside below) = elim below [ ]
  in_value text at (empty_array bs) (inside below) = elim below [ ]
  in_value text at (empty_object bs) (inside below) = elim below [ ]
  in_value text at (array xs) (inside below) = in_items text (left_is text _ _ _ _ at one_byte) xs below
  in_value text at (object xs) (inside below) = in_members text (left_is text _ _ _ _ at one_byte) xs below

  in_items : (text : List ℕ) {i j : ℕ} {t u : List ℕ} {c : Children} {inner : Tree} {m q p : ℕ} {r : Standing} → drop i text ≡ t → Items i t j u c → StandsBelow c m q p inner r → IsIn text inner
  in_items text at (last_item bs v cs) (in_first stands) = in_value text (left_is text _ _ _ _ at (blanks_stretch bs)) v stands
  in_items text at (last_item bs v cs) (in_later below) = elim below [ ]
  in_items text at (item bs v cs xs) (in_first stands) = in_value text (left_is text _ _ _ _ at (blanks_stretch bs)) v stands
  in_items text at (item bs v cs xs) (in_later below) =
      in_items text (left_is text _ _ _ _ at (then_stretch (blanks_stretch bs) (then_stretch (value_stretch v) (then_stretch (blanks_stretch cs) one_byte)))) xs below

  in_members : (text : List ℕ) {i j : ℕ} {t u : List ℕ} {c : Children} {inner : Tree} {m q p : ℕ} {r : Standing} → drop i text ≡ t → Members i t j u c → StandsBelow c m q p inner r → IsIn text inner
  in_members text at (last_member bs n cs ds v es) (in_first stands) =
      in_value text (left_is text _ _ _ _ at (then_stretch (blanks_stretch bs) (then_stretch (scalar_stretch n) (then_stretch (blanks_stretch cs) (then_stretch one_byte (blanks_stretch ds)))))) v stands
  in_members text at (last_member bs n cs ds v es) (in_later below) = elim below [ ]
  in_members text at (member bs n cs ds v es xs) (in_first stands) =
      in_value text (left_is text _ _ _ _ at (then_stretch (blanks_stretch bs) (then_stretch (scalar_stretch n) (then_stretch (blanks_stretch cs) (then_stretch one_byte (blanks_stretch ds)))))) v stands
  in_members text at (member bs n cs ds v es xs) (in_later below) =
      in_members text (left_is text _ _ _ _ at (then_stretch (blanks_stretch bs) (then_stretch (scalar_stretch n) (then_stretch (blanks_stretch cs) (then_stretch one_byte (then_stretch (blanks_stretch ds)
      (then_stretch (value_stretch v) (then_stretch (blanks_stretch es) one_byte)))))))) xs below

range_is : (text bytes rest : List ℕ) (i j : ℕ) → drop i text ≡ bytes ++ rest → j ≡ i + length bytes → slice_range text i j ≡ bytes
range_is text bytes rest i j at end = ap (take (j - i)) at ∙ take_at bytes rest (j - i) (omega (arith, end))

string_there : (text : List ℕ) {i j : ℕ} {t u : List ℕ} {tree : Tree} → drop i text ≡ t → Value i t j u tree → kind_of tree ≡ String → (units : List ℕ) × IsString (slice_range text i j) units
string_there text {i = i} {j = j} {u = u} at (leaf x) e =
    let token = subst (λ (k : Kind). IsToken k x.token) e x.is_token in
    (token.0, subst (λ (l : List ℕ). IsString l token.0) (sym (range_is text x.token u i j (at ∙ x.whole) x.end)) token.1)
string_there text at _ e = absurd cc

row_kind : (tree : Tree) (s : Standing) → (row_of tree s).kind ≡ kind_of tree
row_kind (node kind span _) s = refl

row_span : (tree : Tree) (s : Standing) → (row_of tree s).span ≡ span_of tree
row_span (node kind span _) s = refl

in_document : (body : List ℕ) {tree inner : Tree} {r : Standing} → Document 0 body tree → Stands tree root_standing inner r → IsIn body inner
in_document body (document bs v cs) stands = in_value body (left_is body _ _ _ _ refl (blanks_stretch bs)) v stands

-- the string of a row
spelt_row : (body : List ℕ) (tree : Tree) (number : ℕ) (row : Row) → Document 0 body tree → HasNode tree number → slice_get (rows tree) number ≡ Some row → row.kind ≡ String
    → (units : List ℕ) × IsString (slice_range body row.span.start row.span.end) units
spelt_row body tree number row reads has at e =
    let here = in_document body reads has.stands in
    let same : row_of has.inner has.standing ≡ row = same_Some _ _ (sym has.is_row ∙ at) in
    let row_kind_is : row.kind ≡ kind_of has.inner = sym (ap (λ (r : Row). r.kind) same) ∙ row_kind has.inner has.standing in
    let row_span_is : row.span ≡ span here.start here.end = sym (ap (λ (r : Row). r.span) same) ∙ row_span has.inner has.standing ∙ value_span here.reads in
    let string = string_there body refl here.reads (sym row_kind_is ∙ e) in
    (string.0, subst (λ (s : _). IsString (slice_range body s.start s.end) string.0) (sym row_span_is) string.1)

body_text : (body : List ℕ) (tree : Tree) → IsBody body tree → IsDocument 0 body 64 tree
body_text body tree is =
    let whole : is.rest ≡ body = sym (is.whole ∙ ap (λ (f : List ℕ). f ++ is.rest) is.is_front) in
    subst (λ (l : List ℕ). IsDocument 0 l 64 tree) whole (subst (λ (f : List ℕ). IsDocument (0 + length f) is.rest 64 tree) is.is_front is.text)

pub spelt_at : (body : List ℕ) (tree : Tree) (node : Option ℕ) (row : Row) → IsBody body tree → ((n : ℕ) → n < length (rows tree) → HasNode tree n) → row_in (rows tree) node ≡ Some row → row.kind ≡ String
    → (units : List ℕ) × IsString (slice_range body row.span.start row.span.end) units
spelt_at body tree None row is nodes at e = absurd cc
spelt_at body tree (Some number) row is nodes at e = spelt_row body tree number row (body_text body tree is).reads (nodes number (slice_get_within (rows tree) number row at)) at e

-- ---- a look-up

-- the value to which a pointer leads is that of the row of its node
pub value_is : (body : List ℕ) (tree : Tree) (table : List Row) (pointer : List ℕ) (number : Option ℕ) → table ≡ rows tree → ((c : Numbered) → led body tree (tokens pointer) ≡ Ok c → HasRow (rows tree) c)
    → result_ok (leads body tree (tokens pointer)) ≡ number → value_at body tree pointer ≡ row_value body (row_in table number)
value_is body tree table pointer number is law at = by (led body tree (tokens pointer)) refl
  where
    by : (r : Result Numbered FindFault) → led body tree (tokens pointer) ≡ r → value_in body (led body tree (tokens pointer)) ≡ row_value body (row_in table number)
    by (Ok c) e =
        let has = law c e in
        let node_is : number ≡ Some c.number = sym at ∙ ap (λ (r : Result Numbered FindFault). result_ok (number_of r)) e in
        let row_is : row_in table number ≡ Some has.row = ap (row_in table) node_is ∙ ap (λ (l : List Row). slice_get l c.number) is ∙ has.is_row in
        ap (value_in body) e
        ∙ ap (λ (k : Kind). Some (record { kind = k; bytes = slice_range body (span_of c.tree).start (span_of c.tree).end })) (sym has.kind)
        ∙ ap (λ (s : _). Some (record { kind = has.row.kind; bytes = slice_range body s.start s.end })) (sym has.span)
        ∙ ap (row_value body) (sym row_is)
    by (Err fault) e =
        let node_is : number ≡ None = sym at ∙ ap (λ (r : Result Numbered FindFault). result_ok (number_of r)) e in
        ap (value_in body) e ∙ ap (λ (o : Option ℕ). row_value body (row_in table o)) (sym node_is)

pub no_value : (body : List ℕ) (tree : Tree) (pointer : List ℕ) → result_ok (leads body tree (tokens pointer)) ≡ None → value_at body tree pointer ≡ None
no_value body tree pointer e = by (led body tree (tokens pointer)) e
  where
    by : (r : Result Numbered FindFault) → result_ok (number_of r) ≡ None → value_in body r ≡ None
    by (Ok c) n = absurd cc
    by (Err fault) n = refl

pub some_value : (body : List ℕ) (tree : Tree) (pointer : List ℕ) (number : ℕ) → result_ok (leads body tree (tokens pointer)) ≡ Some number → value_at body tree pointer ≡ None → ⊥
some_value body tree pointer number e = by (led body tree (tokens pointer)) e
  where
    by : (r : Result Numbered FindFault) → result_ok (number_of r) ≡ Some number → value_in body r ≡ None → ⊥
    by (Ok c) s n = absurd cc
    by (Err fault) s n = absurd cc

pub value_found : (body : List ℕ) (tree : Tree) (pointer : List ℕ) (number : Option ℕ) → is_some number ≡ true → result_ok (leads body tree (tokens pointer)) ≡ number → value_at body tree pointer ≡ None → ⊥
value_found body tree pointer None e at = absurd cc
value_found body tree pointer (Some number) e at = some_value body tree pointer number at

pub value_lost : (body : List ℕ) (tree : Tree) (pointer : List ℕ) (number : Option ℕ) → is_some number ≡ false → result_ok (leads body tree (tokens pointer)) ≡ number → value_at body tree pointer ≡ None
value_lost body tree pointer None e at = no_value body tree pointer at
value_lost body tree pointer (Some number) e at = absurd cc

-- ---- a message

pub text_there : (index : IndexedValue) (body : List ℕ) (tree : Tree) → index.text ≡ body → index.span ≡ span 0 (length index.text) → IsBody body tree
    → IsText index.text index.span.start index.span.end 64 tree
text_there index body tree text_is span_here is =
    let all : slice_range index.text 0 (length index.text) ≡ body = take_all (length index.text - 0) index.text (omega arith) ∙ text_is in
    subst (λ (p : _). IsDocument p.start (slice_range index.text p.start p.end) 64 tree) (sym span_here) (subst (λ (l : List ℕ). IsDocument 0 l 64 tree) (sym all) (body_text body tree is))

pub body_there : (index : IndexedValue) (body : List ℕ) (tree : Tree) → index.text ≡ body → index.span ≡ span 0 (length index.text) → IsBody body tree
    → IsText body index.span.start index.span.end 64 tree
body_there index body tree text_is span_here is =
    subst (λ (l : List ℕ). IsText l index.span.start index.span.end 64 tree) text_is (text_there index body tree text_is span_here is)

-- no object repeats a name
pub names_once : (body : List ℕ) (table : List Row) (tree : Tree) → IsVerdictBy wire_settings body Accepted → ((t : Tree) → IsBody body t → table ≡ rows t) → IsBody body tree → IsLeast (IsRepeat body (rows tree)) None
names_once body table tree (a_text {tree = told} is names) same here =
    subst (λ (l : List Row). IsLeast (IsRepeat body l) None) (sym (same told is) ∙ same tree here) names

pub tree_of : (body : List ℕ) → IsVerdictBy wire_settings body Accepted → (tree : Tree) × IsBody body tree
tree_of body (a_text {tree = tree} is names) = (tree, is)

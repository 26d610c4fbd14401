-- A text whose bytes stand further on has the same tree, whose spans stand further on; and its names lie in its bytes.
use Rattle.std.proofs.Common.{◌≡◌, ℕ, suc, ◌+◌, ◌≤◌, max, List, ◌∷◌, length, Option, None, Some, append-nil, refl, sym, ap, subst, ◌∙◌, arith}
use Rattle.std.proofs.Math.Nat.{add-suc}
use Rattle.jx_lex.specs.declared.kind.Kind.{Kind}
use Rattle.jx_lex.specs.declared.kind.Kind.TheVariants.{Array, Object}
use Rattle.jx_summary.specs.declared.span.Span.{Span}
use Rattle.jx_run.specs.Grammar.{Blanks, no_blanks, blank, Scalar, Value, leaf, empty_array, array, empty_object, object, Items, last_item, item, Members, last_member, member}
use Rattle.jx_run.specs.Text.{Document, document, IsDocument}
use Rattle.jx_run.specs.Tree.{Tree, node, Children, no_children, child, span, depth, depth_over, deepest}
use Rattle.jx_run.proofs.Spans.{IsStretch, blanks_stretch, items_stretch, members_stretch, then_stretch, value_stretch}

abbrev pub moved_span : ℕ → Span → Span
moved_span by s = span (by + s.start) (by + s.end)

abbrev pub moved_name : ℕ → Option Span → Option Span
moved_name by None = None
moved_name by (Some s) = Some (moved_span by s)

abbrev mutual
  pub moved_tree : ℕ → Tree → Tree
  moved_tree by (node kind place children) = node kind (moved_span by place) (moved_children by children)

  pub moved_children : ℕ → Children → Children
  moved_children by no_children = no_children
  moved_children by (child name tree more) = child (moved_name by name) (moved_tree by tree) (moved_children by more)

-- ---- the grammar

blanks_moved : (by : ℕ) {i j : ℕ} {t u : List ℕ} → Blanks i t j u → Blanks (by + i) t (by + j) u
blanks_moved by no_blanks = no_blanks
blanks_moved by (blank {i = i} {j = j} {bytes = t} {rest = u} h bs) = blank h (subst (λ (n : ℕ). Blanks n t (by + j) u) (add-suc by i) (blanks_moved by bs))

scalar_moved : (by : ℕ) {kind : Kind} {i j : ℕ} {t u : List ℕ} → Scalar kind i t j u → Scalar kind (by + i) t (by + j) u
scalar_moved by x = let end = x.end in record { token = x.token; is_token = x.is_token; whole = x.whole; end = omega (arith, end) }

-- what stands behind a byte
blanks_next : (by : ℕ) {i j : ℕ} {t u : List ℕ} → Blanks (suc i) t j u → Blanks (suc (by + i)) t (by + j) u
blanks_next by {i = i} {j = j} {t = t} {u = u} bs = subst (λ (n : ℕ). Blanks n t (by + j) u) (add-suc by i) (blanks_moved by bs)

mutual
  value_moved : (by : ℕ) {i j : ℕ} {t u : List ℕ} {tree : Tree} → Value i t j u tree → Value (by + i) t (by + j) u (moved_tree by tree)
  value_moved by (leaf x) = leaf (scalar_moved by x)
  value_moved by (empty_array {i = i} {j = j} {bytes = t} {rest = u} bs) =
      subst (λ (n : ℕ). Value (by + i) (0x5b ∷ t) n u (node Array (span (by + i) n) no_children)) (sym (add-suc by j)) (empty_array (blanks_next by bs))
  value_moved by (array {i = i} {j = j} {bytes = t} {rest = u} {children = children} xs) =
      subst (λ (n : ℕ). Value (by + i) (0x5b ∷ t) n u (node Array (span (by + i) n) (moved_children by children))) (sym (add-suc by j))
      (array (subst (λ (n : ℕ). Items n t (by + j) (0x5d ∷ u) (moved_children by children)) (add-suc by i) (items_moved by xs)))
  value_moved by (empty_object {i = i} {j = j} {bytes = t} {rest = u} bs) =
      subst (λ (n : ℕ). Value (by + i) (0x7b ∷ t) n u (node Object (span (by + i) n) no_children)) (sym (add-suc by j)) (empty_object (blanks_next by bs))
  value_moved by (object {i = i} {j = j} {bytes = t} {rest = u} {children = children} xs) =
      subst (λ (n : ℕ). Value (by + i) (0x7b ∷ t) n u (node Object (span (by + i) n) (moved_children by children))) (sym (add-suc by j))
      (object (subst (λ (n : ℕ). Members n t (by + j) (0x7d ∷ u) (moved_children by children)) (add-suc by i) (members_moved by xs)))

  items_moved : (by : ℕ) {i j : ℕ} {t u : List ℕ} {children : Children} → Items i t j u children → Items (by + i) t (by + j) u (moved_children by children)
  items_moved by (last_item bs v cs) = last_item (blanks_moved by bs) (value_moved by v) (blanks_moved by cs)
  items_moved by (item {l = l} {m = m} {t3 = t} {rest = u} {more = more} bs v cs xs) =
      item (blanks_moved by bs) (value_moved by v) (blanks_moved by cs) (subst (λ (n : ℕ). Items n t (by + m) u (moved_children by more)) (add-suc by l) (items_moved by xs))

  members_moved : (by : ℕ) {i j : ℕ} {t u : List ℕ} {children : Children} → Members i t j u children → Members (by + i) t (by + j) u (moved_children by children)
  members_moved by (last_member bs x cs ds v es) = last_member (blanks_moved by bs) (scalar_moved by x) (blanks_moved by cs) (blanks_next by ds) (value_moved by v) (blanks_moved by es)
  members_moved by (member {o = o} {p = p} {t6 = t} {rest = u} {more = more} bs x cs ds v es xs) =
      member (blanks_moved by bs) (scalar_moved by x) (blanks_moved by cs) (blanks_next by ds) (value_moved by v) (blanks_moved by es)
      (subst (λ (n : ℕ). Members n t (by + p) u (moved_children by more)) (add-suc by o) (members_moved by xs))

mutual
  depth_moved : (by : ℕ) (tree : Tree) → depth (moved_tree by tree) ≡ depth tree
  depth_moved by (node kind place children) = ap (depth_over kind) (deepest_moved by children)

  deepest_moved : (by : ℕ) (children : Children) → deepest (moved_children by children) ≡ deepest children
  deepest_moved by no_children = refl
  deepest_moved by (child name tree more) = ap (λ (n : ℕ). max n (deepest (moved_children by more))) (depth_moved by tree) ∙ ap (max (depth tree)) (deepest_moved by more)

text_moved : (by : ℕ) {i : ℕ} {t : List ℕ} {tree : Tree} → Document i t tree → Document (by + i) t (moved_tree by tree)
text_moved by (document bs v cs) = document (blanks_moved by bs) (value_moved by v) (blanks_moved by cs)

pub document_moved : (by at limit : ℕ) (bytes : List ℕ) (tree : Tree) → IsDocument at bytes limit tree → IsDocument (by + at) bytes limit (moved_tree by tree)
document_moved by at limit bytes tree d = record { reads = text_moved by d.reads; within = subst (λ (n : ℕ). n ≤ limit) (sym (depth_moved by tree)) d.within }

-- ---- where names lie

-- a name that ends by an offset
abbrev pub NameBy : ℕ → Option Span → Type 0
NameBy end None = Unit {0}
NameBy end (Some s) = (s.start ≤ s.end) × (s.end ≤ end)

abbrev mutual
  pub NamesBy : ℕ → Tree → Type 0
  NamesBy end (node kind place children) = NamesBelow end children

  pub NamesBelow : ℕ → Children → Type 0
  NamesBelow end no_children = Unit {0}
  NamesBelow end (child name tree more) = NameBy end name × NamesBy end tree × NamesBelow end more

goes_on : {i j : ℕ} {t u : List ℕ} → IsStretch i t j u → i ≤ j
goes_on s = let end = s.end in omega (arith, end)

name_by : {kind : Kind} {i j : ℕ} {t u : List ℕ} (end : ℕ) → Scalar kind i t j u → j ≤ end → NameBy end (Some (span i j))
name_by end x low = let long = x.end in (omega (arith, long), low)

mutual
  value_names : {i j : ℕ} {t u : List ℕ} {tree : Tree} (end : ℕ) → Value i t j u tree → j ≤ end → NamesBy end tree
  value_names end (leaf x) low = tt
  value_names end (empty_array bs) low = tt
  value_names end (array xs) low = items_names end xs (omega (arith, low))
  value_names end (empty_object bs) low = tt
  value_names end (object xs) low = members_names end xs (omega (arith, low))

  items_names : {i j : ℕ} {t u : List ℕ} {children : Children} (end : ℕ) → Items i t j u children → j ≤ end → NamesBelow end children
  items_names end (last_item bs v cs) low = let c = goes_on (blanks_stretch cs) in (tt, value_names end v (omega (arith, c, low)), tt)
  items_names end (item bs v cs xs) low =
      let c = goes_on (blanks_stretch cs) in
      let x = goes_on (items_stretch xs) in
      (tt, value_names end v (omega (arith, c, x, low)), items_names end xs low)

  members_names : {i j : ℕ} {t u : List ℕ} {children : Children} (end : ℕ) → Members i t j u children → j ≤ end → NamesBelow end children
  members_names end (last_member bs n cs ds v es) low =
      let c = goes_on (blanks_stretch cs) in
      let d = goes_on (blanks_stretch ds) in
      let w = goes_on (value_stretch v) in
      let e = goes_on (blanks_stretch es) in
      (name_by end n (omega (arith, c, d, w, e, low)), value_names end v (omega (arith, e, low)), tt)
  members_names end (member bs n cs ds v es xs) low =
      let c = goes_on (blanks_stretch cs) in
      let d = goes_on (blanks_stretch ds) in
      let w = goes_on (value_stretch v) in
      let e = goes_on (blanks_stretch es) in
      let x = goes_on (members_stretch xs) in
      (name_by end n (omega (arith, c, d, w, e, x, low)), value_names end v (omega (arith, e, x, low)), members_names end xs low)

-- those of a text lie in its bytes
pub text_names : {t : List ℕ} {tree : Tree} → Document 0 t tree → NamesBy (length t) tree
text_names {t = t} (document bs v cs) =
    let c = goes_on (blanks_stretch cs) in
    let all = then_stretch (blanks_stretch bs) (then_stretch (value_stretch v) (blanks_stretch cs)) in
    let end = all.end in
    let long : length t ≡ length all.bytes = ap length (all.whole ∙ append-nil all.bytes) in
    value_names (length t) v (omega (arith, c, end, long))

-- The marks of a text come to the parts of a container in it.
use Rattle.std.proofs.Common.{◌≡◌, ℕ, zero, suc, ◌+◌, ◌-◌, ◌*◌, ◌/◌, ◌<◌, ◌≤◌, List, [], ◌∷◌, ◌++◌, length, drop, refl, sym, ap, subst, ◌∙◌, arith, Bool, true, false}
use Rattle.std.proofs.Math.Nat.{zero-div}
use Rattle.std.specs.Prelude.{◌==◌}
use Rattle.std.specs.List.{AllByRecursion}
use Rattle.jx_lex.specs.declared.kind.Kind.{Kind}
use Rattle.jx_lex.specs.declared.kind.Kind.TheVariants as kind
use Rattle.jx_lex.specs.declared.alphabet.mark.Mark.{Mark}
use Rattle.jx_lex.specs.declared.alphabet.mark.MarkKind.{MarkKind}
use Rattle.jx_lex.specs.declared.alphabet.mark.MarkKind.TheVariants as mark
use Rattle.jx_lex.specs.declared.alphabet.state.LexState.TheVariants.{Gap}
use Rattle.jx_lex.specs.Lex.{lex}
use Rattle.jx_lex.specs.Token.{IsToken}
use Rattle.jx_summary.specs.declared.span.Span.{Span}
use Rattle.jx_run.specs.Laws.{span_of}
use Rattle.jx_run.specs.Tree.{Tree, node, Children, no_children, child, span}
use Rattle.jx_run.specs.Grammar.{Blanks, Value, leaf, empty_array, array, empty_object, object}
use Rattle.jx_run.proofs.Spans.{blanks_stretch}
use Rattle.jx_index.specs.Leads.{kind_of}
use Rattle.jx_index.proofs.Builds.{Structural, open_array, open_object, close_array, close_object}
use Rattle.jx_index.proofs.Tokens.{TokensAreRead}
use Rattle.jx_each.specs.Due.{behind}
use Rattle.jx_file_query.proofs.Behinds.{left_byte}
use Rattle.jx_file_query.specs.declared.cutting.Aim.{Aim}
use Rattle.jx_file_query.specs.declared.part.ContainerPart.{ContainerPart}
use Rattle.jx_file_query.specs.Cuts.{Cuts, at_depth, at_last, begun, cut, cut_all}
use Rattle.jx_file_query.specs.Parts.{IsContainer, Place, part_of, parted, parts_of, places}
use Rattle.jx_file_query.proofs.Flats.{blanks_cut, cuts, inside, one, structural_cut}
use Rattle.jx_file_query.proofs.Children.{Ends, items_chained, items_end, members_chained, members_end, rest_in}
use Rattle.jx_file_query.proofs.Lists.{Chained, rest_all, rest_of}
use Rattle.jx_file_query.proofs.Steps.{Front, all_append, all_outside, all_over, outside, within}
use Rattle.jx_file_query.proofs.Ways.{Inside, Low}

-- the container begins in the first part
first_part : (parts : ℕ) (whole : Span) (at : ℕ) → at ≡ whole.start → part_of parts whole at ≡ 0
first_part parts whole at e =
    let z : (at - whole.start) * parts ≡ 0 = ap (λ (n : ℕ). n * parts) (let d : at - whole.start ≡ 0 = omega (arith, e) in d) ∙ (let n : 0 * parts ≡ 0 = omega arith in n) in
    ap (λ (n : ℕ). n / (whole.end - whole.start)) z ∙ zero-div (whole.end - whole.start)

module _ (aim : Aim) (law : TokensAreRead) (last : ℕ) (text : List ℕ) where
  all_front : (i : ℕ) (ms : List Mark) → i ≡ aim.whole.start → AllByRecursion (Low i) ms → AllByRecursion (Front aim) ms
  all_front i [] e h = tt
  all_front i (m ∷ ms) e h = (let l = h.0 in omega (arith, l, e), all_front i ms e h.1)

  -- marks up to the opening bracket
  begins : (all before : List Mark) (i : ℕ) (b : ℕ) (k : MarkKind) (t : List ℕ) → Structural b k → i ≡ aim.whole.start → AllByRecursion (Low i) before → all ≡ before ++ (lex Gap i (b ∷ t)).marks
      → cut_all aim all (begun aim.whole) ≡ cuts aim (suc i) t (begun aim.whole)
  begins all before i b k t s e low are =
      ap (λ (ms : List Mark). cut_all aim ms (begun aim.whole)) are
      ∙ all_append aim before (lex Gap i (b ∷ t)).marks (begun aim.whole)
      ∙ ap (cut_all aim (lex Gap i (b ∷ t)).marks) (all_outside aim before (begun aim.whole) (all_front i before e low))
      ∙ structural_cut aim s i t (begun aim.whole)
      ∙ ap (cuts aim (suc i) t) (outside aim (one aim k i) (begun aim.whole) (omega (arith, e)))

  -- parts that are made from left to right are those of the children
  made : (c : Cuts) (i j : ℕ) (children : Children) → i ≡ aim.whole.start → Chained i j (places text i children) → Ends c (rest_in aim law last text 0 aim.whole.start 0 0 (places text i children))
      → Ends c (parted aim.parts aim.whole 0 (places text i children))
  made c i j no_children e chain h = h
  made c i j (child name tree more) e chain h =
      let b = behind text (record { name = name; tree = tree }) in
      let first : Place = record { before = i; behind = b } in
      let others = places text b more in
      subst (Ends c)
      (ap (λ (n : ℕ). rest_of aim.parts aim.whole n aim.whole.start 0 0 first others) (sym (first_part aim.parts aim.whole i e))
      ∙ ap (λ (s : ℕ). rest_of aim.parts aim.whole (part_of aim.parts aim.whole i) s 0 0 first others) (sym e)
      ∙ rest_all aim.parts aim.whole 0 first others j chain) h

  -- an empty container
  nothing : (k : MarkKind) → ((at : ℕ) (c : Cuts) → at_depth 0 aim k at c ≡ at_last at c.some c) → (j : ℕ) (rest : List ℕ) → aim.whole.start < j → Ends (cuts aim (suc j) rest (cut aim (one aim k j) (begun aim.whole))) []
  nothing k is j rest far =
      let closed : Cuts = at_last j false (begun aim.whole) in
      let e : cuts aim (suc j) rest (cut aim (one aim k j) (begun aim.whole)) ≡ closed =
      ap (cuts aim (suc j) rest) (within aim (one aim k j) (begun aim.whole) far refl ∙ is j (begun aim.whole)) ∙ all_over aim (lex Gap (suc j) rest).marks closed refl in
      subst (λ (c : Cuts). Ends c []) (sym e) (record { over = refl; ended = refl })

  from : (c d : Cuts) (ps : List ContainerPart) → c ≡ d → Ends d ps → Ends c ps
  from c d ps e h = subst (λ (x : Cuts). Ends x ps) (sym e) h

  no_leaf : (k : Kind) (w : List ℕ) → IsToken k w → IsContainer k → ⊥
  no_leaf kind.Object w h c = h
  no_leaf kind.Array w h c = h
  no_leaf kind.String w h c = c
  no_leaf kind.Number w h c = c
  no_leaf kind.True w h c = c
  no_leaf kind.False w h c = c
  no_leaf kind.Null w h c = c

  value_ends : (all before : List Mark) {i j : ℕ} {t rest : List ℕ} {tree : Tree} → Value i t j rest tree → j + length rest ≡ last → drop i text ≡ t → AllByRecursion (Low i) before → all ≡ before ++ (lex Gap i t).marks
      → IsContainer (kind_of tree) → span_of tree ≡ aim.whole → Ends (cut_all aim all (begun aim.whole)) (parts_of aim.parts text tree)
  value_ends all before (leaf {kind = k} x) h there low are is spans = absurd (no_leaf k x.token x.is_token is)
  value_ends all before (empty_array {i = i} {j = j} {bytes = t} {rest = rest} bs) h there low are is spans =
      let e : i ≡ aim.whole.start = ap (λ (s : Span). s.start) spans in
      let p = (blanks_stretch bs).end in
      from (cut_all aim all (begun aim.whole)) (cuts aim (suc j) rest (cut aim (one aim mark.CloseArray j) (begun aim.whole))) []
      (begins all before i 0x5b mark.OpenArray t open_array e low are ∙ blanks_cut aim bs (begun aim.whole) ∙ structural_cut aim close_array j rest (begun aim.whole))
      (nothing mark.CloseArray (λ x c. refl) j rest (omega (arith, p, e)))
  value_ends all before (array {i = i} {j = j} {bytes = t} {rest = rest} {children = children} xs) h there low are is spans =
      let e : i ≡ aim.whole.start = ap (λ (s : Span). s.start) spans in
      let next = left_byte text 0x5b t i there in
      let c = cut_all aim all (begun aim.whole) in
      let ends : Ends c (rest_in aim law last text 0 aim.whole.start 0 0 (places text i children)) =
      from c (cuts aim (suc i) t (begun aim.whole)) (rest_in aim law last text 0 aim.whole.start 0 0 (places text i children)) (begins all before i 0x5b mark.OpenArray t open_array e low are)
      (items_end aim law last text xs next (omega (arith, h)) (omega (arith, e)) i 0 false [] 0 aim.whole.start 0) in
      subst (λ (w : Span). Ends c (parted aim.parts w 0 (places text i children))) (sym spans) (made c i j children e (items_chained text xs next i) ends)
  value_ends all before (empty_object {i = i} {j = j} {bytes = t} {rest = rest} bs) h there low are is spans =
      let e : i ≡ aim.whole.start = ap (λ (s : Span). s.start) spans in
      let p = (blanks_stretch bs).end in
      from (cut_all aim all (begun aim.whole)) (cuts aim (suc j) rest (cut aim (one aim mark.CloseObject j) (begun aim.whole))) []
      (begins all before i 0x7b mark.OpenObject t open_object e low are ∙ blanks_cut aim bs (begun aim.whole) ∙ structural_cut aim close_object j rest (begun aim.whole))
      (nothing mark.CloseObject (λ x c. refl) j rest (omega (arith, p, e)))
  value_ends all before (object {i = i} {j = j} {bytes = t} {rest = rest} {children = children} xs) h there low are is spans =
      let e : i ≡ aim.whole.start = ap (λ (s : Span). s.start) spans in
      let next = left_byte text 0x7b t i there in
      let c = cut_all aim all (begun aim.whole) in
      let ends : Ends c (rest_in aim law last text 0 aim.whole.start 0 0 (places text i children)) =
      from c (cuts aim (suc i) t (begun aim.whole)) (rest_in aim law last text 0 aim.whole.start 0 0 (places text i children)) (begins all before i 0x7b mark.OpenObject t open_object e low are)
      (members_end aim law last text xs next (omega (arith, h)) (omega (arith, e)) i 0 false [] 0 aim.whole.start 0) in
      subst (λ (w : Span). Ends c (parted aim.parts w 0 (places text i children))) (sym spans) (made c i j children e (members_chained text xs next i) ends)

  -- what all marks come to
  pub parts_end : (all : List Mark) (tree : Tree) → Inside law last text all tree → IsContainer (kind_of tree) → span_of tree ≡ aim.whole → Ends (cut_all aim all (begun aim.whole)) (parts_of aim.parts text tree)
  parts_end all tree x is spans = value_ends all x.before x.value x.whole x.there x.low x.marks is spans

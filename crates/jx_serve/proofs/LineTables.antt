-- Blocks of whole lines in a document: how they are cut and joined, and what an edit leaves of them.
use Rattle.std.proofs.Common.{◌≡◌, ℕ, ◌+◌, ◌-◌, ◌<◌, ◌≤◌, List, [], ◌∷◌, ◌++◌, length, take, drop, get_or, refl, sym, ap, subst, ◌∙◌, arith, append_assoc, append-nil, length-append, length-drop}
use Rattle.std.specs.Prelude.{slice_range, IfSome, Option, None, Some}
use Rattle.std.proofs.lemmas.List.Sums.{sum_by-cons, sum_by_more, sum_by-take-le}
use Rattle.std.proofs.lemmas.List.{take-append-drop, take-append-le, drop-append-le, at_drop_more, take_all, take-take, length-take-le}
use Rattle.std.proofs.Math.Seq.{take-add, take-append-add, drop-append-add, take-append_seam}
use Rattle.jx_edit.specs.Document.{edited}
use Rattle.jx_ndjson.specs.LinesRun.{HoldLines}
use Rattle.jx_ndjson.specs.WholeLines.{WholeLinesValue}
use Rattle.jx_serve.specs.declared.line_table.LineTable.{LineTable}
use Rattle.jx_serve.specs.inside.LineTables.{AreBlocks, AreLaid, AreLinesOf, IsBlockAt, IsLaid, IsTable, len_of}

-- ---- blocks one behind another

pub blocks_len : (limit : ℕ) (bytes : List ℕ) (blocks : List WholeLinesValue) → AreBlocks limit bytes blocks → len_of blocks ≡ length bytes
blocks_len limit bytes [] h = sym (ap length h)
blocks_len limit bytes (b ∷ bs) h =
    let here : b.len ≡ length h.0 = (h.3).1.len_is in
    let more : len_of bs ≡ length h.1 = blocks_len limit h.1 bs h.4 in
    sum_by-cons (λ (block : WholeLinesValue). block.len) b bs ∙ (let e : b.len + len_of bs ≡ length bytes = omega (arith, here, more, ap length h.2, length-append h.0 h.1) in e)

pub record AreSplit (limit : ℕ) (bytes : List ℕ) (vs ws : List WholeLinesValue) : Type 0 where
  pub first : List ℕ
  pub last : List ℕ
  pub both : bytes ≡ first ++ last
  pub are_first : AreBlocks limit first vs
  pub are_last : AreBlocks limit last ws

split : (limit : ℕ) (bytes : List ℕ) (vs ws : List WholeLinesValue) → AreBlocks limit bytes (vs ++ ws) → AreSplit limit bytes vs ws
split limit bytes [] ws h = record { first = []; last = bytes; both = refl; are_first = refl; are_last = h }
split limit bytes (v ∷ vs) ws h =
    let rest : AreSplit limit h.1 vs ws = split limit h.1 vs ws h.4 in
    record {
      first = h.0 ++ rest.first;
      last = rest.last;
      both = h.2 ∙ ap (λ (l : List ℕ). h.0 ++ l) rest.both ∙ sym (append_assoc h.0 rest.first rest.last);
      are_first = (h.0, rest.first, refl, h.3, rest.are_first);
      are_last = rest.are_last;
    }

-- at the block of a number
pub split_at : (limit : ℕ) (bytes : List ℕ) (blocks : List WholeLinesValue) (count : ℕ) → AreBlocks limit bytes blocks → AreSplit limit bytes (take count blocks) (drop count blocks)
split_at limit bytes blocks count h =
    split limit bytes (take count blocks) (drop count blocks) (subst (λ (l : List WholeLinesValue). AreBlocks limit bytes l) (sym (take-append-drop count blocks)) h)

joined : (limit : ℕ) (xs ys : List ℕ) (vs ws : List WholeLinesValue) → AreBlocks limit xs vs → AreBlocks limit ys ws → AreBlocks limit (xs ++ ys) (vs ++ ws)
joined limit xs ys [] ws h k = subst (λ (l : List ℕ). AreBlocks limit (l ++ ys) ws) (sym h) k
joined limit xs ys (v ∷ vs) ws h k = (h.0, h.1 ++ ys, ap (λ (l : List ℕ). l ++ ys) h.2 ∙ append_assoc h.0 h.1 ys, h.3, joined limit h.1 ys vs ws h.4 k)

-- ---- a table

nothing_behind : (xs : List ℕ) → xs ≡ xs ++ ([] ++ [])
nothing_behind xs = sym (append-nil xs)

pub laid_none : (limit : ℕ) (bytes : List ℕ) → AreLaid limit bytes [] [] 0
laid_none limit bytes = record { head = []; gap = bytes; rest = []; tail = []; whole = nothing_behind bytes; are_in_front = refl; are_behind = refl; behind_is = refl }

pub laid_same : (limit : ℕ) (bytes : List ℕ) (front back fs bs : List WholeLinesValue) (behind n : ℕ) → fs ≡ front → bs ≡ back → n ≡ behind → AreLaid limit bytes front back behind → AreLaid limit bytes fs bs n
laid_same limit bytes front back fs bs behind n e f g h =
    subst (λ (l : List WholeLinesValue). AreLaid limit bytes l bs n) (sym e) (subst (λ (l : List WholeLinesValue). AreLaid limit bytes front l n) (sym f) (subst (λ (k : ℕ). AreLaid limit bytes front back k) (sym g) h))

-- the blocks in front from one on are forgotten
pub laid_cut : (limit : ℕ) (bytes : List ℕ) (front back : List WholeLinesValue) (behind count : ℕ) → AreLaid limit bytes front back behind → AreLaid limit bytes (take count front) back behind
laid_cut limit bytes front back behind count h =
    let s : AreSplit limit h.head (take count front) (drop count front) = split_at limit h.head front count h.are_in_front in
    record {
      head = s.first;
      gap = s.last ++ h.gap;
      rest = h.rest;
      tail = h.tail;
      whole =
          h.whole ∙ ap (λ (l : List ℕ). l ++ (h.gap ++ (h.rest ++ h.tail))) s.both ∙ append_assoc s.first s.last (h.gap ++ (h.rest ++ h.tail))
          ∙ ap (λ (l : List ℕ). s.first ++ l) (sym (append_assoc s.last h.gap (h.rest ++ h.tail)));
      are_in_front = s.are_first;
      are_behind = h.are_behind;
      behind_is = h.behind_is;
    }

-- those behind are
pub laid_forgotten : (limit : ℕ) (bytes : List ℕ) (front back : List WholeLinesValue) (behind : ℕ) → AreLaid limit bytes front back behind → AreLaid limit bytes front [] 0
laid_forgotten limit bytes front back behind h =
    record {
      head = h.head;
      gap = h.gap ++ (h.rest ++ h.tail);
      rest = [];
      tail = [];
      whole = h.whole ∙ ap (λ (l : List ℕ). h.head ++ l) (nothing_behind (h.gap ++ (h.rest ++ h.tail)));
      are_in_front = h.are_in_front;
      are_behind = refl;
      behind_is = refl;
    }

pub parts_len : (head gap rest tail bytes : List ℕ) → bytes ≡ head ++ (gap ++ (rest ++ tail)) → length bytes ≡ length head + (length gap + (length rest + length tail))
parts_len head gap rest tail bytes e = omega (arith, ap length e, length-append head (gap ++ (rest ++ tail)), length-append gap (rest ++ tail), length-append rest tail)

-- blocks in front are put behind what is not read
pub laid_back : (limit : ℕ) (bytes : List ℕ) (front back : List WholeLinesValue) (behind count len start : ℕ) → behind ≡ 0 → length bytes ≡ len → start ≡ len_of (take count front)
    → AreLaid limit bytes front back behind → AreLaid limit bytes (take count front) (drop count front) (len - start)
laid_back limit bytes front back behind count len start none is there h =
    let s : AreSplit limit h.head (take count front) (drop count front) = split_at limit h.head front count h.are_in_front in
    let last : List ℕ = h.gap ++ (h.rest ++ h.tail) in
    let first : start ≡ length s.first = there ∙ blocks_len limit s.first (take count front) s.are_first in
    let all : length bytes ≡ length h.head + length last = ap length h.whole ∙ length-append h.head last in
    record {
      head = s.first;
      gap = [];
      rest = s.last;
      tail = last;
      whole = h.whole ∙ ap (λ (l : List ℕ). l ++ last) s.both ∙ append_assoc s.first s.last last;
      are_in_front = s.are_first;
      are_behind = s.are_last;
      behind_is = omega (arith, first, all, is, ap length s.both, length-append s.first s.last);
    }

empty : (xs : List ℕ) → length xs ≡ 0 → xs ≡ []
empty [] h = refl
empty (x ∷ xs) h = absurd (omega (arith, h))

-- those behind are put to those in front, where no byte stands between them
pub laid_joined : (limit : ℕ) (bytes : List ℕ) (front back : List WholeLinesValue) (before behind len : ℕ) → before ≡ len_of front → length bytes ≡ len → before + behind ≡ len
    → AreLaid limit bytes front back behind → AreLaid limit bytes (front ++ back) [] 0
laid_joined limit bytes front back before behind len is long met h =
    let first : before ≡ length h.head = is ∙ blocks_len limit h.head front h.are_in_front in
    let none : h.gap ≡ [] = empty h.gap (omega (arith, parts_len h.head h.gap h.rest h.tail bytes h.whole, h.behind_is, first, long, met)) in
    record {
      head = h.head ++ h.rest;
      gap = h.tail;
      rest = [];
      tail = [];
      whole =
          h.whole ∙ ap (λ (l : List ℕ). h.head ++ (l ++ (h.rest ++ h.tail))) none ∙ sym (append_assoc h.head h.rest h.tail)
          ∙ ap (λ (l : List ℕ). (h.head ++ h.rest) ++ l) (nothing_behind h.tail);
      are_in_front = joined limit h.head h.rest front back h.are_in_front h.are_behind;
      are_behind = refl;
      behind_is = refl;
    }

one_block : (limit : ℕ) (bytes : List ℕ) (block : WholeLinesValue) → AreLinesOf limit bytes block → AreBlocks limit bytes (block ∷ [])
one_block limit bytes block h = (bytes, [], sym (append-nil bytes), h, refl)

-- a block that was read stands behind those in front
pub laid_more : (limit : ℕ) (bytes : List ℕ) (front back : List WholeLinesValue) (before behind : ℕ) (block : WholeLinesValue) → before ≡ len_of front
    → IsBlockAt limit bytes before (length bytes - behind) block → AreLaid limit bytes front back behind → AreLaid limit bytes (front ++ block ∷ []) back behind
laid_more limit bytes front back before behind block is b h =
    let after : List ℕ = h.rest ++ h.tail in
    let first : before ≡ length h.head = is ∙ blocks_len limit h.head front h.are_in_front in
    let low : block.len ≤ length h.gap = omega (arith, parts_len h.head h.gap h.rest h.tail bytes h.whole, h.behind_is, first, b.within, b.some) in
    let there : drop before bytes ≡ h.gap ++ after =
    ap (λ (n : ℕ). drop n bytes) (first ∙ (let z : length h.head ≡ length h.head + 0 = omega arith in z)) ∙ ap (λ (l : List ℕ). drop (length h.head + 0) l) h.whole ∙ drop-append-add h.head (h.gap ++ after) 0 in
    let count : (before + block.len) - before ≡ block.len = omega arith in
    let cut : slice_range bytes before (before + block.len) ≡ take block.len h.gap =
    ap (λ (n : ℕ). take n (drop before bytes)) count ∙ ap (λ (l : List ℕ). take block.len l) there ∙ take-append-le block.len h.gap after low in
    let lines : AreLinesOf limit (take block.len h.gap) block = subst (λ (l : List ℕ). AreLinesOf limit l block) cut b.are_lines in
    record {
      head = h.head ++ take block.len h.gap;
      gap = drop block.len h.gap;
      rest = h.rest;
      tail = h.tail;
      whole =
          h.whole ∙ ap (λ (l : List ℕ). h.head ++ (l ++ after)) (sym (take-append-drop block.len h.gap))
          ∙ ap (λ (l : List ℕ). h.head ++ l) (append_assoc (take block.len h.gap) (drop block.len h.gap) after)
          ∙ sym (append_assoc h.head (take block.len h.gap) (drop block.len h.gap ++ after));
      are_in_front = joined limit h.head (take block.len h.gap) front (block ∷ []) h.are_in_front (one_block limit (take block.len h.gap) block lines);
      are_behind = h.are_behind;
      behind_is = h.behind_is;
    }

-- an edit of bytes that are not read changes no block
pub laid_edited : (limit : ℕ) (bytes text : List ℕ) (front back : List WholeLinesValue) (before behind start end : ℕ) → before ≡ len_of front → before ≤ start → start ≤ end → end + behind ≤ length bytes
    → AreLaid limit bytes front back behind → AreLaid limit (edited start end text bytes) front back behind
laid_edited limit bytes text front back before behind start end is low order within h =
    let after : List ℕ = h.rest ++ h.tail in
    let first : before ≡ length h.head = is ∙ blocks_len limit h.head front h.are_in_front in
    let all = parts_len h.head h.gap h.rest h.tail bytes h.whole in
    let behind_is = h.behind_is in
    let k : ℕ = start - length h.head in
    let m : ℕ = end - length h.head in
    let k_is : start ≡ length h.head + k = omega arith in
    let m_is : end ≡ length h.head + m = omega arith in
    let m_low : m ≤ length h.gap = omega arith in
    let k_low : k ≤ length h.gap = omega arith in
    let taken : take start bytes ≡ h.head ++ take k h.gap =
    ap (λ (n : ℕ). take n bytes) k_is ∙ ap (λ (l : List ℕ). take (length h.head + k) l) h.whole ∙ take-append-add h.head (h.gap ++ after) k
    ∙ ap (λ (l : List ℕ). h.head ++ l) (take-append-le k h.gap after k_low) in
    let left : drop end bytes ≡ drop m h.gap ++ after =
    ap (λ (n : ℕ). drop n bytes) m_is ∙ ap (λ (l : List ℕ). drop (length h.head + m) l) h.whole ∙ drop-append-add h.head (h.gap ++ after) m ∙ drop-append-le m h.gap after m_low in
    record {
      head = h.head;
      gap = take k h.gap ++ (text ++ drop m h.gap);
      rest = h.rest;
      tail = h.tail;
      whole = ap (λ (l : List ℕ). l ++ text ++ drop end bytes) taken ∙ ap (λ (l : List ℕ). (h.head ++ take k h.gap) ++ text ++ l) left ∙ regroup h.head (take k h.gap) text (drop m h.gap) after;
      are_in_front = h.are_in_front;
      are_behind = h.are_behind;
      behind_is = h.behind_is;
    }
  where
    regroup : (a b c d e : List ℕ) → (a ++ b) ++ c ++ (d ++ e) ≡ a ++ ((b ++ (c ++ d)) ++ e)
    regroup a b c d e = simp append_assoc

-- ---- one block among those in front

pub record IsNext (bytes : List ℕ) (front : List WholeLinesValue) (count : ℕ) (block : WholeLinesValue) : Type 0 where
  pub sum : len_of (take (count + 1) front) ≡ len_of (take count front) + block.len
  pub within : len_of (take (count + 1) front) ≤ length bytes

-- where the block behind it begins
pub is_next : (limit : ℕ) (bytes : List ℕ) (front back : List WholeLinesValue) (behind count : ℕ) (block : WholeLinesValue) → AreLaid limit bytes front back behind → count < length front → block ≡ get_or front count block
    → IsNext bytes front count block
is_next limit bytes front back behind count block h low is =
    let sum = sum_by_more (λ (b : WholeLinesValue). b.len) front count block low in
    let part = sum_by-take-le (λ (b : WholeLinesValue). b.len) front (count + 1) in
    let first = blocks_len limit h.head front h.are_in_front in
    let all = parts_len h.head h.gap h.rest h.tail bytes h.whole in
    record { sum = sum ∙ ap (λ (b : WholeLinesValue). len_of (take count front) + b.len) (sym is); within = omega (arith, part, first, all) }

pub record StandsAt (limit : ℕ) (bytes : List ℕ) (front : List WholeLinesValue) (i : ℕ) (block : WholeLinesValue) : Type 0 where
  pub lines : List ℕ
  pub are_lines : AreLinesOf limit lines block
  pub taken : take (len_of (take i front) + block.len) bytes ≡ take (len_of (take i front)) bytes ++ lines
  pub within : len_of (take i front) + block.len ≤ length bytes

pub stands_at : (limit : ℕ) (bytes : List ℕ) (front back : List WholeLinesValue) (behind i : ℕ) (block : WholeLinesValue) → AreLaid limit bytes front back behind → i < length front → block ≡ get_or front i block
    → StandsAt limit bytes front i block
stands_at limit bytes front back behind i block h low is =
    let s : AreSplit limit h.head (take i front) (drop i front) = split_at limit h.head front i h.are_in_front in
    let last : AreBlocks limit s.last (block ∷ drop (i + 1) front) =
    subst (λ (l : List WholeLinesValue). AreBlocks limit s.last l) (at_drop_more (λ (l : List WholeLinesValue). l) front i block low ∙ ap (λ (b : WholeLinesValue). b ∷ drop (i + 1) front) (sym is)) s.are_last in
    let after : List ℕ = h.gap ++ (h.rest ++ h.tail) in
    let first : len_of (take i front) ≡ length s.first = blocks_len limit s.first (take i front) s.are_first in
    let long : block.len ≡ length last.0 = (last.3).1.len_is in
    let cut : bytes ≡ s.first ++ (last.0 ++ (last.1 ++ after)) =
    h.whole ∙ ap (λ (l : List ℕ). l ++ after) (s.both ∙ ap (λ (l : List ℕ). s.first ++ l) last.2) ∙ append_assoc s.first (last.0 ++ last.1) after ∙ ap (λ (l : List ℕ). s.first ++ l) (append_assoc last.0 last.1 after) in
    let seam : take (length s.first) bytes ≡ s.first = ap (λ (l : List ℕ). take (length s.first) l) cut ∙ take-append_seam s.first (last.0 ++ (last.1 ++ after)) in
    record {
      lines = last.0;
      are_lines = last.3;
      taken =
          ap (λ (n : ℕ). take n bytes) (let e : len_of (take i front) + block.len ≡ length s.first + length last.0 = omega (arith, first, long) in e)
          ∙ ap (λ (l : List ℕ). take (length s.first + length last.0) l) cut ∙ take-append-add s.first (last.0 ++ (last.1 ++ after)) (length last.0)
          ∙ ap (λ (l : List ℕ). s.first ++ l) (take-append_seam last.0 (last.1 ++ after))
          ∙ ap (λ (l : List ℕ). l ++ last.0) (sym seam ∙ ap (λ (n : ℕ). take n bytes) (sym first));
      within = omega (arith, first, long, ap length cut, length-append s.first (last.0 ++ (last.1 ++ after)), length-append last.0 (last.1 ++ after));
    }

-- ---- a block that is read

whole_range : (bytes : List ℕ) → slice_range bytes 0 (length bytes) ≡ bytes
whole_range bytes = take_all (length bytes - 0) bytes (omega arith)

-- what a run over all bytes holds
pub held_lines : (limit depth : ℕ) (bytes part : List ℕ) (lines held : Option WholeLinesValue) → depth ≡ limit → part ≡ slice_range bytes 0 (length bytes) → HoldLines depth part lines → held ≡ lines
    → IfSome held (AreLinesOf limit bytes)
held_lines limit depth bytes part None held d p h e = subst (λ (o : Option WholeLinesValue). IfSome o (AreLinesOf limit bytes)) (sym e) tt
held_lines limit depth bytes part (Some block) held d p h e =
    subst (λ (o : Option WholeLinesValue). IfSome o (AreLinesOf limit bytes)) (sym e)
    (subst (λ (n : ℕ). AreLinesOf n bytes block) d (subst (λ (l : List ℕ). AreLinesOf depth l block) (p ∙ whole_range bytes) h))

pub block_len : (limit : ℕ) (bytes : List ℕ) (lines : Option WholeLinesValue) → IfSome lines (AreLinesOf limit bytes) → IfSome lines (λ block. block.len ≡ length bytes)
block_len limit bytes None h = tt
block_len limit bytes (Some block) h = h.1.len_is

pub block_between : (limit : ℕ) (bytes part : List ℕ) (from to : ℕ) (lines : Option WholeLinesValue) → from < to → to ≤ length bytes → part ≡ slice_range bytes from to
    → IfSome lines (AreLinesOf limit part) → IfSome lines (IsBlockAt limit bytes from to)
block_between limit bytes part from to None order within is h = tt
block_between limit bytes part from to (Some block) order within is h =
    let long : length part ≡ to - from = ap length is ∙ length-take-le (to - from) (drop from bytes) (omega (arith, length-drop from bytes)) in
    let len : block.len ≡ length part = h.1.len_is in
    let end : to ≡ from + block.len = omega arith in
    record {
      some = omega arith;
      within = omega arith;
      are_lines = subst (λ (l : List ℕ). AreLinesOf limit l block) (is ∙ ap (λ (n : ℕ). slice_range bytes from n) end) h;
    }

pub block_by : (limit : ℕ) (bytes : List ℕ) (from end to : ℕ) (block : WholeLinesValue) → end ≤ to → IsBlockAt limit bytes from end block → IsBlockAt limit bytes from to block
block_by limit bytes from end to block low h = let within = h.within in record { some = h.some; within = omega (arith, within, low); are_lines = h.are_lines }

pub block_sooner : (limit : ℕ) (bytes : List ℕ) (from end to : ℕ) (lines : Option WholeLinesValue) → end ≤ to → IfSome lines (IsBlockAt limit bytes from end) → IfSome lines (IsBlockAt limit bytes from to)
block_sooner limit bytes from end to None low h = tt
block_sooner limit bytes from end to (Some block) low h = block_by limit bytes from end to block low h

-- ---- bytes that are read on

pub taken_more : (bytes piece part : List ℕ) (at near taken : ℕ) → piece ≡ slice_range bytes at (at + length piece) → near ≤ length piece → part ≡ take near piece → taken ≤ length part
    → take at bytes ++ take taken part ≡ take (at + taken) bytes
taken_more bytes piece part at near taken is within cut low =
    let n : ℕ = length piece in
    let count : (at + n) - at ≡ n = omega arith in
    let here : piece ≡ take n (drop at bytes) = is ∙ ap (λ (k : ℕ). take k (drop at bytes)) count in
    let short : length part ≡ near = ap length cut ∙ length-take-le near piece within in
    let less : taken ≤ near = omega (arith, short, low) in
    let less_n : taken ≤ n = omega (arith, less, within) in
    ap (λ (l : List ℕ). take at bytes ++ take taken l) cut
    ∙ ap (λ (l : List ℕ). take at bytes ++ l) (take-take taken near piece less ∙ ap (λ (l : List ℕ). take taken l) here ∙ take-take taken n (drop at bytes) less_n)
    ∙ sym (take-add at taken bytes)

-- ---- a table behind an edit

pub table_edited : (limit : ℕ) (bytes after text : List ℕ) (table : LineTable) (start end : ℕ) → table.before ≤ start → start ≤ end → end + table.behind ≤ length bytes → after ≡ edited start end text bytes
    → IsTable limit bytes table → IsTable limit after table
table_edited limit bytes after text table start end low order within is h = record {
  laid =
      subst (λ (l : List ℕ). IsLaid limit l table) (sym is)
      (laid_edited limit bytes text table.front.items table.back.items table.before table.behind start end h.before_is low order within h.laid);
  before_is = h.before_is;
}

pub table_len : (limit : ℕ) (bytes : List ℕ) (table : LineTable) → IsTable limit bytes table → table.before + table.behind ≤ length bytes
table_len limit bytes table h =
    let l = h.laid in
    let is = h.before_is in
    let first = blocks_len limit l.head table.front.items l.are_in_front in
    let all = parts_len l.head l.gap l.rest l.tail bytes l.whole in
    let behind = l.behind_is in
    omega (arith, is, first, all, behind)

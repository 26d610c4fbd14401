-- What is kept of groups of chunks, through edits and walks.
use Rattle.std.proofs.Common.{◌≡◌, ℕ, zero, suc, ◌+◌, ◌-◌, ◌*◌, ◌<◌, ◌≤◌, Option, None, Bool, true, false, List, [], ◌∷◌, ◌++◌, length, map, take, drop, get_or, set, min, refl, sym, ap, subst, ◌∙◌, arith, inl, inr, length-append, append_assoc, append-nil}
use Rattle.std.specs.Prelude.{◌&&◌, IfSome, replicate}
use Rattle.std.proofs.lemmas.Bool.{cases_eq, cases_lt, false≢true, and_parts}
use Rattle.std.proofs.lemmas.List.{drop_all, drop_min, drop-map, drop-take, take_all, take_min, take-take, drop-drop, length-set, length-take-le, get_or-set_same, get_or-set_other, get_or_append_left, get_or-take, length-drop, length-replicate, length-take}
use Rattle.std.proofs.lemmas.List.Concat.{flat_map-append}
use Rattle.std.proofs.Math.Seq.{take-add, take-append-add, drop-append-add}
use Rattle.jx_edit.specs.inside.Chunks.{ChunkValue, bytes_of, text_of, loosened, replaced}
use Rattle.jx_edit.specs.inside.Moves.{AreMoves}
use Rattle.jx_edit.specs.inside.Sums.{size_before, text_at, is_linked_at, AreLinkedFrom, IsSum, AreSums, AreSumsBut, IsBorder}
use Rattle.jx_edit.specs.declared.chunking.sums.Sum.{Sum}
use Rattle.jx_edit.specs.declared.positions.moves.Moves.{Moves}
use Rattle.jx_edit.proofs.Texts.{text_take, text_within}

abbrev pub sum : ℕ → Bool → Option Moves → Sum
sum bytes linked moves = record { bytes = bytes; linked = linked; moves = moves }

-- one of which nothing is known
abbrev pub no_sum : Sum
no_sum = sum 0 false None

-- ---- whether the chunk at a place is linked

pub linked_here : (cs : List ChunkValue) (k : ℕ) (d : ChunkValue) → k < length cs → is_linked_at cs k ≡ (get_or cs k d).linked
linked_here [] k d h = absurd (omega (arith, h))
linked_here (c ∷ cs) zero d h = refl
linked_here (c ∷ cs) (suc k) d h = linked_here cs k d (omega (arith, h))

pub linked_past : (cs : List ChunkValue) (k : ℕ) → length cs ≤ k → is_linked_at cs k ≡ true
linked_past [] k h = refl
linked_past (c ∷ cs) zero h = absurd (omega (arith, h))
linked_past (c ∷ cs) (suc k) h = linked_past cs k (omega (arith, h))

linked_set_here : (cs : List ChunkValue) (k : ℕ) (c : ChunkValue) → k < length cs → is_linked_at (set cs k c) k ≡ c.linked
linked_set_here [] k c h = absurd (omega (arith, h))
linked_set_here (x ∷ cs) zero c h = refl
linked_set_here (x ∷ cs) (suc k) c h = linked_set_here cs k c (omega (arith, h))

linked_set_other : (cs : List ChunkValue) (k j : ℕ) (c : ChunkValue) → (j ≡ k → ⊥) → is_linked_at (set cs k c) j ≡ is_linked_at cs j
linked_set_other [] k j c h = refl
linked_set_other (x ∷ cs) zero zero c h = absurd (h refl)
linked_set_other (x ∷ cs) zero (suc j) c h = refl
linked_set_other (x ∷ cs) (suc k) zero c h = refl
linked_set_other (x ∷ cs) (suc k) (suc j) c h = linked_set_other cs k j c (λ e. h (ap suc e))

linked_take : (cs : List ChunkValue) (n k : ℕ) → k < n → is_linked_at (take n cs) k ≡ is_linked_at cs k
linked_take cs zero k h = absurd (omega (arith, h))
linked_take [] (suc n) k h = refl
linked_take (c ∷ cs) (suc n) zero h = refl
linked_take (c ∷ cs) (suc n) (suc k) h = linked_take cs n k (omega (arith, h))

linked_drop : (cs : List ChunkValue) (n k : ℕ) → is_linked_at (drop n cs) k ≡ is_linked_at cs (n + k)
linked_drop cs zero k = ap (is_linked_at cs) (omega arith)
linked_drop [] (suc n) k = refl
linked_drop (c ∷ cs) (suc n) k =
    let e : suc n + k ≡ suc (n + k) = omega arith in
    linked_drop cs n k ∙ sym (ap (is_linked_at (c ∷ cs)) e)

-- all before it, and it
pub linked_more : (cs : List ChunkValue) (i k : ℕ) → AreLinkedFrom cs i k → is_linked_at cs k ≡ true → AreLinkedFrom cs i (k + 1)
linked_more cs i k h on j low high = elim (cases_lt j k) [
  | inl less ↦ h j low less
  | inr more ↦ let same : j ≡ k = omega (arith, more, high) in subst (λ (n : ℕ). is_linked_at cs n ≡ true) (sym same) on
]

-- one chunk more is linked
pub linked_set : (cs : List ChunkValue) (k : ℕ) (c : ChunkValue) → k < length cs → c.linked ≡ true → AreLinkedFrom cs 0 k → AreLinkedFrom (set cs k c) 0 (k + 1)
linked_set cs k c h on all =
    linked_more (set cs k c) 0 k (λ j low high. linked_set_other cs k j c (λ e. omega (arith, e, high)) ∙ all j low high) (linked_set_here cs k c h ∙ on)

-- and then the link of a chunk behind it is given up
pub linked_set_behind : (cs : List ChunkValue) (k n : ℕ) (c : ChunkValue) → k ≤ n → AreLinkedFrom cs 0 k → AreLinkedFrom (set cs n c) 0 k
linked_set_behind cs k n c h all j low high = linked_set_other cs n j c (λ e. omega (arith, e, high, h)) ∙ all j low high

-- ---- sums of chunks with the same bytes

pub size_same : (cs ds : List ChunkValue) (k : ℕ) → map bytes_of cs ≡ map bytes_of ds → size_before cs k ≡ size_before ds k
size_same cs ds k e = ap length (text_take cs ds k e)

-- of a group that has the same bytes
sum_kept : (cs ds : List ChunkValue) (g : ℕ) (s : Sum) → text_at ds g ≡ text_at cs g → IsSum cs g s → (s.linked ≡ true → AreLinkedFrom ds (g * 64) ((g + 1) * 64)) → IsSum ds g s
sum_kept cs ds g s e is on =
    record { bytes = is.bytes ∙ sym (ap length e); linked = on; moves = subst (λ (t : List ℕ). IfSome s.moves (AreMoves t)) (sym e) is.moves }

sum_same : (cs ds : List ChunkValue) (g : ℕ) (s : Sum) → map bytes_of ds ≡ map bytes_of cs → IsSum cs g s
    → (s.linked ≡ true → AreLinkedFrom ds (g * 64) ((g + 1) * 64)) → IsSum ds g s
sum_same cs ds g s e = sum_kept cs ds g s (text_take (drop (g * 64) ds) (drop (g * 64) cs) 64 (sym (drop-map bytes_of (g * 64) ds) ∙ ap (drop (g * 64)) e ∙ drop-map bytes_of (g * 64) cs))

-- one chunk is linked
pub sums_linked : (cs : List ChunkValue) (ss : List Sum) (k : ℕ) (c : ChunkValue) → k < length cs → map bytes_of (set cs k c) ≡ map bytes_of cs → c.linked ≡ true → AreSums cs ss → AreSums (set cs k c) ss
sums_linked cs ss k c h e on sums =
    record {
      covers = omega (arith, sums.covers, length-set cs k c);
      each = λ g s l. sum_same cs (set cs k c) g (get_or ss g s) e (sums.each g s l) (λ t j low high. still j ((sums.each g s l).linked t j low high));
    }
  where
    still : (j : ℕ) → is_linked_at cs j ≡ true → is_linked_at (set cs k c) j ≡ true
    still j all = elim (cases_eq j k) [
      | inl same ↦ ap (is_linked_at (set cs k c)) same ∙ linked_set_here cs k c h ∙ on
      | inr apart ↦ linked_set_other cs k j c apart ∙ all
    ]

-- another sum for a group
sums_set : (cs ds : List ChunkValue) (ss : List Sum) (g : ℕ) (s : Sum) → length cs ≡ length ds → g < length ss → AreSums cs ss → IsSum ds g s
    → ((i : ℕ) (d : Sum) → i < length ss → (i ≡ g → ⊥) → IsSum ds i (get_or ss i d)) → AreSums ds (set ss g s)
sums_set cs ds ss g s l here sums is others =
    let count : length (set ss g s) ≡ length ss = length-set ss g s in
    record { covers = omega (arith, sums.covers, l, count); each = λ i d m. at i d (omega (arith, m, count)) }
  where
    at : (i : ℕ) (d : Sum) → i < length ss → IsSum ds i (get_or (set ss g s) i d)
    at i d m = elim (cases_eq i g) [
      | inl same ↦ subst (λ (n : ℕ). IsSum ds n (get_or (set ss g s) n d)) (sym same) (subst (IsSum ds g) (sym (get_or-set_same ss g s d here)) is)
      | inr apart ↦ subst (IsSum ds i) (sym (get_or-set_other ss g i s d apart)) (others i d m apart)
    ]

-- the sum of a group in which a link is given up
abbrev pub not_linked : Sum → Sum
not_linked s = sum s.bytes false s.moves

pub sums_loosened : (cs : List ChunkValue) (ss : List Sum) (k g : ℕ) (c : ChunkValue) (x : Sum) → g * 64 ≤ k → k < (g + 1) * 64 → g < length ss → map bytes_of (set cs k c) ≡ map bytes_of cs
    → AreSums cs ss → AreSums (set cs k c) (set ss g (not_linked (get_or ss g x)))
sums_loosened cs ss k g c x low high here e sums =
    sums_set cs (set cs k c) ss g (not_linked (get_or ss g x)) (sym (length-set cs k c)) here sums
    (sum_same cs (set cs k c) g (not_linked (get_or ss g x)) e (record { bytes = (sums.each g x here).bytes; linked = λ t. absurd (false≢true t); moves = (sums.each g x here).moves })
    (λ t. absurd (false≢true t)))
    (λ i d m apart.
    sum_same cs (set cs k c) i (get_or ss i d) e (sums.each i d m)
    (λ t j a b. linked_set_other cs k j c (λ q. apart (omega (arith, a, b, q, low, high))) ∙ (sums.each i d m).linked t j a b))

-- ---- sums that are made

-- the bytes before the next group
pub text_group : (cs : List ChunkValue) (g : ℕ) → text_of (take ((g + 1) * 64) cs) ≡ text_of (take (g * 64) cs) ++ text_at cs g
text_group cs g =
    let n : (g + 1) * 64 ≡ g * 64 + 64 = omega arith in
    ap (λ (k : ℕ). text_of (take k cs)) n ∙ ap text_of (take-add (g * 64) 64 cs) ∙ flat_map-append bytes_of (take (g * 64) cs) (take 64 (drop (g * 64) cs))

pub size_group : (cs : List ChunkValue) (g : ℕ) → size_before cs ((g + 1) * 64) ≡ size_before cs (g * 64) + length (text_at cs g)
size_group cs g = ap length (text_group cs g) ∙ length-append (text_of (take (g * 64) cs)) (text_at cs g)

-- the chunks of a group
pub group_is : (cs : List ChunkValue) (g first end : ℕ) → first ≡ min (g * 64) (length cs) → end ≡ min (first + 64) (length cs) → text_of (take (end - first) (drop first cs)) ≡ text_at cs g
group_is cs g first end low high =
    let rest : drop first cs ≡ drop (g * 64) cs = ap (λ (n : ℕ). drop n cs) low ∙ drop_min (g * 64) cs in
    let few : end - first ≡ min 64 (length (drop first cs)) = omega (arith, low, high, length-drop first cs) in
    ap (λ (n : ℕ). text_of (take n (drop first cs))) few ∙ ap text_of (take_min 64 (drop first cs)) ∙ ap (λ (xs : List ChunkValue). text_of (take 64 xs)) rest

-- behind its last one
pub sum_all : (cs : List ChunkValue) (g place bytes : ℕ) (linked : Bool) (moves : Option Moves) → place ≡ min ((g + 1) * 64) (length cs) → size_before cs place ≡ size_before cs (g * 64) + bytes
    → (linked ≡ true → AreLinkedFrom cs (g * 64) place) → IfSome moves (AreMoves (text_at cs g)) → IsSum cs g (sum bytes linked moves)
sum_all cs g place bytes linked moves is long on moved =
    let e : size_before cs place ≡ size_before cs ((g + 1) * 64) = ap (size_before cs) is ∙ ap (λ (xs : List ChunkValue). length (text_of xs)) (take_min ((g + 1) * 64) cs) in
    record { bytes = omega (arith, e, long, size_group cs g); linked = λ t j low high. there t j low high; moves = moved }
  where
    there : linked ≡ true → (j : ℕ) → g * 64 ≤ j → j < (g + 1) * 64 → is_linked_at cs j ≡ true
    there t j low high = elim (cases_lt j place) [
      | inl less ↦ on t j low less
      | inr past ↦ linked_past cs j (omega (arith, past, high, is))
    ]

-- one chunk more, where all before it are linked and it is
pub both_linked : (cs : List ChunkValue) (i k : ℕ) (a b : Bool) → (a ≡ true → AreLinkedFrom cs i k) → b ≡ is_linked_at cs k → (a && b) ≡ true → AreLinkedFrom cs i (k + 1)
both_linked cs i k a b h is t = let both = and_parts a b t in linked_more cs i k (h both.0) (sym is ∙ both.1)

-- ---- sums behind an edit

sum_front : (cs ds : List ChunkValue) (n g : ℕ) (s : Sum) → take n ds ≡ take n cs → (g + 1) * 64 ≤ n → IsSum cs g s → IsSum ds g s
sum_front cs ds n g s e h is =
    sum_kept cs ds g s (ap text_of (sym (drop-take (g * 64) 64 ds) ∙ ap (drop (g * 64)) same ∙ drop-take (g * 64) 64 cs)) is
    (λ t j low high.
    sym (linked_take ds n j (omega (arith, h, high))) ∙ ap (λ (xs : List ChunkValue). is_linked_at xs j) e ∙ linked_take cs n j (omega (arith, h, high)) ∙ is.linked t j low high)
  where
    same : take (g * 64 + 64) ds ≡ take (g * 64 + 64) cs
    same =
        let l : g * 64 + 64 ≤ n = omega (arith, h) in
        sym (take-take (g * 64 + 64) n ds l) ∙ ap (take (g * 64 + 64)) e ∙ take-take (g * 64 + 64) n cs l

sum_back : (cs ds : List ChunkValue) (m g : ℕ) (s : Sum) → drop m ds ≡ drop m cs → m ≤ g * 64 → IsSum cs g s → IsSum ds g s
sum_back cs ds m g s e h is =
    sum_kept cs ds g s (ap (λ (xs : List ChunkValue). text_of (take 64 xs)) (same ds ∙ ap (drop (g * 64 - m)) e ∙ sym (same cs))) is
    (λ t j low high.
    let n : j ≡ m + (j - m) = omega (arith, h, low) in
    ap (is_linked_at ds) n ∙ sym (linked_drop ds m (j - m)) ∙ ap (λ (xs : List ChunkValue). is_linked_at xs (j - m)) e ∙ linked_drop cs m (j - m) ∙ sym (ap (is_linked_at cs) n) ∙ is.linked t j low high)
  where
    same : (xs : List ChunkValue) → drop (g * 64) xs ≡ drop (g * 64 - m) (drop m xs)
    same xs = let n : g * 64 ≡ m + (g * 64 - m) = omega (arith, h) in ap (λ (k : ℕ). drop k xs) n ∙ sym (drop-drop (g * 64 - m) m xs)

-- the chunks before an edit
replaced_front : (cs made : List ChunkValue) (first last : ℕ) → first ≤ length cs → take first (replaced first last made cs) ≡ take first cs
replaced_front cs made first last h =
    let a : length (take first cs) ≡ first = length-take-le first cs h in
    let z : first ≡ length (take first cs) + 0 = omega (arith, a) in
    ap (take first) (append_assoc (take first cs) made (loosened (drop last cs)))
    ∙ ap (λ (n : ℕ). take n (take first cs ++ (made ++ loosened (drop last cs)))) z
    ∙ take-append-add (take first cs) (made ++ loosened (drop last cs)) 0
    ∙ append-nil (take first cs)

drop_loosened : (cs : List ChunkValue) → drop 1 (loosened cs) ≡ drop 1 cs
drop_loosened [] = refl
drop_loosened (c ∷ cs) = refl

-- those behind it, but for the next one, where it changes no number of chunks
replaced_back : (cs made : List ChunkValue) (first last : ℕ) → first ≤ last → last ≤ length cs → length made ≡ last - first → drop (last + 1) (replaced first last made cs) ≡ drop (last + 1) cs
replaced_back cs made first last h k l =
    let a : length (take first cs) ≡ first = length-take-le first cs (omega (arith, h, k)) in
    let b : length (take first cs ++ made) ≡ length (take first cs) + length made = length-append (take first cs) made in
    let n : last + 1 ≡ length (take first cs ++ made) + 1 = omega (arith, a, b, l, h) in
    ap (λ (i : ℕ). drop i ((take first cs ++ made) ++ loosened (drop last cs))) n
    ∙ drop-append-add (take first cs ++ made) (loosened (drop last cs)) 1
    ∙ drop_loosened (drop last cs)
    ∙ drop-drop 1 last cs

length_loosened : (cs : List ChunkValue) → length (loosened cs) ≡ length cs
length_loosened [] = refl
length_loosened (c ∷ cs) = refl

-- how many chunks there are behind an edit
pub length_replaced : (cs made : List ChunkValue) (first last : ℕ) → first ≤ last → last ≤ length cs → length (replaced first last made cs) ≡ first + length made + (length cs - last)
length_replaced cs made first last h k =
    let a : length (take first cs) ≡ first = length-take-le first cs (omega (arith, h, k)) in
    omega (
      arith,
      a,
      length-append (take first cs ++ made) (loosened (drop last cs)),
      length-append (take first cs) made,
      length_loosened (drop last cs),
      length-drop last cs,
    )

-- where as many are put in, the sums of the groups in which there is a change are wrong
pub sums_exchanged : (cs ds made : List ChunkValue) (ss : List Sum) (first last g end : ℕ) → first ≤ last → last ≤ length cs → length made ≡ last - first → ds ≡ replaced first last made cs
    → g * 64 ≤ first → ((i : ℕ) → i < length ss → end ≤ i → last + 1 ≤ i * 64) → AreSums cs ss → AreSumsBut g end ds ss
sums_exchanged cs ds made ss first last g end h k l is low high sums =
    let count : length ds ≡ length cs = let e = ap length is in omega (arith, e, length_replaced cs made first last h k, l, h, k) in
    record {
      covers = omega (arith, count, sums.covers);
      before = λ i d m n. sum_front cs ds first i (get_or ss i d) (ap (take first) is ∙ replaced_front cs made first last (omega (arith, h, k))) (omega (arith, n, low)) (sums.each i d m);
      behind = λ i d m n. sum_back cs ds (last + 1) i (get_or ss i d) (ap (drop (last + 1)) is ∙ replaced_back cs made first last h k l) (high i m n) (sums.each i d m);
    }

-- else those of all groups from there on
pub sums_moved : (cs ds made : List ChunkValue) (ss ts : List Sum) (first last g end n : ℕ) (x : Sum) → first ≤ last → last ≤ length cs → ds ≡ replaced first last made cs → g * 64 ≤ first
    → length ds < end * 64 → n ≡ length ss → ts ≡ take end ss ++ replicate (end - n) x → AreSums cs ss → AreSumsBut g end ds ts
sums_moved cs ds made ss ts first last g end n x h k is low enough had kept sums =
    let a : length (take end ss) ≡ min end (length ss) = length-take end ss in
    let l : length ts ≡ end =
    let e = ap length kept in
    omega (arith, e, length-append (take end ss) (replicate (end - n) x), a, length-replicate (end - n) x, had) in
    record {
      covers = omega (arith, l, enough);
      before = λ i d m early.
          let there : i < length ss = omega (arith, sums.covers, early, low, h, k) in
          let within : i < length (take end ss) = omega (arith, a, m, l, there) in
          let same : get_or ts i d ≡ get_or ss i d =
          ap (λ (xs : List Sum). get_or xs i d) kept ∙ get_or_append_left (take end ss) (replicate (end - n) x) d i within ∙ get_or-take end ss i d (omega (arith, m, l)) in
          subst (IsSum ds i) (sym same)
          (sum_front cs ds first i (get_or ss i d) (ap (take first) is ∙ replaced_front cs made first last (omega (arith, h, k))) (omega (arith, early, low)) (sums.each i d there));
      behind = λ i d m early. absurd (omega (arith, m, l, early));
    }

-- ---- borders between groups

-- the next group begins
pub border_more : (cs : List ChunkValue) (ss : List Sum) (g bytes : ℕ) (d : Sum) → g < length ss → AreSums cs ss → bytes ≡ size_before cs (g * 64)
    → bytes + (get_or ss g d).bytes ≡ size_before cs ((g + 1) * 64)
border_more cs ss g bytes d h sums long = omega (arith, (sums.each g d h).bytes, long, size_group cs g)

pub border_fits : (cs : List ChunkValue) (ss : List Sum) (g bytes : ℕ) (d : Sum) → g < length ss → AreSums cs ss → bytes ≡ size_before cs (g * 64)
    → bytes + (get_or ss g d).bytes ≤ length (text_of cs)
border_fits cs ss g bytes d h sums long = omega (arith, border_more cs ss g bytes d h sums long, text_within cs ((g + 1) * 64))

-- the place lies behind it
pub border_low : (cs : List ChunkValue) (at far before bytes : ℕ) → at ≤ far + 1 → IsBorder cs at before bytes → bytes ≤ far
border_low cs at far before bytes h b =
    let none : before ≡ 0 → bytes ≡ 0 = λ e. b.long ∙ ap (size_before cs) e in
    elim (cases_lt 0 before) [
      | inl some ↦ omega (arith, b.tight some, h)
      | inr e ↦ omega (arith, none (omega (arith, e)))
    ]

-- ---- written back into the vector in which they stood

pub kept_items : {X : Type 0} (n : ℕ) (items old new : List X) → old ≡ items → n ≡ length old → length new ≡ length old → take n (new ++ drop (length new) items) ≡ new
kept_items n items old new is all same =
    let m : length old ≡ length items = ap length is in
    ap (λ (xs : List _). take n (new ++ xs)) (drop_all (length new) items (omega (arith, same, m))) ∙ ap (take n) (append-nil new) ∙ take_all n new (omega (arith, same, all))

-- where they are the same
pub kept_same : {X : Type 0} (n : ℕ) (items old new : List X) → old ≡ items → n ≡ length old → new ≡ old → take n (new ++ drop (length new) items) ≡ items
kept_same n items old new is all same = kept_items n items old new is all (ap length same) ∙ same ∙ is

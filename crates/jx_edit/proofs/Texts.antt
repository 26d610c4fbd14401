-- The text of chunks, cut at borders between them.
use Rattle.std.proofs.Common.{◌≡◌, ℕ, ◌+◌, ◌-◌, ◌^◌, ◌≤◌, ◌<◌, List, [], ◌∷◌, ◌++◌, length, map, take, drop, get_or, refl, sym, ap, subst, ◌∙◌, arith, inl, inr, suc, zero, add-one, append_assoc, append-nil, length-append, take-append-drop}
use Rattle.std.specs.List.{concat, slice_range}
use Rattle.std.proofs.lemmas.Bool.{cases_lt}
use Rattle.std.proofs.lemmas.List.{take-append-le, drop-append-le, drop-drop, take-take, length-take-le, length-drop, take_all}
use Rattle.std.proofs.lemmas.List.Elements.{All-push, All-same}
use Rattle.std.proofs.lemmas.List.Concat.{flat_map-append}
use Rattle.std.proofs.lemmas.List.Folds.{drop_split}
use Rattle.std.proofs.Math.Seq.{take-add, take-suc, take-append-add, drop-append-add}
use Rattle.jx_edit.specs.Document.{edited}
use Rattle.jx_edit.specs.inside.Chunks.{ChunkValue, bytes_of, text_of, loosened, replaced, AreFresh, IsFresh, IsSeam, IsFront, IsBack, IsMade}
use Rattle.jx_edit.specs.inside.Pieces.{pieces}

-- one more chunk
pub text_more : (cs : List ChunkValue) (k : ℕ) (d : ChunkValue) → k < length cs → text_of (take (k + 1) cs) ≡ text_of (take k cs) ++ (get_or cs k d).bytes
text_more cs k d h =
    ap (λ (n : ℕ). text_of (take n cs)) (add-one k)
    ∙ ap text_of (take-suc cs k d h)
    ∙ flat_map-append bytes_of (take k cs) (get_or cs k d ∷ [])
    ∙ ap (λ (t : List ℕ). text_of (take k cs) ++ t) (append-nil (get_or cs k d).bytes)

pub length_more : (cs : List ChunkValue) (k : ℕ) (d : ChunkValue) → k < length cs → length (text_of (take (k + 1) cs)) ≡ length (text_of (take k cs)) + length (get_or cs k d).bytes
length_more cs k d h = ap length (text_more cs k d h) ∙ length-append (text_of (take k cs)) (get_or cs k d).bytes

-- cut at a border
pub text_parts : (cs : List ChunkValue) (k : ℕ) → text_of cs ≡ text_of (take k cs) ++ text_of (drop k cs)
text_parts cs k = ap text_of (sym (take-append-drop k cs)) ∙ flat_map-append bytes_of (take k cs) (drop k cs)

pub text_within : (cs : List ChunkValue) (k : ℕ) → length (text_of (take k cs)) ≤ length (text_of cs)
text_within cs k =
    let e : length (text_of cs) ≡ length (text_of (take k cs)) + length (text_of (drop k cs)) = ap length (text_parts cs k) ∙ length-append (text_of (take k cs)) (text_of (drop k cs)) in
    omega (arith, e)

pub text_rises : (cs : List ChunkValue) (i j : ℕ) → i ≤ j → length (text_of (take i cs)) ≤ length (text_of (take j cs))
text_rises cs i j h =
    let e : length (text_of (take i (take j cs))) ≡ length (text_of (take i cs)) = ap (λ (xs : List ChunkValue). length (text_of xs)) (take-take i j cs h) in
    omega (arith, e, text_within (take j cs) i)

pub more_within : (cs : List ChunkValue) (k : ℕ) (d : ChunkValue) → k < length cs → length (text_of (take k cs)) + length (get_or cs k d).bytes ≤ length (text_of cs)
more_within cs k d h = omega (arith, length_more cs k d h, text_within cs (k + 1))

-- cut at two borders
pub text_between : (cs : List ChunkValue) (i j : ℕ) → i ≤ j → text_of cs ≡ text_of (take i cs) ++ (text_of (slice_range cs i j) ++ text_of (drop j cs))
text_between cs i j h =
    text_parts cs i
    ∙ ap (λ (t : List ℕ). text_of (take i cs) ++ t) (ap text_of (drop_split cs i j h) ∙ flat_map-append bytes_of (slice_range cs i j) (drop j cs))

pub take_at : (xs ys zs : List ℕ) (at n : ℕ) → at ≡ length xs + n → n ≤ length ys → take at (xs ++ (ys ++ zs)) ≡ xs ++ take n ys
take_at xs ys zs at n e h =
    ap (λ (i : ℕ). take i (xs ++ (ys ++ zs))) e ∙ take-append-add xs (ys ++ zs) n ∙ ap (λ (t : List ℕ). xs ++ t) (take-append-le n ys zs h)

drop_at : (xs ys zs : List ℕ) (at n : ℕ) → at ≡ length xs + n → n ≤ length ys → drop at (xs ++ (ys ++ zs)) ≡ drop n ys ++ zs
drop_at xs ys zs at n e h =
    ap (λ (i : ℕ). drop i (xs ++ (ys ++ zs))) e ∙ drop-append-add xs (ys ++ zs) n ∙ drop-append-le n ys zs h

-- up to a place in a chunk
pub front_at : (cs : List ChunkValue) (at before bytes here : ℕ) → IsSeam cs at before bytes here
    → IsFront cs at before bytes (take (at - bytes) (text_of (slice_range cs before (before + here))))
front_at cs at before bytes here s =
    let mid : List ℕ = text_of (slice_range cs before (before + here)) in
    let e : at ≡ length (text_of (take before cs)) + (at - bytes) = omega (arith, s.long, s.behind) in
    let reach : at - bytes ≤ length mid = omega (arith, s.reach) in
    record {
      within = omega (arith, s.within);
      long = s.long;
      tight = s.tight;
      text = ap (take at) (text_between cs before (before + here) (omega arith)) ∙ take_at (text_of (take before cs)) mid (text_of (drop (before + here) cs)) at (at - bytes) e reach;
    }

-- from a place in a chunk
pub back_at : (cs : List ChunkValue) (at before bytes here : ℕ) → IsSeam cs at before bytes here
    → IsBack cs at (before + here) (drop (at - bytes) (text_of (slice_range cs before (before + here))))
back_at cs at before bytes here s =
    let mid : List ℕ = text_of (slice_range cs before (before + here)) in
    let e : at ≡ length (text_of (take before cs)) + (at - bytes) = omega (arith, s.long, s.behind) in
    let reach : at - bytes ≤ length mid = omega (arith, s.reach) in
    record {
      within = s.within;
      text = ap (drop at) (text_between cs before (before + here) (omega arith)) ∙ drop_at (text_of (take before cs)) mid (text_of (drop (before + here) cs)) at (at - bytes) e reach;
    }

regroup : (a f r b z : List ℕ) → (a ++ ((f ++ r) ++ b)) ++ z ≡ ((a ++ f) ++ r) ++ (b ++ z)
regroup a f r b z =
    ap (λ (t : List ℕ). t ++ z) (sym (append_assoc a (f ++ r) b) ∙ ap (λ (t : List ℕ). t ++ b) (sym (append_assoc a f r))) ∙ append_assoc ((a ++ f) ++ r) b z

-- the pieces of which an edit makes chunks
pub together : (f b r q h n : List ℕ) → ((((f ++ b) ++ r) ++ q) ++ h) ++ n ≡ (f ++ ((b ++ r) ++ q)) ++ (h ++ n)
together f b r q h n =
    append_assoc (((f ++ b) ++ r) ++ q) h n ∙ ap (λ (t : List ℕ). t ++ (h ++ n)) (ap (λ (t : List ℕ). t ++ q) (append_assoc f b r) ∙ append_assoc f (b ++ r) q)

pub text_loosened : (cs : List ChunkValue) → text_of (loosened cs) ≡ text_of cs
text_loosened [] = refl
text_loosened (c ∷ cs) = refl

-- chunks in the place of some
pub text_replaced : (cs made : List ChunkValue) (first last : ℕ) → text_of (replaced first last made cs) ≡ (text_of (take first cs) ++ text_of made) ++ text_of (drop last cs)
text_replaced cs made first last =
    flat_map-append bytes_of (take first cs ++ made) (loosened (drop last cs))
    ∙ ap (λ (t : List ℕ). t ++ text_of (loosened (drop last cs))) (flat_map-append bytes_of (take first cs) made)
    ∙ ap (λ (t : List ℕ). (text_of (take first cs) ++ text_of made) ++ t) (text_loosened (drop last cs))

-- where a place lies behind another, the border behind it does
pub border_order : (cs : List ChunkValue) (start end first last : ℕ) → start ≤ end → (0 < first → length (text_of (take first cs)) < start) → end ≤ length (text_of (take last cs)) → first ≤ last
border_order cs start end first last h low high = elim (cases_lt last first) [
  | inl less ↦ absurd (omega (arith, low (omega (arith, less)), text_rises cs last first (omega (arith, less)), h, high))
  | inr order ↦ order
]

-- an edit
pub made_at : (cs made : List ChunkValue) (start end first offset last : ℕ) (front replacement back : List ℕ) → start ≤ end → end ≤ length (text_of cs) → IsFront cs start first offset front
    → IsBack cs end last back → text_of made ≡ (front ++ replacement) ++ back → IsMade start end replacement cs first last made
made_at cs made start end first offset last front replacement back h k f b e =
    let T : List ℕ = text_of cs in
    let zs : List ℕ = text_of (drop last cs) in
    let whole : length T ≡ length (text_of (take last cs)) + length zs = ap length (text_parts cs last) ∙ length-append (text_of (take last cs)) zs in
    let rest : length (drop end T) ≡ length back + length zs = ap length b.text ∙ length-append back zs in
    let high : end ≤ length (text_of (take last cs)) = omega (arith, whole, rest, length-drop end T, k) in
    record {
      order = border_order cs start end first last h (λ some. omega (arith, f.tight some, f.long)) high;
      within = b.within;
      text =
          text_replaced cs made first last
          ∙ ap (λ (t : List ℕ). (text_of (take first cs) ++ t) ++ zs) e
          ∙ regroup (text_of (take first cs)) front replacement back zs
          ∙ ap (λ (t : List ℕ). (t ++ replacement) ++ (back ++ zs)) (sym f.text)
          ∙ ap (λ (t : List ℕ). (take start T ++ replacement) ++ t) (sym b.text);
    }

-- what is kept of chunks that are made one by one
pub text_push : (cs : List ChunkValue) (c : ChunkValue) (rest piece behind bytes : List ℕ) → c.bytes ≡ piece → rest ≡ piece ++ behind → text_of cs ++ rest ≡ bytes
    → text_of (cs ++ c ∷ []) ++ behind ≡ bytes
text_push cs c rest piece behind bytes is parts e =
    ap (λ (t : List ℕ). t ++ behind) (flat_map-append bytes_of cs (c ∷ []) ∙ ap (λ (t : List ℕ). text_of cs ++ t) (append-nil c.bytes ∙ is))
    ∙ append_assoc (text_of cs) piece behind
    ∙ ap (λ (t : List ℕ). text_of cs ++ t) (sym parts)
    ∙ e

-- one more chunk, with the bytes before the rest
pub chunk_pushed : (depth : ℕ) (cs ds : List ChunkValue) (c : ChunkValue) (rest piece behind bytes : List ℕ) → ds ≡ cs ++ c ∷ [] → IsFresh depth c → c.bytes ≡ piece
    → rest ≡ piece ++ behind → AreFresh depth cs → text_of cs ++ rest ≡ bytes → AreFresh depth ds × (text_of ds ++ behind ≡ bytes)
chunk_pushed depth cs ds c rest piece behind bytes is fresh same parts all e = (
  All-same (IsFresh depth) ds (cs ++ c ∷ []) is (All-push (IsFresh depth) cs c all fresh),
  ap (λ (xs : List ChunkValue). text_of xs ++ behind) is ∙ text_push cs c rest piece behind bytes same parts e,
)

-- the same where the next one has begun
pub chunk_filled : (depth : ℕ) (cs ds : List ChunkValue) (c : ChunkValue) (begun fits behind rest bytes : List ℕ) → ds ≡ cs ++ c ∷ [] → IsFresh depth c → c.bytes ≡ begun ++ fits
    → rest ≡ fits ++ behind → AreFresh depth cs → text_of cs ++ (begun ++ rest) ≡ bytes → AreFresh depth ds × (text_of ds ++ behind ≡ bytes)
chunk_filled depth cs ds c begun fits behind rest bytes is fresh same parts all e =
    chunk_pushed depth cs ds c (begun ++ rest) (begun ++ fits) behind bytes is fresh same (ap (λ (t : List ℕ). begun ++ t) parts ∙ sym (append_assoc begun fits behind)) all e

-- how long three texts are, one behind another
pub length_three : (xs ys zs : List ℕ) → length ((xs ++ ys) ++ zs) ≡ length xs + length ys + length zs
length_three xs ys zs = length-append (xs ++ ys) zs ∙ ap (λ (n : ℕ). n + length zs) (length-append xs ys)

-- how long the text is behind an edit
pub length_edited : (start end : ℕ) (replacement bytes : List ℕ) → start ≤ end → end ≤ length bytes → length (edited start end replacement bytes) ≡ (length bytes - (end - start)) + length replacement
length_edited start end replacement bytes h k =
    let a : length (take start bytes) ≡ start = length-take-le start bytes (omega arith) in
    let b : length (drop end bytes) ≡ length bytes - end = length-drop end bytes in
    let e : length (edited start end replacement bytes) ≡ length (take start bytes) + length replacement + length (drop end bytes) = length_three (take start bytes) replacement (drop end bytes) in
    omega (arith, a, b, e)

-- the text that an edit makes has the length that is counted
pub made_length : (cs made : List ChunkValue) (start end first last : ℕ) (replacement : List ℕ) → start ≤ end → end ≤ length (text_of cs)
    → IsMade start end replacement cs first last made → length (text_of (replaced first last made cs)) ≡ (length (text_of cs) - (end - start)) + length replacement
made_length cs made start end first last replacement h k m = ap length m.text ∙ length_edited start end replacement (text_of cs) h k

-- the chunks from a border on
pub rest_is {ℓ} : {A : Type ℓ} (xs : List A) (k : ℕ) → take (length xs - k) (drop k xs) ≡ drop k xs
rest_is xs k = take_all (length xs - k) (drop k xs) (omega (arith, length-drop k xs))

pub rest_long : (cs : List ChunkValue) (k : ℕ) → length (text_of (take k cs)) + length (text_of (take (length cs - k) (drop k cs))) ≡ length (text_of cs)
rest_long cs k =
    ap (λ (xs : List ChunkValue). length (text_of (take k cs)) + length (text_of xs)) (rest_is cs k)
    ∙ sym (length-append (text_of (take k cs)) (text_of (drop k cs))) ∙ ap length (sym (text_parts cs k))

-- one chunk between two borders
slice_one : (cs : List ChunkValue) (k : ℕ) (c : ChunkValue) → k < length cs → c ≡ get_or cs k c → length (text_of (slice_range cs k (k + 1))) ≡ length c.bytes
slice_one cs k c h is =
    let a : length (text_of cs) ≡ length (text_of (take k cs)) + (length (text_of (slice_range cs k (k + 1))) + length (text_of (drop (k + 1) cs))) =
    ap length (text_between cs k (k + 1) (omega arith)) ∙ length-append (text_of (take k cs)) (text_of (slice_range cs k (k + 1)) ++ text_of (drop (k + 1) cs))
    ∙ ap (λ (n : ℕ). length (text_of (take k cs)) + n) (length-append (text_of (slice_range cs k (k + 1))) (text_of (drop (k + 1) cs))) in
    let b : length (text_of cs) ≡ length (text_of (take (k + 1) cs)) + length (text_of (drop (k + 1) cs)) = ap length (text_parts cs (k + 1)) ∙ length-append (text_of (take (k + 1) cs)) (text_of (drop (k + 1) cs)) in
    let long : length (get_or cs k c).bytes ≡ length c.bytes = ap (λ (x : ChunkValue). length x.bytes) (sym is) in
    omega (arith, a, b, length_more cs k c h, long)

pub next_fits : (cs : List ChunkValue) (k bytes : ℕ) (c : ChunkValue) (xs : List ℕ) → k < length cs → c ≡ get_or cs k c → xs ≡ c.bytes → bytes ≡ length (text_of (take k cs))
    → length (text_of cs) < 2 ^ 64 → bytes + length xs < 2 ^ 64
next_fits cs k bytes c xs h is same long fits =
    let l : length xs ≡ length (get_or cs k c).bytes = ap length same ∙ ap (λ (x : ChunkValue). length x.bytes) is in
    omega (arith, more_within cs k c h, l)

pub next_is : (cs : List ChunkValue) (k bytes : ℕ) (c : ChunkValue) (xs : List ℕ) → k < length cs → c ≡ get_or cs k c → xs ≡ c.bytes → bytes ≡ length (text_of (take k cs))
    → bytes + length xs ≡ length (text_of (take (k + 1) cs))
next_is cs k bytes c xs h is same long =
    let l : length xs ≡ length (get_or cs k c).bytes = ap length same ∙ ap (λ (x : ChunkValue). length x.bytes) is in
    omega (arith, length_more cs k c h, l)

pub seam_here : (cs : List ChunkValue) (at k bytes : ℕ) (c : ChunkValue) (xs : List ℕ) → k < length cs → c ≡ get_or cs k c → xs ≡ c.bytes → bytes ≡ length (text_of (take k cs))
    → bytes ≤ at → (0 < k → bytes < at) → at ≤ bytes + length xs → IsSeam cs at k bytes 1
seam_here cs at k bytes c xs h is same long low tight high =
    let l : length xs ≡ length c.bytes = ap length same in
    record { within = omega arith; long = long; behind = low; tight = tight; reach = omega (arith, slice_one cs k c h is, l); few = omega arith }

pub seam_end : (cs : List ChunkValue) (at k bytes : ℕ) → length cs ≤ k → bytes ≡ length (text_of (take k cs)) → bytes ≤ at → (0 < k → bytes < at) → at ≤ length (text_of cs) → IsSeam cs at (length cs) bytes 0
seam_end cs at k bytes h long low tight high =
    let e : length (text_of (take k cs)) ≡ length (text_of cs) = ap (λ (xs : List ChunkValue). length (text_of xs)) (take_all k cs h) in
    let f : length (text_of (take (length cs) cs)) ≡ length (text_of cs) = ap (λ (xs : List ChunkValue). length (text_of xs)) (take_all (length cs) cs (omega arith)) in
    record { within = omega arith; long = omega (arith, e, f, long); behind = low; tight = λ some. tight (omega (arith, some, h)); reach = omega (arith, e, long, high); few = omega arith }

-- in the chunks from a border on
pub seam_behind : (cs rest : List ChunkValue) (at border size before bytes here : ℕ) → rest ≡ drop border cs → border ≤ length cs → size ≡ length (text_of (take border cs)) → (0 < border → size < at)
    → IsSeam rest (at - size) before bytes here → IsSeam cs at (border + before) (size + bytes) here
seam_behind cs rest at border size before bytes here is within long tight s =
    let count : length rest ≡ length cs - border = ap length is ∙ length-drop border cs in
    let part : length (text_of (take before rest)) ≡ length (text_of (take before (drop border cs))) = ap (λ (xs : List ChunkValue). length (text_of (take before xs))) is in
    let both : length (text_of (take (border + before) cs)) ≡ length (text_of (take border cs)) + length (text_of (take before (drop border cs))) =
    ap (λ (xs : List ChunkValue). length (text_of xs)) (take-add border before cs)
    ∙ ap length (flat_map-append bytes_of (take border cs) (take before (drop border cs)))
    ∙ length-append (text_of (take border cs)) (text_of (take before (drop border cs))) in
    let mid : length (text_of (slice_range rest before (before + here))) ≡ length (text_of (slice_range cs (border + before) ((border + before) + here))) =
    ap (λ (xs : List ChunkValue). length (text_of (take ((before + here) - before) (drop before xs)))) is
    ∙ ap (λ (xs : List ChunkValue). length (text_of (take ((before + here) - before) xs))) (drop-drop before border cs)
    ∙ ap (λ (n : ℕ). length (text_of (take n (drop (border + before) cs)))) (omega arith) in
    let first : border ≡ 0 → size ≡ 0 = λ none. long ∙ ap (λ (n : ℕ). length (text_of (take n cs))) none in
    let low : size ≤ at = elim (cases_lt 0 border) [
      | inl some ↦ omega (arith, tight some)
      | inr none ↦ omega (arith, first (omega (arith, none)))
    ] in
    let near : before ≡ 0 → bytes ≡ 0 = λ none. s.long ∙ ap (λ (n : ℕ). length (text_of (take n rest))) none in
    record {
      within = omega (arith, s.within, count, within);
      long = omega (arith, long, s.long, part, both);
      behind = omega (arith, s.behind, low);
      tight = λ some. elim (cases_lt 0 before) [
        | inl more ↦ omega (arith, s.tight more)
        | inr none ↦ omega (arith, near (omega (arith, none)), tight (omega (arith, some, none)))
      ];
      reach = omega (arith, s.reach, mid, low);
      few = s.few;
    }

pub front_is : (cs : List ChunkValue) (at before bytes here : ℕ) (xs ys : List ℕ) → IsSeam cs at before bytes here → xs ≡ text_of (slice_range cs before (before + here))
    → ys ≡ take (at - bytes) xs → IsFront cs at before bytes ys
front_is cs at before bytes here xs ys s e f = subst (IsFront cs at before bytes) (sym (f ∙ ap (take (at - bytes)) e)) (front_at cs at before bytes here s)

pub back_is : (cs : List ChunkValue) (at before bytes here : ℕ) (xs ys : List ℕ) → IsSeam cs at before bytes here → xs ≡ text_of (slice_range cs before (before + here))
    → ys ≡ drop (at - bytes) xs → IsBack cs at (before + here) ys
back_is cs at before bytes here xs ys s e f = subst (IsBack cs at (before + here)) (sym (f ∙ ap (drop (at - bytes)) e)) (back_at cs at before bytes here s)

-- the first so many, in two parts
take_split : (cs : List ChunkValue) (i j : ℕ) → take (i + j) cs ≡ take i cs ++ slice_range cs i (i + j)
take_split cs i j =
    let e : j ≡ (i + j) - i = omega arith in
    take-add i j cs ∙ ap (λ (n : ℕ). take i cs ++ take n (drop i cs)) e

take_to : (cs : List ChunkValue) (i j : ℕ) → i ≤ j → take j cs ≡ take i cs ++ slice_range cs i j
take_to cs i j h = let e : j ≡ i + (j - i) = omega (arith, h) in ap (λ (n : ℕ). take n cs) e ∙ take-add i (j - i) cs

pub seam_reach : (cs : List ChunkValue) (at before bytes here : ℕ) → IsSeam cs at before bytes here → at ≤ length (text_of (take (before + here) cs))
seam_reach cs at before bytes here s =
    let long : length (text_of (take (before + here) cs)) ≡ length (text_of (take before cs)) + length (text_of (slice_range cs before (before + here))) =
    ap (λ (xs : List ChunkValue). length (text_of xs)) (take_split cs before here)
    ∙ ap length (flat_map-append bytes_of (take before cs) (slice_range cs before (before + here)))
    ∙ length-append (text_of (take before cs)) (text_of (slice_range cs before (before + here))) in
    omega (arith, long, s.reach, s.long)

-- the bytes between two places
between_at : (xs ys zs : List ℕ) (start end : ℕ) → length xs ≤ start → start ≤ end → end ≤ length xs + length ys
    → slice_range (xs ++ (ys ++ zs)) start end ≡ slice_range ys (start - length xs) (end - length xs)
between_at xs ys zs start end low order high =
    let e : start ≡ length xs + (start - length xs) = omega (arith, low) in
    let d : drop start (xs ++ (ys ++ zs)) ≡ drop (start - length xs) ys ++ zs = drop_at xs ys zs start (start - length xs) e (omega arith) in
    let l : length (drop (start - length xs) ys) ≡ length ys - (start - length xs) = length-drop (start - length xs) ys in
    let n : end - start ≡ (end - length xs) - (start - length xs) = omega arith in
    ap (take (end - start)) d
    ∙ take-append-le (end - start) (drop (start - length xs) ys) zs (omega (arith, l))
    ∙ ap (λ (k : ℕ). take k (drop (start - length xs) ys)) n

pub seam_order : (cs : List ChunkValue) (start end before bytes here close far more : ℕ) → start ≤ end → IsSeam cs start before bytes here → IsSeam cs end close far more → before ≤ close + more
seam_order cs start end before bytes here close far more order s t =
    border_order cs start end before (close + more) order (λ some. omega (arith, s.tight some, s.long)) (seam_reach cs end close far more t)

pub between_long : (cs : List ChunkValue) (start end before bytes here close far more : ℕ) → start ≤ end → IsSeam cs start before bytes here → IsSeam cs end close far more
    → end - bytes ≤ length (text_of (slice_range cs before (close + more)))
between_long cs start end before bytes here close far more order s t =
    let i : before ≤ close + more = seam_order cs start end before bytes here close far more order s t in
    let upto : length (text_of (take (close + more) cs)) ≡ length (text_of (take before cs)) + length (text_of (slice_range cs before (close + more))) =
    ap (λ (ds : List ChunkValue). length (text_of ds)) (take_to cs before (close + more) i)
    ∙ ap length (flat_map-append bytes_of (take before cs) (slice_range cs before (close + more)))
    ∙ length-append (text_of (take before cs)) (text_of (slice_range cs before (close + more))) in
    omega (arith, seam_reach cs end close far more t, upto, s.long)

pub between_is : (cs : List ChunkValue) (start end before bytes here close far more : ℕ) (all out : List ℕ) → start ≤ end → IsSeam cs start before bytes here
    → IsSeam cs end close far more → all ≡ text_of (slice_range cs before (close + more)) → out ≡ slice_range all (start - bytes) (end - bytes) → out ≡ slice_range (text_of cs) start end
between_is cs start end before bytes here close far more all out order s t e f =
    let i : before ≤ close + more = seam_order cs start end before bytes here close far more order s t in
    let xs : List ℕ = text_of (take before cs) in
    let ys : List ℕ = text_of (slice_range cs before (close + more)) in
    let zs : List ℕ = text_of (drop (close + more) cs) in
    let whole : text_of cs ≡ xs ++ (ys ++ zs) = text_between cs before (close + more) i in
    let high : end ≤ length xs + length ys = omega (arith, between_long cs start end before bytes here close far more order s t, s.long) in
    f ∙ ap (λ (u : List ℕ). slice_range u (start - bytes) (end - bytes)) e
    ∙ ap (λ (k : ℕ). slice_range ys (start - k) (end - k)) s.long
    ∙ sym (ap (λ (u : List ℕ). slice_range u start end) whole ∙ between_at xs ys zs start end (omega (arith, s.long, s.behind)) order high)

-- from a border between chunks on
pub rest_behind : (cs rest : List ChunkValue) (at border size : ℕ) (out : List ℕ) → rest ≡ drop border cs → size ≡ length (text_of (take border cs)) → size ≤ at
    → out ≡ slice_range (text_of rest) (at - size) ((at - size) + length out) → out ≡ slice_range (text_of cs) at (at + length out)
rest_behind cs rest at border size out is long low part =
    let n : at ≡ length (text_of (take border cs)) + (at - size) = omega (arith, long, low) in
    let there : drop at (text_of cs) ≡ drop (at - size) (text_of rest) =
    ap (drop at) (text_parts cs border)
    ∙ ap (λ (i : ℕ). drop i (text_of (take border cs) ++ text_of (drop border cs))) n
    ∙ drop-append-add (text_of (take border cs)) (text_of (drop border cs)) (at - size)
    ∙ ap (λ (xs : List ChunkValue). drop (at - size) (text_of xs)) (sym is) in
    part
    ∙ ap (λ (i : ℕ). take i (drop (at - size) (text_of rest))) (omega arith)
    ∙ ap (take ((at + length out) - at)) (sym there)

-- what stands from a place in the first of two texts up to its end
pub rest_in : (xs ys : List ℕ) (at : ℕ) → at ≤ length xs → drop at xs ≡ slice_range (xs ++ ys) at (at + length (drop at xs))
rest_in xs ys at h =
    let n : (at + length (drop at xs)) - at ≡ length (drop at xs) = omega arith in
    sym (take_all (length (drop at xs)) (drop at xs) (omega arith))
    ∙ sym (take-append-le (length (drop at xs)) (drop at xs) ys (omega arith))
    ∙ sym (ap (λ (t : List ℕ). take (length (drop at xs)) t) (drop-append-le at xs ys h))
    ∙ sym (ap (λ (i : ℕ). take i (drop at (xs ++ ys))) n)

-- a chunk, what stands before it and what stands behind it
pub text_around : (cs : List ChunkValue) (k : ℕ) (c : ChunkValue) → k < length cs → c ≡ get_or cs k c → text_of cs ≡ text_of (take k cs) ++ (c.bytes ++ text_of (drop (k + 1) cs))
text_around cs k c h is =
    text_parts cs (k + 1)
    ∙ ap (λ (t : List ℕ). t ++ text_of (drop (k + 1) cs)) (text_more cs k c h)
    ∙ append_assoc (text_of (take k cs)) (get_or cs k c).bytes (text_of (drop (k + 1) cs))
    ∙ ap (λ (x : ChunkValue). text_of (take k cs) ++ (x.bytes ++ text_of (drop (k + 1) cs))) (sym is)

-- what stands from a place in a chunk up to its end
pub rest_here : (cs : List ChunkValue) (at k before : ℕ) (c : ChunkValue) (xs : List ℕ) → k < length cs → c ≡ get_or cs k c → xs ≡ c.bytes → before ≡ length (text_of (take k cs))
    → before ≤ at → at - before ≤ length xs → drop (at - before) xs ≡ slice_range (text_of cs) at (at + length (drop (at - before) xs))
rest_here cs at k before c xs h is same long low here =
    let first : List ℕ = text_of (take k cs) in
    let last : List ℕ = text_of (drop (k + 1) cs) in
    let e : at ≡ length first + (at - before) = omega (arith, long, low) in
    let whole : text_of cs ≡ first ++ (xs ++ last) = text_around cs k c h is ∙ ap (λ (t : List ℕ). first ++ (t ++ last)) (sym same) in
    let there : drop at (text_of cs) ≡ drop (at - before) (xs ++ last) =
    ap (drop at) whole ∙ ap (λ (i : ℕ). drop i (first ++ (xs ++ last))) e ∙ drop-append-add first (xs ++ last) (at - before) in
    let n : (at + length (drop (at - before) xs)) - at ≡ ((at - before) + length (drop (at - before) xs)) - (at - before) = omega arith in
    rest_in xs last (at - before) here
    ∙ sym (ap (λ (i : ℕ). take i (drop (at - before) (xs ++ last))) n)
    ∙ sym (ap (take ((at + length (drop (at - before) xs)) - at)) there)

-- the bytes of chunks, behind a front
bytes_together : (cs : List ChunkValue) → concat (map bytes_of cs) ≡ text_of cs
bytes_together [] = refl
bytes_together (c ∷ cs) = ap (λ (t : List ℕ). c.bytes ++ t) (bytes_together cs)

pub pieces_are : (front : List ℕ) (cs : List ChunkValue) → concat (pieces front cs) ≡ front ++ text_of cs
pieces_are [] cs = bytes_together cs
pieces_are (b ∷ front) cs = ap (λ (t : List ℕ). (b ∷ front) ++ t) (bytes_together cs)

-- chunks with the same bytes
pub text_take : (cs ds : List ChunkValue) (k : ℕ) → map bytes_of cs ≡ map bytes_of ds → text_of (take k cs) ≡ text_of (take k ds)
text_take cs ds zero e = refl
text_take [] [] (suc k) e = refl
text_take [] (d ∷ ds) (suc k) e = absurd cc
text_take (c ∷ cs) [] (suc k) e = absurd cc
text_take (c ∷ cs) (d ∷ ds) (suc k) e =
    let a : c.bytes ≡ d.bytes = cc in
    let b : map bytes_of cs ≡ map bytes_of ds = cc in
    ap (λ (t : List ℕ). t ++ text_of (take k cs)) a ∙ ap (λ (t : List ℕ). d.bytes ++ t) (text_take cs ds k b)

pub length_same : (cs ds : List ChunkValue) → map bytes_of cs ≡ map bytes_of ds → length cs ≡ length ds
length_same [] [] e = refl
length_same [] (d ∷ ds) e = absurd cc
length_same (c ∷ cs) [] e = absurd cc
length_same (c ∷ cs) (d ∷ ds) e = let b : map bytes_of cs ≡ map bytes_of ds = cc in ap suc (length_same cs ds b)

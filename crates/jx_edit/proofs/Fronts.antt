-- What stands in front of a text, through edits.
use Rattle.std.proofs.Common.{◌^◌, nat_lt, ◌≡◌, ℕ, suc, ◌+◌, ◌-◌, ◌≤◌, ◌<◌, List, [], ◌∷◌, ◌++◌, length, take, drop, Bool, true, false, cond, min, refl, sym, ap, subst, ◌∙◌, arith, inl, inr, append_assoc, append-nil, length-append}
use Rattle.std.specs.Prelude.{◌==◌}
use Rattle.std.specs.List.{slice_range}
use Rattle.std.proofs.lemmas.Bool.{cases_lt}
use Rattle.std.proofs.lemmas.Bool.Decides.{nat_tests}
use Rattle.std.proofs.lemmas.List.{take_all, length-drop, length-take-le, take-append-drop, take-append-le, drop-append-le, drop_all}
use Rattle.std.proofs.lemmas.List.Folds.{drop_split}
use Rattle.std.proofs.Math.Seq.{take-append-add, drop-append-add}
use Rattle.jx_run.specs.declared.texts.settings.Front.{Front}
use Rattle.jx_run.specs.declared.texts.settings.Front.TheVariants as seen
use Rattle.jx_run.specs.declared.texts.settings.FrontMark.{FrontMark}
use Rattle.jx_run.specs.declared.texts.settings.Settings.{Settings}
use Rattle.jx_run.specs.declared.texts.settings.FrontMark.TheVariants as on_mark
use Rattle.jx_run.specs.declared.texts.verdict.Refusal.TheVariants as refusal
use Rattle.jx_run.specs.Front.{agreed, front_of}
use Rattle.jx_run.specs.Settings.{byte_order_mark}
use Rattle.jx_run.proofs.Fronts.{front_stays}
use Rattle.jx_edit.specs.Document.{edited}
use Rattle.jx_edit.specs.inside.Chunks.{ChunkedValue}
use Rattle.jx_edit.specs.inside.Fronts.{skipped, with_front, IsFronted}
use Rattle.jx_edit.proofs.Texts.{length_edited}

-- of bytes between others, three tell it
pub front_few : (m : FrontMark) (xs ys few zs bytes : List ℕ) (n : ℕ) → n ≡ min (length ys) 3 → few ≡ take n ys → bytes ≡ (xs ++ few) ++ zs → front_of m bytes ≡ front_of m ((xs ++ ys) ++ zs)
front_few m xs ys few zs bytes n n_is few_is is = elim (cases_lt 3 (length ys)) [
  | inl more ↦
      let three : 3 ≤ length (xs ++ few) = omega (arith, length-append xs few, ap length few_is, length-take-le n ys (omega (arith, n_is)), n_is, more) in
      let parts : xs ++ ys ≡ (xs ++ few) ++ drop n ys =
      ap (λ (t : List ℕ). xs ++ t) (sym (take-append-drop n ys)) ∙ sym (append_assoc xs (take n ys) (drop n ys)) ∙ ap (λ (t : List ℕ). (xs ++ t) ++ drop n ys) (sym few_is) in
      ap (front_of m) is
      ∙ front_stays m (xs ++ few) zs three
      ∙ sym (front_stays m (xs ++ few) (drop n ys ++ zs) three)
      ∙ ap (front_of m) (sym (append_assoc (xs ++ few) (drop n ys) zs))
      ∙ ap (λ (t : List ℕ). front_of m (t ++ zs)) (sym parts)
  | inr short ↦ ap (front_of m) (is ∙ ap (λ (t : List ℕ). (xs ++ t) ++ zs) (few_is ∙ take_all n ys (omega (arith, n_is, short))))
]

-- without the first so many of lists
drop_both : (xs ys : List ℕ) (n : ℕ) → drop n xs ++ drop (n - length xs) ys ≡ drop n (xs ++ ys)
drop_both xs ys n = elim (cases_lt (length xs) n) [
  | inl past ↦
      let e : n ≡ length xs + (n - length xs) = omega (arith, past) in
      ap (λ (t : List ℕ). t ++ drop (n - length xs) ys) (drop_all n xs (omega (arith, past)))
      ∙ sym (ap (λ (i : ℕ). drop i (xs ++ ys)) e ∙ drop-append-add xs ys (n - length xs))
  | inr within ↦ let none : n - length xs ≡ 0 = omega (arith, within) in ap (λ (i : ℕ). drop n xs ++ drop i ys) none ∙ sym (drop-append-le n xs ys within)
]

pub drop_three : (xs ys zs us vs ws : List ℕ) (n m k : ℕ) → us ≡ drop n xs → m ≡ n - length xs → vs ≡ drop m ys → k ≡ m - length ys → ws ≡ drop k zs
    → (us ++ vs) ++ ws ≡ drop n ((xs ++ ys) ++ zs)
drop_three xs ys zs us vs ws n m k a m_is b k_is c =
    let first : us ++ vs ≡ drop n (xs ++ ys) =
    ap (λ (t : List ℕ). t ++ vs) a ∙ ap (λ (t : List ℕ). drop n xs ++ t) (b ∙ ap (λ (i : ℕ). drop i ys) m_is) ∙ drop_both xs ys n in
    let last : ws ≡ drop (n - length (xs ++ ys)) zs = c ∙ ap (λ (i : ℕ). drop i zs) (omega (arith, m_is, k_is, length-append xs ys)) in
    ap (λ (t : List ℕ). t ++ ws) first ∙ ap (λ (t : List ℕ). drop n (xs ++ ys) ++ t) last ∙ drop_both (xs ++ ys) zs n

taken_agree : (xs ms : List ℕ) → agreed xs ms ≡ length ms → take (length ms) xs ≡ ms
taken_agree xs [] e = refl
taken_agree [] (m ∷ ms) e = absurd (omega (arith, e))
taken_agree (x ∷ xs) (m ∷ ms) e = pick (x == m) refl (taken_agree xs ms) e
  where
    pick : (b : Bool) → (x == m) ≡ b → (agreed xs ms ≡ length ms → take (length ms) xs ≡ ms) → cond b (suc (agreed xs ms)) 0 ≡ suc (length ms)
        → x ∷ take (length ms) xs ≡ m ∷ ms
    pick true q more h =
        let same : x ≡ m = grind (arith, nat_tests) in
        let less : agreed xs ms ≡ length ms = omega (arith, h) in
        ap (λ y. y ∷ take (length ms) xs) same ∙ ap (λ t. m ∷ t) (more less)
    pick false q more h = absurd (omega (arith, h))

-- what is skipped are bytes of a mark, with which the text begins
record IsSkipped (front : Front) (text : List ℕ) : Type 0 where
  pub short : skipped front ≤ 3
  pub taken : take (skipped front) text ≡ take (skipped front) byte_order_mark

is_skipped : (m : FrontMark) (text : List ℕ) → IsSkipped (front_of m text) text
is_skipped on_mark.Refused text = record { short = omega arith; taken = refl }
is_skipped on_mark.Ignored text = pick (agreed text byte_order_mark == 0) (agreed text byte_order_mark == 3) (agreed text byte_order_mark == length text) refl
  where
    pick : (x y z : Bool) → (agreed text byte_order_mark == 3) ≡ y
        → IsSkipped (cond x (seen.Skip 0) (cond y (seen.Skip 3) (cond z (seen.Refused refusal.Truncated) (seen.Refused (refusal.Stopped (agreed text byte_order_mark)))))) text
    pick true y z q = record { short = omega arith; taken = refl }
    pick false true z q = let three : agreed text byte_order_mark ≡ 3 = grind (arith, nat_tests) in record { short = omega arith; taken = taken_agree text byte_order_mark three }
    pick false false true q = record { short = omega arith; taken = refl }
    pick false false false q = record { short = omega arith; taken = refl }

pub short_front : (m : FrontMark) (text : List ℕ) (f : Front) → f ≡ front_of m text → skipped f ≤ 3
short_front m text f e = subst (λ (g : Front). skipped g ≤ 3) (sym e) (is_skipped m text).short

-- a text is its front and what stands behind it
pub parted : (m : FrontMark) (text : List ℕ) (f : Front) → f ≡ front_of m text → with_front f (drop (skipped f) text) ≡ text
parted m text f e =
    let taken : take (skipped f) text ≡ take (skipped f) byte_order_mark = subst (λ (g : Front). take (skipped g) text ≡ take (skipped g) byte_order_mark) (sym e) (is_skipped m text).taken in
    ap (λ (t : List ℕ). t ++ drop (skipped f) text) (sym taken) ∙ take-append-drop (skipped f) text

pub front_long : (f : Front) → skipped f ≤ 3 → length (take (skipped f) byte_order_mark) ≡ skipped f
front_long f h = length-take-le (skipped f) byte_order_mark (omega (arith, h))

pub long : (f : Front) (rest : List ℕ) → skipped f ≤ 3 → length (with_front f rest) ≡ skipped f + length rest
long f rest h = length-append (take (skipped f) byte_order_mark) rest ∙ ap (λ (n : ℕ). n + length rest) (front_long f h)

-- from a place behind the front on
pub behind : (f : Front) (rest : List ℕ) (at : ℕ) → skipped f ≤ 3 → skipped f ≤ at → drop at (with_front f rest) ≡ drop (at - skipped f) rest
behind f rest at h k =
    let e : at ≡ length (take (skipped f) byte_order_mark) + (at - skipped f) = omega (arith, front_long f h) in
    ap (λ (n : ℕ). drop n (with_front f rest)) e ∙ drop-append-add (take (skipped f) byte_order_mark) rest (at - skipped f)

before : (f : Front) (rest : List ℕ) (at : ℕ) → skipped f ≤ 3 → skipped f ≤ at → take at (with_front f rest) ≡ with_front f (take (at - skipped f) rest)
before f rest at h k =
    let e : at ≡ length (take (skipped f) byte_order_mark) + (at - skipped f) = omega (arith, front_long f h) in
    ap (λ (n : ℕ). take n (with_front f rest)) e ∙ take-append-add (take (skipped f) byte_order_mark) rest (at - skipped f)

sub-zero : (n : ℕ) → n - 0 ≡ n
sub-zero n = omega arith

-- the bytes between two places behind the front
pub slice_behind : (f : Front) (rest : List ℕ) (start end : ℕ) → skipped f ≤ 3 → skipped f ≤ start → start ≤ end
    → slice_range rest (start - skipped f) (end - skipped f) ≡ slice_range (with_front f rest) start end
slice_behind f rest start end h k order =
    let n : (end - skipped f) - (start - skipped f) ≡ end - start = omega (arith, k, order) in
    ap (λ (i : ℕ). take i (drop (start - skipped f) rest)) n ∙ ap (take (end - start)) (sym (behind f rest start h k))

slice_over : (xs ys : List ℕ) (start end : ℕ) → start ≤ length xs → start ≤ end
    → slice_range (xs ++ ys) start end ≡ slice_range xs start (min end (length xs)) ++ slice_range ys 0 (end - length xs)
slice_over xs ys start end h order = ap (take (end - start)) (drop-append-le start xs ys h) ∙ pick (nat_lt (length xs) end) refl
  where
    pick : (b : Bool) → nat_lt (length xs) end ≡ b → take (end - start) (drop start xs ++ ys) ≡ slice_range xs start (min end (length xs)) ++ slice_range ys 0 (end - length xs)
    pick true q =
        let past : length xs < end = grind (arith, nat_tests) in
        let least : min end (length xs) ≡ length xs = omega (arith, past) in
        let long : length (drop start xs) ≡ length xs - start = length-drop start xs in
        let e : end - start ≡ length (drop start xs) + (end - length xs) = omega (arith, past, long, h) in
        ap (λ (n : ℕ). take n (drop start xs ++ ys)) e
        ∙ take-append-add (drop start xs) ys (end - length xs)
        ∙ ap (λ (t : List ℕ). t ++ take (end - length xs) ys) (sym (ap (λ (n : ℕ). slice_range xs start n) least ∙ take_all (length xs - start) (drop start xs) (omega (arith, long))))
        ∙ ap (λ (n : ℕ). slice_range xs start (min end (length xs)) ++ take n ys) (sym (sub-zero (end - length xs)))
    pick false q =
        let within : end ≤ length xs = grind (arith, nat_tests) in
        let least : min end (length xs) ≡ end = omega (arith, within) in
        let none : (end - length xs) - 0 ≡ 0 = omega (arith, within) in
        take-append-le (end - start) (drop start xs) ys (omega (arith, length-drop start xs, within))
        ∙ ap (λ (n : ℕ). slice_range xs start n) (sym least)
        ∙ sym (append-nil (slice_range xs start (min end (length xs))))
        ∙ ap (λ (n : ℕ). slice_range xs start (min end (length xs)) ++ take n ys) (sym none)

-- the bytes between a place in the front and one behind it
pub slice_front : (f : Front) (rest : List ℕ) (start end close far : ℕ) (bytes behind out : List ℕ) → skipped f ≤ 3 → start ≤ skipped f → start ≤ end → close ≡ min end (skipped f)
    → far ≡ end - skipped f → bytes ≡ slice_range (take (skipped f) byte_order_mark) start close → behind ≡ slice_range rest 0 far → out ≡ bytes ++ behind
    → out ≡ slice_range (with_front f rest) start end
slice_front f rest start end close far bytes behind out h within order near_is far_is bytes_is behind_is is =
    let mark : List ℕ = take (skipped f) byte_order_mark in
    let long : length mark ≡ skipped f = front_long f h in
    is
    ∙ ap (λ (t : List ℕ). t ++ behind) (bytes_is ∙ ap (λ (n : ℕ). slice_range mark start n) (near_is ∙ ap (min end) (sym long)))
    ∙ ap (λ (t : List ℕ). slice_range mark start (min end (length mark)) ++ t) (behind_is ∙ ap (λ (n : ℕ). slice_range rest 0 n) (far_is ∙ ap (λ (n : ℕ). end - n) (sym long)))
    ∙ sym (slice_over mark rest start end (omega (arith, long, within)) order)

-- an edit behind the front
pub edited_behind : (f : Front) (rest more : List ℕ) (start end : ℕ) → skipped f ≤ 3 → skipped f ≤ start → start ≤ end
    → with_front f (edited (start - skipped f) (end - skipped f) more rest) ≡ edited start end more (with_front f rest)
edited_behind f rest more start end h k order =
    let mark : List ℕ = take (skipped f) byte_order_mark in
    let first : List ℕ = take (start - skipped f) rest in
    let last : List ℕ = drop (end - skipped f) rest in
    sym (append_assoc mark (first ++ more) last)
    ∙ ap (λ (t : List ℕ). t ++ last) (sym (append_assoc mark first more))
    ∙ ap (λ (t : List ℕ). (t ++ more) ++ last) (sym (before f rest start h k))
    ∙ ap (λ (t : List ℕ). (take start (with_front f rest) ++ more) ++ t) (sym (behind f rest end h (omega (arith, k, order))))

same_front : (m : FrontMark) (text more : List ℕ) (start end : ℕ) → 3 ≤ start → start ≤ length text → front_of m (edited start end more text) ≡ front_of m text
same_front m text more start end h k =
    let three : 3 ≤ length (take start text) = omega (arith, length-take-le start text k) in
    ap (front_of m) (append_assoc (take start text) more (drop end text))
    ∙ front_stays m (take start text) (more ++ drop end text) three
    ∙ sym (front_stays m (take start text) (drop start text) three)
    ∙ ap (front_of m) (take-append-drop start text)

-- with how many bytes are skipped
pub copied : (f : Front) (rest : List ℕ) (start end skip : ℕ) (out : List ℕ) → skipped f ≤ 3 → skip ≡ skipped f → skip ≤ start → start ≤ end
    → out ≡ slice_range rest (start - skip) (end - skip) → out ≡ slice_range (with_front f rest) start end
copied f rest start end skip out h e k order is =
    is ∙ ap (λ (n : ℕ). slice_range rest (start - n) (end - n)) e ∙ slice_behind f rest start end h (subst (λ (n : ℕ). n ≤ start) e k) order

-- what stands from a place behind the front on
pub piece_behind : (f : Front) (rest out : List ℕ) (at skip : ℕ) → skipped f ≤ 3 → skip ≡ skipped f → skip ≤ at → out ≡ slice_range rest (at - skip) ((at - skip) + length out)
    → out ≡ slice_range (with_front f rest) at (at + length out)
piece_behind f rest out at skip h e k is =
    let far : (at - skip) + length out ≡ (at + length out) - skip = omega (arith, k) in
    copied f rest at (at + length out) skip out h e k (omega arith) (is ∙ ap (λ (n : ℕ). slice_range rest (at - skip) n) far)

pub edited_at : (f : Front) (rest new more : List ℕ) (start end skip : ℕ) → skipped f ≤ 3 → skip ≡ skipped f → 3 ≤ start → start ≤ end
    → new ≡ edited (start - skip) (end - skip) more rest → with_front f new ≡ edited start end more (with_front f rest)
edited_at f rest new more start end skip h e three order is =
    ap (with_front f) (is ∙ ap (λ (n : ℕ). edited (start - n) (end - n) more rest) e) ∙ edited_behind f rest more start end h (omega (arith, h, three)) order

pub fronted_behind : (s : Settings) (f : Front) (rest new : ChunkedValue) (more text : List ℕ) (start end skip : ℕ) → IsFronted s f rest → with_front f rest.bytes ≡ text
    → skip ≡ skipped f → 3 ≤ start → start ≤ end → end ≤ length text → (length text - (end - start)) + length more < 2 ^ 63 → new.depth ≡ rest.depth
    → new.bytes ≡ edited (start - skip) (end - skip) more rest.bytes → IsFronted s f new
fronted_behind s f rest new more text start end skip h t e three order within fits deep is =
    let whole : with_front f new.bytes ≡ edited start end more text =
    edited_at f rest.bytes new.bytes more start end skip h.short e three order is ∙ ap (edited start end more) t in
    record {
      depth = deep ∙ h.depth;
      names = h.names;
      seen = h.seen ∙ ap (front_of s.mark) t ∙ sym (same_front s.mark text more start end three (omega (arith, order, within))) ∙ ap (front_of s.mark) (sym whole);
      short = h.short;
      fits = omega (arith, ap length whole, length_edited start end more text order within, fits);
    }

-- an edit where the front may change: the bytes up to a place, and those behind
module _ (s : Settings) (f : Front) (rest : ChunkedValue) (more bytes text : List ℕ) (start end far : ℕ) (h : IsFronted s f rest) (t : with_front f rest.bytes ≡ text)
    (order : start ≤ end) (close : end ≤ far) (within : far ≤ length text) (least : far < length text → end + 3 ≤ far)
    (is : bytes ≡ (slice_range text 0 start ++ more) ++ slice_range text end far) where
  near_is : bytes ++ drop far text ≡ edited start end more text
  near_is =
      let d : drop end text ≡ slice_range text end far ++ drop far text = drop_split text end far close in
      ap (λ (xs : List ℕ). xs ++ drop far text) is
      ∙ append_assoc (slice_range text 0 start ++ more) (slice_range text end far) (drop far text)
      ∙ ap (λ (xs : List ℕ). (slice_range text 0 start ++ more) ++ xs) (sym d)
      ∙ ap (λ (n : ℕ). (take n text ++ more) ++ drop end text) (sub-zero start)

  near_front : front_of s.mark (edited start end more text) ≡ front_of s.mark bytes
  near_front = ap (front_of s.mark) (sym near_is) ∙ pick (nat_lt far (length text)) refl
    where
      pick : (b : Bool) → nat_lt far (length text) ≡ b → front_of s.mark (bytes ++ drop far text) ≡ front_of s.mark bytes
      pick true q =
          let below : far < length text = grind (arith, nat_tests) in
          let last : length (slice_range text end far) ≡ far - end = length-take-le (far - end) (drop end text) (omega (arith, length-drop end text, within, close)) in
          let three : 3 ≤ length bytes = omega (arith, least below, ap length is, length-append (slice_range text 0 start ++ more) (slice_range text end far), last) in
          front_stays s.mark bytes (drop far text) three
      pick false q =
          let all : length text ≤ far = grind (arith, nat_tests) in
          ap (λ (xs : List ℕ). front_of s.mark (bytes ++ xs)) (drop_all far text all) ∙ ap (front_of s.mark) (append-nil bytes)

  module _ (g : Front) (new : ChunkedValue) (skip next : ℕ) (skip_is : skip ≡ skipped f) (reach : skip ≤ far) (next_is : next ≡ skipped g) (seen_is : g ≡ front_of s.mark bytes)
      (deep : new.depth ≡ rest.depth) (changed : new.bytes ≡ edited 0 (far - skip) (drop next bytes) rest.bytes) where
    pub near_text : with_front g new.bytes ≡ edited start end more text
    near_text =
        ap (with_front g) (changed ∙ ap (λ (n : ℕ). drop n bytes ++ drop (far - skip) rest.bytes) next_is ∙ ap (λ (n : ℕ). drop (skipped g) bytes ++ drop (far - n) rest.bytes) skip_is)
        ∙ sym (append_assoc (take (skipped g) byte_order_mark) (drop (skipped g) bytes) (drop (far - skipped f) rest.bytes))
        ∙ ap (λ (xs : List ℕ). xs ++ drop (far - skipped f) rest.bytes) (parted s.mark bytes g seen_is)
        ∙ ap (λ (xs : List ℕ). bytes ++ xs) (sym (behind f rest.bytes far h.short (omega (arith, reach, skip_is))))
        ∙ ap (λ (xs : List ℕ). bytes ++ drop far xs) t
        ∙ near_is

    pub fronted_near : end ≤ length text → (length text - (end - start)) + length more < 2 ^ 63 → IsFronted s g new
    fronted_near high fits =
        record {
          depth = deep ∙ h.depth;
          names = h.names;
          seen = seen_is ∙ sym near_front ∙ ap (front_of s.mark) (sym near_text);
          short = short_front s.mark bytes g seen_is;
          fits = omega (arith, ap length near_text, length_edited start end more text order high, fits);
        }

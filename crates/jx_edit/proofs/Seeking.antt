-- Positions among chunks.
use Rattle.std.proofs.Common.{◌≡◌, ℕ, ◌+◌, ◌*◌, ◌-◌, ◌^◌, ◌<◌, ◌≤◌, List, ◌++◌, length, take, drop, get_or, min, nat_lt, Bool, true, false, refl, sym, ap, subst, ◌∙◌, arith, zero-add}
use Rattle.std.proofs.lemmas.Bool.Decides.{nat_tests}
use Rattle.std.proofs.lemmas.List.{take_all, take-append-le, drop_all, at_drop_more, length-take}
use Rattle.std.proofs.Math.Seq.{take-append-add}
use Rattle.jx_edit.specs.declared.positions.encoding.Encoding.{Encoding}
use Rattle.jx_edit.specs.declared.positions.position.Position.{Position}
use Rattle.jx_edit.specs.Positions.{first, is_behind, position_behind, reach}
use Rattle.jx_edit.specs.inside.Chunks.{ChunkValue, text_of}
use Rattle.jx_edit.specs.inside.Moves.{joined}
use Rattle.jx_edit.proofs.Counting.{behind_character, behind_joined, behind_line, behind_parts, reach_over, reach_within}
use Rattle.jx_edit.proofs.Texts.{length_more, more_within, take_at, text_around, text_more}

-- the position behind bytes that stand behind others
pub joined_is : (e : Encoding) (from p m : Position) (xs ys : List ℕ) → p ≡ position_behind e from xs → m ≡ position_behind e first ys → joined p m ≡ position_behind e from (xs ++ ys)
joined_is e from p m xs ys h k =
    ap (λ (q : Position). joined q m) h
    ∙ ap (joined (position_behind e from xs)) k
    ∙ sym (behind_joined e (position_behind e from xs) ys)
    ∙ sym (behind_parts e from xs ys)

-- how great both are
pub joined_fits : (e : Encoding) (from p m : Position) (xs ys : List ℕ) (n : ℕ) → p ≡ position_behind e from xs → m ≡ position_behind e first ys → length xs + length ys ≤ n
    → from.line + n < 2 ^ 64 → from.character + 2 * n < 2 ^ 64 → (p.line + m.line < 2 ^ 64) × (p.character + m.character < 2 ^ 64)
joined_fits e from p m xs ys n h k l lines characters =
    let a : p.line ≤ from.line + length xs = subst (λ (q : Position). q.line ≤ from.line + length xs) (sym h) (behind_line e from xs) in
    let b : m.line ≤ 0 + length ys = subst (λ (q : Position). q.line ≤ 0 + length ys) (sym k) (behind_line e first ys) in
    let c : p.character ≤ from.character + 2 * length xs = subst (λ (q : Position). q.character ≤ from.character + 2 * length xs) (sym h) (behind_character e from xs) in
    let d : m.character ≤ 0 + 2 * length ys = subst (λ (q : Position). q.character ≤ 0 + 2 * length ys) (sym k) (behind_character e first ys) in
    (omega (arith, a, b, l, lines), omega (arith, c, d, l, characters))

-- a chunk `c`, with the bytes `xs`, behind chunks that have so many bytes
pub record IsHere (cs : List ChunkValue) (k before : ℕ) (c : ChunkValue) (xs : List ℕ) : Type 0 where
  pub within : k < length cs
  pub chunk : c ≡ get_or cs k c
  pub bytes : xs ≡ c.bytes
  pub long : before ≡ length (text_of (take k cs))

pub part_within : (cs : List ChunkValue) (k before : ℕ) (c : ChunkValue) (xs ys : List ℕ) → IsHere cs k before c xs → length ys ≤ length xs
    → length (text_of (take k cs)) + length ys ≤ length (text_of cs)
part_within cs k before c xs ys h l =
    let same : length xs ≡ length (get_or cs k c).bytes = ap length h.bytes ∙ ap (λ (x : ChunkValue). length x.bytes) h.chunk in
    omega (arith, more_within cs k c h.within, same, l)

pub taken_here : (cs : List ChunkValue) (k before at n : ℕ) (c : ChunkValue) (xs : List ℕ) → IsHere cs k before c xs → at ≡ before + n → n ≤ length xs
    → take at (text_of cs) ≡ text_of (take k cs) ++ take n xs
taken_here cs k before at n c xs h e l =
    let first : List ℕ = text_of (take k cs) in
    let last : List ℕ = text_of (drop (k + 1) cs) in
    let whole : text_of cs ≡ first ++ (xs ++ last) = text_around cs k c h.within h.chunk ∙ ap (λ (t : List ℕ). first ++ (t ++ last)) (sym h.bytes) in
    ap (take at) whole ∙ take_at first xs last at n (omega (arith, e, h.long)) l

-- one chunk more
pub more_here : (e : Encoding) (from p m : Position) (cs : List ChunkValue) (k before : ℕ) (c : ChunkValue) (xs : List ℕ) → IsHere cs k before c xs
    → p ≡ position_behind e from (text_of (take k cs)) → m ≡ position_behind e first c.bytes → joined p m ≡ position_behind e from (text_of (take (k + 1) cs))
more_here e from p m cs k before c xs h is moves =
    joined_is e from p m (text_of (take k cs)) c.bytes is moves
    ∙ ap (λ (x : ChunkValue). position_behind e from (text_of (take k cs) ++ x.bytes)) h.chunk
    ∙ ap (position_behind e from) (sym (text_more cs k c h.within))

-- behind some bytes of a chunk
pub there_in : (e : Encoding) (from p m : Position) (cs : List ChunkValue) (k before at : ℕ) (c : ChunkValue) (xs ys : List ℕ) → IsHere cs k before c xs → before ≤ at → at - before ≤ length xs
    → p ≡ position_behind e from (text_of (take k cs)) → ys ≡ take (at - before) xs → m ≡ position_behind e first ys → joined p m ≡ position_behind e from (take at (text_of cs))
there_in e from p m cs k before at c xs ys h low here is part moves =
    joined_is e from p m (text_of (take k cs)) ys is moves
    ∙ ap (λ (t : List ℕ). position_behind e from (text_of (take k cs) ++ t)) part
    ∙ ap (position_behind e from) (sym (taken_here cs k before at (at - before) c xs h (omega (arith, low)) here))

-- behind all chunks
pub there_end : (e : Encoding) (from p : Position) (cs : List ChunkValue) (k before at : ℕ) → length cs ≤ k → before ≡ length (text_of (take k cs)) → before ≤ at
    → p ≡ position_behind e from (text_of (take k cs)) → p ≡ position_behind e from (take at (text_of cs))
there_end e from p cs k before at h long low is =
    let all : text_of (take k cs) ≡ text_of cs = ap text_of (take_all k cs h) in
    is ∙ ap (position_behind e from) (all ∙ sym (take_all at (text_of cs) (omega (arith, ap length all, long, low))))

-- how great the position of a chunk is
pub here_fits : (e : Encoding) (from p : Position) (cs : List ChunkValue) (k before : ℕ) (c : ChunkValue) (xs : List ℕ) → IsHere cs k before c xs → p ≡ position_behind e from (text_of (take k cs))
    → from.line + length (text_of cs) < 2 ^ 64 → from.character + 2 * length (text_of cs) < 2 ^ 64 → (p.line + length xs < 2 ^ 64) × (p.character + 2 * length xs < 2 ^ 64)
here_fits e from p cs k before c xs h is lines characters =
    let text : List ℕ = text_of (take k cs) in
    let a : p.line ≤ from.line + length text = subst (λ (q : Position). q.line ≤ from.line + length text) (sym is) (behind_line e from text) in
    let b : p.character ≤ from.character + 2 * length text = subst (λ (q : Position). q.character ≤ from.character + 2 * length text) (sym is) (behind_character e from text) in
    let l : length text + length xs ≤ length (text_of cs) = part_within cs k before c xs xs h (omega arith) in
    (omega (arith, a, l, lines), omega (arith, b, l, characters))

-- ---- how many bytes come before a position

-- the chunks before this one do
pub record IsSought (e : Encoding) (from to p : Position) (cs : List ChunkValue) (k before : ℕ) : Type 0 where
  pub position : p ≡ position_behind e from (text_of (take k cs))
  pub long : before ≡ length (text_of (take k cs))
  pub more : reach e from to (text_of cs) ≡ before + reach e p to (text_of (drop k cs))

pub sought_none : (e : Encoding) (from to : Position) (cs : List ChunkValue) → IsSought e from to from cs 0 0
sought_none e from to cs = record { position = refl; long = refl; more = sym (zero-add (reach e from to (text_of cs))) }

-- the chunks from one on
chunks_from : (cs : List ChunkValue) (k before : ℕ) (c : ChunkValue) (xs : List ℕ) → IsHere cs k before c xs → text_of (drop k cs) ≡ xs ++ text_of (drop (k + 1) cs)
chunks_from cs k before c xs h =
    at_drop_more text_of cs k c h.within
    ∙ ap (λ (x : ChunkValue). x.bytes ++ text_of (drop (k + 1) cs)) (sym h.chunk)
    ∙ ap (λ (t : List ℕ). t ++ text_of (drop (k + 1) cs)) (sym h.bytes)

pub sought_more : (e : Encoding) (from to p q m : Position) (cs : List ChunkValue) (k before next : ℕ) (c : ChunkValue) (xs : List ℕ) → IsHere cs k before c xs → IsSought e from to p cs k before
    → m ≡ position_behind e first c.bytes → q ≡ joined p m → is_behind q to ≡ false → next ≡ before + length xs → IsSought e from to q cs (k + 1) next
sought_more e from to p q m cs k before next c xs h s moves is not n =
    let here : q ≡ position_behind e p xs =
    is ∙ ap (joined p) (moves ∙ ap (position_behind e first) (sym h.bytes)) ∙ sym (behind_joined e p xs) in
    let same : length xs ≡ length (get_or cs k c).bytes = ap length h.bytes ∙ ap (λ (x : ChunkValue). length x.bytes) h.chunk in
    let over : reach e p to (xs ++ text_of (drop (k + 1) cs)) ≡ length xs + reach e (position_behind e p xs) to (text_of (drop (k + 1) cs)) =
    reach_over e p to xs (text_of (drop (k + 1) cs)) (ap (λ (r : Position). is_behind r to) (sym here) ∙ not) in
    let last : reach e (position_behind e p xs) to (text_of (drop (k + 1) cs)) ≡ reach e q to (text_of (drop (k + 1) cs)) = ap (λ (r : Position). reach e r to (text_of (drop (k + 1) cs))) (sym here) in
    record {
      position = is ∙ more_here e from p m cs k before c xs h s.position moves;
      long = omega (arith, n, length_more cs k c h.within, same, h.long);
      more = omega (arith, s.more, ap (reach e p to) (chunks_from cs k before c xs h), over, last, n);
    }

pub sought_here : (e : Encoding) (from to p q m : Position) (cs : List ChunkValue) (k before n : ℕ) (c : ChunkValue) (xs : List ℕ) → IsHere cs k before c xs → IsSought e from to p cs k before
    → m ≡ position_behind e first c.bytes → q ≡ joined p m → is_behind q to ≡ true → n ≡ reach e p to xs → before + n ≡ reach e from to (text_of cs)
sought_here e from to p q m cs k before n c xs h s moves is past e_n =
    let here : q ≡ position_behind e p xs =
    is ∙ ap (joined p) (moves ∙ ap (position_behind e first) (sym h.bytes)) ∙ sym (behind_joined e p xs) in
    let within : reach e p to (xs ++ text_of (drop (k + 1) cs)) ≡ reach e p to xs =
    reach_within e p to xs (text_of (drop (k + 1) cs)) (ap (λ (r : Position). is_behind r to) (sym here) ∙ past) in
    omega (arith, s.more, ap (reach e p to) (chunks_from cs k before c xs h), within, e_n)

pub sought_position : (e : Encoding) (from to p q : Position) (cs : List ChunkValue) (k before n : ℕ) (c : ChunkValue) (xs : List ℕ) → IsHere cs k before c xs → IsSought e from to p cs k before
    → n ≤ length xs → q ≡ position_behind e p (take n xs) → q ≡ position_behind e from (take (before + n) (text_of cs))
sought_position e from to p q cs k before n c xs h s l is =
    is ∙ ap (λ (r : Position). position_behind e r (take n xs)) s.position
    ∙ sym (behind_parts e from (text_of (take k cs)) (take n xs))
    ∙ ap (position_behind e from) (sym (taken_here cs k before (before + n) n c xs h refl l))

pub sought_end : (e : Encoding) (from to p : Position) (cs : List ChunkValue) (k before : ℕ) → length cs ≤ k → IsSought e from to p cs k before → before ≡ reach e from to (text_of cs)
sought_end e from to p cs k before h s =
    let none : reach e p to (text_of (drop k cs)) ≡ 0 = ap (λ (ds : List ChunkValue). reach e p to (text_of ds)) (drop_all k cs h) in
    omega (arith, s.more, none)

-- ---- behind a front

pub front_position : (e : Encoding) (r : Position) (front rest : List ℕ) (n : ℕ) → n ≤ length front → r ≡ position_behind e first (take n front) → r ≡ position_behind e first (take n (front ++ rest))
front_position e r front rest n h is = is ∙ ap (position_behind e first) (sym (take-append-le n front rest h))

pub over_position : (e : Encoding) (from p r : Position) (front rest : List ℕ) (n : ℕ) → p ≡ position_behind e from front → r ≡ position_behind e p (take n rest)
    → r ≡ position_behind e from (take (length front + n) (front ++ rest))
over_position e from p r front rest n is there =
    there ∙ ap (λ (s : Position). position_behind e s (take n rest)) is
    ∙ sym (behind_parts e from front (take n rest))
    ∙ ap (position_behind e from) (sym (take-append-add front rest n))

pub position_over : (e : Encoding) (p r : Position) (front rest : List ℕ) (offset near far : ℕ) → near ≡ min offset (length front) → far ≡ offset - length front
    → p ≡ position_behind e first (take near front) → r ≡ position_behind e p (take far rest) → r ≡ position_behind e first (take offset (front ++ rest))
position_over e p r front rest offset near far near_is far_is is there = pick (nat_lt (length front) offset) refl
  where
    pick : (b : Bool) → nat_lt (length front) offset ≡ b → r ≡ position_behind e first (take offset (front ++ rest))
    pick true h =
        let past : length front < offset = grind (arith, nat_tests) in
        let all : near ≡ length front = omega (arith, near_is, past) in
        let whole : p ≡ position_behind e first front = is ∙ ap (λ (n : ℕ). position_behind e first (take n front)) all ∙ ap (position_behind e first) (take_all (length front) front (omega arith)) in
        let sum : length front + far ≡ offset = omega (arith, far_is, past) in
        over_position e first p r front rest far whole there ∙ ap (λ (n : ℕ). position_behind e first (take n (front ++ rest))) sum
    pick false h =
        let within : offset ≤ length front = grind (arith, nat_tests) in
        let here : near ≡ offset = omega (arith, near_is, within) in
        let none : far ≡ 0 = omega (arith, far_is, within) in
        front_position e r front rest offset within
        (there ∙ ap (λ (n : ℕ). position_behind e p (take n rest)) none ∙ is ∙ ap (λ (n : ℕ). position_behind e first (take n front)) here)

-- how great a position behind a front is
pub front_fits : (e : Encoding) (p : Position) (front rest : List ℕ) → p ≡ position_behind e first front → length front + length rest < 2 ^ 63
    → (p.line + length rest < 2 ^ 64) × (p.character + 2 * length rest < 2 ^ 64)
front_fits e p front rest is fits =
    let a : p.line ≤ 0 + length front = subst (λ (q : Position). q.line ≤ 0 + length front) (sym is) (behind_line e first front) in
    let b : p.character ≤ 0 + 2 * length front = subst (λ (q : Position). q.character ≤ 0 + 2 * length front) (sym is) (behind_character e first front) in
    (omega (arith, a, fits), omega (arith, b, fits))

pub near_fits : (e : Encoding) (p : Position) (front rest : List ℕ) (near : ℕ) → p ≡ position_behind e first (take near front) → length front + length rest < 2 ^ 63
    → (p.line + length rest < 2 ^ 64) × (p.character + 2 * length rest < 2 ^ 64)
near_fits e p front rest near is fits = front_fits e p (take near front) rest is (omega (arith, length-take near front, fits))

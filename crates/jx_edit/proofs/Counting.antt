-- Positions behind bytes, and how far bytes come before a position.
use Rattle.std.proofs.Common.{◌≡◌, ℕ, zero, suc, ◌+◌, ◌*◌, ◌-◌, ◌<◌, ◌≤◌, Bool, true, false, cond, List, [], ◌∷◌, ◌++◌, length, take, drop, get_or, refl, sym, ap, ◌∙◌, arith, add-zero}
use Rattle.std.specs.Prelude.{◌==◌, count_by, fold, nat_lt, sum_by, ◌&&◌, slice_index}
use Rattle.std.proofs.lemmas.Bool.Decides.{nat_tests}
use Rattle.std.proofs.lemmas.List.{get_or-drop, length-drop, take-append-drop}
use Rattle.std.proofs.lemmas.List.Sums.{fold-append, fold_more}
use Rattle.std.proofs.lemmas.Bool.{false_from_ne_true}
use Rattle.jx_edit.specs.declared.positions.encoding.Encoding.{Encoding}
use Rattle.jx_edit.specs.declared.positions.encoding.Encoding.TheVariants.{Utf8, Utf16}
use Rattle.jx_edit.specs.declared.positions.position.Position.{Position}
use Rattle.jx_edit.specs.Positions.{first, is_behind, is_in_crlf, offset_at, past, position_at, position_behind, reach, units, IsLast}
use Rattle.jx_edit.specs.inside.Moves.{is_feed, joined}
use Rattle.memchr.specs.Find.{is_byte, Nowhere, NoneAfter, Passes}

-- ---- how far bytes move a position

abbrev pub position : ℕ → ℕ → Position
position line character = record { line = line; character = character }

pub behind_parts : (e : Encoding) (p : Position) (xs ys : List ℕ) → position_behind e p (xs ++ ys) ≡ position_behind e (position_behind e p xs) ys
behind_parts e p xs ys = fold-append (past e) p xs ys

joined_past : (e : Encoding) (p q : Position) (byte : ℕ) → past e (joined p q) byte ≡ joined p (past e q byte)
joined_past e p q byte = grind (arith, nat_tests)

joined_first : (p : Position) → joined p first ≡ p
joined_first p = ap (position p.line) (add-zero p.character)

joined_on : (e : Encoding) (p q : Position) (bytes : List ℕ) → position_behind e (joined p q) bytes ≡ joined p (position_behind e q bytes)
joined_on e p q [] = refl
joined_on e p q (b ∷ bs) = ap (λ (r : Position). position_behind e r bs) (joined_past e p q b) ∙ joined_on e p (past e q b) bs

pub behind_joined : (e : Encoding) (p : Position) (bytes : List ℕ) → position_behind e p bytes ≡ joined p (position_behind e first bytes)
behind_joined e p bytes = ap (λ (r : Position). position_behind e r bytes) (sym (joined_first p)) ∙ joined_on e p first bytes

-- ---- the position behind bytes, by their line feeds and what stands behind the last one

past_line_is : (e : Encoding) (p : Position) (byte : ℕ) → (past e p byte).line ≡ p.line + cond (is_feed byte) 1 0
past_line_is e p byte = pick (byte == 10)
  where
    pick : (t : Bool) → (cond t (position (p.line + 1) 0) (position p.line (p.character + units e byte))).line ≡ p.line + cond t 1 0
    pick true = refl
    pick false = sym (add-zero p.line)

lines_along : (e : Encoding) (p : Position) (bytes : List ℕ) → (position_behind e p bytes).line ≡ fold (λ a b. a + cond (is_feed b) 1 0) p.line bytes
lines_along e p [] = refl
lines_along e p (b ∷ bs) = lines_along e (past e p b) bs ∙ ap (λ (n : ℕ). fold (λ a x. a + cond (is_feed x) 1 0) n bs) (past_line_is e p b)

-- where there is no line feed
units_along : (e : Encoding) (l c : ℕ) (bytes : List ℕ) → ((k : ℕ) → k < length bytes → is_feed (get_or bytes k 0) ≡ false)
    → position_behind e (position l c) bytes ≡ position l (fold (λ a b. a + units e b) c bytes)
units_along e l c [] h = refl
units_along e l c (b ∷ bs) h =
    let first_not : is_feed b ≡ false = h 0 (omega arith) in
    ap (λ (t : Bool). position_behind e (cond t (position (l + 1) 0) (position l (c + units e b))) bs) first_not
    ∙ units_along e l (c + units e b) bs (λ k m. h (suc k) (omega (arith, m)))

pub behind_none : (e : Encoding) (bytes : List ℕ) → Nowhere (Passes (is_byte 10) bytes) 0 (length bytes) → position 0 (sum_by (units e) bytes) ≡ position_behind e first bytes
behind_none e bytes h = sym (units_along e 0 0 bytes (λ k m. false_from_ne_true (is_feed (get_or bytes k 0)) (h k (omega arith) m)))

pub behind_last : (e : Encoding) (bytes : List ℕ) (last : ℕ) → NoneAfter (Passes (is_byte 10) bytes) 0 (length bytes) last → Passes (is_byte 10) bytes last
    → position (count_by is_feed bytes) (sum_by (units e) (drop (last + 1) bytes)) ≡ position_behind e first bytes
behind_last e bytes last h is =
    let before : Position = position_behind e first (take last bytes) in
    let more : List ℕ = drop (last + 1) bytes in
    let upto : position_behind e first (take (last + 1) bytes) ≡ position (before.line + 1) 0 =
    fold_more (past e) first bytes last 0 h.high ∙ ap (λ (t : Bool). cond t (position (before.line + 1) 0) (position before.line (before.character + units e (get_or bytes last 0)))) is in
    let none : (k : ℕ) → k < length more → is_feed (get_or more k 0) ≡ false = λ (k : ℕ) m.
    let past_it : is_feed (get_or bytes ((last + 1) + k) 0) ≡ false =
    false_from_ne_true (is_feed (get_or bytes ((last + 1) + k) 0)) (h.after ((last + 1) + k) (omega arith) (omega (arith, m, length-drop (last + 1) bytes))) in
    ap is_feed (get_or-drop (last + 1) bytes k 0) ∙ past_it in
    let whole : position_behind e first bytes ≡ position (before.line + 1) (sum_by (units e) more) =
    ap (position_behind e first) (sym (take-append-drop (last + 1) bytes))
    ∙ behind_parts e first (take (last + 1) bytes) more
    ∙ ap (λ (p : Position). position_behind e p more) upto
    ∙ units_along e (before.line + 1) 0 more none in
    let lines : count_by is_feed bytes ≡ before.line + 1 = sym (lines_along e first bytes) ∙ ap (λ (p : Position). p.line) whole in
    ap (λ (n : ℕ). position n (sum_by (units e) more)) lines ∙ sym whole

-- ---- how great a position may be

units_few : (e : Encoding) (byte : ℕ) → units e byte ≤ 2
units_few Utf8 byte = omega arith
units_few Utf16 byte = grind (arith, nat_tests)

past_line : (e : Encoding) (p : Position) (byte : ℕ) → (past e p byte).line ≤ p.line + 1
past_line e p byte = grind (arith, nat_tests)

past_character : (e : Encoding) (p : Position) (byte : ℕ) → (past e p byte).character ≤ p.character + 2
past_character e p byte = grind (arith, nat_tests, units_few e byte)

pub behind_line : (e : Encoding) (p : Position) (bytes : List ℕ) → (position_behind e p bytes).line ≤ p.line + length bytes
behind_line e p [] = omega arith
behind_line e p (b ∷ bs) = omega (arith, behind_line e (past e p b) bs, past_line e p b)

pub behind_character : (e : Encoding) (p : Position) (bytes : List ℕ) → (position_behind e p bytes).character ≤ p.character + 2 * length bytes
behind_character e p [] = omega arith
behind_character e p (b ∷ bs) = omega (arith, behind_character e (past e p b) bs, past_character e p b)

-- ---- positions rise

past_rises : (e : Encoding) (p q : Position) (byte : ℕ) → is_behind p q ≡ true → is_behind (past e p byte) q ≡ true
past_rises e p q byte h = grind (arith, nat_tests)

rises : (e : Encoding) (p q : Position) (bytes : List ℕ) → is_behind p q ≡ true → is_behind (position_behind e p bytes) q ≡ true
rises e p q [] h = h
rises e p q (b ∷ bs) h = rises e (past e p b) q bs (past_rises e p q b h)

past_not_before : (e : Encoding) (p q : Position) (byte : ℕ) → is_behind (past e p byte) q ≡ false → is_behind p q ≡ false
past_not_before e p q byte h = grind (arith, nat_tests)

not_before : (e : Encoding) (p : Position) (bytes : List ℕ) → is_behind p (position_behind e p bytes) ≡ false
not_before e p bytes = start e p p bytes (grind (arith, nat_tests))
  where
    start : (e : Encoding) (p q : Position) (bytes : List ℕ) → is_behind p q ≡ false → is_behind p (position_behind e q bytes) ≡ false
    start e p q [] h = h
    start e p q (b ∷ bs) h = start e p (past e q b) bs (grind (arith, nat_tests))

-- ---- how many bytes come before the next position is behind another

pub reach_none : (e : Encoding) (p q : Position) (bytes : List ℕ) → is_behind p q ≡ true → reach e p q bytes ≡ 0
reach_none e p q [] h = refl
reach_none e p q (b ∷ bs) h = ap (λ (t : Bool). cond t 0 (suc (reach e (past e p b) q bs))) (past_rises e p q b h)

first_not : (e : Encoding) (p q : Position) (bytes : List ℕ) → is_behind (position_behind e p bytes) q ≡ false → is_behind p q ≡ false
first_not e p q [] h = h
first_not e p q (b ∷ bs) h = past_not_before e p q b (first_not e (past e p b) q bs h)

pub reach_over : (e : Encoding) (p q : Position) (xs ys : List ℕ) → is_behind (position_behind e p xs) q ≡ false
    → reach e p q (xs ++ ys) ≡ length xs + reach e (position_behind e p xs) q ys
reach_over e p q [] ys h = omega arith
reach_over e p q (x ∷ xs) ys h =
    ap (λ (t : Bool). cond t 0 (suc (reach e (past e p x) q (xs ++ ys)))) (first_not e (past e p x) q xs h)
    ∙ omega (arith, reach_over e (past e p x) q xs ys h)

pub reach_within : (e : Encoding) (p q : Position) (xs ys : List ℕ) → is_behind (position_behind e p xs) q ≡ true → reach e p q (xs ++ ys) ≡ reach e p q xs
reach_within e p q [] ys h = reach_none e p q ys h
reach_within e p q (x ∷ xs) ys h = ap (λ (n : ℕ). cond (is_behind (past e p x) q) 0 (suc n)) (reach_within e (past e p x) q xs ys h)

-- ---- laws

last_none : (e : Encoding) (p q : Position) (b : ℕ) (bs : List ℕ) → is_behind p q ≡ false → is_behind (past e p b) q ≡ true → IsLast e p q (b ∷ bs) 0
last_none e p q b bs h k = record { within = omega arith; reached = h; last = after }
  where
    after : (i : ℕ) → 0 < i → i ≤ suc (length bs) → is_behind (position_behind e p (take i (b ∷ bs))) q ≡ true
    after zero l m = absurd (omega (arith, l))
    after (suc i) l m = rises e (past e p b) q (take i bs) k

last_more : (e : Encoding) (p q : Position) (b n : ℕ) (bs : List ℕ) → IsLast e (past e p b) q bs n → IsLast e p q (b ∷ bs) (suc n)
last_more e p q b n bs more = record { within = omega (arith, more.within); reached = more.reached; last = after }
  where
    after : (i : ℕ) → suc n < i → i ≤ suc (length bs) → is_behind (position_behind e p (take i (b ∷ bs))) q ≡ true
    after zero l m = absurd (omega (arith, l))
    after (suc i) l m = more.last i (omega (arith, l)) (omega (arith, m))

pub reach_is_last : (e : Encoding) (p q : Position) (bytes : List ℕ) → is_behind p q ≡ false → IsLast e p q bytes (reach e p q bytes)
reach_is_last e p q [] h = record { within = omega arith; reached = h; last = λ i k l. absurd (omega arith) }
reach_is_last e p q (b ∷ bs) h = pick (is_behind (past e p b) q) refl (λ k. reach_is_last e (past e p b) q bs k)
  where
    pick : (t : Bool) → is_behind (past e p b) q ≡ t → (is_behind (past e p b) q ≡ false → IsLast e (past e p b) q bs (reach e (past e p b) q bs))
        → IsLast e p q (b ∷ bs) (cond t 0 (suc (reach e (past e p b) q bs)))
    pick true k more = last_none e p q b bs h k
    pick false k more = last_more e p q b (reach e (past e p b) q bs) bs (more k)

pub last_is : (e : Encoding) (bytes : List ℕ) (q : Position) → IsLast e first q bytes (reach e first q bytes)
last_is e bytes q = reach_is_last e first q bytes (grind (arith, nat_tests))

moves_on : (e : Encoding) (p : Position) (byte : ℕ) → 0 < units e byte → is_behind (past e p byte) p ≡ true
moves_on e p byte h = grind (arith, nat_tests, h)

reach_back : (e : Encoding) (p : Position) (bytes : List ℕ) (i : ℕ) → i ≤ length bytes → 0 < units e (slice_index bytes i) → reach e p (position_behind e p (take i bytes)) bytes ≡ i
reach_back e p [] zero h u = refl
reach_back e p [] (suc i) h u = absurd (omega (arith, h))
reach_back e p (b ∷ bs) zero h u = ap (λ (t : Bool). cond t 0 (suc (reach e (past e p b) p bs))) (moves_on e p b u)
reach_back e p (b ∷ bs) (suc i) h u =
    ap (λ (t : Bool). cond t 0 (suc (reach e (past e p b) (position_behind e (past e p b) (take i bs)) bs))) (not_before e (past e p b) (take i bs))
    ∙ ap suc (reach_back e (past e p b) bs i (omega (arith, h)) u)

-- before the end of a line that is short
abbrev ended : Encoding → List ℕ → Position → ℕ → ℕ
ended e bytes q last = cond (nat_lt (position_at e bytes last).character q.character && is_in_crlf bytes last) (last - 1) last

pub leads_back : (e : Encoding) (bytes : List ℕ) (i : ℕ) → i ≤ length bytes → 0 < units e (slice_index bytes i) → offset_at e bytes (position_at e bytes i) ≡ i
leads_back e bytes i h u =
    let not_short : nat_lt (position_at e bytes i).character (position_at e bytes i).character ≡ false = grind (arith, nat_tests) in
    ap (ended e bytes (position_at e bytes i)) (reach_back e first bytes i h u)
    ∙ ap (λ (t : Bool). cond (t && is_in_crlf bytes i) (i - 1) i) not_short

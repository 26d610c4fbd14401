-- The tokens that are read off a pointer are those of its form.
use Rattle.std.proofs.Common.{◌≡◌, ◌≢◌, ℕ, ◌+◌, ◌-◌, ◌*◌, ◌≤◌, List, [], ◌∷◌, ◌++◌, length, drop, map, true, false, cond, refl, sym, ap, ◌∙◌, arith}
use Rattle.std.specs.Prelude.{nat_lt, ◌==◌}
use Rattle.std.proofs.lemmas.Bool.Decides.{nat_tests}
use Rattle.std.specs.Char.Escape.{encode_utf16}
use Rattle.jx_lex.specs.Character.{IsTail, Utf8, one, two, three_e0, three_low, three_ed, three_high, four_f0, four_mid, four_f4, tail_bits, two_tails, three_tails}
use Rattle.jx_index.specs.declared.units.Spelling.TheVariants.{InToken}
use Rattle.jx_index.specs.Units.{char_units, char_more, chars_units}
use Rattle.jx_index.specs.Pointers.{HasNoSlash, onto_first, parted, tokens}
use Rattle.jx_index.specs.PointerForm.{IsTokenChar, plain, tilde, slash, IsToken, no_char, one_char, IsPointerOf, root, below}
use Rattle.jx_index.proofs.UnitLaws.{passed}

no_slash-append : (u v : List ℕ) → HasNoSlash u → HasNoSlash v → HasNoSlash (u ++ v)
no_slash-append [] v h k = k
no_slash-append (b ∷ u) v h k = (h.0, no_slash-append u v h.1 k)

record TokenChar (w us rest : List ℕ) : Type 0 where
  first : ℕ
  bytes : List ℕ
  whole : w ≡ first ∷ bytes
  units : char_units InToken first (bytes ++ rest) ≡ us
  more : char_more InToken first (bytes ++ rest) ≡ length bytes
  slashless : HasNoSlash w

one_byte : (a : ℕ) (rest : List ℕ) → a ≤ 0x7f → a ≢ 0x7e → a ≢ 0x2f → TokenChar (a ∷ []) (encode_utf16 a) rest
one_byte a rest h n s =
    let e : (a == 0x7e) ≡ false = grind (arith, nat_tests) in
    let l : nat_lt a 0x80 ≡ true = grind (arith, nat_tests) in
    record { first = a; bytes = []; whole = refl; units = rw (e, l) refl; more = rw (e, l) refl; slashless = (s, tt) }

two_bytes : (a b : ℕ) (rest : List ℕ) → 0xc0 ≤ a → a ≤ 0xdf → IsTail b → TokenChar (a ∷ b ∷ []) (encode_utf16 ((a - 0xc0) * 64 + tail_bits b)) rest
two_bytes a b rest h k t =
    let e : (a == 0x7e) ≡ false = grind (arith, nat_tests) in
    let l : nat_lt a 0x80 ≡ false = grind (arith, nat_tests) in
    let m : nat_lt a 0xe0 ≡ true = grind (arith, nat_tests) in
    let x = t.from in
    record { first = a; bytes = b ∷ []; whole = refl; units = rw (e, l, m) refl; more = rw (e, l, m) refl; slashless = (λ q. absurd (omega arith), (λ q. absurd (omega arith), tt)) }

three_bytes : (a b d : ℕ) (rest : List ℕ) → 0xe0 ≤ a → a ≤ 0xef → 0x80 ≤ b → IsTail d → (c : ℕ) → c ≡ (a - 0xe0) * 4096 + two_tails b d → TokenChar (a ∷ b ∷ d ∷ []) (encode_utf16 c) rest
three_bytes a b d rest h k y t c s =
    let e : (a == 0x7e) ≡ false = grind (arith, nat_tests) in
    let l : nat_lt a 0x80 ≡ false = grind (arith, nat_tests) in
    let m : nat_lt a 0xe0 ≡ false = grind (arith, nat_tests) in
    let n : nat_lt a 0xf0 ≡ true = grind (arith, nat_tests) in
    let x = t.from in
    record { first = a; bytes = b ∷ d ∷ []; whole = refl; units = rw (e, l, m, n) (ap encode_utf16 (sym s)); more = rw (e, l, m, n) refl; slashless = (λ q. absurd (omega arith), (λ q. absurd (omega arith), (λ q. absurd (omega arith), tt))) }

four_bytes : (a b d f : ℕ) (rest : List ℕ) → 0xf0 ≤ a → 0x80 ≤ b → IsTail d → IsTail f → (c : ℕ) → c ≡ (a - 0xf0) * 262144 + three_tails b d f → TokenChar (a ∷ b ∷ d ∷ f ∷ []) (encode_utf16 c) rest
four_bytes a b d f rest h y t u c s =
    let e : (a == 0x7e) ≡ false = grind (arith, nat_tests) in
    let l : nat_lt a 0x80 ≡ false = grind (arith, nat_tests) in
    let m : nat_lt a 0xe0 ≡ false = grind (arith, nat_tests) in
    let n : nat_lt a 0xf0 ≡ false = grind (arith, nat_tests) in
    let x = t.from in let z = u.from in
    record { first = a; bytes = b ∷ d ∷ f ∷ []; whole = refl; units = rw (e, l, m, n) (ap encode_utf16 (sym s)); more = rw (e, l, m, n) refl; slashless = (λ q. absurd (omega arith), (λ q. absurd (omega arith), (λ q. absurd (omega arith), (λ q. absurd (omega arith), tt)))) }

plain_char : {w : List ℕ} {c : ℕ} → Utf8 w c → c ≢ 0x7e → c ≢ 0x2f → (rest : List ℕ) → TokenChar w (encode_utf16 c) rest
plain_char (one {a = a} le) n s rest = one_byte a rest le n s
plain_char (two {a = a} {b = b} h t) n s rest = let x = h.from in let y = h.to in two_bytes a b rest (omega arith) y t
plain_char (three_e0 {b = b} {c = d} h t) n s rest = let x = h.from in three_bytes 0xe0 b d rest (omega arith) (omega arith) (omega arith) t _ (omega arith)
plain_char (three_low {a = a} {b = b} {c = d} h t u) n s rest = let x = h.from in let y = h.to in three_bytes a b d rest (omega arith) (omega arith) t.from u _ refl
plain_char (three_ed {b = b} {c = d} h t) n s rest = three_bytes 0xed b d rest (omega arith) (omega arith) h.from t _ (omega arith)
plain_char (three_high {a = a} {b = b} {c = d} h t u) n s rest = let x = h.from in let y = h.to in three_bytes a b d rest (omega arith) (omega arith) t.from u _ refl
plain_char (four_f0 {b = b} {c = d} {d = f} h t u) n s rest = let x = h.from in four_bytes 0xf0 b d f rest (omega arith) (omega arith) t u _ (omega arith)
plain_char (four_mid {a = a} {b = b} {c = d} {d = f} h t u v) n s rest = let x = h.from in four_bytes a b d f rest (omega arith) t.from u v _ refl
plain_char (four_f4 {b = b} {c = d} {d = f} h t u) n s rest = four_bytes 0xf4 b d f rest (omega arith) h.from t u _ (omega arith)

token_char : {w us : List ℕ} → IsTokenChar w us → (rest : List ℕ) → TokenChar w us rest
token_char (plain u n s) rest = plain_char u n s rest
token_char tilde rest = record { first = 0x7e; bytes = 0x30 ∷ []; whole = refl; units = refl; more = refl; slashless = (λ q. absurd (omega arith), (λ q. absurd (omega arith), tt)) }
token_char slash rest = record { first = 0x7e; bytes = 0x31 ∷ []; whole = refl; units = refl; more = refl; slashless = (λ q. absurd (omega arith), (λ q. absurd (omega arith), tt)) }

char_first : (w us rest : List ℕ) → TokenChar w us rest → chars_units InToken 0 (w ++ rest) ≡ us ++ chars_units InToken 0 rest
unfolding chars_units
char_first w us rest p =
    ap (λ x. chars_units InToken 0 (x ++ rest)) p.whole
    ∙ ap (λ x. x ++ chars_units InToken (char_more InToken p.first (p.bytes ++ rest)) (p.bytes ++ rest)) p.units
    ∙ ap (λ n. us ++ chars_units InToken n (p.bytes ++ rest)) p.more
    ∙ ap (λ x. us ++ x) (passed InToken p.bytes rest)

pub token_is : {w us : List ℕ} → IsToken w us → chars_units InToken 0 w ≡ us
unfolding chars_units
token_is no_char = refl
token_is (one_char {w = w} {v = v} {us = us} p ps) = char_first w us v (token_char p v) ∙ ap (λ x. us ++ x) (token_is ps)

no_slash_in : {w us : List ℕ} → IsToken w us → HasNoSlash w
no_slash_in no_char = tt
no_slash_in (one_char {w = w} {v = v} p ps) = no_slash-append w v (token_char p []).slashless (no_slash_in ps)

-- a token's bytes up to the next slash or the end
pub parted-token : (w rest : List ℕ) → HasNoSlash w → parted rest ≡ [] ∷ drop 1 (parted rest) → parted (w ++ rest) ≡ w ∷ drop 1 (parted rest)
unfolding parted
parted-token [] rest h e = e
parted-token (b ∷ w) rest h e =
    let n = h.0 in
    let t : (b == 0x2f) ≡ false = grind (arith, nat_tests) in
    ap (λ c. cond c ([] ∷ parted (w ++ rest)) (onto_first b (parted (w ++ rest)))) t ∙ ap (onto_first b) (parted-token w rest h.1 e)

pub begins : {p : List ℕ} {ts : List (List ℕ)} → IsPointerOf p ts → parted p ≡ [] ∷ drop 1 (parted p)
unfolding parted
begins root = refl
begins (below t r) = refl

pub tokens_are : {p : List ℕ} {ts : List (List ℕ)} → IsPointerOf p ts → tokens p ≡ ts
unfolding parted
tokens_are root = refl
tokens_are (below {w = w} {us = us} {rest = rest} {tokens = ts} t r) =
    ap (map (chars_units InToken 0)) (parted-token w rest (no_slash_in t) (begins r))
    ∙ ap (λ x. x ∷ map (chars_units InToken 0) (drop 1 (parted rest))) (token_is t)
    ∙ ap (λ x. us ∷ x) (tokens_are r)

-- A number's text in two pieces: that of the digits before its last four, and those four.
use Rattle.std.proofs.Common.{◌≡◌, ℕ, ◌+◌, ◌/◌, ◌%◌, ◌^◌, ◌<◌, ◌≤◌, List, ◌∷◌, ◌++◌, length, drop, refl, sym, ap, ◌∙◌, arith, append_assoc}
use Rattle.std.specs.Fmt.{decimal}
use Rattle.std.proofs.lemmas.Fmt.{decimal_digit, length-decimal-le}
use Rattle.std.proofs.lemmas.List.{drop-drop, drop-append-le}
use Rattle.itoa.proofs.Decimal.{pair, decimal_four}

-- the last four digits
abbrev pub last_four : ℕ → List ℕ
last_four n = pair (n % 10000 / 100) ++ pair (n % 10000 % 100)

-- they stand behind a one in a number of five digits
pub four_behind_one : (m n : ℕ) → m ≡ 10000 + n % 10000 → decimal m ≡ 49 ∷ last_four n
four_behind_one m n e =
    let q : m / 10000 ≡ 1 = omega arith in
    let r : m % 10000 ≡ n % 10000 = omega arith in
    rw (decimal_four m (omega arith) (omega arith), q, r, decimal_digit 1 (omega arith))

pub length_low : (n : ℕ) → length (decimal (10000 + n % 10000)) ≡ 5
length_low n = ap length (four_behind_one (10000 + n % 10000) n refl)

pub length_short : (n : ℕ) → n < 10000 → length (decimal n) ≤ 4
length_short n small = length-decimal-le 4 n (omega arith) small (omega arith)

-- a line that got those five digits, and then the first digits over the one
pub digits_meet : (n m end at begin start : ℕ) (line one two digits : List ℕ)
    → 10000 ≤ n → n < 2 ^ 64 → m ≡ 10000 + n % 10000
    → drop at one ≡ decimal m ++ drop end line
    → drop begin two ≡ digits ++ drop (at + 1) one
    → start ≤ length digits → drop start digits ≡ decimal (n / 10000)
    → drop (begin + start) two ≡ decimal n ++ drop end line
digits_meet n m end at begin start line one two digits long fits is low high within kept =
    let behind : drop (at + 1) one ≡ last_four n ++ drop end line =
    sym (drop-drop 1 at one) ∙ ap (drop 1) (low ∙ ap (λ (x : List ℕ). x ++ drop end line) (four_behind_one m n is)) in
    sym (drop-drop start begin two)
    ∙ ap (drop start) high
    ∙ drop-append-le start digits (drop (at + 1) one) within
    ∙ ap (λ (x : List ℕ). x ++ drop (at + 1) one) kept
    ∙ ap (λ (x : List ℕ). decimal (n / 10000) ++ x) behind
    ∙ sym (append_assoc (decimal (n / 10000)) (last_four n) (drop end line))
    ∙ ap (λ (x : List ℕ). x ++ drop end line) (sym (decimal_four n long fits))

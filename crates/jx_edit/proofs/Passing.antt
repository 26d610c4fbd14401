-- Groups that sums pass, and positions behind them.
use Rattle.std.proofs.Common.{◌≡◌, ℕ, ◌+◌, ◌*◌, ◌-◌, ◌^◌, ◌<◌, ◌≤◌, List, ◌++◌, false, length, take, drop, get_or, min, refl, sym, ap, subst, ◌∙◌, arith, inl, inr, length-append}
use Rattle.std.proofs.lemmas.Bool.{cases_lt}
use Rattle.std.proofs.lemmas.Bool.Decides.{nat_tests}
use Rattle.std.proofs.lemmas.List.{take_min}
use Rattle.jx_edit.specs.declared.chunking.sums.Sum.{Sum}
use Rattle.jx_edit.specs.declared.positions.encoding.Encoding.{Encoding}
use Rattle.jx_edit.specs.declared.positions.passing.Passed.{Passed}
use Rattle.jx_edit.specs.declared.positions.passing.Sought.{Sought}
use Rattle.jx_edit.specs.declared.positions.passing.Sought.TheVariants.{At, To}
use Rattle.jx_edit.specs.declared.positions.position.Position.{Position}
use Rattle.jx_edit.specs.Positions.{first, is_behind, position_behind, reach}
use Rattle.jx_edit.specs.inside.Chunks.{ChunkValue, text_of}
use Rattle.jx_edit.specs.inside.Moves.{joined}
use Rattle.jx_edit.specs.inside.Passing.{is_before, IsPassed}
use Rattle.jx_edit.specs.inside.Sums.{text_at, AreSums}
use Rattle.jx_edit.proofs.Counting.{behind_character, behind_line, reach_over}
use Rattle.jx_edit.proofs.Groups.{text_group}
use Rattle.jx_edit.proofs.Seeking.{joined_fits, joined_is, over_position}
use Rattle.jx_edit.proofs.Texts.{rest_is, rest_long, text_parts, text_within}

abbrev pub passed : ℕ → ℕ → Position → Passed
passed before bytes position = record { before = before; bytes = bytes; position = position }

pub passed_none : (e : Encoding) (from : Position) (s : Sought) (cs : List ChunkValue) → IsPassed e from s cs (passed 0 0 from)
passed_none e from s cs = record { within = omega arith; long = refl; position = refl; behind = λ some. absurd (omega (arith, some)) }

-- ---- one group more

at_group : (cs : List ChunkValue) (g n : ℕ) → n ≡ min (g * 64) (length cs) → text_of (take n cs) ≡ text_of (take (g * 64) cs)
at_group cs g n is = ap (λ (k : ℕ). text_of (take k cs)) is ∙ ap text_of (take_min (g * 64) cs)

text_next : (cs : List ChunkValue) (g n m : ℕ) → n ≡ min (g * 64) (length cs) → m ≡ min ((g + 1) * 64) (length cs) → text_of (take m cs) ≡ text_of (take n cs) ++ text_at cs g
text_next cs g n m is next = at_group cs (g + 1) m next ∙ text_group cs g ∙ ap (λ (t : List ℕ). t ++ text_at cs g) (sym (at_group cs g n is))

length_next : (cs : List ChunkValue) (g n m : ℕ) → n ≡ min (g * 64) (length cs) → m ≡ min ((g + 1) * 64) (length cs)
    → length (text_of (take m cs)) ≡ length (text_of (take n cs)) + length (text_at cs g)
length_next cs g n m is next = ap length (text_next cs g n m is next) ∙ length-append (text_of (take n cs)) (text_at cs g)

-- how great the position behind it is
pub next_fits : (e : Encoding) (from m : Position) (s : Sought) (cs : List ChunkValue) (g : ℕ) (p : Passed) → IsPassed e from s cs p → p.before ≡ min (g * 64) (length cs)
    → m ≡ position_behind e first (text_at cs g) → from.line + length (text_of cs) < 2 ^ 64 → from.character + 2 * length (text_of cs) < 2 ^ 64
    → (p.position.line + m.line < 2 ^ 64) × (p.position.character + m.character < 2 ^ 64)
next_fits e from m s cs g p is here moves lines characters =
    let next : ℕ = min ((g + 1) * 64) (length cs) in
    joined_fits e from p.position m (text_of (take p.before cs)) (text_at cs g) (length (text_of cs)) is.position moves
    (omega (arith, length_next cs g p.before next here refl, text_within cs next)) lines characters

pub bytes_fit : (e : Encoding) (from : Position) (s : Sought) (cs : List ChunkValue) (ss : List Sum) (g : ℕ) (d : Sum) (p : Passed) → IsPassed e from s cs p → p.before ≡ min (g * 64) (length cs)
    → AreSums cs ss → g < length ss → p.bytes + (get_or ss g d).bytes ≤ length (text_of cs)
bytes_fit e from s cs ss g d p is here sums within =
    let next : ℕ = min ((g + 1) * 64) (length cs) in
    omega (arith, is.long, (sums.each g d within).bytes, length_next cs g p.before next here refl, text_within cs next)

pub passed_more : (e : Encoding) (from m q : Position) (s : Sought) (cs : List ChunkValue) (ss : List Sum) (g next : ℕ) (d : Sum) (p : Passed) → IsPassed e from s cs p
    → p.before ≡ min (g * 64) (length cs) → next ≡ min ((g + 1) * 64) (length cs) → AreSums cs ss → g < length ss → m ≡ position_behind e first (text_at cs g) → q ≡ joined p.position m
    → is_before s (passed next (p.bytes + (get_or ss g d).bytes) q) ≡ false → IsPassed e from s cs (passed next (p.bytes + (get_or ss g d).bytes) q)
passed_more e from m q s cs ss g next d p is here more sums within moves both not =
    record {
      within = omega (arith, more);
      long = omega (arith, is.long, (sums.each g d within).bytes, length_next cs g p.before next here more);
      position =
          both ∙ joined_is e from p.position m (text_of (take p.before cs)) (text_at cs g) is.position moves
          ∙ ap (position_behind e from) (sym (text_next cs g p.before next here more));
      behind = λ some. not;
    }

-- ---- behind them

-- the chunks that are left
pub rest_text : (cs : List ChunkValue) (k : ℕ) → text_of cs ≡ text_of (take k cs) ++ text_of (take (length cs - k) (drop k cs))
rest_text cs k = text_parts cs k ∙ ap (λ (ds : List ChunkValue). text_of (take k cs) ++ text_of ds) (sym (rest_is cs k))

pub rest_fits : (e : Encoding) (from : Position) (s : Sought) (cs : List ChunkValue) (p : Passed) → IsPassed e from s cs p
    → from.line + length (text_of cs) < 2 ^ 64 → from.character + 2 * length (text_of cs) < 2 ^ 64
    → (p.position.line + length (text_of (take (length cs - p.before) (drop p.before cs))) < 2 ^ 64)
    × (p.position.character + 2 * length (text_of (take (length cs - p.before) (drop p.before cs))) < 2 ^ 64)
rest_fits e from s cs p is lines characters =
    let text : List ℕ = text_of (take p.before cs) in
    let a : p.position.line ≤ from.line + length text = subst (λ (q : Position). q.line ≤ from.line + length text) (sym is.position) (behind_line e from text) in
    let b : p.position.character ≤ from.character + 2 * length text = subst (λ (q : Position). q.character ≤ from.character + 2 * length text) (sym is.position) (behind_character e from text) in
    let l = rest_long cs p.before in
    (omega (arith, a, l, lines), omega (arith, b, l, characters))

-- the position behind some bytes of theirs
pub position_past : (e : Encoding) (from r : Position) (s : Sought) (cs : List ChunkValue) (p : Passed) (n at : ℕ) → IsPassed e from s cs p → at ≡ p.bytes + n
    → r ≡ position_behind e p.position (take n (text_of (take (length cs - p.before) (drop p.before cs)))) → r ≡ position_behind e from (take at (text_of cs))
position_past e from r s cs p n at is sum there =
    let front : List ℕ = text_of (take p.before cs) in
    let here : length front + n ≡ at = omega (arith, is.long, sum) in
    over_position e from p.position r front (text_of (take (length cs - p.before) (drop p.before cs))) n is.position there
    ∙ ap (λ (k : ℕ). position_behind e from (take k (front ++ text_of (take (length cs - p.before) (drop p.before cs))))) here
    ∙ ap (λ (t : List ℕ). position_behind e from (take at t)) (sym (rest_text cs p.before))

none_before : (e : Encoding) (from : Position) (s : Sought) (cs : List ChunkValue) (p : Passed) → IsPassed e from s cs p → p.before ≡ 0 → p.bytes ≡ 0
none_before e from s cs p is none = is.long ∙ ap (λ (k : ℕ). length (text_of (take k cs))) none

pub passed_low : (e : Encoding) (from : Position) (at : ℕ) (cs : List ChunkValue) (p : Passed) → IsPassed e from (At at) cs p → p.bytes ≤ at
passed_low e from at cs p is = elim (cases_lt 0 p.before) [
  | inl some ↦ let not : is_before (At at) p ≡ false = is.behind some in grind (arith, nat_tests)
  | inr none ↦ omega (arith, none_before e from (At at) cs p is (omega (arith, none)))
]

-- how many bytes come before a position
pub reach_past : (e : Encoding) (from to : Position) (cs : List ChunkValue) (p : Passed) (n : ℕ) → IsPassed e from (To to) cs p
    → n ≡ reach e p.position to (text_of (take (length cs - p.before) (drop p.before cs))) → p.bytes + n ≡ reach e from to (text_of cs)
reach_past e from to cs p n is there = elim (cases_lt 0 p.before) [
  | inl some ↦
      let over = reach_over e from to front rest (ap (λ (q : Position). is_behind q to) (sym is.position) ∙ is.behind some) in
      omega (arith, is.long, there, ap (reach e from to) (rest_text cs p.before), over, ap (λ (q : Position). reach e q to rest) is.position)
  | inr more ↦
      let none : p.before ≡ 0 = omega (arith, more) in
      let all : text_of cs ≡ rest = rest_text cs p.before ∙ ap (λ (k : ℕ). text_of (take k cs) ++ rest) none in
      let same : p.position ≡ from = is.position ∙ ap (λ (k : ℕ). position_behind e from (text_of (take k cs))) none in
      omega (arith, none_before e from (To to) cs p is none, there, ap (λ (q : Position). reach e q to rest) same, ap (reach e from to) all)
]
  where
    front : List ℕ
    front = text_of (take p.before cs)

    rest : List ℕ
    rest = text_of (take (length cs - p.before) (drop p.before cs))

-- No record has more bytes than its depth allows.
use Rattle.std.proofs.Common.{◌≡◌, ℕ, ◌+◌, ◌*◌, ◌≤◌, List, [], ◌∷◌, ◌++◌, length, map, reverse, Option, None, Some, ap, arith, length-append}
use Rattle.std.proofs.Math.Nat.{mul-suc, mul-le-mul_left}
use Rattle.std.proofs.lemmas.List.{length-map, length-reverse}
use Rattle.std.specs.List.{flat_map, AllByRecursion}
use Rattle.sha2.specs.Sha256.{sha256}
use Rattle.sha2.proofs.Facts256.{length-sha256}
use Rattle.jx_lex.specs.declared.alphabet.lex_exit.LexExit.{LexExit}
use Rattle.jx_lex.specs.declared.alphabet.lex_exit.LexExit.TheVariants.{State, Fault}
use Rattle.jx_reduce.specs.declared.forms.level.Level.{Level}
use Rattle.jx_reduce.specs.declared.forms.ended_level.EndedLevel.{EndedLevel}
use Rattle.jx_reduce.specs.Sound.{end_of, IsSound, IsTailOf}
use Rattle.jx_run.specs.declared.runs.transition.Transition.{Transition}
use Rattle.jx_portion.specs.Fields.{FormFields, RestFields, RunFields, StructureFields}
use Rattle.jx_portion.specs.Portion.{fields_tail, structure_in, IsSpelt}
use Rattle.jx_portion.specs.Spelling.{ended, entry, exit, form, head, holder, level, mark, number, optional, rest, run, several, structure, tag, transition}
use Rattle.jx_portion.proofs.Laws.{length-number}
use Rattle.jx_parts.specs.Refusals.{most}

optional_small : {A : Type 0} (spell : A → List ℕ) (limit : ℕ) → ((x : A) → length (spell x) ≤ limit) → (o : Option A) → length (optional spell o) ≤ 1 + limit
optional_small spell limit each None = omega arith
optional_small spell limit each (Some x) = omega (arith, each x)

number_small : (n : ℕ) → length (number n) ≤ 8
number_small n = omega (arith, length-number n)

optional_number : (o : Option ℕ) → length (optional number o) ≤ 9
optional_number o = omega (arith, optional_small number 8 number_small o)

-- so many items, each of at most so many bytes
several_small : {A : Type 0} (spell : A → List ℕ) (P : A → Type 0) (limit : ℕ) → ((x : A) → P x → length (spell x) ≤ limit) → (xs : List A) → AllByRecursion P xs
    → length (flat_map spell xs) ≤ limit * length xs
several_small spell P limit each [] all = omega arith
several_small spell P limit each (x ∷ xs) all =
    omega (arith, each x all.0, several_small spell P limit each xs all.1, length-append (spell x) (flat_map spell xs), mul-suc limit (length xs))

all_any : {A : Type 0} (xs : List A) → AllByRecursion (λ _. Unit {0}) xs
all_any [] = tt
all_any (x ∷ xs) = (tt, all_any xs)

each_small : {A : Type 0} (spell : A → List ℕ) (limit : ℕ) → ((x : A) → length (spell x) ≤ limit) → (xs : List A) → length (several spell xs) ≤ 8 + limit * length xs
each_small spell limit each xs =
    omega (arith, several_small spell (λ _. Unit {0}) limit (λ x _. each x) xs (all_any xs), length-append (number (length xs)) (flat_map spell xs), length-number (length xs))

ended_small : (e : EndedLevel) → length (ended e) ≤ 26
ended_small e =
    let a = optional number e.array in
    let o = optional number e.object in
    omega (arith, optional_number e.array, optional_number e.object, length-number e.bottom, length-append (a ++ o) (number e.bottom), length-append a o)

level_small : (l : Level) → length (level l) ≤ 27
level_small l =
    let a = optional number l.array in
    let o = optional number l.object in
    let b = optional number l.bottom in
    omega (arith, optional_number l.array, optional_number l.object, optional_number l.bottom, length-append (a ++ o) b, length-append a o)

form_small : (d : ℕ) (f : FormFields) → length f.ended ≤ d → length f.opens ≤ d → length f.heights ≤ d + 1 → length (form f) ≤ 61 + 35 * d
form_small d f levels opens heights =
    let a = several ended f.ended in
    let b = level f.last in
    let c = several holder f.opens in
    let e = optional entry f.exit in
    let h = several number f.heights in
    omega (
      arith,
      levels,
      opens,
      heights,
      each_small ended 26 ended_small f.ended,
      level_small f.last,
      each_small holder 1 (λ x. omega arith) f.opens,
      optional_small entry 1 (λ x. omega arith) f.exit,
      each_small number 8 number_small f.heights,
      length-append (((a ++ b) ++ c) ++ e) h,
      length-append ((a ++ b) ++ c) e,
      length-append (a ++ b) c,
      length-append a b,
    )

rest_small : (d : ℕ) (r : RestFields) → length r.tail.ended ≤ d → length r.tail.opens ≤ d → length r.tail.heights ≤ d + 1 → length (rest r) ≤ 70 + 35 * d
rest_small d r levels opens heights =
    omega (arith, form_small d r.tail levels opens heights, length-number r.mark.at, length-append (mark r.mark) (form r.tail))

-- what stands behind the string with which a structure begins
behind_small : (d b : ℕ) (o : Option RestFields) → IsTailOf d b (fields_tail o) → length (optional rest o) ≤ 71 + 35 * d
behind_small d b None is = omega arith
behind_small d b (Some r) is = omega (arith, rest_small d r is.fits.levels (omega (arith, is.fits.opens, length-reverse r.tail.opens)) is.fits.heights)

structure_small : (d : ℕ) (s : StructureFields) → IsSound (structure_in d s) → length (structure s) ≤ 80 + 35 * d
structure_small d s sound =
    omega (arith, optional_number s.string, behind_small d (end_of 0 (structure_in d s).head) s.rest sound.tail, length-append (optional number s.string) (optional rest s.rest))

structures_small : (d : ℕ) (ss : List StructureFields) → AllByRecursion IsSound (map (structure_in d) ss) → length (flat_map structure ss) ≤ (80 + 35 * d) * length ss
structures_small d [] all = omega arith
structures_small d (s ∷ ss) all =
    omega (arith, structure_small d s all.0, structures_small d ss all.1, length-append (structure s) (flat_map structure ss), mul-suc (80 + 35 * d) (length ss))

exit_small : (e : LexExit) → length (exit e) ≤ 9
exit_small (State s) = omega arith
exit_small (Fault at) = omega (arith, length-number at)

transition_small : (w : Transition) → length (transition w) ≤ 17
transition_small w = omega (arith, exit_small w.exit, length-number w.structure, length-append (exit w.exit) (number w.structure))

few_structures : (d : ℕ) (ss : List StructureFields) → AllByRecursion IsSound (map (structure_in d) ss) → length ss ≤ 32 → length (flat_map structure ss) ≤ 2560 + 1120 * d
few_structures d ss all few =
    omega (arith, structures_small d ss all, mul-le-mul_left (80 + 35 * d) few)

-- a record of this depth has fewer bytes than are read of one
pub spelt_small : (depth : ℕ) (fields : RunFields) (bytes : List ℕ) → IsSpelt depth fields bytes → length bytes ≤ most depth
spelt_small depth fields bytes is =
    let f = optional number fields.from in
    let e = number fields.end in
    let t = several transition fields.transitions in
    let s = several structure fields.structures in
    let size = 56 + length (run fields) in
    let front = head size depth ++ run fields in
    let all : length fields.transitions ≡ 32 = is.run_is.run.all in
    let few : length fields.structures ≤ 32 = omega (arith, is.run_is.run.few, length-map fields.structures (structure_in depth)) in
    let runs : length (run fields) ≤ 3137 + 1120 * depth =
    omega (
      arith,
      all,
      optional_number fields.from,
      number_small fields.end,
      each_small transition 17 transition_small fields.transitions,
      few_structures depth fields.structures is.run_is.structures few,
      length-append ((f ++ e) ++ t) s,
      length-append (f ++ e) t,
      length-append f e,
      length-append (number (length fields.structures)) (flat_map structure fields.structures),
      length-number (length fields.structures),
    ) in
    omega (
      arith,
      runs,
      ap length is.spelt,
      length-append front (sha256 front),
      length-sha256 front,
      length-append (head size depth) (run fields),
      length-append (number tag ++ number size) (number depth),
      length-append (number tag) (number size),
      length-number tag,
      length-number size,
      length-number depth,
    )

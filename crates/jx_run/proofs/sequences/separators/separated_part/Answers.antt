use Rattle.std.proofs.Common.{◌≡◌, ℕ, ◌+◌, ◌-◌, ◌<◌, List, length, take, drop, get_or, true, sym, subst, arith, Option, None, Some}
use Rattle.std.specs.Prelude.{IfNone}
use Rattle.std.proofs.lemmas.List.{take_all, length-drop}
use Rattle.jx_run.specs.Elements.{is_separator}
use Rattle.jx_run.specs.SequenceRead.{HasNoSeparator}
use Rattle.jx_run.proofs.SequenceSteps.{no_separator, starts_there, ends_there, unmarked_front, unmarked_rest_of}
use Rattle.jx_run.proofs.sequences.separators.separated_part.Goals as goal

if_none : {X : Type 0} (o : Option X) (P : Type 0) → P → IfNone o P
if_none None P h = h
if_none (Some x) P h = tt

-- the last mark does not stand before the first
not_before : (xs : List ℕ) (i j : ℕ) → is_separator (get_or xs j 0) ≡ true → ((k : ℕ) → k < i → is_separator (get_or xs k 0) ≡ true → ⊥) → i < j + 1
not_before xs i j m h = let f : j < i → ⊥ = λ low. h j low m in omega arith

pub returns-in_err-first-clause-none : goal.returns-in_err-first-clause-none
returns-in_err-first-clause-none c = if_none c.from_residual.result _ (no_separator c.args.bytes.now (λ k low m. c.in_err-first.ensures k (omega arith) low m))

pub returns-in_err-last-clause-none : goal.returns-in_err-last-clause-none
returns-in_err-last-clause-none c = if_none c.from_residual-in_err-last.result _ (no_separator c.args.bytes.now (λ k low m. c.in_err-last.ensures k (omega arith) low m))

pub returns-clause-before : goal.returns-clause-before
returns-clause-before c =
    let first = c.in_ok-first.ensures in
    let high : c.in_ok-first.first < length c.args.bytes.now = first.0.high in
    let same : c.in_ok-first.first ≡ c.in_ok-first.first - 0 = omega arith in
    subst (λ (n : ℕ). HasNoSeparator (take n c.args.bytes.now)) same
    (unmarked_front c.args.bytes.now c.in_ok-first.first (omega (arith, high)) (λ j low m. first.0.before j (omega arith) low m))

pub returns-clause-starts : goal.returns-clause-starts
returns-clause-starts c =
    let first = c.in_ok-first.ensures in
    let last = c.in_ok-last.ensures in
    starts_there c.args.bytes.now c.in_ok-first.first (c.in_ok-last.last + 1)
    (not_before c.args.bytes.now c.in_ok-first.first c.in_ok-last.last last.1 (λ j low m. first.0.before j (omega arith) low m)) first.0.high first.1

pub returns-clause-ends : goal.returns-clause-ends
returns-clause-ends c =
    let first = c.in_ok-first.ensures in
    let last = c.in_ok-last.ensures in
    let low = not_before c.args.bytes.now c.in_ok-first.first c.in_ok-last.last last.1 (λ j low m. first.0.before j (omega arith) low m) in
    ends_there c.args.bytes.now c.in_ok-first.first c.in_ok-last.last (omega (arith, low)) last.0.high last.1

pub returns-clause-behind : goal.returns-clause-behind
returns-clause-behind c =
    let last = c.in_ok-last.ensures in
    let high : c.in_ok-last.last < length c.args.bytes.now = last.0.high in
    let rest = drop (c.in_ok-last.last + 1) c.args.bytes.now in
    let long : length rest ≡ length c.args.bytes.now - (c.in_ok-last.last + 1) = length-drop (c.in_ok-last.last + 1) c.args.bytes.now in
    subst (λ (xs : List ℕ). HasNoSeparator xs) (sym (take_all (length c.args.bytes.now - (c.in_ok-last.last + 1)) rest (omega (arith, long))))
    (unmarked_rest_of c.args.bytes.now (c.in_ok-last.last + 1) (omega (arith, high)) (λ j low within m. last.0.after j low within m))

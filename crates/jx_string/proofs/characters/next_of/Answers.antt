use Rattle.std.proofs.Common.{◌≡◌, ℕ, [], ◌∷◌, true, false, ap, rules, sym, ◌∙◌}
use Rattle.std.specs.Prelude.{Option}
use Rattle.std.specs.Char.Utf16.{is_high_surrogate, is_low_surrogate, utf16_chars}
use Rattle.std.proofs.lemmas.Str.{utf16_chars-nil}
use Rattle.jx_string.specs.inside.UnitsLeft.{units_left}
use Rattle.jx_string.proofs.CharacterSteps.{alone_first, half_before, half_last, pair_first}
use Rattle.jx_string.proofs.characters.next_of.Goals as goal

pub returns-in_err-first : goal.returns-in_err-first
returns-in_err-first c =
    let none : utf16_chars (units_left c.args.units.now) ≡ [] = ap utf16_chars c.in_err-first.ensures.unit ∙ utf16_chars-nil in
    search (rules, none)

pub returns-then-not-is_first_half : goal.returns-then-not-is_first_half
returns-then-not-is_first_half c =
    let plain : is_high_surrogate c.in_ok-first.first ≡ false = cc (c.is_first_half.ensures, c.if-not-is_first_half.true) in
    alone_first (units_left c.args.units.now) c.in_ok-first.first (units_left c.next_unit.new.self) c.in_ok-first.ensures.unit plain
    ∙ ap (λ (one : Option ℕ). one ∷ utf16_chars (units_left c.next_unit.new.self)) (sym c.alone.ensures)

pub returns-in_default : goal.returns-in_default
returns-in_default c =
    let half : is_high_surrogate c.in_ok-first.first ≡ true = cc (c.is_first_half.ensures, c.if-not-is_first_half.false) in
    half_last (units_left c.args.units.now) c.in_ok-first.first (units_left c.next_unit.new.self) c.in_ok-first.ensures.unit half c.in_default.ensures.unit

pub returns-then-not-is_second_half : goal.returns-then-not-is_second_half
returns-then-not-is_second_half c =
    let half : is_high_surrogate c.in_ok-first.first ≡ true = cc (c.is_first_half.ensures, c.if-not-is_first_half.false) in
    let other : is_low_surrogate c.in-Some.second ≡ false = cc (c.is_second_half.ensures, c.if-not-is_second_half.true) in
    half_before (units_left c.args.units.now) c.in_ok-first.first (units_left c.next_unit.new.self) c.in_ok-first.ensures.unit
    c.in-Some.second (units_left c.next_unit-2.new.self) c.in-Some.ensures.unit half other

pub returns : goal.returns
returns c =
    let half : is_high_surrogate c.in_ok-first.first ≡ true = cc (c.is_first_half.ensures, c.if-not-is_first_half.false) in
    let other : is_low_surrogate c.in-Some.second ≡ true = cc (c.is_second_half.ensures, c.if-not-is_second_half.false) in
    pair_first (units_left c.args.units.now) c.in_ok-first.first (units_left c.next_unit.new.self) c.in_ok-first.ensures.unit
    c.in-Some.second (units_left c.next_unit-2.new.self) c.in-Some.ensures.unit half other
    ∙ ap (λ (one : Option ℕ). one ∷ utf16_chars (units_left c.next_unit-2.new.self)) (sym c.of_pair.ensures)

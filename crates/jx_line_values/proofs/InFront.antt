-- Lines that stand in front of a slice.
use Rattle.std.proofs.Common.{◌≡◌, ℕ, ◌-◌, ◌<◌, ◌==◌, List, [], ◌∷◌, length, take, Bool, false, cond, refl, ap, ◌∙◌, arith}
use Rattle.std.specs.Prelude.{slice_range}
use Rattle.std.proofs.lemmas.Bool.Decides.{nat_tests}
use Rattle.std.proofs.lemmas.List.{take_all}
use Rattle.jx_run.specs.declared.texts.settings.FrontMark.{FrontMark}
use Rattle.jx_line_values.specs.inside.Cutting.{bare_bytes, line_bytes}

-- a line behind others is what was kept
pub later_bytes : (mark : FrontMark) (ended : ℕ) (kept : List ℕ) → 0 < ended → line_bytes mark ended kept ≡ kept
later_bytes mark ended kept h =
    let e : (ended == 0) ≡ false = grind (arith, nat_tests) in
    ap (λ (b : Bool). cond b (bare_bytes mark kept) kept) e

pub front_slice : (slice : List ℕ) (len : ℕ) → slice_range slice 0 len ≡ take len slice
front_slice slice len = let e : len - 0 ≡ len = omega arith in ap (λ (n : ℕ). take n slice) e

pub whole_slice : (slice : List ℕ) (len : ℕ) → len ≡ length slice → slice_range slice 0 len ≡ slice
whole_slice slice len is = front_slice slice len ∙ take_all len slice (omega (arith, is))

pub no_bytes : (bytes : List ℕ) → length bytes ≡ 0 → bytes ≡ []
no_bytes [] h = refl
no_bytes (b ∷ bytes) h = absurd (omega (arith, h))

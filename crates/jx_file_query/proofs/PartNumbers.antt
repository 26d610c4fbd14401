-- In which part offsets stand that lie between two others.
use Rattle.std.proofs.Common.{◌≡◌, ℕ, zero, suc, ◌+◌, ◌-◌, ◌*◌, ◌/◌, ◌≤◌, ◌<◌, refl, sym, ap, subst, arith}
use Rattle.std.proofs.Math.Nat.{div-mul-le_self, div-zero, mul-le-mul_right}
use Rattle.std.proofs.lemmas.Nat.{le-div}
use Rattle.jx_summary.specs.declared.span.Span.{Span}
use Rattle.jx_file_query.specs.declared.cutting.Aim.{Aim}
use Rattle.jx_file_query.specs.Parts.{part_of}
use Rattle.jx_file_query.specs.inside.PassedChunks.{AllInPart}

div_rises : (n x y : ℕ) → x ≤ y → x / n ≤ y / n
div_rises zero x y low = let a = div-zero x in let b = div-zero y in omega (arith, a, b)
div_rises (suc n) x y low = le-div (x / suc n) y (suc n) (omega arith) (let d = div-mul-le_self x (suc n) in omega (arith, d, low))

-- the parts rise
pub rises : (parts : ℕ) (whole : Span) (x y : ℕ) → x ≤ y → part_of parts whole x ≤ part_of parts whole y
rises parts whole x y low =
    let d : x - whole.start ≤ y - whole.start = omega (arith, low) in
    div_rises (whole.end - whole.start) ((x - whole.start) * parts) ((y - whole.start) * parts) (mul-le-mul_right parts d)

-- all of a stretch stands in the part in which its ends do
pub between : (aim : Aim) (number : ℕ) (s : Span) → part_of aim.parts aim.whole s.start ≡ number → part_of aim.parts aim.whole (s.end - 1) ≡ number → AllInPart aim number s
between aim number s first last = λ at from to.
    let low = rises aim.parts aim.whole s.start at from in
    let high = rises aim.parts aim.whole at (s.end - 1) (omega (arith, to)) in
    omega (arith, low, high, first, last)

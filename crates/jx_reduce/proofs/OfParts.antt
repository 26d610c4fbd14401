-- Structures that are made of parts, and the spans in which their offsets lie.
use Rattle.std.proofs.Common.{ℕ, ◌+◌, ◌<◌, ◌≤◌, List, [], ◌∷◌, ◌++◌, arith, Option, Some, None, ◌↔◌}
use Rattle.std.proofs.lemmas.Bool.{ltb-true, lt-ltb}
use Rattle.jx_reduce.specs.Fits.{Fits, GoesOn}
use Rattle.jx_reduce.specs.Form.{Form}
use Rattle.jx_reduce.specs.Offsets.{OffsetsIn, RisingFrom}
use Rattle.jx_reduce.specs.Parts.{string_head}
use Rattle.jx_reduce.specs.Sound.{IsSound}
use Rattle.jx_reduce.specs.Structure.{StructureValue}
use Rattle.jx_reduce.specs.inside.Checked.{IsIn}
use Rattle.jx_reduce.specs.declared.forms.checks.Bound.TheVariants.{Above, Below}
use Rattle.jx_reduce.proofs.Readings.{OffsetsIn_more}
use Rattle.jx_lex.specs.declared.alphabet.mark.Mark.{Mark}

abbrev pub behind_string : ℕ → Option ℕ → List Mark → Option Form → StructureValue
behind_string d s ms t = record { depth = d; head = string_head s ++ ms; tail = t }

-- what is looked at in the parts
pub record AreSound (d : ℕ) (s : Option ℕ) (m : Mark) (t : Form) : Type 0 where
  pub rising : RisingFrom 0 (string_head s ++ m ∷ [])
  pub offsets : OffsetsIn (IsIn (Above m.at)) t
  pub fits : Fits d t
  pub goes_on : GoesOn t

pub of_sound : (d : ℕ) (s : Option ℕ) (m : Mark) (t : Form) → AreSound d s m t → IsSound (behind_string d s (m ∷ []) (Some t))
of_sound d None m t h =
    record {
      few = omega arith;
      rising = h.rising;
      tail = record { fits = h.fits; goes_on = h.goes_on; offsets = OffsetsIn_more (IsIn (Above m.at)) (λ p. m.at + 1 ≤ p) t (λ p k. omega (arith, ltb-true m.at p k)) h.offsets };
    }
of_sound d (Some at) m t h =
    record {
      few = omega arith;
      rising = h.rising;
      tail = record { fits = h.fits; goes_on = h.goes_on; offsets = OffsetsIn_more (IsIn (Above m.at)) (λ p. m.at + 1 ≤ p) t (λ p k. omega (arith, ltb-true m.at p k)) h.offsets };
    }

pub sound_of : (d : ℕ) (s : Option ℕ) (m : Mark) (t : Form) → IsSound (behind_string d s (m ∷ []) (Some t)) → AreSound d s m t
sound_of d None m t h =
    record {
      rising = h.rising;
      offsets = OffsetsIn_more (λ p. m.at + 1 ≤ p) (IsIn (Above m.at)) t (λ p k. lt-ltb m.at p (omega (arith, k))) h.tail.offsets;
      fits = h.tail.fits;
      goes_on = h.tail.goes_on;
    }
sound_of d (Some at) m t h =
    record {
      rising = h.rising;
      offsets = OffsetsIn_more (λ p. m.at + 1 ≤ p) (IsIn (Above m.at)) t (λ p k. lt-ltb m.at p (omega (arith, k))) h.tail.offsets;
      fits = h.tail.fits;
      goes_on = h.tail.goes_on;
    }

-- ---- spans

-- the test below an offset, in words
pub below_in : (end : ℕ) (t : Form) → OffsetsIn (IsIn (Below end)) t ↔ OffsetsIn (λ p. p < end) t
below_in end t = (
  OffsetsIn_more (IsIn (Below end)) (λ p. p < end) t (λ p k. ltb-true p end k),
  OffsetsIn_more (λ p. p < end) (IsIn (Below end)) t (λ p k. lt-ltb p end k),
)

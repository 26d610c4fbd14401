-- Tokens that change neither levels nor heights.
use Rattle.std.specs.Prelude.{◌≡◌, ℕ, ◌+◌, ◌≤◌, List, [], ◌∷◌, Some, is_some, not, Bool, false, if◌then◌else◌, length}
use Rattle.jx_reduce.specs.Entries.{expect_at}
use Rattle.jx_reduce.specs.Fits.{Fits}
pub use Rattle.jx_reduce.specs.Fits.{GoesOn}
use Rattle.jx_reduce.specs.Form.{Form}
use Rattle.jx_reduce.specs.Join.{all_faulted}
use Rattle.jx_reduce.specs.Marks.{pushed}
use Rattle.jx_reduce.specs.Table.{next_of}
use Rattle.jx_reduce.specs.declared.forms.entry.Entry.{Entry}
use Rattle.jx_reduce.specs.declared.table.holder.Holder.{Holder}
use Rattle.jx_reduce.specs.declared.table.holder.Holder.TheVariants.{Array, Object, Bottom}
use Rattle.jx_reduce.specs.declared.forms.level.Level.{Level}
use Rattle.jx_reduce.specs.declared.forms.quiet.Limits.{Limits}
use Rattle.jx_lex.specs.declared.alphabet.mark.Mark.{Mark}
use Rattle.jx_lex.specs.declared.alphabet.mark.MarkKind.{MarkKind}

-- a set of holders as a number: a bit for each
abbrev pub set_of : Bool → Bool → Bool → ℕ
set_of array object bottom = ((if array then 1 else 0) + (if object then 2 else 0)) + (if bottom then 4 else 0)

abbrev pub bit_of : Holder → ℕ
bit_of Array = 1
bit_of Object = 2
bit_of Bottom = 4

abbrev pub is_fault : MarkKind → Entry → Holder → Bool
is_fault k x h = not (is_some (next_of k (expect_at x h) h))

-- the holders that a token of this kind is a fault of
abbrev pub fault_bits : MarkKind → Entry → ℕ
fault_bits k x = set_of (is_fault k x Array) (is_fault k x Object) (is_fault k x Bottom)

-- the holders that have met no fault
abbrev pub unfaulted : Level → ℕ
unfaulted f = set_of (not (is_some f.array)) (not (is_some f.object)) (not (is_some f.bottom))

-- the holders that a fault may concern: the innermost of the open containers, or those of the base
abbrev pub standing : ℕ → List Holder → ℕ
standing base [] = base
standing base (o ∷ _) = bit_of o

-- a form that stands at this entry inside these containers, in which tokens are no deeper than this limit
pub record IsAt (d : ℕ) (r : Form) (os : List Holder) (limit b : ℕ) (x : Entry) : Type 0 where
  pub fits : Fits d r
  pub goes_on : all_faulted r.last ≡ false
  pub opens : r.opens ≡ os
  pub exit : r.exit ≡ Some x
  pub base : b ≡ unfaulted r.last
  pub within : limit ≤ d
  pub low : limit ≤ length r.ended + length r.heights

-- the limits of this form that decide whether a token is quiet
pub record AreLimits (d : ℕ) (r : Form) (l : Limits) : Type 0 where
  pub within : l.most ≤ d
  pub low : l.most ≤ length r.ended + length r.heights
  pub base : l.base ≡ unfaulted r.last
  pub standing : l.standing ≡ standing l.base r.opens

-- a token was pushed that changed at most the open containers and the exit
pub record IsPassed (d : ℕ) (r : Form) (m : Mark) (q : Form) (l : Limits) : Type 0 where
  pub form : q ≡ pushed d r m
  pub ended : q.ended ≡ r.ended
  pub last : q.last ≡ r.last
  pub heights : q.heights ≡ r.heights
  pub limits : AreLimits d q l

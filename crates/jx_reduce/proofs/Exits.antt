-- Where forms lead that something is joined to.
use Rattle.std.proofs.Common.{◌≡◌, ℕ, List, [], ◌∷◌, refl, Option, Some, None, Bool, true, false, if◌then◌else◌, ◌||◌}
use Rattle.jx_reduce.specs.Form.{Form}
use Rattle.jx_reduce.specs.Join.{all_faulted, over, cut_short, joined}
use Rattle.jx_reduce.specs.Marks.{of_mark, of_nothing, pushed, pushed_from, of_marks}
use Rattle.jx_reduce.specs.inside.Quiet.{GoesOn}
use Rattle.jx_reduce.specs.declared.forms.entry.Entry.{Entry}
use Rattle.jx_lex.specs.declared.alphabet.mark.Mark.{Mark}
use Rattle.jx_reduce.proofs.Joined.{uncut}

second : (a b : Bool) → (a || b) ≡ false → b ≡ false
second true b e = cc
second false b e = e

-- where all have faulted nothing goes on
GoesOn-cut : (d : ℕ) (r : Form) (b : Bool) → over d r ≡ b → GoesOn (if b then cut_short r else r)
GoesOn-cut d r true e = λ x h. cc
GoesOn-cut d r false e = λ x h. second _ (all_faulted r.last) e

pub GoesOn-joined : (d : ℕ) (l r : Form) → GoesOn (joined d l r)
GoesOn-joined d l r = GoesOn-cut d (uncut d l r) (over d (uncut d l r)) refl

goes_on_from : (d : ℕ) (r : Form) (m : Mark) (x : Option Entry) → r.exit ≡ x → GoesOn r → GoesOn (pushed_from d r m x)
goes_on_from d r m None e g = g
goes_on_from d r m (Some x) e g = GoesOn-joined d r (of_mark x m)

pub GoesOn-of_marks : (d : ℕ) (r : Form) (ms : List Mark) → GoesOn r → GoesOn (of_marks d r ms)
GoesOn-of_marks d r [] g = g
GoesOn-of_marks d r (m ∷ ms) g = GoesOn-of_marks d (pushed d r m) ms (goes_on_from d r m r.exit refl g)

pub GoesOn-of_nothing : (x : Entry) → GoesOn (of_nothing x)
GoesOn-of_nothing x = λ y h. refl

-- Sets of holders as numbers: where two have no bit in common, no holder is in both.
use Rattle.std.proofs.Common.{◌≡◌, ℕ, refl, Option, Some, None, Bool, true, false, is_some, not}
use Rattle.std.specs.Int.Bits.{bit_and}
use Rattle.jx_reduce.specs.Entries.{expect_at}
use Rattle.jx_reduce.specs.Form.{fault_of}
use Rattle.jx_reduce.specs.Marks.{fault_unless, fault_at}
use Rattle.jx_reduce.specs.inside.Quiet.{set_of, bit_of, is_fault, fault_bits, unfaulted}
use Rattle.jx_reduce.specs.Table.{next_of}
use Rattle.jx_reduce.specs.declared.table.holder.Holder.{Holder}
use Rattle.jx_reduce.specs.declared.table.holder.Holder.TheVariants.{Array, Object, Bottom}
use Rattle.jx_reduce.specs.declared.forms.entry.Entry.{Entry}
use Rattle.jx_reduce.specs.declared.table.expect.Expect.{Expect}
use Rattle.jx_reduce.specs.declared.forms.level.Level.{Level}
use Rattle.jx_lex.specs.declared.alphabet.mark.Mark.{Mark}

lone_array : (b c y z : Bool) → bit_and (set_of true b c) (set_of true y z) ≡ 0 → ⊥
lone_array true true true true h = cc
lone_array true true true false h = cc
lone_array true true false true h = cc
lone_array true true false false h = cc
lone_array true false true true h = cc
lone_array true false true false h = cc
lone_array true false false true h = cc
lone_array true false false false h = cc
lone_array false true true true h = cc
lone_array false true true false h = cc
lone_array false true false true h = cc
lone_array false true false false h = cc
lone_array false false true true h = cc
lone_array false false true false h = cc
lone_array false false false true h = cc
lone_array false false false false h = cc

apart_array : (p q b c y z : Bool) → bit_and (set_of p b c) (set_of (not q) y z) ≡ 0 → q ≡ false → p ≡ false
apart_array false q b c y z h e = refl
apart_array true true b c y z h e = cc
apart_array true false b c y z h e = absurd (lone_array b c y z h)

lone_object : (b c y z : Bool) → bit_and (set_of b true c) (set_of y true z) ≡ 0 → ⊥
lone_object true true true true h = cc
lone_object true true true false h = cc
lone_object true true false true h = cc
lone_object true true false false h = cc
lone_object true false true true h = cc
lone_object true false true false h = cc
lone_object true false false true h = cc
lone_object true false false false h = cc
lone_object false true true true h = cc
lone_object false true true false h = cc
lone_object false true false true h = cc
lone_object false true false false h = cc
lone_object false false true true h = cc
lone_object false false true false h = cc
lone_object false false false true h = cc
lone_object false false false false h = cc

apart_object : (p q b c y z : Bool) → bit_and (set_of b p c) (set_of y (not q) z) ≡ 0 → q ≡ false → p ≡ false
apart_object false q b c y z h e = refl
apart_object true true b c y z h e = cc
apart_object true false b c y z h e = absurd (lone_object b c y z h)

lone_bottom : (b c y z : Bool) → bit_and (set_of b c true) (set_of y z true) ≡ 0 → ⊥
lone_bottom true true true true h = cc
lone_bottom true true true false h = cc
lone_bottom true true false true h = cc
lone_bottom true true false false h = cc
lone_bottom true false true true h = cc
lone_bottom true false true false h = cc
lone_bottom true false false true h = cc
lone_bottom true false false false h = cc
lone_bottom false true true true h = cc
lone_bottom false true true false h = cc
lone_bottom false true false true h = cc
lone_bottom false true false false h = cc
lone_bottom false false true true h = cc
lone_bottom false false true false h = cc
lone_bottom false false false true h = cc
lone_bottom false false false false h = cc

apart_bottom : (p q b c y z : Bool) → bit_and (set_of b c p) (set_of y z (not q)) ≡ 0 → q ≡ false → p ≡ false
apart_bottom false q b c y z h e = refl
apart_bottom true true b c y z h e = cc
apart_bottom true false b c y z h e = absurd (lone_bottom b c y z h)

none_unless : (n : Option Expect) (at : ℕ) → not (is_some n) ≡ false → fault_unless n at ≡ None
none_unless None at h = cc
none_unless (Some e) at h = refl

no_fault : (x : Entry) (m : Mark) (h : Holder) → is_fault m.kind x h ≡ false → fault_at x m h ≡ None
no_fault x m h e = none_unless (next_of m.kind (expect_at x h) h) m.at e

-- a mark that is no fault of any holder in the set is none of this one
pub no_fault_of : (x : Entry) (m : Mark) (h : Holder) → bit_and (fault_bits m.kind x) (bit_of h) ≡ 0 → fault_at x m h ≡ None
no_fault_of x m Array e = no_fault x m Array (apart_array (is_fault m.kind x Array) false (is_fault m.kind x Object) (is_fault m.kind x Bottom) false false e refl)
no_fault_of x m Object e = no_fault x m Object (apart_object (is_fault m.kind x Object) false (is_fault m.kind x Array) (is_fault m.kind x Bottom) false false e refl)
no_fault_of x m Bottom e = no_fault x m Bottom (apart_bottom (is_fault m.kind x Bottom) false (is_fault m.kind x Array) (is_fault m.kind x Object) false false e refl)

pub no_new_fault : (x : Entry) (m : Mark) (f : Level) → bit_and (fault_bits m.kind x) (unfaulted f) ≡ 0 → (h : Holder) → is_some (fault_of f h) ≡ false → fault_at x m h ≡ None
no_new_fault x m f e Array n = no_fault x m Array (apart_array (is_fault m.kind x Array) (is_some f.array) (is_fault m.kind x Object) (is_fault m.kind x Bottom) (not (is_some f.object)) (not (is_some f.bottom)) e n)
no_new_fault x m f e Object n = no_fault x m Object (apart_object (is_fault m.kind x Object) (is_some f.object) (is_fault m.kind x Array) (is_fault m.kind x Bottom) (not (is_some f.array)) (not (is_some f.bottom)) e n)
no_new_fault x m f e Bottom n = no_fault x m Bottom (apart_bottom (is_fault m.kind x Bottom) (is_some f.bottom) (is_fault m.kind x Array) (is_fault m.kind x Object) (not (is_some f.array)) (not (is_some f.object)) e n)

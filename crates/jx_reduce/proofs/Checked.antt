-- What tests of offsets tell.
use Rattle.std.proofs.Common.{◌≡◌, ℕ, List, [], ◌∷◌, refl, subst, Option, Some, None, Bool, true, ◌&&◌}
use Rattle.std.proofs.lemmas.Option.{same_Some}
use Rattle.std.proofs.lemmas.Bool.{and_parts, and_from}
use Rattle.std.specs.List.{list_all}
use Rattle.jx_reduce.specs.Form.{Form, level_of}
use Rattle.jx_reduce.specs.Offsets.{EachIn, EndIn, FaultsIn, OffsetsIn}
use Rattle.jx_reduce.specs.inside.Checked.{is_end_in, is_fault_in, is_form_in, is_in, is_level_in, IsIn}
use Rattle.jx_reduce.specs.declared.forms.checks.Bound.{Bound}
use Rattle.jx_reduce.specs.declared.forms.ended_level.EndedLevel.{EndedLevel}
use Rattle.jx_reduce.specs.declared.table.holder.Holder.TheVariants.{Array, Object, Bottom}
use Rattle.jx_reduce.specs.declared.forms.level.Level.{Level}

from_fault : (b : Bound) (o : Option ℕ) → is_fault_in b o ≡ true → (p : ℕ) → o ≡ Some p → IsIn b p
from_fault b None h p e = cc
from_fault b (Some q) h p e = subst (IsIn b) (same_Some q p e) h

to_fault : (b : Bound) (o : Option ℕ) → ((p : ℕ) → o ≡ Some p → IsIn b p) → is_fault_in b o ≡ true
to_fault b None h = refl
to_fault b (Some p) h = h p refl

from_level : (b : Bound) (f : Level) → is_level_in b f ≡ true → FaultsIn (IsIn b) f
from_level b f h Array = from_fault b f.array (and_parts (is_fault_in b f.array) _ (and_parts (is_fault_in b f.array && is_fault_in b f.object) _ h).0).0
from_level b f h Object = from_fault b f.object (and_parts (is_fault_in b f.array) _ (and_parts (is_fault_in b f.array && is_fault_in b f.object) _ h).0).1
from_level b f h Bottom = from_fault b f.bottom (and_parts (is_fault_in b f.array && is_fault_in b f.object) _ h).1

to_level : (b : Bound) (f : Level) → FaultsIn (IsIn b) f → is_level_in b f ≡ true
to_level b f h = and_from _ _ (and_from _ _ (to_fault b f.array (h Array)) (to_fault b f.object (h Object))) (to_fault b f.bottom (h Bottom))

from_end : (b : Bound) (e : EndedLevel) → is_end_in b e ≡ true → EndIn (IsIn b) e
from_end b e h Array = from_level b (level_of e) h Array
from_end b e h Object = from_level b (level_of e) h Object
from_end b e h Bottom = from_level b (level_of e) h Bottom

to_end : (b : Bound) (e : EndedLevel) → EndIn (IsIn b) e → is_end_in b e ≡ true
to_end b e h = and_from _ _ (and_from _ _ (to_fault b e.array (h Array)) (to_fault b e.object (h Object))) (h Bottom e.bottom refl)

from_each : {X : Type 0} (test : X → Bool) (Q : X → Type 0) (xs : List X) → ((x : X) → test x ≡ true → Q x) → list_all test xs ≡ true → EachIn Q xs
from_each test Q [] one h = tt
from_each test Q (x ∷ xs) one h = (one x (and_parts (test x) _ h).0, from_each test Q xs one (and_parts (test x) _ h).1)

to_each : {X : Type 0} (test : X → Bool) (Q : X → Type 0) (xs : List X) → ((x : X) → Q x → test x ≡ true) → EachIn Q xs → list_all test xs ≡ true
to_each test Q [] one h = refl
to_each test Q (x ∷ xs) one h = and_from _ _ (one x h.0) (to_each test Q xs one h.1)

pub offsets_in : (b : Bound) (r : Form) → is_form_in b r ≡ true → OffsetsIn (IsIn b) r
offsets_in b r h =
    let k = and_parts (list_all (is_end_in b) r.ended && is_level_in b r.last) _ h in
    let l = and_parts (list_all (is_end_in b) r.ended) _ k.0 in
    record {
      ended = from_each (is_end_in b) (EndIn (IsIn b)) r.ended (from_end b) l.0;
      last = from_level b r.last l.1;
      heights = from_each (is_in b) (IsIn b) r.heights (λ p e. e) k.1;
    }

pub in_offsets : (b : Bound) (r : Form) → OffsetsIn (IsIn b) r → is_form_in b r ≡ true
in_offsets b r h =
    and_from _ _ (and_from _ _ (to_each (is_end_in b) (EndIn (IsIn b)) r.ended (to_end b) h.ended) (to_level b r.last h.last))
    (to_each (is_in b) (IsIn b) r.heights (λ p e. e) h.heights)

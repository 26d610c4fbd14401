-- What look-ups say of a request.
use Rattle.std.proofs.Common.{◌≡◌, ◌≢◌, ℕ, ◌<◌, List, ◌++◌, Option, None, Some, Result, Err, refl, sym, ◌∙◌, arith, codes}
use Rattle.std.specs.Result.{IsErrAnd}
use Rattle.std.proofs.lemmas.Result.{err_from_is_err_and}
use Rattle.jx_lex.specs.declared.kind.Kind.{Kind}
use Rattle.jx_lex.specs.declared.kind.Kind.TheVariants as kind
use Rattle.jx_wire.specs.Requests.{IsDepth, IsBetween, IsChange, of_all, of_range, IsRange, IsWhole}
use Rattle.jx_wire.specs.Values.{number_by, number_spelt_by, text_by, Values}
use Rattle.jx_wire.specs.declared.call.Change.{Change}
use Rattle.jx_wire.specs.declared.call.Change.TheVariants.{Whole, Range, Unknown}
use Rattle.jx_wire.specs.declared.call.Place.{Place}
use Rattle.jx_wire.specs.inside.Changes.{ranged}

-- ---- faults and options

-- the fault that `?` passes on
pub wrong_was : {T E : Type 0} (r : Result T E) (x w : E) → IsErrAnd r (λ y. y ≡ x) → r ≡ Err w → x ≡ w
wrong_was r x w told e =
    let p = err_from_is_err_and r told in
    let same : Err p.0 ≡ Err w = sym p.1 ∙ e in
    let one : p.0 ≡ w = cc in
    sym p.2 ∙ one

pub none_is_no : {A : Type 0} (o : Option A) (x : A) → o ≡ None → o ≡ Some x → ⊥
none_is_no o x e f = absurd cc

-- ---- values

pub text_is_string : (k : Kind) (bytes text : List ℕ) → text_by k bytes ≡ Some text → k ≡ kind.String
text_is_string kind.String bytes text e = refl
text_is_string _ bytes text e = absurd cc

pub no_number : (k : Kind) (bytes : List ℕ) → (k ≡ kind.Number → ⊥) → number_spelt_by k bytes ≡ None
no_number kind.Number bytes other = absurd (other refl)
no_number _ bytes other = refl

-- a depth that is too great is none that is asked for
pub no_depth : (k : Kind) (bytes : List ℕ) (found : ℕ) (depth : Option ℕ) → number_by k bytes ≡ Some found → 65535 < found → IsDepth (Some (record { kind = k; bytes = bytes })) depth → ⊥
no_depth k bytes found None e much h = h
no_depth k bytes found (Some depth) e much h =
    let both : Some found ≡ Some depth = sym e ∙ h.0 in
    let same : found ≡ depth = cc in
    omega (arith, same, much, h.1)

-- nor is what spells no number
pub depth_is_number : (k : Kind) (bytes : List ℕ) (depth : Option ℕ) → number_by k bytes ≡ None → IsDepth (Some (record { kind = k; bytes = bytes })) depth → ⊥
depth_is_number k bytes None e h = h
depth_is_number k bytes (Some depth) e h = none_is_no (number_by k bytes) depth e h.0

-- ---- changes

pub no_whole : (k : Kind) (bytes : List ℕ) (change : Change) → k ≢ kind.String → IsWhole (Some (record { kind = k; bytes = bytes })) change → ⊥
no_whole k bytes (Whole text) other h = other (text_is_string k bytes text.items h)
no_whole k bytes (Range start end text) other h = h
no_whole k bytes Unknown other h = other h.0

pub range_is : (at : Values) (pointer : List ℕ) (whole : Change) (start end : Place) → IsWhole (at (pointer ++ codes "/text")) whole → IsBetween at pointer start end
    → IsRange at pointer (ranged whole start end)
range_is at pointer (Whole text) start end h between = (h, between)
range_is at pointer (Range from to text) start end h between = absurd h
range_is at pointer Unknown start end h between = (h, start, end, between)

-- the text of a change that has a range
whole_of_range : (at : Values) (pointer : List ℕ) (change : Change) → IsRange at pointer change → (whole : Change) × IsWhole (at (pointer ++ codes "/text")) whole
whole_of_range at pointer (Whole text) h = absurd h
whole_of_range at pointer (Range start end text) h = (Whole text, h.0)
whole_of_range at pointer Unknown h = (Unknown, h.0)

pub whole_of : (at : Values) (pointer : List ℕ) (change : Change) → IsChange at pointer change → (whole : Change) × IsWhole (at (pointer ++ codes "/text")) whole
whole_of at pointer change (of_all none h) = (change, h)
whole_of at pointer change (of_range some h) = whole_of_range at pointer change h

places_of_range : (at : Values) (pointer : List ℕ) (change : Change) → IsRange at pointer change → (start : Place) × (end : Place) × IsBetween at pointer start end
places_of_range at pointer (Whole text) h = absurd h
places_of_range at pointer (Range start end text) h = (start, end, h.1)
places_of_range at pointer Unknown h = (h.1, h.2, h.3)

pub places_of : (at : Values) (pointer : List ℕ) (change : Change) → IsChange at pointer change → at (pointer ++ codes "/range") ≢ None
    → (start : Place) × (end : Place) × IsBetween at pointer start end
places_of at pointer change (of_all none h) some = absurd (some none)
places_of at pointer change (of_range _ h) some = places_of_range at pointer change h

-- What is shown of the value at an offset.
use Rattle.std.proofs.Common.{◌≡◌, ◌≤◌, ℕ, Bool, List, true, false, inl, inr, refl, subst, sym, ◌∙◌}
use Rattle.std.specs.Prelude.{◌⊎◌, Option, None, Some}
use Rattle.jx_edit.specs.Positions.{offset_at}
use Rattle.jx_edit.specs.declared.positions.encoding.Encoding.{Encoding}
use Rattle.jx_run.specs.declared.texts.settings.Settings.{Settings}
use Rattle.jx_wire.specs.declared.call.Place.{Place}
use Rattle.jx_serve.specs.Changes.{HeldValue, position}
use Rattle.jx_complete.specs.Completed.{IsCompleted}
use Rattle.jx_serve.specs.Values.{any_names, in_no_value, is_due, HasNoHover, HasNoValueAt, no_text, in_none, IsFoundAt, IsHoverAt, IsHovered, IsValueAt}
use Rattle.jx_serve.proofs.Outlines.{not_refused}
use Rattle.jx_serve.specs.declared.hover.Hover.{Hover}
use Rattle.jx_serve.specs.declared.under_cursor.ValueAt.{ValueAt}

-- nothing is found in a text that stands in the place of bytes
no_hover_by : (settings : Settings) (bytes text : List ℕ) (kept offset : ℕ) → IsCompleted (any_names settings) bytes text kept → HasNoValueAt (any_names settings) text offset → HasNoHover settings bytes offset
no_hover_by settings bytes text kept offset c (no_text verdict) = absurd (not_refused settings text c.tree _ c.is_text verdict)
no_hover_by settings bytes text kept offset c (in_none is_text none) = in_no_value c is_text none

pub no_hover : (settings s : Settings) (bytes text : List ℕ) (kept offset : ℕ) (value : Option ValueAt) → s ≡ any_names settings → IsCompleted (any_names settings) bytes text kept → value ≡ None
    → IsFoundAt s text offset value → HasNoHover settings bytes offset
no_hover settings s bytes text kept offset value is c n found =
    let x : IsFoundAt s text offset None = subst (IsFoundAt s text offset) n found in
    no_hover_by settings bytes text kept offset c (subst (λ z. HasNoValueAt z text offset) is x)

-- nor is a value that begins at the fault or behind it
pub due : (settings s : Settings) (bytes text : List ℕ) (kept offset : ℕ) (found : Option ValueAt) (value : ValueAt) → s ≡ any_names settings → IsCompleted (any_names settings) bytes text kept
    → found ≡ Some value → IsFoundAt s text offset found → kept ≤ value.row.span.start → HasNoHover settings bytes offset
due settings s bytes text kept offset found value is c some at late =
    let x : IsFoundAt s text offset (Some value) = subst (IsFoundAt s text offset) some at in
    is_due c (subst (λ z. IsValueAt z text offset value) is x) late

either : {A : Type 0} (b : Bool) → (b ≡ false → A) → (b ≡ true) ⊎ A
either true f = inl refl
either false f = inr (f refl)

pub none_shown : (e : Encoding) (place : Place) (h k : HeldValue) (hover : Option Hover) → h ≡ k → hover ≡ None
    → (h.lost ≡ false → IsHovered e h.settings h.bytes (offset_at e h.bytes (position place)) hover)
    → (k.lost ≡ true) ⊎ HasNoHover k.settings k.bytes (offset_at e k.bytes (position place))
none_shown e place h k hover v n f =
    subst (λ (x : HeldValue). (x.lost ≡ true) ⊎ HasNoHover x.settings x.bytes (offset_at e x.bytes (position place))) v
    (either h.lost (λ (l : h.lost ≡ false). let x : IsHovered e h.settings h.bytes (offset_at e h.bytes (position place)) None =
    subst (IsHovered e h.settings h.bytes (offset_at e h.bytes (position place))) n (f l) in x))

known_by : (lost : Bool) (found : Option Hover) (hover : Hover) → (lost ≡ true → found ≡ None) → found ≡ Some hover → lost ≡ false
known_by true found hover none some = let x : Some hover ≡ None = sym some ∙ none refl in cc
known_by false found hover none some = refl

pub some_shown : (e : Encoding) (place : Place) (h k : HeldValue) (found : Option Hover) (hover : Hover) → h ≡ k → found ≡ Some hover → (h.lost ≡ true → found ≡ None)
    → (h.lost ≡ false → IsHovered e h.settings h.bytes (offset_at e h.bytes (position place)) found)
    → (k.lost ≡ false) × IsHoverAt e k.settings k.bytes (offset_at e k.bytes (position place)) hover
some_shown e place h k found hover v some none f =
    let known : h.lost ≡ false = known_by h.lost found hover none some in
    let at : IsHovered e h.settings h.bytes (offset_at e h.bytes (position place)) (Some hover) = subst (IsHovered e h.settings h.bytes (offset_at e h.bytes (position place))) some (f known) in
    subst (λ (x : HeldValue). (x.lost ≡ false) × IsHoverAt e x.settings x.bytes (offset_at e x.bytes (position place)) hover) v (known, at)

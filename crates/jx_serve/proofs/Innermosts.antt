-- The innermost value that holds an offset, among the values around it.
use Rattle.std.proofs.Common.{◌≡◌, ◌<◌, ℕ, zero, suc, Bool, List, [], ◌∷◌, true, false, cond, refl, sym, ap, subst, ◌∙◌, arith}
use Rattle.std.specs.Prelude.{Option, None, Some, IfSome, Result, Ok, Vec, ◌&&◌, max, min, nat_le, nat_lt, slice_get}
use Rattle.std.specs.Global.{Global}
use Rattle.std.specs.List.{filter}
use Rattle.std.proofs.lemmas.Bool.Decides.{nat_tests}
use Rattle.jx_summary.specs.declared.span.Span.{Span}
use Rattle.jx_run.specs.Settings.{IsDocumentBy}
use Rattle.jx_run.specs.Tree.{Tree}
use Rattle.jx_run.specs.declared.texts.settings.Settings.{Settings}
use Rattle.jx_index.specs.declared.find_fault.FindFault.{FindFault}
use Rattle.jx_index.specs.declared.row.Row.{Row}
use Rattle.jx_index.specs.Leads.{leads}
use Rattle.jx_index.specs.Pointers.{tokens}
use Rattle.jx_index.specs.Rows.{rows}
use Rattle.jx_around.specs.Around.{AreAround, is_around, is_covered}
use Rattle.jx_serve.specs.Values.{HasNoValueAt, IsInNone, IsInnermost, IsValueAt, holds, holds_at, in_none, start_of}
use Rattle.jx_serve.specs.declared.under_cursor.ValueAt.{ValueAt}

weaker : (a b c d : Bool) → (c ≡ true → a ≡ true) → (d ≡ true → b ≡ true) → (a && b) ≡ false → (c && d) ≡ false
weaker true true c d f g e = absurd cc
weaker false b true d f g e = let x : false ≡ true = f refl in absurd cc
weaker false b false d f g e = refl
weaker true false c true f g e = let x : false ≡ true = g refl in absurd cc
weaker true false true false f g e = refl
weaker true false false false f g e = refl

least_below : (a b x : ℕ) → nat_le a x ≡ true → nat_le (min a b) x ≡ true
least_below a b x h = grind (arith, nat_tests, h)

below_greatest : (a b x : ℕ) → nat_lt x b ≡ true → nat_lt x (max a b) ≡ true
below_greatest a b x h = grind (arith, nat_tests, h)

not_covered : (offset : ℕ) (name : Option Span) (value : Span) → is_covered offset name value ≡ false → (nat_le (start_of name value) offset && nat_lt offset value.end) ≡ false
not_covered offset None value e = e
not_covered offset (Some name) value e =
    weaker (nat_le (min name.start value.start) offset) (nat_lt offset (max name.end value.end)) (nat_le name.start offset) (nat_lt offset value.end) (least_below name.start value.start offset)
    (below_greatest name.end value.end offset) e

module _ (offset : ℕ) where
  not_held : (row : Row) → is_around offset row ≡ false → holds offset row ≡ false
  not_held row e = not_covered offset row.name row.span e

  none_left : (row : Row) (table : List Row) (c : Bool) → is_around offset row ≡ c → IsInNone (cond c (row ∷ table) table) offset → (holds offset row ≡ false) × IsInNone table offset
  none_left row table true a none = (none 0, λ k. none (suc k))
  none_left row table false a none = (not_held row a, none)

  none_there : (row : Row) (table : List Row) → holds offset row ≡ false → IsInNone table offset → IsInNone (row ∷ table) offset
  none_there row table h none zero = h
  none_there row table h none (suc k) = none k

  pub in_none_of_all : (table : List Row) → IsInNone (filter (is_around offset) table) offset → IsInNone table offset
  in_none_of_all [] none = none
  in_none_of_all (row ∷ table) none =
      let left = none_left row (filter (is_around offset) table) (is_around offset row) refl none in
      none_there row table left.0 (in_none_of_all table left.1)

  later_before : (row : Row) (table : List Row) (n : ℕ) → ((j : ℕ) → n < j → holds_at table offset j ≡ false) → (j : ℕ) → suc n < j → holds_at (row ∷ table) offset j ≡ false
  later_before row table n last zero below = absurd (omega (arith, below))
  later_before row table n last (suc j) below = last j (omega (arith, below))

  later_none : (row : Row) (table : List Row) → IsInNone table offset → (j : ℕ) → 0 < j → holds_at (row ∷ table) offset j ≡ false
  later_none row table none zero below = absurd (omega (arith, below))
  later_none row table none (suc j) below = none j

  -- the same row in all rows
  pub record IsInnermostOf (table few : List Row) (k : ℕ) : Type 0 where
    pub number : ℕ
    pub innermost : IsInnermost table offset number
    pub same : slice_get table number ≡ slice_get few k

  one_before : (row : Row) (table few many : List Row) (k n : ℕ) → slice_get few k ≡ slice_get many n → IsInnermostOf table few k → IsInnermostOf (row ∷ table) many n
  one_before row table few many k n same h =
      record { number = suc h.number; innermost = record { here = h.innermost.here; last = later_before row table h.number h.innermost.last }; same = h.same ∙ same }

  first_of : (row : Row) (table few : List Row) → IsInnermost (row ∷ few) offset 0 → IsInNone table offset → IsInnermostOf (row ∷ table) (row ∷ few) 0
  first_of row table few h none = record { number = 0; innermost = record { here = h.here; last = later_none row table none }; same = refl }

  by_first : (row : Row) (table few : List Row) (k : ℕ) (c : Bool) → (IsInNone few offset → IsInNone table offset) → ((j : ℕ) → IsInnermost few offset j → IsInnermostOf table few j)
      → IsInnermost (cond c (row ∷ few) few) offset k → IsInnermostOf (row ∷ table) (cond c (row ∷ few) few) k
  by_first row table few zero true none rest h = first_of row table few h (none (λ j. h.last (suc j) (omega arith)))
  by_first row table few (suc k) true none rest h =
      one_before row table few (row ∷ few) k (suc k) refl (rest k (record { here = h.here; last = λ j below. h.last (suc j) (omega (arith, below)) }))
  by_first row table few k false none rest h = one_before row table few few k k refl (rest k h)

  pub innermost_of_all : (table : List Row) (k : ℕ) → IsInnermost (filter (is_around offset) table) offset k → IsInnermostOf table (filter (is_around offset) table) k
  innermost_of_all [] k h = record { number = k; innermost = h; same = refl }
  innermost_of_all (row ∷ table) k h =
      by_first row table (filter (is_around offset) table) k (is_around offset row) (in_none_of_all table) (innermost_of_all table) h

-- ---- what is found

abbrev ok : ℕ → Result ℕ FindFault
ok number = Ok number

pub in_none_around : (settings : Settings) (text : List ℕ) (offset : ℕ) (table : List Row) → AreAround settings text offset table → IsInNone table offset → HasNoValueAt settings text offset
in_none_around settings text offset table h none = in_none h.is_text (in_none_of_all offset (rows h.tree) (subst (λ t. IsInNone t offset) h.around_are none))

-- in each tree of a text a pointer leads to each number that has the row
abbrev pub LeadsToRow : Settings → List ℕ → Row → Option (Vec ℕ Global) → Type 0
LeadsToRow settings text row told =
    IfSome told (λ pointer. (tree : Tree) (number : ℕ) → IsDocumentBy settings 0 text tree → slice_get (rows tree) number ≡ Some row → leads text tree (tokens pointer.items) ≡ ok number)

led_to : (settings : Settings) (text : List ℕ) (row : Row) (tree : Tree) (number : ℕ) (told : Option (Vec ℕ Global)) → IsDocumentBy settings 0 text tree → slice_get (rows tree) number ≡ Some row
    → LeadsToRow settings text row told → IfSome told (λ pointer. leads text tree (tokens pointer.items) ≡ ok number)
led_to settings text row tree number None d at h = tt
led_to settings text row tree number (Some pointer) d at h = h tree number d at

pub value_around : (settings : Settings) (text : List ℕ) (offset k : ℕ) (table : List Row) (row : Row) (pointer : Option (Vec ℕ Global)) → AreAround settings text offset table
    → IsInnermost table offset k → slice_get table k ≡ Some row → LeadsToRow settings text row pointer
    → IsValueAt settings text offset (let v : ValueAt = record { row = row; pointer = pointer } in v)
value_around settings text offset k table row pointer h inner at led =
    let whole = innermost_of_all offset (rows h.tree) k (subst (λ t. IsInnermost t offset k) h.around_are inner) in
    let is_row = whole.same ∙ ap (λ (t : List Row). slice_get t k) (sym h.around_are) ∙ at in
    record {
      tree = h.tree;
      is_text = h.is_text;
      number = whole.number;
      innermost = whole.innermost;
      is_row = is_row;
      led = led_to settings text row h.tree whole.number pointer h.is_text is_row led;
    }

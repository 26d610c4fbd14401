-- Each form stands in the place of its entry.
use Rattle.std.proofs.Common.{◌≡◌, ℕ, zero, suc, ◌+◌, ◌<◌, ◌≤◌, List, [], ◌∷◌, length, get_or, set, map, replicate, refl, sym, ◌∙◌, ap, subst, arith, ⊎_elim}
use Rattle.std.proofs.lemmas.Bool.{cases_eq}
use Rattle.std.proofs.lemmas.List.{get_or-map, get_or-replicate, get_or-set_other, get_or-set_same, length-map, map-set}
use Rattle.jx_reduce.proofs.EachInPlace.{map_kept}
use Rattle.jx_reduce.specs.Form.{Form}
use Rattle.jx_reduce.specs.Reduced.{depth_of, form_in}
use Rattle.jx_reduce.specs.Reductions.{Forms, form_at}
use Rattle.jx_reduce.specs.Entries.{place}
use Rattle.jx_reduce.specs.inside.View.{nth, in_order}
use Rattle.jx_reduce.specs.Marks.{of_nothing}
use Rattle.jx_reduce.specs.declared.forms.entry.Entry.{Entry}
use Rattle.jx_reduce.specs.declared.forms.entry.Entry.TheVariants.{ValueOrName, AfterOrColon, Value as AnyValue, ArrayFirst as AnyArrayFirst, ObjectFirst as AnyObjectFirst, Name as AnyName, Colon as AnyColon, After as AnyAfter}
use Rattle.jx_reduce.specs.declared.reducing.reduced.Reduced.{Reduced}

pub in_place : (d : ℕ) (fs : List Form) (x : Entry) → form_at (in_order d fs) x ≡ nth fs (place x)
in_place d fs AnyValue = refl
in_place d fs AnyArrayFirst = refl
in_place d fs AnyObjectFirst = refl
in_place d fs AnyName = refl
in_place d fs AnyColon = refl
in_place d fs AnyAfter = refl
in_place d fs ValueOrName = refl
in_place d fs AfterOrColon = refl

pub place_low : (x : Entry) → place x < 8
place_low AnyValue = omega arith
place_low AnyArrayFirst = omega arith
place_low AnyObjectFirst = omega arith
place_low AnyName = omega arith
place_low AnyColon = omega arith
place_low AnyAfter = omega arith
place_low ValueOrName = omega arith
place_low AfterOrColon = omega arith

-- there are as many as depths
pub count_of : (d : ℕ) (rs : List Reduced) → map depth_of rs ≡ replicate 8 d → length rs ≡ 8
count_of d rs h = sym (length-map rs depth_of) ∙ ap length h

-- each of them knows the depth
pub depth_at : (d i : ℕ) (rs : List Reduced) (r : Reduced) → map depth_of rs ≡ replicate 8 d → i < length rs → depth_of (get_or rs i r) ≡ d
depth_at d i rs r h low =
    sym (get_or-map depth_of rs i r d low) ∙ ap (λ (ds : List ℕ). get_or ds i d) h ∙ get_or-replicate 8 i d d (omega (arith, low, count_of d rs h))

-- forms that were made of the entries
abbrev pub all_entries : List Entry
all_entries = AnyValue ∷ AnyArrayFirst ∷ AnyObjectFirst ∷ AnyName ∷ AnyColon ∷ AnyAfter ∷ ValueOrName ∷ AfterOrColon ∷ []

entry_in_place : (x : Entry) → get_or all_entries (place x) AnyValue ≡ x
entry_in_place AnyValue = refl
entry_in_place AnyArrayFirst = refl
entry_in_place AnyObjectFirst = refl
entry_in_place AnyName = refl
entry_in_place AnyColon = refl
entry_in_place AnyAfter = refl
entry_in_place ValueOrName = refl
entry_in_place AfterOrColon = refl

pub each_made : (d : ℕ) (make : Entry → Form) (fs : List Form) → fs ≡ map make all_entries → (x : Entry) → form_at (in_order d fs) x ≡ make x
each_made d make fs e x =
    in_place d fs x
    ∙ ap (λ (fs : List Form). nth fs (place x)) e
    ∙ get_or-map make all_entries (place x) AnyValue (of_nothing AnyValue) (place_low x)
    ∙ ap make (entry_in_place x)

-- no two entries stand in one place
same_entry : (x y : Entry) → place x ≡ place y → x ≡ y
same_entry x y e = sym (entry_in_place x) ∙ ap (λ i. get_or all_entries i AnyValue) e ∙ entry_in_place y

place_of : (i : ℕ) (d : Entry) → i < 8 → place (get_or all_entries i d) ≡ i
place_of zero d low = refl
place_of (suc zero) d low = refl
place_of (suc (suc zero)) d low = refl
place_of (suc (suc (suc zero))) d low = refl
place_of (suc (suc (suc (suc zero)))) d low = refl
place_of (suc (suc (suc (suc (suc zero))))) d low = refl
place_of (suc (suc (suc (suc (suc (suc zero)))))) d low = refl
place_of (suc (suc (suc (suc (suc (suc (suc zero))))))) d low = refl
place_of (suc (suc (suc (suc (suc (suc (suc (suc i)))))))) d low = absurd (omega arith)

-- the forms of the entries before this place are there
abbrev pub AreMade : (Entry → Form) → List Form → ℕ → Type 0
AreMade make fs n = (x : Entry) → place x < n → nth fs (place x) ≡ make x

-- one more is written
made_more : (make : Entry → Form) (fs : List Form) (i : ℕ) (y : Entry) (f : Form) → place y ≡ i → i < length fs → f ≡ make y → AreMade make fs i → AreMade make (set fs (place y) f) (i + 1)
made_more make fs i y f is low e h x below =
    ⊎_elim
    (λ here.
    ap (nth (set fs (place y) f)) here ∙ get_or-set_same fs (place y) f (of_nothing AnyValue) (subst (λ n. n < length fs) (sym is) low)
    ∙ e ∙ ap make (sym (same_entry x y here)))
    (λ there. get_or-set_other fs (place y) (place x) f (of_nothing AnyValue) there ∙ h x (omega (arith, below, is, there)))
    (cases_eq (place x) (place y))

-- a loop over the entries writes the form of the one in this place
module _ (make : Entry → Form) (d i n : ℕ) (rs : List Reduced) (r : Reduced) (here : n ≡ place (get_or all_entries i AnyValue)) (low : i < 8) (depths : map depth_of rs ≡ replicate 8 d) where
  is : place (get_or all_entries i AnyValue) ≡ i
  is = place_of i AnyValue low

  long : length rs ≡ 8
  long = count_of d rs depths

  within : n < length rs
  within = omega (arith, low, is, here, long)

  pub written_depths : depth_of r ≡ d → map depth_of (set rs n r) ≡ replicate 8 d
  written_depths e = map_kept depth_of rs n r r within (e ∙ sym (depth_at d n rs r depths within)) ∙ depths

  pub written_forms : form_in r ≡ make (get_or all_entries i AnyValue) → AreMade make (map form_in rs) i → AreMade make (map form_in (set rs n r)) (i + 1)
  written_forms e h =
      subst (λ fs. AreMade make fs (i + 1)) (ap (λ m. set (map form_in rs) m (form_in r)) (sym here) ∙ sym (map-set form_in rs n r))
      (made_more make (map form_in rs) i (get_or all_entries i AnyValue) (form_in r) is (omega (arith, low, length-map rs form_in, long)) e h)

-- the forms of all entries settle a structure
pub same_forms : (d : ℕ) (fs : List Form) (f : Forms) (n : ℕ) → 8 ≤ n → d ≡ f.depth → AreMade (form_at f) fs n → in_order d fs ≡ f
same_forms d fs f n all depth h =
    let at : (x : Entry) → nth fs (place x) ≡ form_at f x = λ x. h x (omega (arith, place_low x, all)) in
    rw (depth, at AnyValue, at AnyArrayFirst, at AnyObjectFirst, at AnyName, at AnyColon, at AnyAfter, at ValueOrName, at AfterOrColon)

-- forms that were made of the ones in the same places
pub each_changed : (c d : ℕ) (change : Form → Form) (fs gs : List Form) → length fs ≡ 8 → gs ≡ map change fs → (x : Entry) → form_at (in_order d gs) x ≡ change (form_at (in_order c fs) x)
each_changed c d change fs gs long e x =
    in_place d gs x
    ∙ ap (λ (fs : List Form). nth fs (place x)) e
    ∙ get_or-map change fs (place x) (of_nothing AnyValue) (of_nothing AnyValue) (omega (arith, place_low x, long))
    ∙ ap change (sym (in_place c fs x))

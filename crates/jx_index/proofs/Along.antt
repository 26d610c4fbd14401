-- What was met along a way on which each node was met once.
use Rattle.std.proofs.Common.{◌≡◌, ℕ, zero, suc, ◌+◌, ◌-◌, ◌<◌, ◌≤◌, List, [], ◌∷◌, ◌++◌, length, map, get_or, Bool, true, false, Option, None, Some, Ok, refl, sym, ap, subst, ◌∙◌, arith}
use Rattle.std.specs.Prelude.{IfSome, nat_lt, slice_get}
use Rattle.std.specs.List.{AllZip}
use Rattle.std.proofs.lemmas.Bool.Decides.{nat_tests}
use Rattle.std.proofs.lemmas.List.{length-map}
use Rattle.jx_index.specs.declared.finder.Found.{Found}
use Rattle.jx_index.specs.declared.finder.Met.{Met}
use Rattle.jx_index.specs.declared.finder.Met.TheVariants as met
use Rattle.jx_index.specs.inside.Finding.{met_at, read_from, read_met, read_root}
use Rattle.jx_index.specs.inside.PointerWays.{IsFoundAlong}

pub record OnceAt (all : List Met) (k : ℕ) : Type 0 where
  pub found : Found
  pub is : met_at all k ≡ met.Once found

same_found : (m : Met) (one other : Found) → m ≡ met.Once one → m ≡ met.Once other → one ≡ other
same_found m one other a b = let e : met.Once one ≡ met.Once other = sym a ∙ b in cc

reads_all : (all : List Met) → ((k : ℕ) → k < length all → OnceAt all k) → (ts : List (List ℕ)) (level : ℕ) (here last : Found) → met_at all level ≡ met.Once here
    → level + suc (length ts) ≡ length all → met_at all (level + length ts) ≡ met.Once last → Ok last ≡ read_from all ts level here
reads_all all each [] level here last h long e =
    let zero_more : level + 0 ≡ level = omega arith in
    ap (λ (f : Found). Ok f) (same_found (met_at all level) last here (sym (ap (met_at all) zero_more) ∙ e) h)
reads_all all each (t ∷ ts) level here last h long e =
    let next = each (suc level) (omega (arith, long)) in
    let on : level + suc (length ts) ≡ suc level + length ts = omega arith in
    reads_all all each ts (suc level) next.found last next.is (omega (arith, long)) (sym (ap (met_at all) on) ∙ e)
    ∙ sym (ap (λ (m : Met). read_met m here.kind t level (read_from all ts (suc level))) next.is)

-- ---- one node after another

pub met_mapped : (all : List Met) (way : List ℕ) (k : ℕ) → k < length way → met_at (map (met_at all) way) k ≡ met_at all (get_or way k 0)
met_mapped all [] k low = absurd (omega (arith, low))
met_mapped all (n ∷ way) zero low = refl
met_mapped all (n ∷ way) (suc k) low = met_mapped all way k (omega (arith, low))

-- each node in front of a number was met once, and this last
pub record AreOnce (all : List Met) (i : ℕ) (last : Option Found) : Type 0 where
  pub each : (k : ℕ) → k < i → OnceAt all k
  pub last_is : (f : Found) → last ≡ Some f → (0 < i) × (met_at all (i - 1) ≡ met.Once f)

pub none_yet : (all : List Met) (last : Option Found) → last ≡ None → AreOnce all 0 last
none_yet all last none = record {
  each = λ k low. absurd (omega (arith, low));
  last_is = λ f is. let e : None ≡ Some f = sym none ∙ is in absurd (cc);
}

pub one_more_once : (all : List Met) (i j : ℕ) (before last : Option Found) (found : Found) → j ≡ i + 1 → last ≡ Some found → met_at all i ≡ met.Once found → AreOnce all i before → AreOnce all j last
one_more_once all i j before last found more last_is h old = record {
  each = λ k low. by k low (nat_lt k i) refl;
  last_is = λ f is.
      let e : Some found ≡ Some f = sym last_is ∙ is in
      let same : found ≡ f = cc in
      let at : j - 1 ≡ i = omega (arith, more) in
      (omega (arith, more), ap (met_at all) at ∙ h ∙ ap (λ (x : Found). met.Once x) same);
}
  where
    by : (k : ℕ) → k < j → (b : Bool) → nat_lt k i ≡ b → OnceAt all k
    by k low true l = old.each k (let early : k < i = grind (arith, nat_tests) in early)
    by k low false l =
        let late : i ≤ k = grind (arith, nat_tests) in
        let here : k ≡ i = omega (arith, late, low, more) in
        record { found = found; is = ap (met_at all) here ∙ h }

pub all_once : (all : List Met) (way : List ℕ) (i : ℕ) (last : Option Found) → length way ≤ i → AreOnce (map (met_at all) way) i last → i ≤ length way → IfSome last (IsFoundAlong all way)
all_once all way i None past h within = tt
all_once all way i (Some f) past h within = λ ts long.
    let along : List Met = map (met_at all) way in
    let same : length along ≡ length way = length-map way (met_at all) in
    let end : i ≡ length along = omega (arith, past, within, same) in
    let last = h.last_is f refl in
    let root = h.each 0 last.0 in
    let each : (k : ℕ) → k < length along → OnceAt along k = λ k low. h.each k (omega (arith, low, end)) in
    let far : i - 1 ≡ 0 + length ts = omega (arith, end, same, long) in
    reads_all along each ts 0 root.found f root.is (omega (arith, same, long)) (sym (ap (met_at along) far) ∙ last.1)
    ∙ sym (ap (λ (m : Met). read_root m along ts) root.is)

-- ---- two lists side by side

pub zip_at : {A B : Type 0} (R : A → B → Type 0) (xs : List A) (ys : List B) (i : ℕ) (x : A) (y : B) → AllZip R xs ys → slice_get xs i ≡ Some x → slice_get ys i ≡ Some y → R x y
zip_at R [] ys i x y h a b = absurd (cc)
zip_at R (u ∷ xs) [] i x y h a b = absurd (cc)
zip_at R (u ∷ xs) (v ∷ ys) zero x y h a b = let p : u ≡ x = cc in let q : v ≡ y = cc in subst (λ (z : _). R z y) p (subst (R u) q h.0)
zip_at R (u ∷ xs) (v ∷ ys) (suc i) x y h a b = zip_at R xs ys i x y h.1 a b

-- as many on one side as on the other
pub as_many : {A B : Type 0} (R : A → B → Type 0) (xs : List A) (ys : List B) → AllZip R xs ys → length xs ≡ length ys
as_many R [] [] h = refl
as_many R [] (y ∷ ys) h = absurd h
as_many R (x ∷ xs) [] h = absurd h
as_many R (x ∷ xs) (y ∷ ys) h = ap suc (as_many R xs ys h.1)

pub map_push : {A B : Type 0} (f : A → B) (xs : List A) (x : A) → map f (xs ++ x ∷ []) ≡ map f xs ++ f x ∷ []
map_push f [] x = refl
map_push {B = B} f (y ∷ xs) x = ap (λ (zs : List B). f y ∷ zs) (map_push f xs x)

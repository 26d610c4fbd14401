-- What is read is spelt so, and what is spelt so is read: the ways in which fields are made of others keep both.
use Rattle.std.proofs.Common.{◌≡◌, ℕ, zero, suc, ◌+◌, ◌^◌, ◌<◌, ◌≤◌, Bool, true, false, cond, ltb, List, [], ◌∷◌, ◌++◌, length, get_or, take, drop, Option, Some, None, Result, Ok, Err, refl, sym, ap, subst, ◌∙◌, append_assoc, arith, inl, inr}
use Rattle.std.specs.Prelude.{slice_get}
use Rattle.std.specs.List.{flat_map, AllByRecursion}
use Rattle.std.specs.Int.{w64, from_be_bytes}
use Rattle.std.proofs.lemmas.Bool.{cases_lt, ltb-false, le-ltb}
use Rattle.std.proofs.lemmas.List.{take_at, drop_at, take-append-drop, length-append, length-take, get_or-drop, get_or-take, get_or_past}
use Rattle.std.proofs.lemmas.List.Concat.{flat_map-cons}
use Rattle.std.proofs.lemmas.Nat.{be_bytes_8, from_be_bytes-to_be_bytes_8}
use Rattle.jx_portion.specs.declared.fault.Field.{Field}
use Rattle.jx_portion.specs.declared.fault.RunFault.{RunFault}
use Rattle.jx_portion.specs.declared.fault.RunFault.TheVariants.{CutShort}
use Rattle.jx_portion.specs.Reading.{◌>>=◌, chosen, choice_at, many_at, number_at, optional_at, several_at}
use Rattle.jx_portion.specs.Spelling.{number, optional, several, IfThere, AreSpelt}

abbrev pub IsBytes : List ℕ → Type 0
IsBytes bytes = (i : ℕ) → get_or bytes i 0 < 256

pub IsBytes-drop : (n : ℕ) (bytes : List ℕ) → IsBytes bytes → IsBytes (drop n bytes)
IsBytes-drop n bytes h i = rw get_or-drop (h (n + i))

pub IsBytes-take : (n : ℕ) (bytes : List ℕ) → IsBytes bytes → IsBytes (take n bytes)
IsBytes-take n bytes h i =
    elim (cases_lt i n) [
      | inl lt ↦ rw (get_or-take n bytes i 0 lt) (h i)
      | inr le ↦ rw (get_or_past (take n bytes) i 0 (omega (arith, length-take n bytes))) (omega arith)
    ]

IsBytes-rest : (b : ℕ) (bytes : List ℕ) → IsBytes (b ∷ bytes) → IsBytes bytes
IsBytes-rest b bytes h i = h (suc i)

-- the value of a step that did not fail
pub bind_ok : {A B : Type 0} (r : Result A RunFault) (f : A → Result B RunFault) (y : B) → (r >>= f) ≡ Ok y → (x : A) × (r ≡ Ok x) × (f x ≡ Ok y)
bind_ok (Ok x) f y e = (x, refl, e)
bind_ok (Err d) f y e = absurd cc

-- tests that did not fail
pub guard_ok : {A : Type 0} (b : Bool) (d : RunFault) (x y : A) → cond b (Err d) (Ok x) ≡ Ok y → (b ≡ false) × (x ≡ y)
guard_ok true d x y e = absurd cc
guard_ok false d x y e = (refl, cc)

pub guard_err : {A : Type 0} (b : Bool) (d : RunFault) (r : Result A RunFault) (y : A) → cond b (Err d) r ≡ Ok y → (b ≡ false) × (r ≡ Ok y)
guard_err true d r y e = absurd cc
guard_err false d r y e = (refl, e)

abbrev pub done : {A : Type 0} → A → Result A RunFault
done x = Ok x

pub ok_is : {A : Type 0} (x y : A) → done x ≡ done y → x ≡ y
ok_is x y e = cc

abbrev pub Took : {A : Type 0} → (A → List ℕ) → (A → Type 0) → List ℕ → A × List ℕ → Type 0
Took spell fits bytes x = (bytes ≡ spell x.0 ++ x.1) × IsBytes x.1 × fits x.0

pub record Law {A : Type 0} (spell : A → List ℕ) (at : List ℕ → Result (A × List ℕ) RunFault) (fits : A → Type 0) : Type 0 where
  pub takes : (bytes : List ℕ) (x : A × List ℕ) → IsBytes bytes → at bytes ≡ Ok x → Took spell fits bytes x
  pub again : (x : A) (rest : List ℕ) → fits x → at (spell x ++ rest) ≡ Ok (x, rest)

-- ---- numbers

number_back : (bytes : List ℕ) → length bytes ≡ 8 → IsBytes bytes → number (from_be_bytes w64 bytes) ≡ bytes
unfolding number
number_back bytes len fits = be_bytes_8 bytes _ len fits refl

pub length-number : (n : ℕ) → length (number n) ≡ 8
unfolding number
length-number n = refl

number_value : (n : ℕ) → n < 2 ^ 64 → from_be_bytes w64 (number n) ≡ n
unfolding number
number_value n lt = from_be_bytes-to_be_bytes_8 n lt

number_takes : (bytes : List ℕ) (x : ℕ × List ℕ) → IsBytes bytes → number_at bytes ≡ Ok x → Took number (λ n. n < 2 ^ 64) bytes x
unfolding number_at
number_takes bytes x fits e =
    let g = guard_ok (ltb (length bytes) 8) CutShort (from_be_bytes w64 (take 8 bytes), drop 8 bytes) x e in
    let long : 8 ≤ length bytes = ltb-false _ _ g.0 in
    let len : length (take 8 bytes) ≡ 8 = omega (arith, length-take 8 bytes) in
    let bytes-are : IsBytes (take 8 bytes) = IsBytes-take 8 bytes fits in
    let front : number (from_be_bytes w64 (take 8 bytes)) ≡ take 8 bytes = number_back (take 8 bytes) len bytes-are in
    let below : from_be_bytes w64 (take 8 bytes) < 2 ^ 64 = omega (arith, bytes-are 0, bytes-are 1, bytes-are 2, bytes-are 3, bytes-are 4, bytes-are 5, bytes-are 6, bytes-are 7) in
    subst (λ (y : ℕ × List ℕ). Took number (λ n. n < 2 ^ 64) bytes y) g.1 (rw front (sym (take-append-drop 8 bytes)), IsBytes-drop 8 bytes fits, below)

number_again : (n : ℕ) (rest : List ℕ) → n < 2 ^ 64 → number_at (number n ++ rest) ≡ Ok (n, rest)
unfolding number_at
number_again n rest lt =
    let len : length (number n) ≡ 8 = length-number n in
    let long : ltb (length (number n ++ rest)) 8 ≡ false = le-ltb _ _ (omega (arith, length-append (number n) rest)) in
    rw (long, take_at (number n) rest 8 len, drop_at (number n) rest 8 len, number_value n lt) refl

pub number_law : Law number number_at (λ n. n < 2 ^ 64)
number_law = record { takes = number_takes; again = number_again }

-- ---- choices

-- the number of each is its place
abbrev pub AreNumbered : {A : Type 0} → (A → ℕ) → ℕ → List A → Type 0
AreNumbered f k [] = Unit {0}
AreNumbered f k (x ∷ xs) = (f x ≡ k) × AreNumbered f (suc k) xs

numbered : {A : Type 0} (f : A → ℕ) (k : ℕ) (xs : List A) (b : ℕ) (x : A) → AreNumbered f k xs → slice_get xs b ≡ Some x → f x ≡ k + b
numbered f k [] b x h e = absurd cc
numbered f k (y ∷ ys) zero x h e =
    let same : y ≡ x = cc in
    rw (← same) (omega (arith, h.0))
numbered f k (y ∷ ys) (suc b) x h e = omega (arith, numbered f (suc k) ys b x h.1 e)

chosen_is : {A : Type 0} (fault : Field) (rest : List ℕ) (o : Option A) (x : A × List ℕ) → chosen fault rest o ≡ Ok x → (o ≡ Some x.0) × (rest ≡ x.1)
chosen_is {A = A} fault rest None x e = absurd cc
chosen_is {A = A} fault rest (Some y) x e = (ap (λ (p : A × List ℕ). Some p.0) (ok_is (y, rest) x e), ap (λ (p : A × List ℕ). p.1) (ok_is (y, rest) x e))

choice_takes : {A : Type 0} (f : A → ℕ) (all : List A) (fault : Field) → AreNumbered f 0 all
    → (bytes : List ℕ) (x : A × List ℕ) → IsBytes bytes → choice_at all fault bytes ≡ Ok x → Took (λ y. f y ∷ []) (λ _. Unit {0}) bytes x
choice_takes f all fault h [] x fits e = absurd cc
choice_takes f all fault h (b ∷ bytes) x fits e =
    let c = chosen_is fault bytes (slice_get all b) x e in
    let same : f x.0 ≡ b = omega (arith, numbered f 0 all b x.0 h c.0) in
    (rw (same, ← c.1) refl, rw (← c.1) (IsBytes-rest b bytes fits), tt)

choice_again : {A : Type 0} (f : A → ℕ) (all : List A) (fault : Field) → ((x : A) → slice_get all (f x) ≡ Some x)
    → (x : A) (rest : List ℕ) → Unit {0} → choice_at all fault ((f x ∷ []) ++ rest) ≡ Ok (x, rest)
choice_again f all fault there x rest h = rw (there x) refl

pub choice_law : {A : Type 0} (f : A → ℕ) (all : List A) (fault : Field) → AreNumbered f 0 all → ((x : A) → slice_get all (f x) ≡ Some x) → Law (λ x. f x ∷ []) (choice_at all fault) (λ _. Unit {0})
choice_law f all fault h there = record { takes = choice_takes f all fault h; again = choice_again f all fault there }

-- ---- what may be absent

optional_takes : {A : Type 0} (spell : A → List ℕ) (at : List ℕ → Result (A × List ℕ) RunFault) (fits : A → Type 0) → Law spell at fits
    → (bytes : List ℕ) (x : Option A × List ℕ) → IsBytes bytes → optional_at at bytes ≡ Ok x → Took (optional spell) (IfThere fits) bytes x
unfolding optional_at
optional_takes {A = A} spell at fits law [] x bs e = absurd cc
optional_takes {A = A} spell at fits law (zero ∷ bytes) x bs e =
    subst (λ (y : Option A × List ℕ). Took (optional spell) (IfThere fits) (0 ∷ bytes) y) (ok_is (None, bytes) x e) (refl, IsBytes-rest 0 bytes bs, tt)
optional_takes {A = A} spell at fits law (suc zero ∷ bytes) x bs e =
    let b = bind_ok (at bytes) (λ y. Ok (Some y.0, y.1)) x e in
    let t = law.takes bytes b.0 (IsBytes-rest 1 bytes bs) b.1 in
    subst (λ (y : Option A × List ℕ). Took (optional spell) (IfThere fits) (1 ∷ bytes) y) (ok_is (Some b.0.0, b.0.1) x b.2) (ap (λ (w : List ℕ). 1 ∷ w) t.0, t.1, t.2)
optional_takes {A = A} spell at fits law (suc (suc b) ∷ bytes) x bs e = absurd cc

optional_again : {A : Type 0} (spell : A → List ℕ) (at : List ℕ → Result (A × List ℕ) RunFault) (fits : A → Type 0) → Law spell at fits
    → (o : Option A) (rest : List ℕ) → IfThere fits o → optional_at at (optional spell o ++ rest) ≡ Ok (o, rest)
unfolding optional_at
optional_again spell at fits law None rest h = refl
optional_again spell at fits law (Some x) rest h = rw (law.again x rest h) refl

pub optional_law : {A : Type 0} (spell : A → List ℕ) (at : List ℕ → Result (A × List ℕ) RunFault) (fits : A → Type 0) → Law spell at fits → Law (optional spell) (optional_at at) (IfThere fits)
optional_law spell at fits law = record { takes = optional_takes spell at fits law; again = optional_again spell at fits law }

-- ---- several

many_takes : {A : Type 0} (spell : A → List ℕ) (at : List ℕ → Result (A × List ℕ) RunFault) (fits : A → Type 0) → Law spell at fits
    → (n : ℕ) (bytes : List ℕ) (x : List A × List ℕ) → IsBytes bytes → many_at at n bytes ≡ Ok x → Took (flat_map spell) (λ xs. (length xs ≡ n) × AllByRecursion fits xs) bytes x
unfolding many_at
many_takes {A = A} spell at fits law zero bytes x bs e =
    subst (λ (y : List A × List ℕ). Took (flat_map spell) (λ xs. (length xs ≡ 0) × AllByRecursion fits xs) bytes y) (ok_is ([], bytes) x e) (refl, bs, (refl, tt))
many_takes {A = A} spell at fits law (suc n) bytes x bs e =
    let a = bind_ok (at bytes) (λ first. many_at at n first.1 >>= λ others. Ok (first.0 ∷ others.0, others.1)) x e in
    let b = bind_ok (many_at at n a.0.1) (λ others. Ok (a.0.0 ∷ others.0, others.1)) x a.2 in
    let first = law.takes bytes a.0 bs a.1 in
    let second = many_takes spell at fits law n a.0.1 b.0 first.1 b.1 in
    let whole : bytes ≡ (spell a.0.0 ++ flat_map spell b.0.0) ++ b.0.1 = first.0 ∙ ap (λ (t : List ℕ). spell a.0.0 ++ t) second.0 ∙ sym (append_assoc (spell a.0.0) (flat_map spell b.0.0) b.0.1) in
    let made : List A × List ℕ = (a.0.0 ∷ b.0.0, b.0.1) in
    subst (λ (y : List A × List ℕ). Took (flat_map spell) (λ xs. (length xs ≡ suc n) × AllByRecursion fits xs) bytes y) (ok_is made x b.2) (rw flat_map-cons whole, second.1, (ap suc second.2.0, (first.2, second.2.1)))

pub many_again : {A : Type 0} (spell : A → List ℕ) (at : List ℕ → Result (A × List ℕ) RunFault) (fits : A → Type 0) → Law spell at fits
    → (xs : List A) (rest : List ℕ) → AllByRecursion fits xs → many_at at (length xs) (flat_map spell xs ++ rest) ≡ Ok (xs, rest)
unfolding many_at
many_again spell at fits law [] rest h = refl
many_again spell at fits law (x ∷ xs) rest h =
    let regrouped : flat_map spell (x ∷ xs) ++ rest ≡ spell x ++ (flat_map spell xs ++ rest) = ap (λ (l : List ℕ). l ++ rest) (flat_map-cons spell x xs) ∙ append_assoc (spell x) (flat_map spell xs) rest in
    ap (many_at at (suc (length xs))) regrouped ∙ rw (law.again x (flat_map spell xs ++ rest) h.0, many_again spell at fits law xs rest h.1) refl

several_takes : {A : Type 0} (spell : A → List ℕ) (at : List ℕ → Result (A × List ℕ) RunFault) (fits : A → Type 0) → Law spell at fits
    → (bytes : List ℕ) (x : List A × List ℕ) → IsBytes bytes → several_at at bytes ≡ Ok x → Took (several spell) (AreSpelt fits) bytes x
unfolding several_at
several_takes spell at fits law bytes x bs e =
    let a = bind_ok (number_at bytes) (λ count. many_at at count.0 count.1) x e in
    let first = number_takes bytes a.0 bs a.1 in
    let second = many_takes spell at fits law a.0.0 a.0.1 x first.1 a.2 in
    let whole : bytes ≡ (number a.0.0 ++ flat_map spell x.0) ++ x.1 = first.0 ∙ ap (λ (t : List ℕ). number a.0.0 ++ t) second.0 ∙ sym (append_assoc (number a.0.0) (flat_map spell x.0) x.1) in
    (rw second.2.0 whole, second.1, (rw second.2.0 first.2, second.2.1))

several_again : {A : Type 0} (spell : A → List ℕ) (at : List ℕ → Result (A × List ℕ) RunFault) (fits : A → Type 0) → Law spell at fits
    → (xs : List A) (rest : List ℕ) → AreSpelt fits xs → several_at at (several spell xs ++ rest) ≡ Ok (xs, rest)
unfolding several_at
several_again spell at fits law xs rest h =
    let regrouped : several spell xs ++ rest ≡ number (length xs) ++ (flat_map spell xs ++ rest) = append_assoc (number (length xs)) (flat_map spell xs) rest in
    ap (several_at at) regrouped ∙ rw (number_again (length xs) (flat_map spell xs ++ rest) h.0) (many_again spell at fits law xs rest h.1)

pub several_law : {A : Type 0} (spell : A → List ℕ) (at : List ℕ → Result (A × List ℕ) RunFault) (fits : A → Type 0) → Law spell at fits → Law (several spell) (several_at at) (AreSpelt fits)
several_law spell at fits law = record { takes = several_takes spell at fits law; again = several_again spell at fits law }

-- ---- fields behind one another

-- one more field in front
pub in_front : (bytes one rest two end : List ℕ) → bytes ≡ one ++ rest → rest ≡ two ++ end → bytes ≡ (one ++ two) ++ end
in_front bytes one rest two end e f = e ∙ ap (λ (t : List ℕ). one ++ t) f ∙ sym (append_assoc one two end)

-- two fields
pub two : {A B C : Type 0} (sa : A → List ℕ) (aa : List ℕ → Result (A × List ℕ) RunFault) (fa : A → Type 0) (sb : B → List ℕ) (ab : List ℕ → Result (B × List ℕ) RunFault) (fb : B → Type 0)
    → Law sa aa fa → Law sb ab fb → (make : A → B → C) (first : C → A) (second : C → B) → ((c : C) → make (first c) (second c) ≡ c) → ((a : A) (b : B) → first (make a b) ≡ a) → ((a : A) (b : B) → second (make a b) ≡ b)
    → Law (λ c. sa (first c) ++ sb (second c)) (λ bytes. aa bytes >>= λ x. ab x.1 >>= λ y. Ok (make x.0 y.0, y.1)) (λ c. fa (first c) × fb (second c))
two {A = A} {B = B} {C = C} sa aa fa sb ab fb la lb make first second whole first-is second-is = record {
  takes = λ bytes z bs e.
      let a = bind_ok (aa bytes) (λ x. ab x.1 >>= λ y. Ok (make x.0 y.0, y.1)) z e in
      let b = bind_ok (ab a.0.1) (λ y. Ok (make a.0.0 y.0, y.1)) z a.2 in
      let ta = la.takes bytes a.0 bs a.1 in
      let tb = lb.takes a.0.1 b.0 ta.1 b.1 in
      let made : C × List ℕ = (make a.0.0 b.0.0, b.0.1) in
      subst (λ (y : C × List ℕ). Took (λ c. sa (first c) ++ sb (second c)) (λ c. fa (first c) × fb (second c)) bytes y) (ok_is made z b.2)
      (rw (first-is a.0.0 b.0.0, second-is a.0.0 b.0.0) (in_front bytes (sa a.0.0) a.0.1 (sb b.0.0) b.0.1 ta.0 tb.0, tb.1, (ta.2, tb.2)));
  again = λ c rest h.
      rw (append_assoc (sa (first c)) (sb (second c)) rest, la.again (first c) (sb (second c) ++ rest) h.0, lb.again (second c) rest h.1, whole c) refl;
}

-- three fields
pub three : {A B C D : Type 0} (sa : A → List ℕ) (aa : List ℕ → Result (A × List ℕ) RunFault) (fa : A → Type 0) (sb : B → List ℕ) (ab : List ℕ → Result (B × List ℕ) RunFault) (fb : B → Type 0)
    → (sc : C → List ℕ) (ac : List ℕ → Result (C × List ℕ) RunFault) (fc : C → Type 0)
    → Law sa aa fa → Law sb ab fb → Law sc ac fc → (make : A → B → C → D) (first : D → A) (second : D → B) (third : D → C) → ((d : D) → make (first d) (second d) (third d) ≡ d)
    → ((a : A) (b : B) (c : C) → first (make a b c) ≡ a) → ((a : A) (b : B) (c : C) → second (make a b c) ≡ b) → ((a : A) (b : B) (c : C) → third (make a b c) ≡ c)
    → Law (λ d. sa (first d) ++ sb (second d) ++ sc (third d)) (λ bytes. aa bytes >>= λ x. ab x.1 >>= λ y. ac y.1 >>= λ z. Ok (make x.0 y.0 z.0, z.1)) (λ d. fa (first d) × fb (second d) × fc (third d))
three {A = A} {B = B} {C = C} {D = D} sa aa fa sb ab fb sc ac fc la lb lc make first second third whole first-is second-is third-is = record {
  takes = λ bytes w bs e.
      let a = bind_ok (aa bytes) (λ x. ab x.1 >>= λ y. ac y.1 >>= λ z. Ok (make x.0 y.0 z.0, z.1)) w e in
      let b = bind_ok (ab a.0.1) (λ y. ac y.1 >>= λ z. Ok (make a.0.0 y.0 z.0, z.1)) w a.2 in
      let c = bind_ok (ac b.0.1) (λ z. Ok (make a.0.0 b.0.0 z.0, z.1)) w b.2 in
      let ta = la.takes bytes a.0 bs a.1 in
      let tb = lb.takes a.0.1 b.0 ta.1 b.1 in
      let tc = lc.takes b.0.1 c.0 tb.1 c.1 in
      let made : D × List ℕ = (make a.0.0 b.0.0 c.0.0, c.0.1) in
      let front = in_front bytes (sa a.0.0) a.0.1 (sb b.0.0) b.0.1 ta.0 tb.0 in
      subst (λ (y : D × List ℕ). Took (λ d. sa (first d) ++ sb (second d) ++ sc (third d)) (λ d. fa (first d) × fb (second d) × fc (third d)) bytes y) (ok_is made w c.2)
      (rw (first-is a.0.0 b.0.0 c.0.0, second-is a.0.0 b.0.0 c.0.0, third-is a.0.0 b.0.0 c.0.0) (in_front bytes (sa a.0.0 ++ sb b.0.0) b.0.1 (sc c.0.0) c.0.1 front tc.0, tc.1, (ta.2, tb.2, tc.2)));
  again = λ d rest h.
      rw (append_assoc (sa (first d) ++ sb (second d)) (sc (third d)) rest, append_assoc (sa (first d)) (sb (second d)) (sc (third d) ++ rest), la.again (first d) (sb (second d) ++ (sc (third d) ++ rest)) h.0, lb.again (second d) (sc (third d) ++ rest) h.1, lc.again (third d) rest h.2, whole d) refl;
}

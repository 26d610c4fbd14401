-- The names of choices in a row.
use Rattle.std.proofs.Common.{◌≡◌, ℕ, ◌+◌, ◌<◌, ◌≤◌, Bool, true, false, Option, Some, None, List, [], ◌∷◌, ◌++◌, drop, get_or, length, take, refl, sym, ◌∙◌, ap, append_assoc, append-nil, length-append, take-append-drop, Bor, add-zero, zero-add, arith, rules, lit≤}
use Rattle.std.proofs.lemmas.List.{take_more}
use Rattle.std.specs.Prelude.{codes, is_ok, is_some, if◌then◌else◌, OnOk, Result, Ok, Err, option_copied}
use Rattle.std.proofs.lemmas.List.Elements.{filter_map-append}
use Rattle.std.specs.List.{cons_option}
use Rattle.jx_lex.specs.declared.alphabet.state.LexState.{LexState}
use Rattle.jx_lex.specs.declared.alphabet.state.LexState.TheVariants as state
use Rattle.jx_reduce.specs.declared.table.expect.Expect.{Expect}
use Rattle.jx_reduce.specs.declared.table.expect.Expect.TheVariants as expect
use Rattle.jx_reduce.specs.declared.table.holder.Holder.{Holder}
use Rattle.jx_reduce.specs.declared.table.holder.Holder.TheVariants as holder
use Rattle.jx_sentence.specs.Choices.{choices, choices_between, choices_inside, may_end, where_ended}
use Rattle.jx_sentence.specs.Words.{listed, listed_before, name_of, names_of, separator}
use Rattle.jx_sentence.specs.declared.choice.Choice.{Choice}

-- ---- parts of a row

listed-append : (n : ℕ) (xs ys : List (List ℕ)) → listed_before n (xs ++ ys) ≡ listed_before (length ys + n) xs ++ listed_before n ys
unfolding listed_before
listed-append n [] ys = refl
listed-append n (x ∷ xs) ys =
    let same : length (xs ++ ys) + n ≡ length xs + (length ys + n) = omega (arith, length-append xs ys) in
    let more : listed_before n (xs ++ ys) ≡ listed_before (length ys + n) xs ++ listed_before n ys = listed-append n xs ys in
    simp (same, more, append_assoc)

listed-some : (names : List (List ℕ)) → (length names ≡ 0 → ⊥) → listed names ≡ listed_before 0 names
unfolding listed
listed-some [] some = absurd (some refl)
listed-some (x ∷ xs) some = refl

listed-none : (names : List (List ℕ)) → length names ≡ 0 → listed names ≡ codes "the end of the text"
unfolding listed
listed-none [] none = refl
listed-none (x ∷ xs) none = absurd (omega arith)

both : (inside between : List Choice) → length (names_of (inside ++ between)) ≡ length (names_of inside) + length (names_of between)
both inside between = ap length (filter_map-append name_of inside between) ∙ length-append (names_of inside) (names_of between)

-- those that go on with a token, and then those between tokens
pub joined : (inside between all : List Choice) → inside ++ between ≡ all → (length (names_of between) ≡ 0 → length (names_of inside) ≡ 0 → ⊥)
    → listed (names_of all) ≡ listed_before (length (names_of between)) (names_of inside) ++ listed_before 0 (names_of between)
joined inside between all is some =
    let names : names_of all ≡ names_of inside ++ names_of between = ap names_of (sym is) ∙ filter_map-append name_of inside between in
    let count : length (names_of all) ≡ length (names_of inside) + length (names_of between) = ap (λ (cs : List Choice). length (names_of cs)) (sym is) ∙ both inside between in
    let any : length (names_of all) ≡ 0 → ⊥ = λ none. some (omega arith) (omega arith) in
    let k : ℕ = length (names_of between) in
    listed-some (names_of all) any ∙ ap (listed_before 0) names ∙ listed-append 0 (names_of inside) (names_of between)
    ∙ ap (λ (m : ℕ). listed_before m (names_of inside) ++ listed_before 0 (names_of between)) (add-zero k)

-- none are named
pub at_end : (inside between all : List Choice) → inside ++ between ≡ all → length (names_of between) ≡ 0 → length (names_of inside) ≡ 0
    → listed (names_of all) ≡ codes "the end of the text"
at_end inside between all is no_between no_inside =
    let count : length (names_of all) ≡ length (names_of inside) + length (names_of between) = ap (λ (cs : List Choice). length (names_of cs)) (sym is) ∙ both inside between in
    listed-none (names_of all) (omega arith)

-- ---- one by one

step : (i : ℕ) (xs : List Choice) (d : Choice) → i < length xs → names_of (take (i + 1) xs) ≡ names_of (take i xs) ++ names_of (get_or xs i d ∷ [])
step i xs d low = ap names_of (take_more xs i d low) ∙ filter_map-append name_of (take i xs) (get_or xs i d ∷ [])

-- one that is named
pub named_more : (i : ℕ) (xs : List Choice) (d : Choice) (named : Option (List ℕ)) (name : List ℕ) → i < length xs → named ≡ name_of (get_or xs i d) → named ≡ Some name
    → names_of (take (i + 1) xs) ≡ names_of (take i xs) ++ name ∷ []
named_more i xs d named name low is some =
    step i xs d low ∙ ap (λ (o : Option (List ℕ)). names_of (take i xs) ++ cons_option o []) (sym is ∙ some)

-- one that is not
pub passed_more : (i : ℕ) (xs : List Choice) (d : Choice) (named : Option (List ℕ)) → i < length xs → named ≡ name_of (get_or xs i d) → named ≡ None
    → names_of (take (i + 1) xs) ≡ names_of (take i xs)
passed_more i xs d named low is none =
    step i xs d low ∙ ap (λ (o : Option (List ℕ)). names_of (take i xs) ++ cons_option o []) (sym is ∙ none) ∙ append-nil (names_of (take i xs))

-- how many
pub count_more : (i : ℕ) (xs : List Choice) (d : Choice) (named : Option (List ℕ)) (name : List ℕ) → i < length xs → named ≡ name_of (get_or xs i d) → named ≡ Some name
    → length (names_of (take (i + 1) xs)) ≡ length (names_of (take i xs)) + 1
count_more i xs d named name low is some =
    ap length (named_more i xs d named name low is some) ∙ length-append (names_of (take i xs)) (name ∷ [])

pub copied_some : {X : Type 0} (o : Option (Bor X)) → is_some (option_copied o) ≡ is_some o
copied_some None = refl
copied_some (Some x) = refl

pub some_of : {X : Type 0} (o : Option X) → is_some o ≡ true → (x : X) × (o ≡ Some x)
some_of None some = absurd cc
some_of (Some x) some = (x, refl)

pub none_of : {X : Type 0} (o : Option X) → is_some o ≡ false → o ≡ None
none_of None none = refl
none_of (Some x) none = absurd cc

-- those up to a place are among all
pub taken : (i : ℕ) (xs : List Choice) → length (names_of (take i xs)) ≤ length (names_of xs)
taken i xs =
    let all : length (names_of xs) ≡ length (names_of (take i xs)) + length (names_of (drop i xs)) =
    ap (λ (cs : List Choice). length (names_of cs)) (sym (take-append-drop i xs)) ∙ both (take i xs) (drop i xs) in
    omega (arith, all)

-- a row that goes on with a name, which so many follow
pub listed_more : (k : ℕ) (ns : List (List ℕ)) (name : List ℕ) → listed_before (k + 1) ns ++ (name ++ separator k) ≡ listed_before k (ns ++ name ∷ [])
unfolding listed_before
listed_more k ns name =
    let count : k + 1 ≡ length (name ∷ []) + k = omega arith in
    let last : name ++ separator k ≡ listed_before k (name ∷ []) = simp (zero-add, append-nil) in
    ap (λ (m : ℕ). listed_before m ns ++ (name ++ separator k)) count ∙ ap (λ (l : List ℕ). listed_before (length (name ∷ []) + k) ns ++ l) last
    ∙ sym (listed-append k ns (name ∷ []))

pub listed-nil : (n : ℕ) → listed_before n [] ≡ []
unfolding listed_before
listed-nil n = refl

pub written : (base out mid new : List ℕ) (left k : ℕ) (ns next : List (List ℕ)) (name between : List ℕ) → out ≡ base ++ listed_before left ns → mid ≡ out ++ name
    → new ≡ mid ++ between → between ≡ separator k → left ≡ k + 1 → next ≡ ns ++ name ∷ [] → new ≡ base ++ listed_before k next
written base out mid new left k ns next name between before one two sep one_more is =
    two ∙ ap (λ (l : List ℕ). l ++ between) one
    ∙ ap (λ (l : List ℕ). (l ++ name) ++ between) before
    ∙ ap (λ (l : List ℕ). ((base ++ listed_before left ns) ++ name) ++ l) sep
    ∙ append_assoc (base ++ listed_before left ns) name (separator k)
    ∙ append_assoc base (listed_before left ns) (name ++ separator k)
    ∙ ap (λ (j : ℕ). base ++ (listed_before j ns ++ (name ++ separator k))) one_more
    ∙ ap (λ (l : List ℕ). base ++ l) (listed_more k ns name)
    ∙ ap (λ (l : List (List ℕ)). base ++ listed_before k l) (sym is)

-- ---- they are few

pub named_few : (xs : List Choice) → length (names_of xs) ≤ length xs
named_few [] = lit≤ tt
named_few (x ∷ xs) = elim (name_of x) as (λ (o : Option (List ℕ)). length (cons_option o (names_of xs)) ≤ length (x ∷ xs)) [
  | None ↦ omega (arith, named_few xs)
  | Some name ↦ omega (arith, named_few xs)
]

few_inside : (s : LexState) → length (choices_inside s) ≤ 3
few_inside state.Gap = lit≤ tt
few_inside _ = lit≤ tt

few_between : (next : Expect) (top : Holder) → length (choices_between next top) ≤ 3
few_between expect.Value top = lit≤ tt
few_between expect.ArrayFirst holder.Array = lit≤ tt
few_between expect.ArrayFirst _ = lit≤ tt
few_between expect.ObjectFirst holder.Array = lit≤ tt
few_between expect.ObjectFirst _ = lit≤ tt
few_between expect.Name top = lit≤ tt
few_between expect.Colon top = lit≤ tt
few_between expect.After holder.Array = lit≤ tt
few_between expect.After _ = lit≤ tt

few_ended : (b : Bool) (next : Expect) (top : Holder) → length (where_ended b (choices_between next top)) ≤ 3
few_ended true next top = few_between next top
few_ended false next top = lit≤ tt

pub few : (s : LexState) (next : Expect) (top : Holder) (inside between : List Choice) → inside ++ between ≡ choices s next top
    → length inside + length between ≤ 6
few s next top inside between is =
    let all : length (inside ++ between) ≡ length (choices s next top) = ap length is in
    let parts : length (choices s next top) ≡ length (choices_inside s) + length (where_ended (may_end s) (choices_between next top)) =
    length-append (choices_inside s) (where_ended (may_end s) (choices_between next top)) in
    let a : length (choices_inside s) ≤ 3 = few_inside s in
    let b : length (where_ended (may_end s) (choices_between next top)) ≤ 3 = few_ended (may_end s) next top in
    omega (arith, length-append inside between)

-- ---- two writes, one after another

pub follows : {T E : Type 0} (r : Result T E) (new mid old a b all : List ℕ) → OnOk r (new ≡ mid ++ b) → mid ≡ old ++ a → all ≡ a ++ b → OnOk r (new ≡ old ++ all)
follows (Ok x) new mid old a b all is before whole =
    is ∙ ap (λ (l : List ℕ). l ++ b) before ∙ append_assoc old a b ∙ ap (λ (l : List ℕ). old ++ l) (sym whole)
follows (Err e) new mid old a b all is before whole = is

pub pushed : {T E : Type 0} (r : Result T E) (new mid old a b all : List ℕ) → new ≡ (if is_ok r then mid ++ b else mid) → mid ≡ old ++ a → all ≡ a ++ b
    → OnOk r (new ≡ old ++ all)
pushed (Ok x) new mid old a b all is before whole =
    is ∙ ap (λ (l : List ℕ). l ++ b) before ∙ append_assoc old a b ∙ ap (λ (l : List ℕ). old ++ l) (sym whole)
pushed (Err e) new mid old a b all is before whole = search rules

pub joins : (new mid old a b : List ℕ) → new ≡ mid ++ b → mid ≡ old ++ a → new ≡ old ++ (a ++ b)
joins new mid old a b is before = is ∙ ap (λ (l : List ℕ). l ++ b) before ∙ append_assoc old a b

-- How readings go on.
use Rattle.std.proofs.Common.{◌≡◌, ℕ, List, [], ◌++◌, length, Bool, true, false, refl, sym, subst, append_assoc, append-nil}
use Rattle.std.specs.Prelude.{Option, None, Some, Result, Err, IfErr}
use Rattle.jx_parallel.specs.declared.check_fault.CheckFault.{CheckFault}
use Rattle.jx_parallel.specs.declared.check_fault.CheckFault.TheVariants.{Memory, Read}
use Rattle.jx_parallel.specs.Faults.{IfRead}
use Rattle.jx_parallel.specs.Offsets.{EndsBefore, StandThere}
use Rattle.jx_parallel.specs.Parts.{GoesOn, HasReadAll, Readings}
use Rattle.jx_parallel.specs.inside.Placed.{IsPartBy, IsPlaced, PlacedValue}
use Rattle.jx_parallel.proofs.There.{front_there, is_whole}

-- a part that was judged by a rule
pub placed_by : {Rule Part : Type 0} (known : Option (List ℕ)) (is_part : Rule → ℕ → List ℕ → Part → Type 0) (ruled : Option Rule) (rule : Rule) (p : PlacedValue Part) → ruled ≡ Some rule
    → IsPlaced known (IsPartBy is_part ruled) p → IsPlaced known (is_part rule) p
placed_by known is_part ruled rule p by h = record { bytes = h.bytes; long = h.long; there = h.there; is = h.is rule by }

module _ {Given Reader : Type 0} (known : Option (List ℕ)) (has_read : Readings Given Reader) where
  pub stays : (reader : Reader) → GoesOn known has_read reader reader
  stays reader = λ xs given there h. ([], subst (λ (l : List ℕ). StandThere known 0 l) (sym (append-nil xs)) there, subst (λ (l : List ℕ). has_read l given reader) (sym (append-nil xs)) h)

  pub and_then : (a b c : Reader) → GoesOn known has_read a b → GoesOn known has_read b c → GoesOn known has_read a c
  and_then a b c first next = λ xs given there h.
      let f = first xs given there h in
      let n = next (xs ++ f.0) given f.1 f.2 in (
        f.0 ++ n.0,
        subst (λ (l : List ℕ). StandThere known 0 l) (append_assoc xs f.0 n.0) n.1,
        subst (λ (l : List ℕ). has_read l given c) (append_assoc xs f.0 n.0) n.2,
      )

  pub feeds : (old new : Reader) (end : ℕ) (more : List ℕ) → ((xs : List ℕ) (given : Given) → has_read xs given old → end ≡ length xs) → StandThere known end more
      → ((xs : List ℕ) (given : Given) → has_read xs given old → has_read (xs ++ more) given new) → GoesOn known has_read old new
  feeds old new end more long there reads = λ xs given front h.
      (more, front_there known xs more front (subst (λ (n : ℕ). StandThere known n more) (long xs given h) there), reads xs given h)

  pub takes : {Part : Type 0} (is_part : ℕ → List ℕ → Part → Type 0) (old new : Reader) (p : PlacedValue Part) → IsPlaced known is_part p
      → ((xs : List ℕ) (given : Given) → has_read xs given old → p.at ≡ length xs) → (took : Bool)
      → (took ≡ true → (xs ys : List ℕ) (given : Given) → has_read xs given old → length ys ≡ p.len → is_part (length xs) ys p.part → has_read (xs ++ ys) given new) → (took ≡ false → new ≡ old)
      → GoesOn known has_read old new
  takes is_part old new p h long true taken left = λ xs given front r.
      let meet : p.at ≡ length xs = long xs given r in (
        h.bytes,
        front_there known xs h.bytes front (subst (λ (n : ℕ). StandThere known n h.bytes) meet h.there),
        taken refl xs h.bytes given r h.long (subst (λ (n : ℕ). is_part n h.bytes p.part) meet h.is),
      )
  takes is_part old new p h long false taken left = subst (λ (r : Reader). GoesOn known has_read old r) (sym (left refl)) (stays old)

  -- a read fault that is handed on, from where a reader got to
  pub stops_behind : {T U E : Type 0} (a b c : Reader) (q : Result T (CheckFault E)) (r : Result U (CheckFault E)) (x y : CheckFault E) → GoesOn known has_read a b
      → IfErr q (IfRead (GoesOn known has_read b c)) → q ≡ Err x → r ≡ Err y → y ≡ x → IfErr r (IfRead (GoesOn known has_read a c))
  stops_behind {E = E} a b c q r x y first next was is same =
      let there : IfRead (GoesOn known has_read b c) x = subst (λ s. IfErr s (IfRead (GoesOn known has_read b c))) was next in
      subst (λ s. IfErr s (IfRead (GoesOn known has_read a c))) (sym is) (subst (λ (f : CheckFault E). IfRead (GoesOn known has_read a c) f) (sym same) (further x there))
    where
      further : (f : CheckFault E) → IfRead (GoesOn known has_read b c) f → IfRead (GoesOn known has_read a c) f
      further Memory h = tt
      further (Read reason) h = and_then a b c first h

none_there : (known : Option (List ℕ)) → StandThere known 0 []
none_there None = tt
none_there (Some ks) = refl

-- from the start to the end of a text
pub reads_all : {Given Reader : Type 0} (known : Option (List ℕ)) (has_read : Readings Given Reader) (old new : Reader) (end : ℕ) → GoesOn known has_read old new → EndsBefore known end
    → ((xs : List ℕ) (given : Given) → has_read xs given new → end ≡ length xs) → (given : Given) → has_read [] given old → HasReadAll known (λ xs. has_read xs given) new
reads_all known has_read old new end goes ends long given h =
    let f = goes [] given (none_there known) h in
    record { text = f.0; whole = is_whole known f.0 f.1 (subst (λ (n : ℕ). EndsBefore known n) (long f.0 given f.2) ends); read = f.2 }

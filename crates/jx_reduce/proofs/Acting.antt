-- The steps of `act`.
use Rattle.std.proofs.Common.{◌≡◌, ℕ, zero, suc, ◌+◌, ◌-◌, ◌≤◌, ◌<◌, List, [], ◌∷◌, ◌++◌, length, drop, take, get_or, refl, sym, Bool, true, false, ◌∙◌, arith, None}
use Rattle.std.specs.Prelude.{reverse, slice_get}
use Rattle.std.proofs.lemmas.List.{drop_more, take_more, reverse-append}
use Rattle.jx_reduce.specs.Form.{Form, Plain, along, end_fault_of, leading, halt, beyond}
use Rattle.jx_reduce.specs.Join.{all_faulted}
use Rattle.jx_reduce.specs.Fits.{Fits}
use Rattle.jx_reduce.proofs.Along.{along_same}
use Rattle.jx_reduce.proofs.Joined.{faulted_same}
use Rattle.jx_reduce.proofs.Reached.{slice_get_none}
use Rattle.jx_reduce.specs.Read.{top, without_top}
use Rattle.jx_reduce.specs.declared.table.holder.Holder.{Holder}
use Rattle.jx_reduce.specs.declared.table.holder.Holder.TheVariants.{Array}
use Rattle.jx_reduce.specs.declared.forms.ended_level.EndedLevel.{EndedLevel}

one_less : (hs : List Holder) (n : ℕ) → n ≤ length hs → without_top (reverse (take n hs)) ≡ reverse (take (n - 1) hs)
one_less hs zero h = refl
one_less hs (suc n) h =
    let e : take (suc n) hs ≡ take n hs ++ get_or hs n Array ∷ [] = (let a : n + 1 ≡ suc n = omega arith in rw a at (take_more hs n Array (omega arith))) in
    let m : suc n - 1 ≡ n = omega arith in
    rw (e, m, reverse-append)

pub one_level : (xs : List EndedLevel) (i : ℕ) (x : EndedLevel) (hs : List Holder) (left : ℕ) (k : List Holder → Plain) → i < length xs → left ≤ length hs
    → None ≡ end_fault_of (get_or xs i x) (top (reverse (take left hs)))
    → along (drop i xs) (reverse (take left hs)) k ≡ along (drop (i + 1) xs) (reverse (take (left - 1) hs)) k
one_level xs i x hs left k h g e =
    rw (drop_more xs i x h, ← e, one_less hs left g)

pub some_left : (x : EndedLevel) (hs : List Holder) (left : ℕ) → None ≡ end_fault_of x (top (reverse (take left hs))) → 0 < left
some_left x hs zero e = cc
some_left x hs (suc n) e = omega arith

-- where a list reaches the end, not all holders have faulted
pub not_all : (l : Form) (s t : List Holder) → ((k : List Holder → Plain) → leading l k s ≡ k t) → all_faulted l.last ≡ true → ⊥
not_all l s t h e =
    let same : leading l (λ _. beyond) s ≡ leading l (λ _. halt 0) s = along_same l.ended s _ _ (λ u _. faulted_same l.last (top u) beyond (halt 0) e) in
    let a : leading l (λ _. beyond) s ≡ beyond = h (λ _. beyond) in
    let b : leading l (λ _. halt 0) s ≡ halt 0 = h (λ _. halt 0) in
    let c : beyond ≡ halt 0 = sym a ∙ same ∙ b in cc

pub decided_there : (d : ℕ) (l : Form) (hs t : List Holder) (left : ℕ) → Fits d l → ((k : List Holder → Plain) → leading l k (reverse hs) ≡ k t) → l.exit ≡ None
    → left + length l.ended ≡ length hs → length hs ≤ d → None ≡ slice_get l.heights (d - length hs) → ⊥
decided_there d l hs t left f h e n short g = at (all_faulted l.last) refl where
  at : (b : Bool) → all_faulted l.last ≡ b → ⊥
  at true a = not_all l (reverse hs) t h a
  at false a = omega (arith, f.decided e a, n, short, slice_get_none l.heights (d - length hs) (sym g))

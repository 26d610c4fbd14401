-- A mark that is no fault of any holder standing, ends no level and reaches no new height changes only the open containers and the exit.
use Rattle.std.proofs.Common.{◌≡◌, ℕ, ◌+◌, ◌-◌, ◌<◌, ◌≤◌, List, [], ◌∷◌, ◌++◌, length, take, get_or, refl, sym, ap, subst, ◌∙◌, arith, Option, Some, None, true, false, is_some, if◌then◌else◌, ◌||◌, append-nil, inl, inr}
use Rattle.std.specs.Option.{option_to_list}
use Rattle.std.specs.Prelude.{◌⊎◌, reverse}
use Rattle.std.proofs.lemmas.Bool.{le-ltb}
use Rattle.std.proofs.lemmas.List.{take_all, drop_all, reverse-append}
use Rattle.std.specs.Int.Bits.{bit_and}
use Rattle.jx_reduce.specs.Entries.{leads_to}
use Rattle.jx_reduce.specs.Fits.{Fits}
use Rattle.jx_reduce.specs.Form.{Form, fault_of}
use Rattle.jx_reduce.specs.Join.{Tail, first_of, merged, no_faults, stop_or, with_tail, absorbed, joined_heights, all_faulted, cut, cut_short, base_at, joined}
use Rattle.jx_reduce.specs.Levels.{with_opens}
use Rattle.jx_reduce.specs.Marks.{faults_at, end_at, of_change, pushed, of_marks}
use Rattle.jx_reduce.specs.inside.Quiet.{bit_of, fault_bits, unfaulted, standing, AreLimits, GoesOn, IsAt, IsPassed}
use Rattle.jx_reduce.specs.Table.{change_of, same, added, removed}
use Rattle.jx_reduce.specs.declared.table.holder.Holder.{Holder}
use Rattle.jx_reduce.specs.declared.table.holder.Holder.TheVariants.{Array, Object, Bottom}
use Rattle.jx_reduce.specs.declared.forms.entry.Entry.{Entry}
use Rattle.jx_reduce.specs.declared.forms.level.Level.{Level}
use Rattle.jx_reduce.specs.declared.forms.quiet.Limits.{Limits}
use Rattle.jx_lex.specs.declared.alphabet.mark.Mark.{Mark}
use Rattle.jx_lex.specs.declared.alphabet.mark.MarkKind.{MarkKind}
use Rattle.jx_lex.specs.declared.alphabet.mark.MarkKind.TheVariants.{OpenArray, CloseArray, OpenObject, CloseObject, Comma, String, Number, True, False, Null, Colon}
use Rattle.jx_reduce.proofs.Along.{fault_of-no_faults}
use Rattle.jx_reduce.proofs.OneMark.{fault_of-faults_at, end_fault_of-end_at}
use Rattle.jx_reduce.proofs.Readings.{Fits-of_marks, of_one_more}
use Rattle.jx_reduce.proofs.HolderSets.{no_fault_of, no_new_fault}

-- containers stand innermost first, and the last of a list is innermost
pub reversed : (xs ys : List Holder) (h : Holder) → ys ≡ xs ++ h ∷ [] → reverse ys ≡ h ∷ reverse xs
reversed xs ys h e = ap reverse e ∙ reverse-append xs (h ∷ [])

pub popped : (xs ys : List Holder) (o : Option Holder) → xs ≡ ys ++ option_to_list o → is_some o ≡ true → (h : Holder) × (reverse xs ≡ h ∷ reverse ys)
popped xs ys None e i = cc
popped xs ys (Some h) e i = (h, reversed ys xs h e)

first_same : (a b : Option ℕ) → (is_some a ≡ false → b ≡ None) → first_of a b ≡ a
first_same None b h = h refl
first_same (Some p) b h = refl

-- faults of holders that have faulted before change nothing
merged_same : (f g : Level) → ((h : Holder) → is_some (fault_of f h) ≡ false → fault_of g h ≡ None) → merged f g ≡ f
merged_same f g h = rw (first_same f.array g.array (h Array), first_same f.object g.object (h Object), first_same f.bottom g.bottom (h Bottom))

module _ (d : ℕ) (r : Form) (os : List Holder) (x : Entry) (fits : Fits d (with_opens r os x)) where
  no_heights : (hs : List ℕ) → length hs ≤ (length r.heights + length r.ended) - length os → joined_heights d (with_opens r os x) hs ≡ r.heights
  no_heights hs few =
      ap (λ hs. take (d + 1) (r.heights ++ hs)) (drop_all ((length r.heights + length r.ended) - length os) hs few)
      ∙ ap (take (d + 1)) (append-nil r.heights)
      ∙ take_all (d + 1) r.heights fits.heights

-- what is no deeper and has not faulted is not cut
uncut : (d : ℕ) (r : Form) (os : List Holder) (x : Entry) → all_faulted r.last ≡ false → length os ≤ d → cut d (with_opens r os x) ≡ with_opens r os x
uncut d r os x goes_on low =
    ap (λ b. if b then cut_short (with_opens r os x) else with_opens r os x)
    (ap (λ b. b || all_faulted r.last) (le-ltb d (length os) low) ∙ goes_on)

-- no holder of the last level meets its first fault here
level_same : (r : Form) (x : Entry) (m : Mark) → bit_and (fault_bits m.kind x) (unfaulted r.last) ≡ 0 → merged r.last (faults_at x m) ≡ r.last
level_same r x m quiet = merged_same r.last (faults_at x m) (λ h e. fault_of-faults_at x m h ∙ no_new_fault x m r.last quiet h e)

pub quiet-same : (d : ℕ) (r : Form) (os : List Holder) (x : Entry) (m : Mark) → Fits d (with_opens r os x) → all_faulted r.last ≡ false
    → change_of m.kind ≡ same → bit_and (fault_bits m.kind x) (standing (unfaulted r.last) os) ≡ 0
    → pushed d (with_opens r os x) m ≡ with_opens r os (leads_to m.kind x)
quiet-same d r [] x m fits goes_on change quiet =
    let t : Tail = record { last = faults_at x m; opens = []; exit = Some (leads_to m.kind x) } in
    ap (λ c. joined d (with_opens r [] x) (of_change c x m)) change
    ∙ ap (λ hs. cut d (absorbed d [] t [] (base_at r.ended r.last hs))) (no_heights d r [] x fits [] (omega arith))
    ∙ ap (λ f. cut d (with_tail (base_at r.ended r.last r.heights) t f [])) (level_same r x m quiet)
    ∙ uncut d r [] (leads_to m.kind x) goes_on (omega arith)
quiet-same d r (o ∷ os) x m fits goes_on change quiet =
    let t : Tail = record { last = faults_at x m; opens = []; exit = Some (leads_to m.kind x) } in
    ap (λ c. joined d (with_opens r (o ∷ os) x) (of_change c x m)) change
    ∙ ap (λ hs. cut d (absorbed d [] t (o ∷ os) (base_at r.ended r.last hs))) (no_heights d r (o ∷ os) x fits [] (omega arith))
    ∙ ap (λ f. cut d (stop_or f (base_at r.ended r.last r.heights) (with_opens r (o ∷ os) (leads_to m.kind x)))) (fault_of-faults_at x m o ∙ no_fault_of x m o quiet)
    ∙ uncut d r (o ∷ os) (leads_to m.kind x) goes_on fits.opens

pub quiet-added : (d : ℕ) (r : Form) (os : List Holder) (x : Entry) (m : Mark) (h : Holder) → Fits d (with_opens r os x) → all_faulted r.last ≡ false
    → change_of m.kind ≡ added h → bit_and (fault_bits m.kind x) (standing (unfaulted r.last) os) ≡ 0
    → length os < d → length os < length r.ended + length r.heights
    → pushed d (with_opens r os x) m ≡ with_opens r (h ∷ os) (leads_to m.kind x)
quiet-added d r [] x m h fits goes_on change quiet deep low =
    let t : Tail = record { last = faults_at x m; opens = h ∷ []; exit = Some (leads_to m.kind x) } in
    ap (λ c. joined d (with_opens r [] x) (of_change c x m)) change
    ∙ ap (λ hs. cut d (absorbed d [] t [] (base_at r.ended r.last hs))) (no_heights d r [] x fits (m.at ∷ []) (omega (arith, low)))
    ∙ ap (λ f. cut d (with_tail (base_at r.ended r.last r.heights) t f (h ∷ []))) (level_same r x m quiet)
    ∙ uncut d r (h ∷ []) (leads_to m.kind x) goes_on (omega (arith, deep))
quiet-added d r (o ∷ os) x m h fits goes_on change quiet deep low =
    let t : Tail = record { last = faults_at x m; opens = h ∷ []; exit = Some (leads_to m.kind x) } in
    ap (λ c. joined d (with_opens r (o ∷ os) x) (of_change c x m)) change
    ∙ ap (λ hs. cut d (absorbed d [] t (o ∷ os) (base_at r.ended r.last hs))) (no_heights d r (o ∷ os) x fits (m.at ∷ []) (omega (arith, low)))
    ∙ ap (λ f. cut d (stop_or f (base_at r.ended r.last r.heights) (with_opens r (h ∷ o ∷ os) (leads_to m.kind x)))) (fault_of-faults_at x m o ∙ no_fault_of x m o quiet)
    ∙ uncut d r (h ∷ o ∷ os) (leads_to m.kind x) goes_on (omega (arith, deep))

-- the container that was opened here and is closed leaves those around it
around : (d : ℕ) (r : Form) (os : List Holder) (t : Tail) (x : Entry) → t ≡ record { last = no_faults; opens = []; exit = Some x }
    → all_faulted r.last ≡ false → length os ≤ d → cut d (absorbed d [] t os (base_at r.ended r.last r.heights)) ≡ with_opens r os x
around d r [] t x is goes_on low =
    ap (λ t. cut d (absorbed d [] t [] (base_at r.ended r.last r.heights))) is
    ∙ ap (λ f. cut d (with_tail (base_at r.ended r.last r.heights) (record { last = no_faults; opens = []; exit = Some x }) f [])) (merged_same r.last no_faults (λ h e. fault_of-no_faults h))
    ∙ uncut d r [] x goes_on low
around d r (p ∷ ps) t x is goes_on low =
    ap (λ t. cut d (absorbed d [] t (p ∷ ps) (base_at r.ended r.last r.heights))) is
    ∙ ap (λ f. cut d (stop_or f (base_at r.ended r.last r.heights) (with_opens r (p ∷ ps) x))) (fault_of-no_faults p)
    ∙ uncut d r (p ∷ ps) x goes_on low

pub quiet-removed : (d : ℕ) (r : Form) (o : Holder) (os : List Holder) (x : Entry) (m : Mark) → Fits d (with_opens r (o ∷ os) x) → all_faulted r.last ≡ false
    → change_of m.kind ≡ removed → bit_and (fault_bits m.kind x) (bit_of o) ≡ 0
    → pushed d (with_opens r (o ∷ os) x) m ≡ with_opens r os (leads_to m.kind x)
quiet-removed d r o os x m fits goes_on change quiet =
    let t : Tail = record { last = no_faults; opens = []; exit = Some (leads_to m.kind x) } in
    ap (λ c. joined d (with_opens r (o ∷ os) x) (of_change c x m)) change
    ∙ ap (λ hs. cut d (absorbed d (end_at x m ∷ []) t (o ∷ os) (base_at r.ended r.last hs))) (no_heights d r (o ∷ os) x fits [] (omega arith))
    ∙ ap (λ f. cut d (stop_or f (base_at r.ended r.last r.heights) (absorbed d [] t os (base_at r.ended r.last r.heights)))) (end_fault_of-end_at x m o change ∙ no_fault_of x m o quiet)
    ∙ around d r os t (leads_to m.kind x) refl goes_on (let deep : length (o ∷ os) ≤ d = fits.opens in omega (arith, deep))

-- what neither opens nor closes a container leaves their list as it is
pub is_same : (k : MarkKind) → (k ≡ OpenArray → ⊥) → (k ≡ OpenObject → ⊥) → (k ≡ CloseArray → ⊥) → (k ≡ CloseObject → ⊥) → change_of k ≡ same
is_same OpenArray a b c d = absurd (a refl)
is_same OpenObject a b c d = absurd (b refl)
is_same CloseArray a b c d = absurd (c refl)
is_same CloseObject a b c d = absurd (d refl)
is_same Colon a b c d = refl
is_same Comma a b c d = refl
is_same String a b c d = refl
is_same Number a b c d = refl
is_same True a b c d = refl
is_same False a b c d = refl
is_same Null a b c d = refl

pub is_removed : (k : MarkKind) → (k ≡ CloseArray) ⊎ (k ≡ CloseObject) → change_of k ≡ removed
is_removed k (inl e) = ap change_of e
is_removed k (inr e) = ap change_of e

-- one mark more is taken, where those before it led to this form
module _ (d : ℕ) (r : Form) (start : List Holder) (limit b : ℕ) (entry : Entry) (from : IsAt d r start limit b entry)
    (ms : List Mark) (i : ℕ) (none : Mark) (within : i < length ms)
    (os : List Holder) (x : Entry) (led : of_marks d r (take i ms) ≡ with_opens r os x) where
  one_more : of_marks d r (take (i + 1) ms) ≡ pushed d (with_opens r os x) (get_or ms i none)
  one_more = sym (of_one_more d r ms i none within (with_opens r os x) (pushed d (with_opens r os x) (get_or ms i none)) (sym led) refl)

  fits_there : Fits d (with_opens r os x)
  fits_there = subst (Fits d) led (Fits-of_marks d r (take i ms) from.fits)

  pub taken-same : change_of (get_or ms i none).kind ≡ same → bit_and (fault_bits (get_or ms i none).kind x) (standing b os) ≡ 0
      → of_marks d r (take (i + 1) ms) ≡ with_opens r os (leads_to (get_or ms i none).kind x)
  taken-same change quiet =
      one_more
      ∙ quiet-same d r os x (get_or ms i none) fits_there from.goes_on change
      (subst (λ n. bit_and (fault_bits (get_or ms i none).kind x) (standing n os) ≡ 0) from.base quiet)

  pub taken-added : (h : Holder) → change_of (get_or ms i none).kind ≡ added h → bit_and (fault_bits (get_or ms i none).kind x) (standing b os) ≡ 0
      → length os < limit → of_marks d r (take (i + 1) ms) ≡ with_opens r (h ∷ os) (leads_to (get_or ms i none).kind x)
  taken-added h change quiet few =
      one_more
      ∙ quiet-added d r os x (get_or ms i none) h fits_there from.goes_on change
      (subst (λ n. bit_and (fault_bits (get_or ms i none).kind x) (standing n os) ≡ 0) from.base quiet)
      (omega (arith, few, from.within)) (omega (arith, few, from.low))

  pub taken-removed : (o : Holder) (ps : List Holder) → os ≡ o ∷ ps → change_of (get_or ms i none).kind ≡ removed
      → bit_and (fault_bits (get_or ms i none).kind x) (standing b os) ≡ 0
      → of_marks d r (take (i + 1) ms) ≡ with_opens r ps (leads_to (get_or ms i none).kind x)
  taken-removed o ps is change quiet =
      one_more
      ∙ ap (λ os. pushed d (with_opens r os x) (get_or ms i none)) is
      ∙ quiet-removed d r o ps x (get_or ms i none) (subst (λ os. Fits d (with_opens r os x)) is fits_there) from.goes_on change
      (subst (λ os. bit_and (fault_bits (get_or ms i none).kind x) (standing b os) ≡ 0) is quiet)

-- one mark is passed, where the limits tell that it is quiet
module _ (d : ℕ) (r : Form) (x : Entry) (l : Limits) (m : Mark) (is : r.exit ≡ Some x) (fits : Fits d r) (on : GoesOn r) (lim : AreLimits d r l)
    (quiet : bit_and (fault_bits m.kind x) l.standing ≡ 0) where
  here : (os : List Holder) → r.opens ≡ os → r ≡ with_opens r os x
  here os e = λ i. record { ended = r.ended; last = r.last; opens = e i; exit = is i; heights = r.heights }

  quiet_here : (os : List Holder) → r.opens ≡ os → bit_and (fault_bits m.kind x) (standing (unfaulted r.last) os) ≡ 0
  quiet_here os e = ap (bit_and (fault_bits m.kind x)) (sym (lim.standing ∙ ap (λ b. standing b r.opens) lim.base ∙ ap (standing (unfaulted r.last)) e)) ∙ quiet

  pub pushed-same : change_of m.kind ≡ same → pushed d r m ≡ with_opens r r.opens (leads_to m.kind x)
  pushed-same change =
      ap (λ f. pushed d f m) (here r.opens refl)
      ∙ quiet-same d r r.opens x m (subst (Fits d) (here r.opens refl) fits) (on x is) change (quiet_here r.opens refl)

  pub pushed-added : (h : Holder) → change_of m.kind ≡ added h → length r.opens < l.most → pushed d r m ≡ with_opens r (h ∷ r.opens) (leads_to m.kind x)
  pushed-added h change few =
      ap (λ f. pushed d f m) (here r.opens refl)
      ∙ quiet-added d r r.opens x m h (subst (Fits d) (here r.opens refl) fits) (on x is) change (quiet_here r.opens refl) (omega (arith, few, lim.within)) (omega (arith, few, lim.low))

  pub pushed-removed : (o : Holder) (ps : List Holder) → r.opens ≡ o ∷ ps → change_of m.kind ≡ removed → pushed d r m ≡ with_opens r ps (leads_to m.kind x)
  pushed-removed o ps e change =
      ap (λ f. pushed d f m) (here (o ∷ ps) e)
      ∙ quiet-removed d r o ps x m (subst (Fits d) (here (o ∷ ps) e) fits) (on x is) change (quiet_here (o ∷ ps) e)

  pub passed : (q : Form) (k : Limits) (ps : List Holder) → q.ended ≡ r.ended → q.last ≡ r.last → q.opens ≡ ps → q.exit ≡ Some (leads_to m.kind x) → q.heights ≡ r.heights
      → pushed d r m ≡ with_opens r ps (leads_to m.kind x) → k.most ≡ l.most → k.base ≡ l.base → k.standing ≡ standing l.base ps → IsPassed d r m q k
  passed q k ps ended last opens exit heights form most base stands =
      record {
        form = (λ i. record { ended = ended i; last = last i; opens = opens i; exit = exit i; heights = heights i }) ∙ sym form;
        ended = ended;
        last = last;
        heights = heights;
        limits = record {
          within = omega (arith, most, lim.within);
          low = omega (arith, most, lim.low, ap length ended, ap length heights);
          base = base ∙ lim.base ∙ ap unfaulted (sym last);
          standing = stands ∙ ap (λ b. standing b ps) (sym base) ∙ ap (standing k.base) (sym opens);
        };
      }

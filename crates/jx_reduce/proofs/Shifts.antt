-- Reduced forms whose offsets grow.
use Rattle.std.proofs.Common.{◌≡◌, ℕ, zero, suc, ◌+◌, ◌-◌, ◌^◌, ◌<◌, ◌≤◌, List, [], ◌∷◌, ◌++◌, length, map, refl, sym, ◌∙◌, ap, subst, arith, Option, Some, None, Bool, true, false, cond}
use Rattle.std.specs.Prelude.{slice_get, nat_lt, is_some}
use Rattle.std.proofs.lemmas.Bool.Decides.{nat_tests}
use Rattle.std.proofs.lemmas.List.{length-map}
use Rattle.jx_reduce.specs.Entries.{expect_at}
use Rattle.jx_reduce.specs.Fits.{Fits}
use Rattle.jx_reduce.specs.Form.{Form, Plain, halt, go, beyond, fault_of, end_fault_of, unless, along, within, at_end, plain, decide, acts}
use Rattle.jx_reduce.specs.Join.{all_faulted}
use Rattle.jx_reduce.specs.Offsets.{EndIn, EachIn, OffsetsIn}
use Rattle.jx_reduce.specs.Read.{stopped, too_deep, top, without_top}
use Rattle.jx_reduce.specs.Reductions.{Forms, form_at, entry_of, answer, IsSound, SpansIn}
use Rattle.jx_reduce.specs.Shift.{shifted}
use Rattle.jx_reduce.specs.inside.Shifted.{shifted_offset, shifted_fault, shifted_level, shifted_end, shifted_form}
use Rattle.jx_reduce.specs.declared.forms.ended_level.EndedLevel.{EndedLevel}
use Rattle.jx_reduce.specs.declared.forms.entry.Entry.{Entry}
use Rattle.jx_reduce.specs.declared.table.expect.Expect.{Expect}
use Rattle.jx_reduce.specs.declared.table.holder.Holder.{Holder}
use Rattle.jx_reduce.specs.declared.table.holder.Holder.TheVariants.{Array, Object, Bottom}
use Rattle.jx_reduce.specs.declared.forms.level.Level.{Level}
use Rattle.jx_reduce.proofs.Reached.{Reached, halts, reaches, reached, slice_get_none}
use Rattle.jx_reduce.proofs.Acting.{not_all}

pub fits : (b at : ℕ) → at < 2 ^ 64 - b → shifted_offset b at ≡ b + at
fits b at h = omega arith

-- ---- faults

fault-shifted : (b : ℕ) (f : Level) (h : Holder) → fault_of (shifted_level b f) h ≡ shifted_fault b (fault_of f h)
fault-shifted b f Array = refl
fault-shifted b f Object = refl
fault-shifted b f Bottom = refl

end-shifted : (b : ℕ) (f : EndedLevel) (h : Holder) → end_fault_of (shifted_end b f) h ≡ shifted_fault b (end_fault_of f h)
end-shifted b f Array = refl
end-shifted b f Object = refl
end-shifted b f Bottom = refl

-- what comes of the levels
abbrev shifted_plain : ℕ → Plain → Plain
shifted_plain b (halt p) = halt (b + p)
shifted_plain b (go e s) = go e s
shifted_plain b beyond = beyond

unless-shifted : (b : ℕ) (o : Option ℕ) (p q : Plain) → ((i : ℕ) → o ≡ Some i → i < 2 ^ 64 - b) → q ≡ shifted_plain b p → unless (shifted_fault b o) q ≡ shifted_plain b (unless o p)
unless-shifted b None p q low e = e
unless-shifted b (Some i) p q low e = ap (λ (n : ℕ). halt n) (fits b i (low i refl))

along-shifted : (b : ℕ) (xs : List EndedLevel) (s : List Holder) (k j : List Holder → Plain) → EachIn (EndIn (λ p. p < 2 ^ 64 - b)) xs → ((t : List Holder) → j t ≡ shifted_plain b (k t))
    → along (map (shifted_end b) xs) s j ≡ shifted_plain b (along xs s k)
along-shifted b [] s k j low e = e s
along-shifted b (x ∷ xs) s k j low e =
    ap (λ (o : Option ℕ). unless o (along (map (shifted_end b) xs) (without_top s) j)) (end-shifted b x (top s))
    ∙ unless-shifted b (end_fault_of x (top s)) (along xs (without_top s) k) (along (map (shifted_end b) xs) (without_top s) j) (low.0 (top s)) (along-shifted b xs (without_top s) k j low.1 e)

at_end-shifted : (b : ℕ) (x : Option Entry) (s : List Holder) → at_end x s ≡ shifted_plain b (at_end x s)
at_end-shifted b None s = refl
at_end-shifted b (Some x) s = refl

plain-shifted : (b : ℕ) (r : Form) (s : List Holder) → OffsetsIn (λ p. p < 2 ^ 64 - b) r → plain (shifted_form b r) s ≡ shifted_plain b (plain r s)
plain-shifted b r s low =
    along-shifted b r.ended s (within r.last r.opens (at_end r.exit)) (within (shifted_level b r.last) r.opens (at_end r.exit)) low.ended
    (λ t. ap (λ (o : Option ℕ). unless o (at_end r.exit (r.opens ++ t))) (fault-shifted b r.last (top t))
    ∙ unless-shifted b (fault_of r.last (top t)) (at_end r.exit (r.opens ++ t)) (at_end r.exit (r.opens ++ t)) (low.last (top t)) (at_end-shifted b r.exit (r.opens ++ t)))

-- ---- heights

abbrev grown : ℕ → Option ℕ → Option ℕ
grown b None = None
grown b (Some q) = Some (b + q)

height-shifted : (b : ℕ) (xs : List ℕ) (n : ℕ) → EachIn (λ p. p < 2 ^ 64 - b) xs → slice_get (map (shifted_offset b) xs) n ≡ grown b (slice_get xs n)
height-shifted b [] n low = refl
height-shifted b (x ∷ xs) zero low = ap (λ (i : ℕ). Some i) (fits b x low.0)
height-shifted b (x ∷ xs) (suc n) low = height-shifted b xs n low.1

before-shifted : (b q p : ℕ) → nat_lt (b + q) (b + p) ≡ nat_lt q p
before-shifted b q p = pick (nat_lt (b + q) (b + p)) (nat_lt q p) refl refl
  where
    pick : (x y : Bool) → nat_lt (b + q) (b + p) ≡ x → nat_lt q p ≡ y → x ≡ y
    pick true true h k = refl
    pick true false h k =
        let u : b + q < b + p = grind (arith, nat_tests) in
        let v : p ≤ q = grind (arith, nat_tests) in
        absurd (omega arith)
    pick false true h k =
        let u : b + p ≤ b + q = grind (arith, nat_tests) in
        let v : q < p = grind (arith, nat_tests) in
        absurd (omega arith)
    pick false false h k = refl

-- where the heights decide, or something goes on, the answer is that of the marks further on
decide-shifted : (b : ℕ) (p : Plain) (o : Option ℕ) → (p ≡ beyond → o ≡ None → ⊥) → decide (shifted_plain b p) (grown b o) ≡ shifted b (decide p o)
decide-shifted b (halt p) None some = refl
decide-shifted b (halt p) (Some q) some = ap (λ (t : Bool). cond t (too_deep (b + q)) (stopped (b + p))) (before-shifted b q p) ∙ pick (nat_lt q p)
  where
    pick : (t : Bool) → cond t (too_deep (b + q)) (stopped (b + p)) ≡ shifted b (cond t (too_deep q) (stopped p))
    pick true = refl
    pick false = refl
decide-shifted b (go e s) None some = refl
decide-shifted b (go e s) (Some q) some = refl
decide-shifted b beyond None some = absurd (some refl refl)
decide-shifted b beyond (Some q) some = refl

-- where nothing goes on for a list of open containers within the depth, the heights decide
decided : (d : ℕ) (r : Form) (s : List Holder) → Fits d r → length s ≤ d → plain r s ≡ beyond → slice_get r.heights (d - length s) ≡ None → ⊥
decided d r s f short e g = at (reached r s) where
  ended_at : (t : List Holder) (x : Option Entry) → at_end x t ≡ beyond → x ≡ None
  ended_at t None h = refl
  ended_at t (Some x) h = cc

  at : Reached r s → ⊥
  at (halts p h) = let a : halt p ≡ beyond = sym (h (at_end r.exit)) ∙ e in cc
  at (reaches t n m h) = faulted (all_faulted r.last) refl where
    none : r.exit ≡ None
    none = ended_at t r.exit (sym (h (at_end r.exit)) ∙ e)

    faulted : (b : Bool) → all_faulted r.last ≡ b → ⊥
    faulted true a = not_all r s t h a
    faulted false a = omega (arith, f.decided none a, m, short, slice_get_none r.heights (d - length s) g)

pub acts-shifted : (d b : ℕ) (r : Form) (s : List Holder) → Fits d r → OffsetsIn (λ p. p < 2 ^ 64 - b) r → length s ≤ d → acts d (shifted_form b r) s ≡ shifted b (acts d r s)
acts-shifted d b r s f low short =
    ap (λ (p : Plain). decide p (slice_get (map (shifted_offset b) r.heights) (d - length s))) (plain-shifted b r s low)
    ∙ ap (decide (shifted_plain b (plain r s))) (height-shifted b r.heights (d - length s) low.heights)
    ∙ decide-shifted b (plain r s) (slice_get r.heights (d - length s)) (decided d r s f short)

-- ---- what a form keeps

some-shifted : (b : ℕ) (o : Option ℕ) → is_some (shifted_fault b o) ≡ is_some o
some-shifted b None = refl
some-shifted b (Some i) = refl

pub all-shifted : (b : ℕ) (f : Level) → all_faulted (shifted_level b f) ≡ all_faulted f
all-shifted b f = rw (some-shifted b f.array, some-shifted b f.object, some-shifted b f.bottom)

pub Fits-shifted : (d b : ℕ) (r : Form) → Fits d r → Fits d (shifted_form b r)
Fits-shifted d b r f =
    let ends = length-map r.ended (shifted_end b) in
    let heights = length-map r.heights (shifted_offset b) in
    record {
      levels = omega (arith, ends, f.levels);
      opens = f.opens;
      heights = omega (arith, heights, f.heights);
      risen = omega (arith, ends, heights, f.risen);
      decided = λ e n. omega (arith, ends, heights, f.decided e (sym (all-shifted b r.last) ∙ n));
    }

fault-in : (b low high p : ℕ) (o : Option ℕ) → ((i : ℕ) → o ≡ Some i → i < 2 ^ 64 - b) → ((i : ℕ) → o ≡ Some i → (low ≤ i) × (i < high)) → shifted_fault b o ≡ Some p → (b + low ≤ p) × (p < b + high)
fault-in b low high p None fit a e = cc
fault-in b low high p (Some i) fit a e =
    let x : shifted_offset b i ≡ p = cc in
    let y : b + i ≡ p = sym (fits b i (fit i refl)) ∙ x in
    let z = a i refl in
    (omega (arith, y, z.0), omega (arith, y, z.1))

ends-in : (b low high : ℕ) (xs : List EndedLevel) → EachIn (EndIn (λ p. p < 2 ^ 64 - b)) xs → EachIn (EndIn (λ p. (low ≤ p) × (p < high))) xs
    → EachIn (EndIn (λ p. (b + low ≤ p) × (p < b + high))) (map (shifted_end b) xs)
ends-in b low high [] fit a = tt
ends-in b low high (x ∷ xs) fit a =
    (λ h p e. fault-in b low high p (end_fault_of x h) (fit.0 h) (a.0 h) (sym (end-shifted b x h) ∙ e), ends-in b low high xs fit.1 a.1)

heights-in : (b low high : ℕ) (xs : List ℕ) → EachIn (λ p. p < 2 ^ 64 - b) xs → EachIn (λ p. (low ≤ p) × (p < high)) xs
    → EachIn (λ p. (b + low ≤ p) × (p < b + high)) (map (shifted_offset b) xs)
heights-in b low high [] fit a = tt
heights-in b low high (x ∷ xs) fit a =
    let y = fits b x fit.0 in
    ((omega (arith, y, (a.0).0), omega (arith, y, (a.0).1)), heights-in b low high xs fit.1 a.1)

pub in-shifted : (b low high : ℕ) (r : Form) → OffsetsIn (λ p. p < 2 ^ 64 - b) r → OffsetsIn (λ p. (low ≤ p) × (p < high)) r
    → OffsetsIn (λ p. (b + low ≤ p) × (p < b + high)) (shifted_form b r)
in-shifted b low high r fit a =
    record {
      ended = ends-in b low high r.ended fit.ended a.ended;
      last = λ h p e. fault-in b low high p (fault_of r.last h) (fit.last h) (a.last h) (sym (fault-shifted b r.last h) ∙ e);
      heights = heights-in b low high r.heights fit.heights a.heights;
    }

-- ---- structures

pub record IsShifted (b : ℕ) (f g : Forms) : Type 0 where
  pub depth : g.depth ≡ f.depth
  pub fits : (x : Entry) → OffsetsIn (λ p. p < 2 ^ 64 - b) (form_at f x)
  pub each : (x : Entry) → form_at g x ≡ shifted_form b (form_at f x)

entry-shifted : (b : ℕ) (f g : Forms) → IsShifted b f g → IsSound f → (x : Entry) (s : List Holder) → length s ≤ f.depth
    → acts g.depth (form_at g x) s ≡ shifted b (acts f.depth (form_at f x) s)
entry-shifted b f g h sound x s short =
    ap (λ (d : ℕ). acts d (form_at g x) s) h.depth
    ∙ ap (λ (r : Form). acts f.depth r s) (h.each x)
    ∙ acts-shifted f.depth b (form_at f x) s (sound.fits x) (h.fits x) short

pub answer-shifted : (b : ℕ) (f g : Forms) → IsShifted b f g → IsSound f → (e : Expect) (s : List Holder) → length s ≤ f.depth → answer g e s ≡ shifted b (answer f e s)
answer-shifted b f g h sound e s short = entry-shifted b f g h sound (entry_of e) s short

pub sound-shifted : (b : ℕ) (f g : Forms) → IsShifted b f g → IsSound f → IsSound g
sound-shifted b f g h sound =
    record {
      fits = λ x. subst (λ (d : ℕ). Fits d (form_at g x)) (sym h.depth) (subst (Fits f.depth) (sym (h.each x)) (Fits-shifted f.depth b (form_at f x) (sound.fits x)));
      agree = λ x s short.
          let within : length s ≤ f.depth = subst (λ (d : ℕ). length s ≤ d) h.depth short in
          entry-shifted b f g h sound x s within ∙ ap (shifted b) (sound.agree x s within) ∙ sym (answer-shifted b f g h sound (expect_at x (top s)) s within);
    }

pub spans-shifted : (b : ℕ) (f g : Forms) → IsShifted b f g → (low high : ℕ) → SpansIn low high f → SpansIn (b + low) (b + high) g
spans-shifted b f g h low high a x = subst (OffsetsIn (λ p. (b + low ≤ p) × (p < b + high))) (sym (h.each x)) (in-shifted b low high (form_at f x) (h.fits x) (a x))

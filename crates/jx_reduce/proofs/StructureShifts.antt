-- Structures whose offsets grow.
use Rattle.std.proofs.Common.{◌≡◌, ℕ, ◌+◌, ◌-◌, ◌^◌, ◌<◌, ◌≤◌, List, [], ◌∷◌, ◌++◌, length, map, refl, sym, ◌∙◌, ap, subst, arith, Option, Some, None}
use Rattle.std.specs.Prelude.{nat_lt, Bool, true, false, if◌then◌else◌}
use Rattle.std.proofs.lemmas.List.{length-map}
use Rattle.jx_reduce.specs.Form.{Form}
use Rattle.jx_reduce.specs.Offsets.{EachIn, EndIn, OffsetsIn, RisingFrom}
use Rattle.jx_reduce.specs.Read.{Reading, went, stopped, too_deep, top, moved, then_by, step, read}
use Rattle.jx_reduce.specs.Shift.{shifted}
use Rattle.jx_reduce.specs.Structure.{StructureValue, behind, answer, TailIn, AreIn, SpansIn}
use Rattle.jx_reduce.specs.Table.{next_of, change_of, Change, same, added, removed}
use Rattle.jx_reduce.specs.inside.Quiet.{GoesOn}
use Rattle.jx_reduce.specs.inside.Shifted.{shifted_fault, shifted_offset, shifted_form}
use Rattle.jx_reduce.specs.inside.Structures.{rest_head, rest_tail, string_head, end_of, moved_mark, moved_tail, IsTailOf, IsSound}
use Rattle.jx_reduce.specs.declared.table.expect.Expect.{Expect}
use Rattle.jx_reduce.specs.declared.table.holder.Holder.{Holder}
use Rattle.jx_reduce.specs.declared.forms.structure.Rest.{Rest}
use Rattle.jx_lex.specs.declared.alphabet.mark.Mark.{Mark}
use Rattle.jx_reduce.proofs.Cuts.{RisingFrom-less}
use Rattle.jx_reduce.proofs.Readings.{each_more, OffsetsIn_more}
use Rattle.jx_reduce.proofs.Runs.{IsReadWithin, read_within}
use Rattle.jx_reduce.proofs.Shifts.{fits, acts-shifted, Fits-shifted, in-shifted, all-shifted}
use Rattle.jx_reduce.proofs.StructureReads.{begun}
use Rattle.jx_reduce.proofs.Structures.{AreIn_more}

-- the same marks further on
abbrev pub moved_value : ℕ → StructureValue → StructureValue
moved_value b f = record { depth = f.depth; head = map (moved_mark b) f.head; tail = moved_tail b f.tail }

change_moved : (d b at : ℕ) (c : Change) (o : Option Expect) (s : List Holder) → moved d (b + at) c o s ≡ shifted b (moved d at c o s)
change_moved d b at c None s = refl
change_moved d b at same (Some e) s = refl
change_moved d b at (added h) (Some e) s = pick (nat_lt (length s) d) where
  pick : (t : Bool) → (if t then went e (h ∷ s) else too_deep (b + at)) ≡ shifted b (if t then went e (h ∷ s) else too_deep at)
  pick true = refl
  pick false = refl
change_moved d b at removed (Some e) s = refl

step_moved : (d b : ℕ) (m : Mark) (r : Reading) → m.at < 2 ^ 64 - b → step d (moved_mark b m) (shifted b r) ≡ shifted b (step d m r)
step_moved d b m (went e s) low =
    ap (λ at. moved d at (change_of m.kind) (next_of m.kind e (top s)) s) (fits b m.at low)
    ∙ change_moved d b m.at (change_of m.kind) (next_of m.kind e (top s)) s
step_moved d b m (stopped at) low = refl
step_moved d b m (too_deep at) low = refl

read_moved : (d b : ℕ) (ms : List Mark) (r : Reading) → EachIn (λ m. m.at < 2 ^ 64 - b) ms → read d (map (moved_mark b) ms) (shifted b r) ≡ shifted b (read d ms r)
read_moved d b [] r low = refl
read_moved d b (m ∷ ms) r low = ap (read d (map (moved_mark b) ms)) (step_moved d b m r low.0) ∙ read_moved d b ms (step d m r) low.1

behind_moved : (d b c : ℕ) (t : Option Form) (r : Reading) → IsTailOf d c t → TailIn (λ p. p < 2 ^ 64 - b) t → IsReadWithin d r
    → then_by (behind d (moved_tail b t)) (shifted b r) ≡ shifted b (then_by (behind d t) r)
behind_moved d b c None (went e s) k low w = refl
behind_moved d b c (Some t) (went e s) k low w = acts-shifted d b t s k.fits low w
behind_moved d b c t (stopped at) k low w = refl
behind_moved d b c t (too_deep at) k low w = refl

pub answer_moved : (b : ℕ) (f : StructureValue) (e : Expect) (s : List Holder) → IsSound f → AreIn (λ p. p < 2 ^ 64 - b) f → length s ≤ f.depth
    → answer (moved_value b f) e s ≡ shifted b (answer f e s)
answer_moved b f e s sound low short =
    ap (then_by (behind f.depth (moved_tail b f.tail))) (read_moved f.depth b f.head (went e s) low.head)
    ∙ behind_moved f.depth b (end_of 0 f.head) f.tail (read f.depth f.head (went e s)) sound.tail low.tail (read_within f.depth f.head (went e s) short)

rising_moved : (b c : ℕ) (ms : List Mark) → EachIn (λ m. m.at < 2 ^ 64 - b) ms → RisingFrom c ms → RisingFrom (b + c) (map (moved_mark b) ms)
rising_moved b c [] low r = tt
rising_moved b c (m ∷ ms) low r =
    let e = fits b m.at low.0 in
    (omega (arith, e, r.0), subst (λ n. RisingFrom n (map (moved_mark b) ms)) (omega (arith, e)) (rising_moved b (m.at + 1) ms low.1 r.1))

end_moved : (b c : ℕ) (ms : List Mark) → EachIn (λ m. m.at < 2 ^ 64 - b) ms → end_of (b + c) (map (moved_mark b) ms) ≡ b + end_of c ms
end_moved b c [] low = refl
end_moved b c (m ∷ ms) low =
    ap (λ n. end_of n (map (moved_mark b) ms)) (let e = fits b m.at low.0 in let g : shifted_offset b m.at + 1 ≡ b + (m.at + 1) = omega (arith, e) in g)
    ∙ end_moved b (m.at + 1) ms low.1

goes_moved : (b : ℕ) (t : Form) → GoesOn t → GoesOn (shifted_form b t)
goes_moved b t g x e = all-shifted b t.last ∙ g x e

each_both : {X : Type 0} (P Q : X → Type 0) (xs : List X) → EachIn P xs → EachIn Q xs → EachIn (λ x. P x × Q x) xs
each_both P Q [] a c = tt
each_both P Q (x ∷ xs) a c = ((a.0, c.0), each_both P Q xs a.1 c.1)

in_both : (P Q : ℕ → Type 0) (r : Form) → OffsetsIn P r → OffsetsIn Q r → OffsetsIn (λ p. P p × Q p) r
in_both P Q r a c = record {
  ended = each_more (λ e. EndIn P e × EndIn Q e) (EndIn (λ p. P p × Q p)) (λ e f h p i. (f.0 h p i, f.1 h p i)) r.ended (each_both (EndIn P) (EndIn Q) r.ended a.ended c.ended);
  last = λ h p i. (a.last h p i, c.last h p i);
  heights = each_both P Q r.heights a.heights c.heights;
}

behind_all : (b : ℕ) (ms : List Mark) (u : Form) → EachIn (λ m. m.at < 2 ^ 64 - b) ms → OffsetsIn (λ p. b + end_of 0 ms ≤ p) u → OffsetsIn (λ p. end_of 0 (map (moved_mark b) ms) ≤ p) u
behind_all b [] u low a = OffsetsIn_more (λ p. b + 0 ≤ p) (λ p. 0 ≤ p) u (λ p h. omega arith) a
behind_all b (m ∷ ms) u low a =
    let e = fits b m.at low.0 in
    let g : shifted_offset b m.at + 1 ≡ b + (m.at + 1) = omega (arith, e) in
    let same : end_of (shifted_offset b m.at + 1) (map (moved_mark b) ms) ≡ b + end_of (m.at + 1) ms = ap (λ n. end_of n (map (moved_mark b) ms)) g ∙ end_moved b (m.at + 1) ms low.1 in
    subst (λ n. OffsetsIn (λ p. n ≤ p) u) (sym same) a

-- a tail of marks that end there
tail_moved : (d b : ℕ) (ms : List Mark) (t : Option Form) → IsTailOf d (end_of 0 ms) t → EachIn (λ m. m.at < 2 ^ 64 - b) ms → TailIn (λ p. p < 2 ^ 64 - b) t
    → IsTailOf d (end_of 0 (map (moved_mark b) ms)) (moved_tail b t)
tail_moved d b ms None k head low = tt
tail_moved d b ms (Some t) k head low =
    record {
      fits = Fits-shifted d b t k.fits;
      goes_on = goes_moved b t k.goes_on;
      offsets = behind_all b ms (shifted_form b t) head
          (OffsetsIn_more (λ p. (b + end_of 0 ms ≤ p) × (p < b + (2 ^ 64 - b))) (λ p. b + end_of 0 ms ≤ p) (shifted_form b t) (λ p h. h.0)
          (in-shifted b (end_of 0 ms) (2 ^ 64 - b) t low (in_both (λ p. end_of 0 ms ≤ p) (λ p. p < 2 ^ 64 - b) t k.offsets low)));
    }

pub shifted_sound : (b : ℕ) (f : StructureValue) → AreIn (λ p. p < 2 ^ 64 - b) f → IsSound f → IsSound (moved_value b f)
shifted_sound b f low sound =
    let long = length-map f.head (moved_mark b) in
    let few = sound.few in
    record {
      few = omega (arith, long, few);
      rising = RisingFrom-less (b + 0) 0 (map (moved_mark b) f.head) (omega arith) (rising_moved b 0 f.head low.head sound.rising);
      tail = tail_moved f.depth b f.head f.tail sound.tail low.head low.tail;
    }

head_in : (b low high : ℕ) (ms : List Mark) → EachIn (λ m. m.at < 2 ^ 64 - b) ms → EachIn (λ m. (low ≤ m.at) × (m.at < high)) ms → EachIn (λ m. (b + low ≤ m.at) × (m.at < b + high)) (map (moved_mark b) ms)
head_in b low high [] fit a = tt
head_in b low high (m ∷ ms) fit a =
    let e = fits b m.at fit.0 in
    let l = a.0.0 in
    let h = a.0.1 in
    ((omega (arith, e, l), omega (arith, e, h)), head_in b low high ms fit.1 a.1)

tail_in : (b low high : ℕ) (t : Option Form) → TailIn (λ p. p < 2 ^ 64 - b) t → TailIn (λ p. (low ≤ p) × (p < high)) t → TailIn (λ p. (b + low ≤ p) × (p < b + high)) (moved_tail b t)
tail_in b low high None fit a = tt
tail_in b low high (Some t) fit a = in-shifted b low high t fit a

pub shifted_in : (b low high : ℕ) (f : StructureValue) → AreIn (λ p. p < 2 ^ 64 - b) f → SpansIn low high f → SpansIn (b + low) (b + high) (moved_value b f)
shifted_in b low high f fit a = record { head = head_in b low high f.head fit.head a.head; tail = tail_in b low high f.tail fit.tail a.tail }

-- offsets that fit
pub low_of : (b : ℕ) (f : StructureValue) → SpansIn 0 (2 ^ 64 - b) f → AreIn (λ p. p < 2 ^ 64 - b) f
low_of b f a = AreIn_more (λ p. (0 ≤ p) × (p < 2 ^ 64 - b)) (λ p. p < 2 ^ 64 - b) f (λ p h. h.1) a

strings_moved : (b : ℕ) (string : Option ℕ) (ms : List Mark) → string_head (shifted_fault b string) ++ map (moved_mark b) ms ≡ map (moved_mark b) (string_head string ++ ms)
strings_moved b None ms = refl
strings_moved b (Some at) ms = refl

pub moved_is : (b d : ℕ) (string string' : Option ℕ) (rest rest' : Option Rest) → string' ≡ shifted_fault b string → rest_head rest' ≡ map (moved_mark b) (rest_head rest)
    → rest_tail rest' ≡ moved_tail b (rest_tail rest) → begun d string' rest' ≡ moved_value b (begun d string rest)
moved_is b d string string' rest rest' e head tail =
    let h : string_head string' ++ rest_head rest' ≡ map (moved_mark b) (string_head string ++ rest_head rest) =
    ap (λ s. string_head s ++ rest_head rest') e ∙ ap (λ ms. string_head (shifted_fault b string) ++ ms) head ∙ strings_moved b string (rest_head rest) in
    λ i. record { depth = d; head = h i; tail = tail i }

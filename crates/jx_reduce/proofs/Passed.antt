-- Bytes that are passed over at once, one stretch behind another.
use Rattle.std.proofs.Common.{◌≡◌, ℕ, ◌+◌, ◌<◌, ◌≤◌, List, [], ◌∷◌, length, get_or, nat_lt, if◌then◌else◌, refl, ap, sym, subst, ◌∙◌, arith, Option, Some, None, inl, inr, Bool, true, false, lt-ltb}
use Rattle.std.specs.Prelude.{◌⊎◌, slice_range}
use Rattle.std.proofs.lemmas.Bool.Decides.{nat_tests}
use Rattle.jx_lex.specs.declared.alphabet.state.LexState.TheVariants.{Gap}
use Rattle.jx_lex.specs.declared.alphabet.mark.Mark.{Mark}
use Rattle.jx_lex.specs.declared.alphabet.mark.MarkKind.TheVariants as mark
use Rattle.jx_lex.specs.Lex.{Track, lex}
use Rattle.jx_lex.specs.Whole.{Passes, PassesNumber}
use Rattle.jx_lex.proofs.Keeping.{exit-then, lex-then}
use Rattle.jx_lex.proofs.Whole.{passes-none, passes-comma, passes-colon, passes-open_array, passes-close_array, passes-open_object, passes-close_object, number-comma, number-close_array, number-close_object, number-space, number-line_feed, number-return}
use Rattle.jx_reduce.specs.Table.{next_of, change_of, Change, same, added, removed, where_value, where_string}
use Rattle.jx_reduce.specs.Read.{Reading, went, stopped, too_deep, top, without_top, changed, moved, step, read}
use Rattle.jx_reduce.specs.inside.Passed.{Leaves, comma, array_end, object_end, Reads, TakesValue}
use Rattle.jx_reduce.specs.declared.table.holder.Holder.{Holder}
use Rattle.jx_reduce.specs.declared.table.holder.Holder.TheVariants.{Array, Object}
use Rattle.jx_reduce.specs.declared.table.expect.Expect.{Expect}
use Rattle.jx_reduce.specs.declared.table.expect.Expect.TheVariants.{Value, ArrayFirst, ObjectFirst, Colon, After}
use Rattle.jx_reduce.proofs.Readings.{read-append}

-- ---- stretches

pub reads-of : (d : ℕ) (xs : List ℕ) (a b : ℕ) (ms : List Mark) {es : List ℕ} (r s : Reading) → Passes xs a b ms es → s ≡ read d ms r → Reads d xs a b r s
reads-of d xs a b ms r s p e =
    record { low = p.low; fits = p.fits; exit = p.exit; read = e ∙ ap (λ (us : List Mark). read d us r) (sym p.marks_are) }

pub reads-blank : (d : ℕ) (xs : List ℕ) (a b : ℕ) (r : Reading) → Passes xs a b [] [] → Reads d xs a b r r
reads-blank d xs a b r p = reads-of d xs a b [] r r p refl

pub reads-none : (d : ℕ) (xs : List ℕ) (a : ℕ) (r : Reading) → a ≤ length xs → Reads d xs a a r r
reads-none d xs a r fits = reads-blank d xs a a r (passes-none xs a fits)

pub reads-then : (d : ℕ) (xs : List ℕ) (a b c : ℕ) (r s t : Reading) → Reads d xs a b r s → Reads d xs b c s t → Reads d xs a c r t
reads-then d xs a b c r s t f g =
    let ab = f.low in
    let bc = g.low in
    let ms = (lex Gap a (slice_range xs a b)).marks in
    let ns = (lex Gap b (slice_range xs b c)).marks in
    record {
      low = omega (arith, ab, bc);
      fits = g.fits;
      exit = exit-then xs a b c Gap Gap f.low g.low f.fits f.exit ∙ g.exit;
      read =
          g.read
          ∙ ap (read d ns) f.read
          ∙ sym (read-append d ms ns r)
          ∙ ap (λ (us : List Mark). read d us r) (sym (ap (λ (t : Track). t.marks) (lex-then xs a b c Gap Gap f.low g.low f.fits f.exit)));
    }

-- ---- one mark

pub moves : (d : ℕ) (m : Mark) (c : Change) (e f : Expect) (s : List Holder) → change_of m.kind ≡ c → next_of m.kind e (top s) ≡ Some f → step d m (went e s) ≡ changed d m.at c f s
moves d m c e f s h k =
    ap (λ (x : Change). moved d m.at x (next_of m.kind e (top s)) s) h ∙ ap (λ (o : Option Expect). moved d m.at c o s) k

pub reads-same : (d : ℕ) (xs : List ℕ) (a b : ℕ) (m : Mark) {es : List ℕ} (e f : Expect) (s : List Holder) → Passes xs a b (m ∷ []) es → change_of m.kind ≡ same → next_of m.kind e (top s) ≡ Some f
    → Reads d xs a b (went e s) (went f s)
reads-same d xs a b m e f s p h k = reads-of d xs a b (m ∷ []) (went e s) (went f s) p (sym (moves d m same e f s h k))

pub reads-removed : (d : ℕ) (xs : List ℕ) (a b : ℕ) (m : Mark) {es : List ℕ} (e f : Expect) (s t : List Holder) → Passes xs a b (m ∷ []) es → change_of m.kind ≡ removed → next_of m.kind e (top s) ≡ Some f
    → t ≡ without_top s → Reads d xs a b (went e s) (went f t)
reads-removed d xs a b m e f s t p h k out = reads-of d xs a b (m ∷ []) (went e s) (went f t) p (ap (went f) out ∙ sym (moves d m removed e f s h k))

pub within_depth : (d at : ℕ) (h : Holder) (f : Expect) (s : List Holder) → length s < d → changed d at (added h) f s ≡ went f (h ∷ s)
within_depth d at h f s low = ap (λ (b : Bool). if b then went f (h ∷ s) else too_deep at) (lt-ltb (length s) d low)

pub reads-added : (d : ℕ) (xs : List ℕ) (a b : ℕ) (m : Mark) {es : List ℕ} (h : Holder) (e f : Expect) (s : List Holder) → Passes xs a b (m ∷ []) es → change_of m.kind ≡ added h → next_of m.kind e (top s) ≡ Some f
    → length s < d → Reads d xs a b (went e s) (went f (h ∷ s))
reads-added d xs a b m h e f s p c k low = reads-of d xs a b (m ∷ []) (went e s) (went f (h ∷ s)) p (sym (moves d m (added h) e f s c k ∙ within_depth d m.at h f s low))

-- ---- values

takes : (e : Expect) → TakesValue e → (f : Expect) → where_value f e ≡ Some f
takes e (inl h) f = ap (where_value f) h
takes e (inr h) f = ap (where_value f) h

pub reads-string : (d : ℕ) (xs : List ℕ) (a b : ℕ) {es : List ℕ} (e f : Expect) (s : List Holder) → Passes xs a b (record { kind = mark.String; at = a } ∷ []) es → where_string e ≡ Some f
    → Reads d xs a b (went e s) (went f s)
reads-string d xs a b e f s p h = reads-same d xs a b (record { kind = mark.String; at = a }) e f s p refl h

-- a number, and then a blank
reads-number : (d : ℕ) (xs : List ℕ) (a b : ℕ) {es : List ℕ} (e : Expect) (s : List Holder) → Passes xs a b (record { kind = mark.Number; at = a } ∷ []) es → TakesValue e → Reads d xs a b (went e s) (went After s)
reads-number d xs a b e s p t = reads-same d xs a b (record { kind = mark.Number; at = a }) e After s p refl (takes e t After)

reads-number_space : (d : ℕ) (xs : List ℕ) (a b : ℕ) (e : Expect) (s : List Holder) → PassesNumber xs a b → TakesValue e → b < length xs → get_or xs b 0 ≡ 0x20
    → Reads d xs a (b + 1) (went e s) (went After s)
reads-number_space d xs a b e s n t fits is = reads-number d xs a (b + 1) e s (number-space xs a b n fits is) t

reads-number_line_feed : (d : ℕ) (xs : List ℕ) (a b : ℕ) (e : Expect) (s : List Holder) → PassesNumber xs a b → TakesValue e → b < length xs → get_or xs b 0 ≡ 0x0a
    → Reads d xs a (b + 1) (went e s) (went After s)
reads-number_line_feed d xs a b e s n t fits is = reads-number d xs a (b + 1) e s (number-line_feed xs a b n fits is) t

reads-number_return : (d : ℕ) (xs : List ℕ) (a b : ℕ) (e : Expect) (s : List Holder) → PassesNumber xs a b → TakesValue e → b < length xs → get_or xs b 0 ≡ 0x0d
    → Reads d xs a (b + 1) (went e s) (went After s)
reads-number_return d xs a b e s n t fits is = reads-number d xs a (b + 1) e s (number-return xs a b n fits is) t

pub reads-number_blank : (d : ℕ) (xs : List ℕ) (a b : ℕ) (e : Expect) (s : List Holder) → PassesNumber xs a b → TakesValue e → b < length xs
    → (get_or xs b 0 ≡ 0x20) ⊎ (get_or xs b 0 ≡ 0x0a) ⊎ (get_or xs b 0 ≡ 0x0d) → Reads d xs a (b + 1) (went e s) (went After s)
reads-number_blank d xs a b e s n t fits (inl h) = reads-number_space d xs a b e s n t fits h
reads-number_blank d xs a b e s n t fits (inr (inl h)) = reads-number_line_feed d xs a b e s n t fits h
reads-number_blank d xs a b e s n t fits (inr (inr h)) = reads-number_return d xs a b e s n t fits h

-- a number, and then a mark
two-marks : (d : ℕ) (m n : Mark) (e f : Expect) (s : List Holder) (r : Reading) → step d m (went e s) ≡ went f s → step d n (went f s) ≡ r → read d (m ∷ n ∷ []) (went e s) ≡ r
two-marks d m n e f s r g h = ap (step d n) g ∙ h

number-moves : (d a : ℕ) (e : Expect) (s : List Holder) → TakesValue e → step d (record { kind = mark.Number; at = a }) (went e s) ≡ went After s
number-moves d a e s t = moves d (record { kind = mark.Number; at = a }) same e After s refl (takes e t After)

pub reads-number_comma : (d : ℕ) (xs : List ℕ) (a b : ℕ) (e f : Expect) (s : List Holder) → PassesNumber xs a b → TakesValue e → b < length xs → get_or xs b 0 ≡ 0x2c
    → next_of mark.Comma After (top s) ≡ Some f → Reads d xs a (b + 1) (went e s) (went f s)
reads-number_comma d xs a b e f s n t fits is k =
    let m : Mark = record { kind = mark.Comma; at = b } in
    reads-of d xs a (b + 1) _ (went e s) (went f s) (number-comma xs a b n fits is)
    (sym (two-marks d (record { kind = mark.Number; at = a }) m e After s (went f s) (number-moves d a e s t) (moves d m same After f s refl k)))

pub reads-number_close_array : (d : ℕ) (xs : List ℕ) (a b : ℕ) (e f : Expect) (s t : List Holder) → PassesNumber xs a b → TakesValue e → b < length xs → get_or xs b 0 ≡ 0x5d
    → next_of mark.CloseArray After (top s) ≡ Some f → t ≡ without_top s → Reads d xs a (b + 1) (went e s) (went f t)
reads-number_close_array d xs a b e f s t n v fits is k out =
    let m : Mark = record { kind = mark.CloseArray; at = b } in
    reads-of d xs a (b + 1) _ (went e s) (went f t) (number-close_array xs a b n fits is)
    (ap (went f) out ∙ sym (two-marks d (record { kind = mark.Number; at = a }) m e After s (went f (without_top s)) (number-moves d a e s v) (moves d m removed After f s refl k)))

pub reads-number_close_object : (d : ℕ) (xs : List ℕ) (a b : ℕ) (e f : Expect) (s t : List Holder) → PassesNumber xs a b → TakesValue e → b < length xs → get_or xs b 0 ≡ 0x7d
    → next_of mark.CloseObject After (top s) ≡ Some f → t ≡ without_top s → Reads d xs a (b + 1) (went e s) (went f t)
reads-number_close_object d xs a b e f s t n v fits is k out =
    let m : Mark = record { kind = mark.CloseObject; at = b } in
    reads-of d xs a (b + 1) _ (went e s) (went f t) (number-close_object xs a b n fits is)
    (ap (went f) out ∙ sym (two-marks d (record { kind = mark.Number; at = a }) m e After s (went f (without_top s)) (number-moves d a e s v) (moves d m removed After f s refl k)))

-- ---- structural bytes

pub reads-colon : (d : ℕ) (xs : List ℕ) (i : ℕ) (s : List Holder) → i < length xs → get_or xs i 0 ≡ 0x3a → Reads d xs i (i + 1) (went Colon s) (went Value s)
reads-colon d xs i s low is = reads-same d xs i (i + 1) (record { kind = mark.Colon; at = i }) Colon Value s (passes-colon xs i low is) refl refl

pub reads-comma : (d : ℕ) (xs : List ℕ) (i : ℕ) (f : Expect) (s : List Holder) → i < length xs → get_or xs i 0 ≡ 0x2c → next_of mark.Comma After (top s) ≡ Some f
    → Reads d xs i (i + 1) (went After s) (went f s)
reads-comma d xs i f s low is k = reads-same d xs i (i + 1) (record { kind = mark.Comma; at = i }) After f s (passes-comma xs i low is) refl k

pub reads-close_array : (d : ℕ) (xs : List ℕ) (i : ℕ) (e f : Expect) (s t : List Holder) → i < length xs → get_or xs i 0 ≡ 0x5d → next_of mark.CloseArray e (top s) ≡ Some f → t ≡ without_top s
    → Reads d xs i (i + 1) (went e s) (went f t)
reads-close_array d xs i e f s t low is k out = reads-removed d xs i (i + 1) (record { kind = mark.CloseArray; at = i }) e f s t (passes-close_array xs i low is) refl k out

pub reads-close_object : (d : ℕ) (xs : List ℕ) (i : ℕ) (e f : Expect) (s t : List Holder) → i < length xs → get_or xs i 0 ≡ 0x7d → next_of mark.CloseObject e (top s) ≡ Some f → t ≡ without_top s
    → Reads d xs i (i + 1) (went e s) (went f t)
reads-close_object d xs i e f s t low is k out = reads-removed d xs i (i + 1) (record { kind = mark.CloseObject; at = i }) e f s t (passes-close_object xs i low is) refl k out

pub reads-open_array : (d : ℕ) (xs : List ℕ) (i : ℕ) (e : Expect) (s : List Holder) → i < length xs → get_or xs i 0 ≡ 0x5b → TakesValue e → length s < d
    → Reads d xs i (i + 1) (went e s) (went ArrayFirst (Array ∷ s))
reads-open_array d xs i e s low is t room =
    reads-added d xs i (i + 1) (record { kind = mark.OpenArray; at = i }) Array e ArrayFirst s (passes-open_array xs i low is) refl (takes e t ArrayFirst) room

pub reads-open_object : (d : ℕ) (xs : List ℕ) (i : ℕ) (e : Expect) (s : List Holder) → i < length xs → get_or xs i 0 ≡ 0x7b → TakesValue e → length s < d
    → Reads d xs i (i + 1) (went e s) (went ObjectFirst (Object ∷ s))
reads-open_object d xs i e s low is t room =
    reads-added d xs i (i + 1) (record { kind = mark.OpenObject; at = i }) Object e ObjectFirst s (passes-open_object xs i low is) refl (takes e t ObjectFirst) room

-- ---- behind a value

pub reads-number_mark : (d : ℕ) (xs : List ℕ) (a b byte : ℕ) (e f : Expect) (s t : List Holder) → PassesNumber xs a b → TakesValue e → b < length xs → get_or xs b 0 ≡ byte
    → Leaves byte f s t → Reads d xs a (b + 1) (went e s) (went f t)
reads-number_mark d xs a b byte e f s t n v fits is (comma h k out) =
    subst (λ (u : List Holder). Reads d xs a (b + 1) (went e s) (went f u)) (sym out) (reads-number_comma d xs a b e f s n v fits (is ∙ h) k)
reads-number_mark d xs a b byte e f s t n v fits is (array_end h k out) = reads-number_close_array d xs a b e f s t n v fits (is ∙ h) k out
reads-number_mark d xs a b byte e f s t n v fits is (object_end h k out) = reads-number_close_object d xs a b e f s t n v fits (is ∙ h) k out

pub reads-leave : (d : ℕ) (xs : List ℕ) (i byte : ℕ) (f : Expect) (s t : List Holder) → i < length xs → get_or xs i 0 ≡ byte → Leaves byte f s t
    → Reads d xs i (i + 1) (went After s) (went f t)
reads-leave d xs i byte f s t low is (comma h k out) =
    subst (λ (u : List Holder). Reads d xs i (i + 1) (went After s) (went f u)) (sym out) (reads-comma d xs i f s low (is ∙ h) k)
reads-leave d xs i byte f s t low is (array_end h k out) = reads-close_array d xs i After f s t low (is ∙ h) k out
reads-leave d xs i byte f s t low is (object_end h k out) = reads-close_object d xs i After f s t low (is ∙ h) k out

-- ---- the depth

abbrev pub Within : ℕ → Reading → Type 0
Within d (went e s) = length s ≤ d
Within d (stopped at) = Unit {0}
Within d (too_deep at) = Unit {0}

shorter : (s : List Holder) → length (without_top s) ≤ length s
shorter [] = omega arith
shorter (h ∷ s) = omega arith

changed-within : (d at : ℕ) (c : Change) (f : Expect) (s : List Holder) → length s ≤ d → Within d (changed d at c f s)
changed-within d at same f s low = low
changed-within d at removed f s low = let n = shorter s in omega (arith, n, low)
changed-within d at (added h) f s low = go (nat_lt (length s) d) refl
  where
    go : (b : Bool) → nat_lt (length s) d ≡ b → Within d (if b then went f (h ∷ s) else too_deep at)
    go true e = let n : length s < d = grind (arith, nat_tests, e) in omega (arith, n)
    go false e = tt

moved-within : (d at : ℕ) (c : Change) (o : Option Expect) (s : List Holder) → length s ≤ d → Within d (moved d at c o s)
moved-within d at c None s low = tt
moved-within d at c (Some f) s low = changed-within d at c f s low

step-within : (d : ℕ) (m : Mark) (r : Reading) → Within d r → Within d (step d m r)
step-within d m (went e s) h = moved-within d m.at (change_of m.kind) (next_of m.kind e (top s)) s h
step-within d m (stopped at) h = tt
step-within d m (too_deep at) h = tt

read-within : (d : ℕ) (ms : List Mark) (r : Reading) → Within d r → Within d (read d ms r)
read-within d [] r h = h
read-within d (m ∷ ms) r h = read-within d ms (step d m r) (step-within d m r h)

pub reads-within : (d : ℕ) (xs : List ℕ) (a b : ℕ) (e f : Expect) (s t : List Holder) → Reads d xs a b (went e s) (went f t) → length s ≤ d → length t ≤ d
reads-within d xs a b e f s t r low = subst (Within d) (sym r.read) (read-within d ((lex Gap a (slice_range xs a b)).marks) (went e s) low)

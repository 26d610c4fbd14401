-- Marks that are reduced one by one.
use Rattle.std.proofs.Common.{◌≡◌, ℕ, ◌+◌, ◌<◌, ◌≤◌, List, [], ◌∷◌, ◌++◌, length, refl, sym, ap, subst, ◌∙◌, arith, Option, None, Some, Bool, true, false, not, is_some, append_assoc, append-nil}
use Rattle.jx_reduce.specs.Fits.{Fits}
use Rattle.jx_reduce.specs.Form.{Form}
use Rattle.jx_reduce.specs.Levels.{form_of}
use Rattle.jx_reduce.specs.Marks.{of_marks}
use Rattle.jx_reduce.specs.Offsets.{EachIn, EndIn, FaultsIn, OffsetsIn, RisingFrom}
use Rattle.jx_reduce.specs.Read.{went, read}
use Rattle.jx_reduce.specs.Reducer.{ReducerValue, HasReduced, past}
use Rattle.jx_reduce.specs.Structure.{StructureValue, answer, AreIn, SpansIn}
use Rattle.jx_reduce.specs.inside.Quiet.{AreLimits, GoesOn, IsPassed}
use Rattle.jx_reduce.specs.inside.Reducers.{IsReady}
use Rattle.jx_reduce.specs.inside.Structures.{of_making, string_head, end_of, IsSound, MayFollow}
use Rattle.jx_reduce.specs.declared.table.expect.Expect.{Expect}
use Rattle.jx_reduce.specs.declared.table.holder.Holder.{Holder}
use Rattle.jx_reduce.specs.declared.forms.levels.Levels.{Levels}
use Rattle.jx_reduce.specs.declared.forms.quiet.Limits.{Limits}
use Rattle.jx_reduce.specs.declared.forms.structure.Making.{Making}
use Rattle.jx_reduce.proofs.Cuts.{RisingFrom-less, rising-split}
use Rattle.jx_reduce.proofs.Exits.{GoesOn-of_marks}
use Rattle.jx_reduce.proofs.Readings.{Fits-pushed, none_of, of_marks_over, read-append}
use Rattle.jx_reduce.proofs.StructureReads.{on_reads}
use Rattle.jx_reduce.proofs.Structures.{on, AreIn_more, end_put}
use Rattle.jx_lex.specs.declared.alphabet.mark.Mark.{Mark}

-- ---- marks in front of one

rising_low : (b : ℕ) (ms : List Mark) (m : Mark) → RisingFrom b (ms ++ m ∷ []) → b ≤ m.at
rising_low b [] m h = h.0
rising_low b (n ∷ ms) m h = let k : n.at + 1 ≤ m.at = rising_low (n.at + 1) ms m h.1 in omega (arith, k, h.0)

each_before : (b : ℕ) (ms : List Mark) (m : Mark) → RisingFrom b (ms ++ m ∷ []) → EachIn (λ n. (0 ≤ n.at) × (n.at < m.at)) ms
each_before b [] m h = tt
each_before b (n ∷ ms) m h =
    let k : n.at + 1 ≤ m.at = rising_low (n.at + 1) ms m h.1 in
    ((omega arith, omega (arith, k)), each_before (n.at + 1) ms m h.1)

each_split : (Q : Mark → Type 0) (xs ys : List Mark) → EachIn Q (xs ++ ys) → EachIn Q xs × EachIn Q ys
each_split Q [] ys a = (tt, a)
each_split Q (x ∷ xs) ys a = let r = each_split Q xs ys a.1 in ((a.0, r.0), r.1)

-- what reading one mark more comes to
pub record IsStep (old new : ReducerValue) (m : Mark) : Type 0 where
  pub depth : new.structure.depth ≡ old.structure.depth
  pub rising : new.rising ≡ true
  pub reads : (e : Expect) (s : List Holder) → length s ≤ old.structure.depth → answer new.structure e s ≡ read old.structure.depth (m ∷ []) (answer old.structure e s)
  pub offsets : (low high : ℕ) → SpansIn low high old.structure → low ≤ m.at → m.at < high → SpansIn low high new.structure
  pub last : past new.last ≤ m.at + 1

pub one_more : (old new : ReducerValue) (m : Mark) → (MayFollow old.structure (m ∷ []) → old.rising ≡ true → past old.last ≤ m.at → IsStep old new m)
    → (marks : List Mark) → HasReduced marks old → HasReduced (marks ++ m ∷ []) new
one_more old new m step marks h up =
    let k = h (rising-split 0 marks (m ∷ []) up).0 in
    let may : MayFollow old.structure (m ∷ []) = record {
      between = m.at;
      left = AreIn_more (λ p. (0 ≤ p) × (p < m.at)) (λ p. p < m.at) old.structure (λ p h. h.1) (k.offsets 0 m.at (each_before 0 marks m up));
      right = (omega arith, tt);
    } in
    let s = step may k.rising (k.behind (m ∷ []) up).0 in
    record {
      rising = s.rising;
      reads = λ e u short.
          let within : length u ≤ old.structure.depth = subst (λ d. length u ≤ d) s.depth short in
          s.reads e u within
          ∙ ap (read old.structure.depth (m ∷ [])) (k.reads e u within)
          ∙ sym (read-append old.structure.depth marks (m ∷ []) (went e u))
          ∙ ap (λ d. read d (marks ++ m ∷ []) (went e u)) (sym s.depth);
      offsets = λ low high a.
          let b = each_split (λ m. (low ≤ m.at) × (m.at < high)) marks (m ∷ []) a in
          s.offsets low high (k.offsets low high b.0) b.1.0.0 b.1.0.1;
      behind = λ more up'.
          RisingFrom-less (m.at + 1) (past new.last) more s.last
          (subst (λ n. RisingFrom n more) (end_put 0 marks (m ∷ [])) (rising-split 0 (marks ++ m ∷ []) more up').1);
    }

not_none : {X : Type 0} (x : Option X) → x ≡ None → is_some x ≡ true → ⊥
not_none None e h = cc
not_none (Some y) e h = cc

-- ---- a mark that changes at most what is open and the exit

kept_in : (Q : ℕ → Type 0) (d : ℕ) (r q : Form) (m : Mark) (k : Limits) → IsPassed d r m q k → OffsetsIn Q r → OffsetsIn Q q
kept_in Q d r q m k p o =
    record {
      ended = subst (EachIn (EndIn Q)) (sym p.ended) o.ended;
      last = subst (FaultsIn Q) (sym p.last) o.last;
      heights = subst (EachIn Q) (sym p.heights) o.heights;
    }

abbrev pub value : ℕ → StructureValue → Option ℕ → Bool → ReducerValue
value d f last rising = record { depth = d; structure = f; last = last; rising = rising }

module _ (d : ℕ) (s : Option ℕ) (v w : Levels) (l k : Limits) (last : Option ℕ) (m : Mark) where
  abbrev making : Option Mark → Levels → Making
  making f u = record { string = s; first = f; levels = u }

  -- what is answered of a quiet mark
  abbrev Passes : Type 0
  Passes = (d : ℕ) → Fits d (form_of v) → GoesOn (form_of v) → AreLimits d (form_of v) l → IsPassed d (form_of v) m (form_of w) k

  value_same : (f : Option Mark) → form_of w ≡ form_of v → of_making d (making f w) ≡ of_making d (making f v)
  value_same None e = refl
  value_same (Some n) e = λ i. record { depth = d; head = string_head s ++ n ∷ []; tail = Some (e i) }

  pub same_ready : (f : Option Mark) → form_of w ≡ form_of v → k ≡ l → IsReady d (making f v) l last → IsReady d (making f w) k last
  same_ready f e g h =
      record {
        sound = subst IsSound (sym (value_same f e)) h.sound;
        below = subst (AreIn (λ p. p < past last)) (sym (value_same f e)) h.below;
        waits = λ none. ap (λ (r : Form). r.exit) e ∙ h.waits none;
        limits = subst (λ r. AreLimits d r k) (sym e) (subst (AreLimits d (form_of v)) (sym g) h.limits);
      }

  pub passed_ready : (f : Option Mark) → is_some v.exit ≡ true → Passes → IsReady d (making f v) l last → IsReady d (making f w) k last
  passed_ready None leads passes h = absurd (not_none v.exit (h.waits refl) leads)
  passed_ready (Some n) leads passes h =
      let t = h.sound.tail in
      let p = passes d t.fits t.goes_on h.limits in
      record {
        sound = record {
          few = h.sound.few;
          rising = h.sound.rising;
          tail = record {
            fits = subst (Fits d) (sym p.form) (Fits-pushed d (form_of v) m t.fits);
            goes_on = subst GoesOn (sym p.form) (GoesOn-of_marks d (form_of v) (m ∷ []) t.goes_on);
            offsets = kept_in (λ p. end_of 0 (string_head s ++ n ∷ []) ≤ p) d (form_of v) (form_of w) m k p t.offsets;
          };
        };
        below = record { head = h.below.head; tail = kept_in (λ p. p < past last) d (form_of v) (form_of w) m k p h.below.tail };
        waits = λ none. absurd (not_none (Some n) none refl);
        limits = p.limits;
      }

  pub kept_ready : (f : Option Mark) (b : Bool) → (b ≡ true → is_some v.exit ≡ true) → (b ≡ true → Passes) → (b ≡ false → (form_of w ≡ form_of v) × (k ≡ l))
      → IsReady d (making f v) l last → IsReady d (making f w) k last
  kept_ready f true leads passes others h = passed_ready f (leads refl) (passes refl) h
  kept_ready f false leads passes others h = let e = others refl in same_ready f e.0 e.1 h

  pub same_value : (f : Option Mark) (rising : Bool) → form_of w ≡ form_of v
      → value d (of_making d (making f w)) last rising ≡ value d (of_making d (making f v)) last rising
  same_value f rising e = ap (λ g. value d g last rising) (value_same f e)

  pub passed_step : (f : Option Mark) → is_some v.exit ≡ true → Passes → IsReady d (making f v) l last
      → MayFollow (of_making d (making f v)) (m ∷ []) → past last ≤ m.at → (rising : Bool) → rising ≡ true
      → IsStep (value d (of_making d (making f v)) last rising) (value d (of_making d (making f w)) last rising) m
  passed_step None leads passes h may up rising r = absurd (not_none v.exit (h.waits refl) leads)
  passed_step (Some n) leads passes h may up rising r =
      let f = of_making d (making (Some n) v) in
      let t = h.sound.tail in
      let p = passes d t.fits t.goes_on h.limits in
      let new : of_making d (making (Some n) w) ≡ on f (of_marks d (form_of v) (m ∷ [])) = λ i. record { depth = d; head = string_head s ++ n ∷ []; tail = Some (p.form i) } in
      record {
        depth = refl;
        rising = r;
        reads = λ e u short. ap (λ g. answer g e u) new ∙ on_reads f (form_of v) (m ∷ []) refl may h.sound e u short;
        offsets = λ low high a b c. record { head = a.head; tail = kept_in (λ p. (low ≤ p) × (p < high)) d (form_of v) (form_of w) m k p a.tail };
        last = omega (arith, up);
      }

-- ---- behind a form that nothing leads on from

module _ (d : ℕ) (s : Option ℕ) (n : Mark) (v : Levels) (l : Limits) (last : Option ℕ) (rising : Bool) (over : v.exit ≡ None)
    (ready : rising ≡ true → IsReady d (record { string = s; first = Some n; levels = v }) l last) where
  abbrev f : StructureValue
  f = of_making d (record { string = s; first = Some n; levels = v })

  abbrev r : ReducerValue
  r = value d f last rising

  over_step : (m : Mark) → MayFollow f (m ∷ []) → rising ≡ true → past last ≤ m.at → IsStep r r m
  over_step m may up low =
      record {
        depth = refl;
        rising = up;
        reads = λ e u short. ap (λ t. answer (on f t) e u) (sym (of_marks_over d (form_of v) (m ∷ []) over)) ∙ on_reads f (form_of v) (m ∷ []) refl may (ready up).sound e u short;
        offsets = λ low high a b c. a;
        last = omega (arith, low);
      }

  pub over_more : (marks more : List Mark) → HasReduced marks r → HasReduced (marks ++ more) r
  over_more marks [] h = subst (λ ms. HasReduced ms r) (sym (append-nil marks)) h
  over_more marks (m ∷ more) h = subst (λ ms. HasReduced ms r) (append_assoc marks (m ∷ []) more) (over_more (marks ++ m ∷ []) more (one_more r r m (over_step m) marks h))

pub over_all : (d : ℕ) (s : Option ℕ) (f : Option Mark) (v : Levels) (l : Limits) (last : Option ℕ) (rising : Bool)
    → (a b : Bool) → is_some v.exit ≡ not a → a ≡ true → b ≡ is_some f → b ≡ true
    → (rising ≡ true → IsReady d (record { string = s; first = f; levels = v }) l last)
    → (marks more : List Mark) → HasReduced marks (value d (of_making d (record { string = s; first = f; levels = v })) last rising)
    → HasReduced (marks ++ more) (value d (of_making d (record { string = s; first = f; levels = v })) last rising)
over_all d s None v l last rising a b over yes_a some yes_b ready = absurd (not_none {X = Mark} None refl (sym some ∙ yes_b))
over_all d s (Some n) v l last rising a b over yes_a some yes_b ready = over_more d s n v l last rising (none_of v.exit (over ∙ ap not yes_a)) ready

-- ---- a mark that changes more

pub may_follow : (f : StructureValue) (b : ℕ) (m : Mark) → AreIn (λ p. p < b) f → b ≤ m.at → MayFollow f (m ∷ [])
may_follow f b m below low = record { between = b; left = below; right = (low, tt) }

-- what reading this mark makes of a structure
abbrev pub Keeps : StructureValue → StructureValue → Mark → Type 0
Keeps f g m = (low high : ℕ) → SpansIn low high f → EachIn (λ n. (low ≤ n.at) × (n.at < high)) (m ∷ []) → SpansIn low high g

pub below_after : (f g : StructureValue) (b : ℕ) (m : Mark) → AreIn (λ p. p < b) f → b ≤ m.at → Keeps f g m → AreIn (λ p. p < m.at + 1) g
below_after f g b m below low keeps =
    AreIn_more (λ p. (0 ≤ p) × (p < m.at + 1)) (λ p. p < m.at + 1) g (λ p h. h.1)
    (keeps 0 (m.at + 1) (AreIn_more (λ p. p < b) (λ p. (0 ≤ p) × (p < m.at + 1)) f (λ p h. (omega arith, omega (arith, h, low))) below) ((omega arith, omega arith), tt))

pub read_step : (old : ReducerValue) (d : ℕ) (g : StructureValue) (m : Mark) → g.depth ≡ old.structure.depth
    → ((e : Expect) (s : List Holder) → length s ≤ old.structure.depth → answer g e s ≡ read old.structure.depth (m ∷ []) (answer old.structure e s))
    → Keeps old.structure g m → IsStep old (value d g (Some m.at) true) m
read_step old d g m depth reads keeps =
    record { depth = depth; rising = refl; reads = reads; offsets = λ low high a b c. keeps low high a ((b, c), tt); last = omega arith }

-- marks that don't rise are of no account
pub not_rising : (old new : ReducerValue) (m : Mark) → (old.rising ≡ true → past old.last ≤ m.at → ⊥) → (marks : List Mark) → HasReduced marks old → HasReduced (marks ++ m ∷ []) new
not_rising old new m falls marks h up = let k = h (rising-split 0 marks (m ∷ []) up).0 in absurd (falls k.rising (k.behind (m ∷ []) up).0)

-- The transitions that are made of a chunk map, and their structures.
use Rattle.std.proofs.Common.{◌≡◌, ◌≢◌, ℕ, zero, suc, ◌+◌, ◌<◌, ◌≤◌, List, [], ◌∷◌, ◌++◌, length, get_or, take, Option, Some, None, Bool, true, false, Result, Ok, Err, set, flat_map, append_assoc, refl, sym, ap, subst, ◌∙◌, inl, inr, ◌⊎◌, arith, All}
use Rattle.std.specs.Prelude.{◌==◌, slice_get, IfOk, IfSome, IsSomeAnd}
use Rattle.std.proofs.lemmas.Bool.Decides.{Decides-eqb, nat_tests, not_from_Decides}
use Rattle.std.proofs.lemmas.List.{get_or_append_left, get_or_default, get_or-set_same, get_or-set_other, length-append, length-set}
use Rattle.std.proofs.Math.Seq.{take-suc}
use Rattle.std.proofs.lemmas.List.Concat.{flat_map-cons}
use Rattle.jx_lex.specs.declared.alphabet.lex_exit.LexExit.{LexExit}
use Rattle.jx_maps.specs.declared.link.Link.{Link}
use Rattle.jx_maps.specs.declared.link.Link.TheVariants.{Ahead, State, Fault}
use Rattle.std.proofs.lemmas.List.Elements.{All-append, All-cons, All-nil}
use Rattle.jx_lex.specs.declared.alphabet.mark.Mark.{Mark}
use Rattle.jx_lex.specs.declared.alphabet.mark.MarkKind.{MarkKind}
use Rattle.jx_lex.specs.declared.alphabet.state.LexState.{LexState}
use Rattle.std.proofs.lemmas.Option.{get_or_from_slice_get, slice_get_within, slice_get-get_or}
use Rattle.jx_maps.specs.Follow.{SegmentValue}
use Rattle.jx_lex.specs.Lex.{lex, on_next, with_mark, Track}
use Rattle.jx_maps.specs.Map.{Map, track}
use Rattle.jx_maps.specs.Map
use Rattle.jx_lex.specs.Moves.{move}
use Rattle.jx_lex.specs.Ordinal.{all_states, ordinal}
use Rattle.jx_lex.specs.Exit.{exit_of}
use Rattle.jx_maps.specs.View.{marks_at, ends_at, path_from}
use Rattle.jx_reduce.specs.declared.table.expect.Expect.{Expect}
use Rattle.jx_reduce.specs.declared.table.holder.Holder.{Holder}
use Rattle.jx_reduce.specs.Offsets.{EachIn, RisingFrom}
use Rattle.jx_reduce.specs.Read.{read as read_marks, Reading}
use Rattle.jx_reduce.specs.Structure.{StructureValue, IsBefore, IsOf, SpansIn, answer}
use Rattle.jx_run.specs.declared.runs.transition.Transition.{Transition}
use Rattle.jx_run.specs.Reading.{at_exit, read}
use Rattle.jx_run.specs.inside.Reduced.{AreInside, AreNumbered, AreReduced, AreRising, AreTransitionsOf, IsAt, IsReduced, IsTransitionOf, path_at}
use Rattle.jx_run.specs.inside.Joins.{IsAbove}
use Rattle.jx_run.specs.OutcomeRun.{OutcomeRunValue, IsOutcomeRun, IsFormWithin, outcome_in}
use Rattle.jx_lex.proofs.StateOrder.{state-at}
use Rattle.jx_run.proofs.Transitions.{at_end, entries_are}

-- ---- the marks of the lexical machine rise, and lie where the bytes do

abbrev IsIn : ℕ → ℕ → Mark → Type 0
IsIn low high m = (low ≤ m.at) × (m.at < high)

lower : (b c : ℕ) (ms : List Mark) → b ≤ c → RisingFrom c ms → RisingFrom b ms
lower b c [] le h = tt
lower b c (m ∷ ms) le h = (omega (arith, h.0), h.1)

marked : (k : Option MarkKind) (at : ℕ) (ms : List Mark) → RisingFrom (suc at) ms → RisingFrom at (with_mark k at ms)
marked None at ms h = lower at (suc at) ms (omega arith) h
marked (Some k) at ms h = (omega arith, subst (λ n. RisingFrom n ms) (let e : suc at ≡ at + 1 = omega arith in e) h)

lex-rising : (s : LexState) (at : ℕ) (bytes : List ℕ) → RisingFrom at (lex s at bytes).marks
unfolding lex
lex-rising s at [] = tt
lex-rising s at (b ∷ bytes) = marked ((move s b).begin) at _ (after ((move s b).next) (λ n. lex-rising n (suc at) bytes))
  where
    after : (n : Option LexState) → ((n : LexState) → RisingFrom (suc at) (lex n (suc at) bytes).marks) → RisingFrom (suc at) (on_next n at (λ n. lex n (suc at) bytes)).marks
    after None h = tt
    after (Some n) h = h n

wider : (low high low' high' : ℕ) (ms : List Mark) → low' ≤ low → high ≤ high' → EachIn (IsIn low high) ms → EachIn (IsIn low' high') ms
wider low high low' high' [] le le' h = tt
wider low high low' high' (m ∷ ms) le le' h = ((omega (arith, h.0.0, le), omega (arith, h.0.1, le')), wider low high low' high' ms le le' h.1)

marked_in : (k : Option MarkKind) (at high : ℕ) (ms : List Mark) → at < high → EachIn (IsIn (suc at) high) ms → EachIn (IsIn at high) (with_mark k at ms)
marked_in None at high ms lt h = wider (suc at) high at high ms (omega arith) (omega arith) h
marked_in (Some k) at high ms lt h = ((omega arith, lt), wider (suc at) high at high ms (omega arith) (omega arith) h)

pub lex-in : (s : LexState) (at : ℕ) (bytes : List ℕ) → EachIn (IsIn at (at + length bytes)) (lex s at bytes).marks
unfolding lex
lex-in s at [] = tt
lex-in s at (b ∷ bytes) =
    marked_in ((move s b).begin) at (at + suc (length bytes)) _ (omega arith)
    (subst (λ n. EachIn (IsIn (suc at) n) (on_next ((move s b).next) at (λ n. lex n (suc at) bytes)).marks) (let e : suc at + length bytes ≡ at + suc (length bytes) = omega arith in e)
    (after ((move s b).next) (λ n. lex-in n (suc at) bytes)))
  where
    after : (n : Option LexState) → ((n : LexState) → EachIn (IsIn (suc at) (suc at + length bytes)) (lex n (suc at) bytes).marks)
        → EachIn (IsIn (suc at) (suc at + length bytes)) (on_next n at (λ n. lex n (suc at) bytes)).marks
    after None h = tt
    after (Some n) h = h n

pub lex_rises : (s : LexState) (at : ℕ) (bytes : List ℕ) → RisingFrom 0 (lex s at bytes).marks
lex_rises s at bytes = lower 0 at _ (omega arith) (lex-rising s at bytes)

-- marks that go on rising behind these
pub rises-then : (low from high : ℕ) (xs ys : List Mark) → low ≤ high → RisingFrom low xs → EachIn (IsIn from high) xs → RisingFrom high ys → RisingFrom low (xs ++ ys)
rises-then low from high [] ys le h i k = lower low high ys le k
rises-then low from high (m ∷ xs) ys le h i k = (h.0, rises-then (m.at + 1) from high xs ys (let b = i.0.1 in omega (arith, b)) h.1 i.1 k)

pub tracks_rise : (m : Map) (bytes : List ℕ) → Map.IsOf bytes m → AreRising m
tracks_rise m bytes h s = subst (λ (t : Track). RisingFrom 0 t.marks) (sym (h.tracks s)) (lex_rises s m.start bytes)

pub tracks_in : (m : Map) (bytes : List ℕ) → Map.IsOf bytes m → AreInside m
tracks_in m bytes h s =
    subst (λ n. EachIn (IsIn m.start n) (track m s).marks) (sym h.long)
    (subst (λ (t : Track). EachIn (IsIn m.start (m.start + length bytes)) t.marks) (sym (h.tracks s)) (lex-in s m.start bytes))

-- ---- one segment more

each-append : (Q : Mark → Type 0) (xs ys : List Mark) → EachIn Q (xs ++ ys) → EachIn Q xs × EachIn Q ys
each-append Q [] ys h = (tt, h)
each-append Q (x ∷ xs) ys h = let r = each-append Q xs ys h.1 in ((h.0, r.0), r.1)

-- marks that rise lie on two sides of an offset
pub record Parted (xs ys : List Mark) : Type 0 where
  pub between : ℕ
  pub high : ℕ
  pub below : EachIn (IsIn 0 between) xs
  pub above : EachIn (IsIn between high) ys

end_of : ℕ → List Mark → ℕ
end_of b [] = b
end_of b (m ∷ ms) = end_of (m.at + 1) ms

end-low : (b : ℕ) (ms : List Mark) → RisingFrom b ms → b ≤ end_of b ms
unfolding end_of
end-low b [] h = omega arith
end-low b (m ∷ ms) h = let r = end-low (m.at + 1) ms h.1 in let l = h.0 in omega (arith, r, l)

rising-in : (b : ℕ) (ms : List Mark) → RisingFrom b ms → EachIn (IsIn b (end_of b ms)) ms
unfolding end_of
rising-in b [] h = tt
rising-in b (m ∷ ms) h =
    let r = end-low (m.at + 1) ms h.1 in let l = h.0 in
    ((l, omega (arith, r)), wider (m.at + 1) (end_of (m.at + 1) ms) b (end_of (m.at + 1) ms) ms (omega (arith, l)) (omega arith) (rising-in (m.at + 1) ms h.1))

rising_parts : (b : ℕ) (xs ys : List Mark) → RisingFrom b (xs ++ ys) → RisingFrom b xs × RisingFrom (end_of b xs) ys
unfolding end_of
rising_parts b [] ys h = (tt, h)
rising_parts b (x ∷ xs) ys h = let r = rising_parts (x.at + 1) xs ys h.1 in ((h.0, r.0), r.1)

parted : (xs ys : List Mark) → RisingFrom 0 (xs ++ ys) → Parted xs ys
parted xs ys h =
    let r = rising_parts 0 xs ys h in
    record { between = end_of 0 xs; high = end_of (end_of 0 xs) ys; below = rising-in 0 xs r.0; above = rising-in (end_of 0 xs) ys r.1 }

pub segment_rises : (xs ys : List Mark) → RisingFrom 0 (xs ++ ys) → RisingFrom 0 ys
segment_rises xs ys h = lower 0 (end_of 0 xs) ys (omega arith) (rising_parts 0 xs ys h).1

pub front_rises : (xs ys : List Mark) → RisingFrom 0 (xs ++ ys) → RisingFrom 0 xs
front_rises xs ys h = (rising_parts 0 xs ys h).0

-- the structures of neighbouring spans may be joined
abbrev pub Before : Type 0
Before = (low between high : ℕ) (l r : StructureValue) → SpansIn low between l → SpansIn between high r → IsBefore l r

pub reduced_before : Before → (limit : ℕ) (xs ys : List Mark) (f g : StructureValue) → IsReduced limit xs f → IsReduced limit ys g → RisingFrom 0 (xs ++ ys) → IsBefore f g
reduced_before before limit xs ys f g a b h =
    let p = parted xs ys h in before 0 p.between p.high f g (a.offsets 0 p.between p.below) (b.offsets p.between p.high p.above)

pub reduced_more : (limit : ℕ) (xs ys : List Mark) (f g j : StructureValue) → IsReduced limit xs f → IsReduced limit ys g → j.depth ≡ f.depth
    → ((ms ns : List Mark) → IsOf ms f → IsOf ns g → IsOf (ms ++ ns) j)
    → ((low high : ℕ) → SpansIn low high f → SpansIn low high g → SpansIn low high j) → IsReduced limit (xs ++ ys) j
reduced_more limit xs ys f g j a b deep reads spans =
    record {
      depth = deep ∙ a.depth;
      reads = reads xs ys a.reads b.reads;
      offsets = λ low high h. let r = each-append _ xs ys h in spans low high (a.offsets low high r.0) (b.offsets low high r.1);
    }

pub reduced_ok : {E : Type 0} (limit : ℕ) (ms : List Mark) (r : Result StructureValue E) → IfOk r (λ f. f.depth ≡ limit) → IfOk r (λ f. IsOf ms f)
    → IfOk r (λ f. (low high : ℕ) → EachIn (λ (m : Mark). (low ≤ m.at) × (m.at < high)) ms → SpansIn low high f) → IfOk r (IsReduced limit ms)
reduced_ok limit ms (Ok f) deep reads offsets = record { depth = deep; reads = reads; offsets = offsets }
reduced_ok limit ms (Err e) deep reads offsets = tt

-- ---- the structures of segments

-- the next number on the path
pub first_within : (path more : List ℕ) (n m : ℕ) → path ≡ n ∷ more → All (λ i. i < m) path → n < m
first_within path more n m e h = let a : All (λ i. i < m) (n ∷ more) = subst (All (λ i. i < m)) e h in a 0 0 (omega arith)

pub rest_within : (path more : List ℕ) (n m : ℕ) → path ≡ n ∷ more → All (λ i. i < m) path → All (λ i. i < m) more
rest_within path more n m e h k d low = let a : All (λ i. i < m) (n ∷ more) = subst (All (λ i. i < m)) e h in a (suc k) d (omega (arith, low))

pub next_flat : {A : Type 0} (f : ℕ → List A) (xs : List A) (path more : List ℕ) (n : ℕ) (ys all : List A) → path ≡ n ∷ more → f n ≡ ys
    → xs ++ flat_map f path ≡ all → (xs ++ ys) ++ flat_map f more ≡ all
next_flat f xs path more n ys all e same h =
    append_assoc xs ys (flat_map f more)
    ∙ ap (λ zs. xs ++ (zs ++ flat_map f more)) (sym same)
    ∙ ap (λ zs. xs ++ zs) (sym (flat_map-cons f n more))
    ∙ ap (λ q. xs ++ flat_map f q) (sym e)
    ∙ h

abbrev no_segment : SegmentValue
no_segment = record { marks = []; ends = []; next = Fault 0 }

pub marks_same : (ps : List SegmentValue) (n : ℕ) (p : SegmentValue) → n < length ps → p ≡ get_or ps n p → marks_at ps n ≡ p.marks
marks_same ps n p low e = ap (λ (p : SegmentValue). p.marks) (get_or_default ps n no_segment p low ∙ sym e)

pub ends_same : (ps : List SegmentValue) (n : ℕ) (p : SegmentValue) → n < length ps → p ≡ get_or ps n p → ends_at ps n ≡ p.ends
ends_same ps n p low e = ap (λ (p : SegmentValue). p.ends) (get_or_default ps n no_segment p low ∙ sym e)

pub slot_if : (limit : ℕ) (ps : List SegmentValue) (slots : List (Option StructureValue)) (n : ℕ) (d : Option StructureValue) (p : SegmentValue) → n < length slots → n < length ps
    → AreReduced limit ps slots → p ≡ get_or ps n p → IfSome (get_or slots n d) (IsReduced limit p.marks)
slot_if limit ps slots n d p low low' h e = pick (get_or slots n d) refl
  where
    pick : (o : Option StructureValue) → get_or slots n d ≡ o → IfSome o (IsReduced limit p.marks)
    pick None q = tt
    pick (Some f) q = subst (λ ms. IsReduced limit ms f) (marks_same ps n p low' e) (h n f (slice_get-get_or slots n d low ∙ ap Some q))

pub set_reduced : (limit : ℕ) (ps : List SegmentValue) (slots : List (Option StructureValue)) (k : ℕ) (o : Option StructureValue) (p : SegmentValue) → k < length slots → marks_at ps k ≡ p.marks
    → AreReduced limit ps slots → IsSomeAnd o (IsReduced limit p.marks) → AreReduced limit ps (set slots k o)
set_reduced limit ps slots k o p low same h new n f e = pick (n == k) refl
  where
    low' : n < length slots
    low' = subst (λ m. n < m) (length-set slots k o) (slice_get_within (set slots k o) n (Some f) e)

    is : get_or (set slots k o) n None ≡ Some f
    is = get_or_from_slice_get (set slots k o) n (Some f) None e

    pick : (b : Bool) → (n == k) ≡ b → IsReduced limit (marks_at ps n) f
    pick true q =
        let here : n ≡ k = grind (arith, nat_tests) in
        let it : o ≡ Some f = sym (get_or-set_same slots k o None low) ∙ ap (λ m. get_or (set slots k o) m None) (sym here) ∙ is in
        let new' : IsSomeAnd (Some f) (IsReduced limit p.marks) = subst (λ o. IsSomeAnd o (IsReduced limit p.marks)) it new in
        subst (λ ms. IsReduced limit ms f) (sym (ap (marks_at ps) here ∙ same)) new'
    pick false q =
        let other : n ≢ k = not_from_Decides (n == k) (Decides-eqb n k) q in
        h n f (slice_get-get_or slots n None low' ∙ ap Some (sym (get_or-set_other slots k n o None other) ∙ is))

-- ---- the structures of paths

none-behind : (n : ℕ) (ps : List SegmentValue) → path_from n ps (Ahead (length ps)) ≡ []
unfolding path_from
none-behind n [] = refl
none-behind n (p ∷ ps) = none-behind (suc n) ps

-- a path that goes on begins with the number of its first segment
begins : (n : ℕ) (ps : List SegmentValue) (k : ℕ) → (path_from n ps (Ahead k) ≡ []) ⊎ ((rest : List ℕ) × (path_from n ps (Ahead k) ≡ (n + k) ∷ rest))
unfolding path_from
begins n [] k = inl refl
begins n (p ∷ ps) zero = let e : n ≡ n + 0 = omega arith in inr (path_from (suc n) ps p.next, ap (λ i. i ∷ path_from (suc n) ps p.next) e)
begins n (p ∷ ps) (suc k) = pick (begins (suc n) ps k)
  where
    pick : (path_from (suc n) ps (Ahead k) ≡ []) ⊎ ((rest : List ℕ) × (path_from (suc n) ps (Ahead k) ≡ (suc n + k) ∷ rest))
        → (path_from (suc n) ps (Ahead k) ≡ []) ⊎ ((rest : List ℕ) × (path_from (suc n) ps (Ahead k) ≡ (n + suc k) ∷ rest))
    pick (inl h) = inl h
    pick (inr h) = let e : suc n + k ≡ n + suc k = omega arith in inr (h.0, h.1 ∙ ap (λ i. i ∷ h.0) e)

-- a path is known by its first segment
pub path-first : (ps : List SegmentValue) (link : Link) (n : ℕ) (rest : List ℕ) → path_from 0 ps link ≡ n ∷ rest → path_at ps n ≡ path_from 0 ps link
unfolding path_from
path-first [] (State s) n rest h = absurd cc
path-first (p ∷ ps) (State s) n rest h = absurd cc
path-first [] (Fault at) n rest h = absurd cc
path-first (p ∷ ps) (Fault at) n rest h = absurd cc
path-first ps (Ahead k) n rest h = pick (begins 0 ps k)
  where
    pick : (path_from 0 ps (Ahead k) ≡ []) ⊎ ((more : List ℕ) × (path_from 0 ps (Ahead k) ≡ (0 + k) ∷ more)) → path_at ps n ≡ path_from 0 ps (Ahead k)
    pick (inl e) = absurd cc
    pick (inr e) =
        let same : n ∷ rest ≡ (0 + k) ∷ e.0 = sym h ∙ e.1 in
        let first : n ≡ 0 + k = cc in
        let here : n ≡ k = omega (arith, first) in
        ap (path_at ps) here

pub path-none : (ps : List SegmentValue) (link : Link) → path_from 0 ps link ≡ [] → path_at ps (length ps) ≡ path_from 0 ps link
path-none ps link h = none-behind 0 ps ∙ sym h

-- the path of none has the marks of a track that has no marks
pub path-bare : (ps : List SegmentValue) (count : ℕ) (marks : List Mark) → count ≡ length ps → marks ≡ [] → flat_map (marks_at ps) (path_at ps count) ≡ marks
path-bare ps count marks all bare = ap (λ n. flat_map (marks_at ps) (path_at ps n)) all ∙ ap (flat_map (marks_at ps)) (none-behind 0 ps) ∙ sym bare

pub at_above : (limit : ℕ) (marks : List Mark) (olds news : List StructureValue) (i : ℕ) → IsAbove olds news → IsAt limit marks olds i → IsAt limit marks news i
at_above limit marks olds news i up h = record { form = h.form; at = up i h.form h.at; of = h.of }

-- what stands in a list stays where more is pushed
pub stays_there : {X : Type 0} (xs : List X) (y : X) (i : ℕ) (x : X) → slice_get xs i ≡ Some x → slice_get (xs ++ y ∷ []) i ≡ Some x
stays_there xs y i x h =
    let low = slice_get_within xs i x h in
    let long = length-append xs (y ∷ []) in
    slice_get-get_or (xs ++ y ∷ []) i x (omega (arith, low, long))
    ∙ ap (λ z. Some z) (get_or_append_left xs (y ∷ []) x i low ∙ get_or_from_slice_get xs i x x h)

pub push_above : (fs : List StructureValue) (f : StructureValue) → IsAbove fs (fs ++ f ∷ [])
push_above fs f i g h = stays_there fs f i g h

pub pushed_at : (limit : ℕ) (marks : List Mark) (fs : List StructureValue) (f : StructureValue) → IsReduced limit marks f → IsAt limit marks (fs ++ f ∷ []) (length fs)
pushed_at limit marks fs f h = record { form = f; at = at_end fs f; of = h }

pub set_numbered : (limit : ℕ) (ps : List SegmentValue) (numbers : List (Option ℕ)) (olds news : List StructureValue) (k j : ℕ) → k < length numbers → AreNumbered limit ps numbers olds
    → IsAbove olds news → IsAt limit (flat_map (marks_at ps) (path_at ps k)) news j → AreNumbered limit ps (set numbers k (Some j)) news
set_numbered limit ps numbers olds news k j low h up new n i e = pick (n == k) refl
  where
    low' : n < length numbers
    low' = subst (λ m. n < m) (length-set numbers k (Some j)) (slice_get_within (set numbers k (Some j)) n (Some i) e)

    is : get_or (set numbers k (Some j)) n None ≡ Some i
    is = get_or_from_slice_get (set numbers k (Some j)) n (Some i) None e

    pick : (b : Bool) → (n == k) ≡ b → IsAt limit (flat_map (marks_at ps) (path_at ps n)) news i
    pick true q =
        let here : n ≡ k = grind (arith, nat_tests) in
        let it : Some j ≡ Some i = sym (get_or-set_same numbers k (Some j) None low) ∙ ap (λ m. get_or (set numbers k (Some j)) m None) (sym here) ∙ is in
        let number : j ≡ i = cc in
        subst (λ m. IsAt limit (flat_map (marks_at ps) (path_at ps m)) news i) (sym here) (subst (IsAt limit (flat_map (marks_at ps) (path_at ps k)) news) number new)
    pick false q =
        let other : n ≢ k = not_from_Decides (n == k) (Decides-eqb n k) q in
        at_above limit (flat_map (marks_at ps) (path_at ps n)) olds news i up
        (h n i (slice_get-get_or numbers n None low' ∙ ap Some (sym (get_or-set_other numbers k n (Some j) None other) ∙ is)))

pub reduced_within : (limit low high : ℕ) (marks : List Mark) (f : StructureValue) → IsReduced limit marks f → EachIn (λ (m : Mark). (low ≤ m.at) × (m.at < high)) marks → IsFormWithin limit low high f
reduced_within limit low high marks f h inside = record { depth = h.depth; offsets = h.offsets low high inside }

pub all_push : {X : Type 0} (P : X → Type 0) (xs : List X) (x : X) → All P xs → P x → All P (xs ++ x ∷ [])
all_push P xs x h p = All-append P xs (x ∷ []) h (All-cons P x [] p (All-nil P))

-- ---- the transitions of all states

pub states-many : length all_states ≡ 32
states-many = refl

module _ (limit : ℕ) (m : Map) where
  each-above : (olds news : List StructureValue) → IsAbove olds news → (ss : List LexState) (ws : List Transition) → AreTransitionsOf limit m olds ss ws → AreTransitionsOf limit m news ss ws
  each-above olds news up [] [] h = tt
  each-above olds news up [] (w ∷ ws) h = absurd h
  each-above olds news up (s ∷ ss) [] h = absurd h
  each-above olds news up (s ∷ ss) (w ∷ ws) h =
      (record { exit = h.0.exit; marks = at_above limit _ olds news w.structure up h.0.marks }, each-above olds news up ss ws h.1)

  each-more : (fs : List StructureValue) (ss : List LexState) (ws : List Transition) (s : LexState) (w : Transition) → AreTransitionsOf limit m fs ss ws → IsTransitionOf limit fs (track m s) w
      → AreTransitionsOf limit m fs (ss ++ s ∷ []) (ws ++ w ∷ [])
  each-more fs [] [] s w h a = (a, tt)
  each-more fs [] (x ∷ ws) s w h a = absurd h
  each-more fs (t ∷ ss) [] s w h a = absurd h
  each-more fs (t ∷ ss) (x ∷ ws) s w h a = (h.0, each-more fs ss ws s w h.1 a)

  pub each-length : (fs : List StructureValue) (ss : List LexState) (ws : List Transition) → AreTransitionsOf limit m fs ss ws → length ws ≡ length ss
  each-length fs [] [] h = refl
  each-length fs [] (x ∷ ws) h = absurd h
  each-length fs (t ∷ ss) [] h = absurd h
  each-length fs (t ∷ ss) (x ∷ ws) h = ap suc (each-length fs ss ws h.1)

  pub each_there : (fs : List StructureValue) (ss : List LexState) (ws : List Transition) → AreTransitionsOf limit m fs ss ws → All (λ (w : Transition). w.structure < length fs) ws
  each_there fs [] [] h = All-nil (λ (w : Transition). w.structure < length fs)
  each_there fs [] (x ∷ ws) h = absurd h
  each_there fs (t ∷ ss) [] h = absurd h
  each_there fs (t ∷ ss) (x ∷ ws) h =
      All-cons (λ (w : Transition). w.structure < length fs) x ws (slice_get_within fs x.structure h.0.marks.form h.0.marks.at) (each_there fs ss ws h.1)

  abbrev TransitionAt : List StructureValue → List Transition → ℕ → LexState → Type 0
  TransitionAt fs ws i s = (w : Transition) × (slice_get ws i ≡ Some w) × IsTransitionOf limit fs (track m s) w

  each-at : (fs : List StructureValue) (ss : List LexState) (ws : List Transition) → AreTransitionsOf limit m fs ss ws → (i : ℕ) (s : LexState) → slice_get ss i ≡ Some s → TransitionAt fs ws i s
  each-at fs [] ws h i s g = absurd cc
  each-at fs (t ∷ ss) [] h i s g = absurd h
  each-at fs (t ∷ ss) (x ∷ ws) h zero s g = let e : t ≡ s = cc in subst (TransitionAt fs (x ∷ ws) 0) e (x, refl, h.0)
  each-at fs (t ∷ ss) (x ∷ ws) h (suc i) s g = each-at fs ss ws h.1 i s g

  pub each_next : (states : List LexState) (i : ℕ) (olds news : List StructureValue) (ws : List Transition) (d : LexState) (w : Transition) → i < 32 → states ≡ all_states
      → AreTransitionsOf limit m olds (take i all_states) ws → IsAbove olds news → IsTransitionOf limit news (track m (get_or states i d)) w
      → AreTransitionsOf limit m news (take (i + 1) all_states) (ws ++ w ∷ [])
  each_next states i olds news ws d w low is h up a =
      subst (λ ss. AreTransitionsOf limit m news ss (ws ++ w ∷ []))
      (ap (λ ss. take i all_states ++ get_or ss i d ∷ []) is ∙ sym (take-suc all_states i d low) ∙ ap (λ n. take n all_states) (let n : suc i ≡ i + 1 = omega arith in n))
      (each-more news (take i all_states) ws (get_or states i d) w (each-above olds news up (take i all_states) ws h) a)

-- ---- the run of the bytes

outcome_is : (limit : ℕ) (s : LexState) (start : ℕ) (bytes : List ℕ) (t : Track) (x : LexExit) (f : StructureValue) → t ≡ lex s start bytes → exit_of x ≡ t.exit → IsReduced limit t.marks f
    → (e : Expect) (o : List Holder) → length o ≤ limit → at_exit (exit_of x) (answer f e o) ≡ read limit s e o start bytes
unfolding read
outcome_is limit s start bytes t x f same ends a e o h =
    ap (λ z. at_exit z (answer f e o)) ends
    ∙ ap (at_exit t.exit) (a.reads e o (subst (λ d. length o ≤ d) (sym a.depth) h))
    ∙ ap (λ d. at_exit t.exit (read_marks d t.marks (Reading.went e o))) a.depth
    ∙ ap (λ (t : Track). at_exit t.exit (read_marks limit t.marks (Reading.went e o))) same

pub outcomes_are_of : (run : OutcomeRunValue) (map : Map) (bytes : List ℕ) → run.start ≡ map.start → run.end ≡ map.end → Map.IsOf bytes map
    → AreTransitionsOf run.depth map run.structures all_states run.transitions → IsOutcomeRun bytes run
outcomes_are_of run map bytes start end h a =
    record {
      long = end ∙ h.long ∙ ap (λ n. n + length bytes) (sym start);
      outcomes = λ s e o short.
          let w = each-at run.depth map run.structures all_states run.transitions a (ordinal s) s (state-at s) in
          let k = (w.2).marks in
          ap (λ z. outcome_in z e o) (entries_are run s w.0 k.form w.1 k.at)
          ∙ outcome_is run.depth s map.start bytes (track map s) (w.0).exit k.form (h.tracks s) (w.2).exit k.of e o short
          ∙ ap (λ n. read run.depth s e o n bytes) (sym start);
    }

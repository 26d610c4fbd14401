-- A known stack, and a sink that is told what the stack goes past.
use Rattle.std.proofs.Common.{◌≡◌, ℕ, ◌+◌, ◌-◌, ◌≤◌, List, [], ◌∷◌, ◌++◌, length, drop, refl, sym, ◌∙◌, ap, subst, append_assoc, append-nil, arith, Option, None, Some, Bool, true, false, cond}
use Rattle.std.specs.Prelude.{◌==◌, IfSome, slice_range}
use Rattle.std.proofs.lemmas.Bool.Decides.{nat_tests}
use Rattle.std.proofs.lemmas.List.{length-drop, take_all}
use Rattle.std.proofs.lemmas.List.Sums.{fold-append}
use Rattle.jx_lex.specs.declared.alphabet.lex_exit.LexExit.{LexExit}
use Rattle.jx_lex.specs.declared.alphabet.lex_exit.LexExit.TheVariants as exit
use Rattle.jx_lex.specs.declared.alphabet.mark.Mark.{Mark}
use Rattle.jx_lex.specs.declared.alphabet.mark.MarkKind.TheVariants as kind
use Rattle.jx_lex.specs.declared.alphabet.state.LexState.{LexState}
use Rattle.jx_lex.specs.declared.alphabet.state.LexState.TheVariants as state
use Rattle.jx_lex.proofs.Keeping.{grows-then}
use Rattle.jx_lex.specs.Lex.{lex, Track}
use Rattle.jx_lex.specs.Seen.{Awaits, AwaitsAt, Seen, Grows, WantsNoMore}
use Rattle.jx_lex.specs.TokenStates.{in_token}
use Rattle.jx_reduce.specs.declared.table.expect.Expect.{Expect}
use Rattle.jx_reduce.specs.declared.table.holder.Holder.{Holder}
use Rattle.jx_reduce.specs.KnownStack.{Known, IsFault}
use Rattle.jx_reduce.specs.Read.{Reading, step, read as read_marks}
use Rattle.jx_reduce.specs.Whole.{whole_of}
use Rattle.jx_reduce.proofs.KnownMoves.{read-fault}
use Rattle.jx_run.specs.inside.Past.{HasSeenPast}
use Rattle.jx_run.specs.Front.{agreed}
use Rattle.jx_run.specs.Reader.{Outcome, reads, is_fault}
use Rattle.jx_run.specs.ReaderInside.{GoesOn, IsLow, offset_at, outcome_at, settled, shifted}
use Rattle.jx_run.specs.Reading.{TextReading, went, stopped, too_deep, at_exit, read}
use Rattle.jx_run.specs.Settings.{byte_order_mark}
use Rattle.jx_run.specs.Telling.{AwaitsBehind, SeesPast, no_tokens, standing_of, track_in_front, track_of}
use Rattle.jx_run.specs.declared.readers.progress.Progress.{Progress}
use Rattle.jx_run.specs.declared.readers.progress.Progress.TheVariants.{Going, Stopped, TooDeep}
use Rattle.jx_run.proofs.BothSeen.{no_fault_before}
use Rattle.jx_run.proofs.ReaderSteps.{read-shift, slice_all, stuck}

-- ---- how far a sink is told

pub read_more : (d : ℕ) (ms more : List Mark) (r : Reading) → read_marks d (ms ++ more) r ≡ read_marks d more (read_marks d ms r)
read_more d ms more r = fold-append (λ reading mark. step d mark reading) r ms more

pub stays_fault : (d : ℕ) (ms : List Mark) (r : Reading) → IsFault r → IsFault (read_marks d ms r)
stays_fault d ms r f = subst IsFault (sym (read-fault d ms r f)) f

module _ (old : Seen) (d : ℕ) (r : Reading) where
  -- where no mark is a fault, all was told
  pub told_all : (new : Seen) (ms : List Mark) (es : List ℕ) → SeesPast old new d r ms es → (IsFault (read_marks d ms r) → ⊥) → Grows old new ms es
  told_all new ms es h sound =
      let a = h.all sound in
      let m : ms ≡ h.told = h.marks_are ∙ ap (λ (xs : List Mark). h.told ++ xs) a.0 ∙ append-nil h.told in
      let e : es ≡ h.told_ends = h.ends_are ∙ ap (λ (xs : List ℕ). h.told_ends ++ xs) a.1 ∙ append-nil h.told_ends in
      subst (λ (xs : List Mark). Grows old new xs es) (sym m) (subst (λ (xs : List ℕ). Grows old new h.told xs) (sym e) h.seen)

  pub all_told : (new : Seen) (ms : List Mark) (es : List ℕ) → ((IsFault r → ⊥) → IsFault (read_marks d ms r) → ⊥) → Grows old new ms es → SeesPast old new d r ms es
  all_told new ms es sound grows = record {
    told = ms;
    more = [];
    told_ends = es;
    more_ends = [];
    marks_are = sym (append-nil ms);
    ends_are = sym (append-nil es);
    seen = grows;
    past = sound;
    next = λ m rest e. absurd cc;
    all = λ s. (refl, refl);
  }

  -- behind a fault, more marks and ends are told to nobody
  next_mark : (told more later : List Mark) (ms : List Mark) → ms ≡ told ++ more → ((m : Mark) (rest : List Mark) → more ≡ m ∷ rest → IsFault (read_marks d (told ++ m ∷ []) r))
      → ((m : Mark) (rest : List Mark) → later ≡ m ∷ rest → IsFault (read_marks d (ms ++ m ∷ []) r)) → (m : Mark) (rest : List Mark) → more ++ later ≡ m ∷ rest → IsFault (read_marks d (told ++ m ∷ []) r)
  next_mark told [] later ms is here then m rest e =
      subst (λ (xs : List Mark). IsFault (read_marks d (xs ++ m ∷ []) r)) (is ∙ append-nil told) (then m rest e)
  next_mark told (x ∷ more) later ms is here then m rest e = let same : x ≡ m = cc in here m more (ap (λ (y : Mark). y ∷ more) same)

  pub told_no_more : (new : Seen) (ms later : List Mark) (es others : List ℕ) → SeesPast old new d r ms es → ((m : Mark) (rest : List Mark) → later ≡ m ∷ rest → IsFault (read_marks d (ms ++ m ∷ []) r))
      → IsFault (read_marks d (ms ++ later) r) → SeesPast old new d r (ms ++ later) (es ++ others)
  told_no_more new ms later es others h then fault = record {
    told = h.told;
    more = h.more ++ later;
    told_ends = h.told_ends;
    more_ends = h.more_ends ++ others;
    marks_are = ap (λ (xs : List Mark). xs ++ later) h.marks_are ∙ append_assoc h.told h.more later;
    ends_are = ap (λ (xs : List ℕ). xs ++ others) h.ends_are ∙ append_assoc h.told_ends h.more_ends others;
    seen = h.seen;
    past = h.past;
    next = next_mark h.told h.more later ms h.marks_are h.next then;
    all = λ sound. absurd (sound fault);
  }

-- ---- the stack and the sink, token by token

module _ (old : Seen) (earlier : Known) where
  pub past_new : (seen : Seen) → (IsFault earlier.reading → ⊥) → Grows old seen [] [] → HasSeenPast old earlier seen [] [] earlier
  past_new seen going grows = record { depth = refl; reading = refl; told = all_told old earlier.depth earlier.reading seen [] [] (λ s f. s f) grows }

  module _ (before : Seen) (ms : List Mark) (es : List ℕ) (k : Known) (h : HasSeenPast old earlier before ms es k) where
    sound_so_far : (IsFault k.reading → ⊥) → IsFault (read_marks earlier.depth ms earlier.reading) → ⊥
    sound_so_far sound f = sound (subst IsFault (sym h.reading) f)

    module _ (m : Mark) (new : Known) (deep : new.depth ≡ k.depth) (steps : new.reading ≡ step k.depth m k.reading) where
      step_is : new.reading ≡ read_marks earlier.depth (ms ++ m ∷ []) earlier.reading
      step_is =
          steps ∙ ap (λ (d : ℕ). step d m k.reading) h.depth ∙ ap (step earlier.depth m) h.reading
          ∙ sym (read_more earlier.depth ms (m ∷ []) earlier.reading)

      pub past_begins : (after : Seen) → ((marks : List Mark) (ends : List ℕ) → before marks ends → after (marks ++ m ∷ []) ends) → (IsFault new.reading → ⊥)
          → HasSeenPast old earlier after (ms ++ m ∷ []) es new
      past_begins after others sound =
          let going : IsFault k.reading → ⊥ = no_fault_before k.depth m k.reading (λ f. sound (subst IsFault (sym steps) f)) in
          let all = told_all old earlier.depth earlier.reading before ms es h.told (sound_so_far going) in
          record {
            depth = deep ∙ h.depth;
            reading = step_is;
            told =
                all_told old earlier.depth earlier.reading after (ms ++ m ∷ []) es (λ s f. sound (subst IsFault (sym step_is) f))
                (λ xs ys b. subst (λ (zs : List Mark). after zs (ys ++ es)) (append_assoc xs ms (m ∷ [])) (others (xs ++ ms) (ys ++ es) (all xs ys b)));
          }

      pub past_faults : IsFault new.reading → HasSeenPast old earlier before (ms ++ m ∷ []) es new
      past_faults fault =
          let here : IsFault (read_marks earlier.depth (ms ++ m ∷ []) earlier.reading) = subst IsFault step_is fault in
          let then : (n : Mark) (rest : List Mark) → m ∷ [] ≡ n ∷ rest → IsFault (read_marks earlier.depth (ms ++ n ∷ []) earlier.reading) =
          λ n rest e. let same : m ≡ n = cc in subst (λ (x : Mark). IsFault (read_marks earlier.depth (ms ++ x ∷ []) earlier.reading)) same here in
          record {
            depth = deep ∙ h.depth;
            reading = step_is;
            told =
                subst (λ (zs : List ℕ). SeesPast old before earlier.depth earlier.reading (ms ++ m ∷ []) zs) (append-nil es)
                (told_no_more old earlier.depth earlier.reading before ms (m ∷ []) es [] h.told then here);
          }

    -- whole tokens that are passed at once, none of them a fault
    pub past_passes : (more : List Mark) (others : List ℕ) (after : Seen) (new : Known) → new.depth ≡ k.depth → new.reading ≡ read_marks k.depth more k.reading
        → Grows before after more others → (IsFault k.reading → ⊥) → (IsFault new.reading → ⊥) → HasSeenPast old earlier after (ms ++ more) (es ++ others) new
    past_passes more others after new deep comes grows going sound =
        let all = told_all old earlier.depth earlier.reading before ms es h.told (sound_so_far going) in
        let is : new.reading ≡ read_marks earlier.depth (ms ++ more) earlier.reading =
        comes ∙ ap (λ (d : ℕ). read_marks d more k.reading) h.depth ∙ ap (read_marks earlier.depth more) h.reading ∙ sym (read_more earlier.depth ms more earlier.reading) in
        record {
          depth = deep ∙ h.depth;
          reading = is;
          told = all_told old earlier.depth earlier.reading after (ms ++ more) (es ++ others) (λ s f. sound (subst IsFault (sym is) f)) (grows-then old before after ms more es others all grows);
        }

    pub past_ends : (at : ℕ) (after : Seen) → ((marks : List Mark) (ends : List ℕ) → before marks ends → after marks (ends ++ at ∷ [])) → (IsFault k.reading → ⊥)
        → HasSeenPast old earlier after ms (es ++ at ∷ []) k
    past_ends at after others going =
        let all = told_all old earlier.depth earlier.reading before ms es h.told (sound_so_far going) in
        record {
          depth = h.depth;
          reading = h.reading;
          told =
              all_told old earlier.depth earlier.reading after ms (es ++ at ∷ []) (λ s. sound_so_far going)
              (λ xs ys b. subst (λ (zs : List ℕ). after (xs ++ ms) zs) (append_assoc ys es (at ∷ [])) (others (xs ++ ms) (ys ++ es) (all xs ys b)));
        }

    -- behind a fault
    pub past_over : IsFault k.reading → (more : List Mark) (others : List ℕ) → HasSeenPast old earlier before (ms ++ more) (es ++ others) k
    past_over fault more others =
        let here : IsFault (read_marks earlier.depth ms earlier.reading) = subst IsFault h.reading fault in
        let behind : (later : List Mark) → IsFault (read_marks earlier.depth (ms ++ later) earlier.reading) =
        λ later. subst IsFault (sym (read_more earlier.depth ms later earlier.reading)) (stays_fault earlier.depth later (read_marks earlier.depth ms earlier.reading) here) in
        record {
          depth = h.depth;
          reading =
              h.reading ∙ sym (read-fault earlier.depth more (read_marks earlier.depth ms earlier.reading) here)
              ∙ sym (read_more earlier.depth ms more earlier.reading);
          told = told_no_more old earlier.depth earlier.reading before ms more es others h.told (λ m rest e. behind (m ∷ [])) (behind more);
        }

    -- who wants no more has met a fault
    pub past_done : WantsNoMore (λ marks ends. HasSeenPast old earlier before marks ends k) → IsFault k.reading
    past_done done =
        let two : List Mark = record { kind = kind.Colon; at = 0 } ∷ record { kind = kind.Colon; at = 0 } ∷ [] in
        let more : HasSeenPast old earlier before (ms ++ two) (es ++ []) k = done ms two es [] h in
        let now : k.reading ≡ read_marks earlier.depth two k.reading =
        more.reading ∙ read_more earlier.depth ms two earlier.reading ∙ ap (read_marks earlier.depth two) (sym h.reading) in
        stuck earlier.depth 0 0 k.reading now

-- ---- where a reading came to

-- where it is no fault, neither is what the stack came to
pub settled_goes : (b : ℕ) (x : Option LexExit) (r : Reading) → is_fault (outcome_at (settled b x (whole_of r)) r) ≡ false → IsFault r → ⊥
settled_goes b x (Reading.went e o) h f = f
settled_goes b x (Reading.stopped at) h f = cc
settled_goes b x (Reading.too_deep at) h f = cc

-- what a sink awaits where a scan of a slice came to
pub settled_awaits : (awaits : Awaits) (b : ℕ) (x : Option LexExit) (r : Reading) → IfSome x (AwaitsAt (λ inside. (IsFault r → ⊥) → awaits inside))
    → (after : Outcome) → outcome_at (settled b x (whole_of r)) r ≡ Some after → AwaitsBehind awaits after
settled_awaits awaits b (Some (exit.State s)) (Reading.went e o) turn after is = let q : reads (went s e o) ≡ after = cc in subst (AwaitsBehind awaits) q (turn (λ f. f))
settled_awaits awaits b (Some (exit.Fault at)) (Reading.went e o) turn after is = let q : reads (stopped (offset_at b at)) ≡ after = cc in subst (AwaitsBehind awaits) q tt
settled_awaits awaits b None (Reading.went e o) turn after is = absurd cc
settled_awaits awaits b x (Reading.stopped at) turn after is = let q : reads (stopped (offset_at b at)) ≡ after = cc in subst (AwaitsBehind awaits) q tt
settled_awaits awaits b x (Reading.too_deep at) turn after is = let q : reads (too_deep (offset_at b at)) ≡ after = cc in subst (AwaitsBehind awaits) q tt

pub going_awaits : (awaits : Awaits) (s : LexState) (r : Reading) → (IsFault r → ⊥) → ((before : Outcome) → outcome_at (Going s) r ≡ Some before → AwaitsBehind awaits before) → awaits (in_token s)
going_awaits awaits s (Reading.went e o) going turn = turn (reads (went s e o)) refl
going_awaits awaits s (Reading.stopped at) going turn = absurd (going tt)
going_awaits awaits s (Reading.too_deep at) going turn = absurd (going tt)

shifted_twice : (b k : ℕ) (z : TextReading) → shifted b (shifted k z) ≡ shifted (b + k) z
shifted_twice b k (went s e o) = refl
shifted_twice b k (stopped at) = ap stopped (omega arith)
shifted_twice b k (too_deep at) = ap too_deep (omega arith)

low_twice : (b k : ℕ) (z : TextReading) → IsLow (b + k) z → IsLow b (shifted k z)
low_twice b k (went s e o) l = tt
low_twice b k (stopped at) l = omega (arith, l)
low_twice b k (too_deep at) l = omega (arith, l)

-- from an offset of a slice on, the offsets of a reading count from the slice's first byte
pub from_offset : (old new : Known) (s : LexState) (k b : ℕ) (xs : List ℕ) (p : Progress) (e : Expect) (o : List Holder) → old.reading ≡ Reading.went e o
    → GoesOn old (lex s k xs) (read_marks old.depth (lex s k xs).marks old.reading) b p new
    → GoesOn old (lex s 0 xs) (read_marks old.depth (lex s 0 xs).marks old.reading) (b + k) p new
unfolding read
from_offset old new s k b xs p e o stands h =
    let d = old.depth in
    let far : at_exit (lex s k xs).exit (read_marks d (lex s k xs).marks old.reading) ≡ shifted k (at_exit (lex s 0 xs).exit (read_marks d (lex s 0 xs).marks old.reading)) =
    ap (λ (q : Reading). at_exit (lex s k xs).exit (read_marks d (lex s k xs).marks q)) stands
    ∙ read-shift d k s e o xs
    ∙ ap (λ (q : Reading). shifted k (at_exit (lex s 0 xs).exit (read_marks d (lex s 0 xs).marks q))) (sym stands) in
    record {
      of_use = h.of_use;
      outcome = λ l.
          h.outcome (subst (IsLow b) (sym far) (low_twice b k _ l))
          ∙ ap (λ (z : TextReading). Some (reads (shifted b z))) far
          ∙ ap (λ (z : TextReading). Some (reads z)) (shifted_twice b k _);
    }

-- the whole of a slice
pub whole_goes : (old new : Known) (s : LexState) (b : ℕ) (xs : List ℕ) (p : Progress)
    → GoesOn old (lex s 0 (slice_range xs 0 (length xs))) (read_marks old.depth (lex s 0 (slice_range xs 0 (length xs))).marks old.reading) b p new
    → GoesOn old (lex s 0 xs) (read_marks old.depth (lex s 0 xs).marks old.reading) b p new
whole_goes old new s b xs p h = subst (λ (ys : List ℕ). GoesOn old (lex s 0 ys) (read_marks old.depth (lex s 0 ys).marks old.reading) b p new) (slice_all xs) h

-- ---- the tokens of a slice

-- what a slice has from an offset on
pub rest_of : (xs : List ℕ) (k : ℕ) → k ≤ length xs → slice_range xs k (length xs) ≡ drop k xs
rest_of xs k le = take_all (length xs - k) (drop k xs) (let e : length (drop k xs) ≡ length xs - k = length-drop k xs in omega (arith, e))

module _ (before : ℕ) (slice : List ℕ) (count : ℕ) where
  abbrev Shape : Bool → Bool → Track
  Shape x y = cond x (lex state.Gap (3 - before) (drop (3 - before) slice)) (cond y (lex state.Gap 0 slice) no_tokens)

  by_tests : (x y : Bool) → (count == 3) ≡ x → (count == 0) ≡ y → track_in_front before count slice ≡ Shape x y
  by_tests x y e f = ap (λ t. Shape t (count == 0)) e ∙ ap (Shape x) f

  pub front_whole : count ≡ 3 → track_in_front before count slice ≡ lex state.Gap (3 - before) (drop (3 - before) slice)
  front_whole e = by_tests true (count == 0) (grind (arith, nat_tests)) refl

  pub front_none : count ≡ 0 → track_in_front before count slice ≡ lex state.Gap 0 slice
  front_none e = by_tests false true (grind (arith, nat_tests)) (grind (arith, nat_tests))

  pub front_part : (count ≡ 3 → ⊥) → (count ≡ 0 → ⊥) → track_in_front before count slice ≡ no_tokens
  front_part other some = by_tests false false (grind (arith, nat_tests)) (grind (arith, nat_tests))

pub none_of_none : lex state.Gap 0 [] ≡ no_tokens
unfolding lex
none_of_none = refl

-- nothing is told
pub grows_none : (seen : Seen) → Grows seen seen [] []
grows_none seen xs ys h =
    subst (λ (zs : List Mark). seen zs (ys ++ [])) (sym (append-nil xs)) (subst (λ (zs : List ℕ). seen xs zs) (sym (append-nil ys)) h)

pub none_past : (seen : Seen) (d : ℕ) (r : Reading) → SeesPast seen seen d r [] []
none_past seen d r = all_told seen d r seen [] [] (λ s f. s f) (grows_none seen)

-- behind a fault
pub stopped_past : (seen : Seen) (d at : ℕ) (r : Reading) (before : Outcome) (slice : List ℕ) → outcome_at (Stopped at) r ≡ Some before
    → SeesPast seen seen d (standing_of before) (track_of before slice).marks (track_of before slice).ends
stopped_past seen d at r before slice is =
    let same : reads (stopped at) ≡ before = cc in
    subst (λ (z : Outcome). SeesPast seen seen d (standing_of z) (track_of z slice).marks (track_of z slice).ends) same (none_past seen d (Reading.stopped at))

pub deep_past : (seen : Seen) (d at : ℕ) (r : Reading) (before : Outcome) (slice : List ℕ) → outcome_at (TooDeep at) r ≡ Some before
    → SeesPast seen seen d (standing_of before) (track_of before slice).marks (track_of before slice).ends
deep_past seen d at r before slice is =
    let same : reads (too_deep at) ≡ before = cc in
    subst (λ (z : Outcome). SeesPast seen seen d (standing_of z) (track_of z slice).marks (track_of z slice).ends) same (none_past seen d (Reading.too_deep at))

module _ (n count : ℕ) (slice : List ℕ) (counted : count ≡ n + agreed slice (drop n byte_order_mark)) where
  pub bare_is : count ≡ 0 → lex state.Gap 0 (slice_range slice 0 (length slice)) ≡ track_in_front n (n + agreed slice (drop n byte_order_mark)) slice
  bare_is e = ap (lex state.Gap 0) (slice_all slice) ∙ sym (front_none n slice (n + agreed slice (drop n byte_order_mark)) (sym counted ∙ e))

  part_is : (count ≡ 3 → ⊥) → (count ≡ 0 → ⊥) → no_tokens ≡ track_in_front n (n + agreed slice (drop n byte_order_mark)) slice
  part_is other some = sym (front_part n slice (n + agreed slice (drop n byte_order_mark)) (λ e. other (counted ∙ e)) (λ e. some (counted ∙ e)))

  -- a slice that does not end a byte order mark has no token, where it goes on with one or has no byte
  pub none_is : (count ≡ 3 → ⊥) → (count ≡ 0 → length slice ≡ 0) → no_tokens ≡ track_in_front n (n + agreed slice (drop n byte_order_mark)) slice
  none_is other empty = pick (count == 0) refl
    where
      no_byte : (xs : List ℕ) → length xs ≡ 0 → xs ≡ []
      no_byte [] e = refl
      no_byte (x ∷ xs) e = absurd (omega (arith, e))

      pick : (x : Bool) → (count == 0) ≡ x → no_tokens ≡ track_in_front n (n + agreed slice (drop n byte_order_mark)) slice
      pick true q =
          let e : count ≡ 0 = grind (arith, nat_tests) in
          sym none_of_none ∙ ap (lex state.Gap 0) (sym (no_byte slice (empty e)))
          ∙ sym (front_none n slice (n + agreed slice (drop n byte_order_mark)) (sym counted ∙ e))
      pick false q = let some : count ≡ 0 → ⊥ = grind (arith, nat_tests) in part_is other some

  pub none_in_front : (seen : Seen) (d : ℕ) (r : Reading) → (count ≡ 3 → ⊥) → (count ≡ 0 → length slice ≡ 0)
      → SeesPast seen seen d r (track_in_front n (n + agreed slice (drop n byte_order_mark)) slice).marks (track_in_front n (n + agreed slice (drop n byte_order_mark)) slice).ends
  none_in_front seen d r other empty = subst (λ (x : Track). SeesPast seen seen d r x.marks x.ends) (none_is other empty) (none_past seen d r)

  pub none_grows : (seen : Seen) → (count ≡ 3 → ⊥) → (count ≡ 0 → length slice ≡ 0)
      → Grows seen seen (track_in_front n (n + agreed slice (drop n byte_order_mark)) slice).marks (track_in_front n (n + agreed slice (drop n byte_order_mark)) slice).ends
  none_grows seen other empty = subst (λ (x : Track). Grows seen seen x.marks x.ends) (none_is other empty) (grows_none seen)

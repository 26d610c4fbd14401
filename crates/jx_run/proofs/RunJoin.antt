-- Runs of neighbours, joined, read what the neighbours read one after the other.
use Rattle.std.proofs.Common.{◌≡◌, ℕ, zero, suc, ◌+◌, ◌<◌, ◌≤◌, List, [], ◌∷◌, ◌++◌, length, get_or, take, drop, Option, Some, None, Bool, true, false, cond, refl, sym, ap, subst, ◌∙◌, inl, inr, ◌⊎◌, arith, All}
use Rattle.std.specs.Prelude.{nat_lt, slice_get}
use Rattle.std.proofs.Math.Seq.{take-suc}
use Rattle.std.proofs.lemmas.Bool.Decides.{nat_tests}
use Rattle.std.proofs.lemmas.List.{length-append}
use Rattle.std.proofs.lemmas.List.Elements.{All-append, All-cons, All-nil}
use Rattle.std.proofs.lemmas.Option.{slice_get_within}
use Rattle.jx_lex.specs.declared.alphabet.state.LexState.{LexState}
use Rattle.jx_lex.specs.declared.alphabet.mark.MarkKind.{MarkKind}
use Rattle.jx_lex.specs.declared.alphabet.lex_exit.LexExit as declared_exit
use Rattle.jx_lex.specs.declared.alphabet.lex_exit.LexExit.TheVariants as exit
use Rattle.jx_lex.specs.Lex.{LexExit}
use Rattle.jx_lex.specs.Moves.{move}
use Rattle.jx_lex.specs.Ordinal.{all_states, ordinal}
use Rattle.jx_lex.specs.Exit.{exit_of}
use Rattle.jx_reduce.specs.declared.table.expect.Expect.{Expect}
use Rattle.jx_reduce.specs.declared.table.holder.Holder.{Holder}
use Rattle.jx_reduce.specs.Read.{Reading, top, then_by}
use Rattle.jx_reduce.specs.Structure.{StructureValue, answer, IsJoin, SpansIn}
use Rattle.jx_run.specs.declared.runs.joins.Pair.{Pair}
use Rattle.jx_run.specs.declared.runs.transition.Transition.{Transition}
use Rattle.jx_run.specs.inside.Turns.{Turn, wrong, on, enter, leave, turn}
use Rattle.jx_run.specs.Reading.{TextReading, went, stopped, too_deep, at_exit, and_then, read}
use Rattle.jx_run.specs.inside.Joins.{AreJoined, AreJoinedTransitions, AreMade, GoesOnWith, GoesThrough, IsAbove, IsJoinedTransition, IsMade, IsMadeAt, IsOnward}
use Rattle.jx_run.specs.OutcomeRun.{OutcomeRunValue, Entries, entries_at, exit_at, exit_in, outcome_in, outcome, GoesOn, IsOutcomeRun, IsWellFormed, IsFormWithin}
use Rattle.jx_run.specs.inside.Rest.{IsRestOf}
use Rattle.jx_run.proofs.Completion.{run-append}
use Rattle.jx_run.proofs.Reducing.{push_above, states-many}
use Rattle.jx_lex.proofs.StateOrder.{state-at}
use Rattle.jx_run.proofs.Transitions.{all_at, at_end, entries_are, has_entries, one_of, some_of, with_one}
use Rattle.jx_run.proofs.Fused.{after_turn, after_mark, in_next, run, read-run}

-- ---- no reading comes to more open containers than the depth

abbrev pub Within : ℕ → TextReading → Type 0
Within limit (went s e o) = length o ≤ limit
Within limit (stopped at) = Unit {0}
Within limit (too_deep at) = Unit {0}

fewer : (limit : ℕ) (o : List Holder) → length o ≤ limit → length (drop 1 o) ≤ limit
fewer limit [] h = h
fewer limit (x ∷ o) h = omega (arith, h)

module _ (limit : ℕ) where
  after_turn-within : (at : ℕ) (o : List Holder) (t : Turn) (f : Expect → List Holder → TextReading) → length o ≤ limit
      → ((e : Expect) (o : List Holder) → length o ≤ limit → Within limit (f e o)) → Within limit (after_turn limit at o t f)
  after_turn-within at o wrong f p h = tt
  after_turn-within at o (on e) f p h = h e o p
  after_turn-within at o (enter c e) f p h = pick (nat_lt (length o) limit) refl
    where
      pick : (b : Bool) → nat_lt (length o) limit ≡ b → Within limit (cond b (f e (c ∷ o)) (too_deep at))
      pick true q = h e (c ∷ o) (let x : length o < limit = grind (arith, nat_tests) in omega arith)
      pick false q = tt
  after_turn-within at o (leave e) f p h = h e _ (fewer limit o p)

  after_mark-within : (at : ℕ) (e : Expect) (o : List Holder) (m : Option MarkKind) (f : Expect → List Holder → TextReading) → length o ≤ limit
      → ((e : Expect) (o : List Holder) → length o ≤ limit → Within limit (f e o)) → Within limit (after_mark limit at e o m f)
  after_mark-within at e o None f p h = h e o p
  after_mark-within at e o (Some k) f p h = after_turn-within at o (turn k e (top o)) f p h

  in_next-within : (at : ℕ) (n : Option LexState) (f : LexState → TextReading) → ((s : LexState) → Within limit (f s)) → Within limit (in_next at n f)
  in_next-within at None f h = tt
  in_next-within at (Some s) f h = h s

  run-within : (t : List ℕ) (s : LexState) (e : Expect) (o : List Holder) (at : ℕ) → length o ≤ limit → Within limit (run limit s e o at t)
  unfolding run
  run-within [] s e o at p = p
  run-within (b ∷ t) s e o at p =
      after_mark-within at e o ((move s b).begin) _ p (λ e' o' p'. in_next-within at ((move s b).next) _ (λ s'. run-within t s' e' o' (suc at) p'))

pub read-within : (limit : ℕ) (t : List ℕ) (s : LexState) (e : Expect) (o : List Holder) (at : ℕ) → length o ≤ limit → Within limit (read limit s e o at t)
read-within limit t s e o at p = subst (Within limit) (sym (read-run limit s e o at t)) (run-within limit t s e o at p)

-- ---- reading one list of bytes and then another

pub and_then-same : (limit : ℕ) (r : TextReading) (f g : LexState → Expect → List Holder → TextReading) → Within limit r
    → ((s : LexState) (e : Expect) (o : List Holder) → length o ≤ limit → f s e o ≡ g s e o) → and_then r f ≡ and_then r g
and_then-same limit (went s e o) f g w h = h s e o w
and_then-same limit (stopped at) f g w h = refl
and_then-same limit (too_deep at) f g w h = refl

pub read-append : (limit : ℕ) (p q : List ℕ) (s : LexState) (e : Expect) (o : List Holder) (at : ℕ) → length o ≤ limit
    → read limit s e o at (p ++ q) ≡ and_then (read limit s e o at p) (λ s e o. read limit s e o (at + length p) q)
read-append limit p q s e o at w =
    read-run limit s e o at (p ++ q)
    ∙ run-append limit p q s e o at
    ∙ ap (λ r. and_then r (λ s e o. run limit s e o (at + length p) q)) (sym (read-run limit s e o at p))
    ∙ and_then-same limit (read limit s e o at p) _ _ (read-within limit p s e o at w) (λ s' e' o' w'. sym (read-run limit s' e' o' (at + length p) q))

-- ---- entries

-- from where the left's track ends in a state, the right's entries of that state go on
state_goes : (t : LexState) (x : LexExit) (f : StructureValue) (r : Reading) (more : LexState → Expect → List Holder → TextReading)
    → ((e : Expect) (o : List Holder) → more t e o ≡ at_exit x (answer f e o))
    → at_exit x (then_by (answer f) r) ≡ and_then (at_exit (LexExit.state t) r) more
state_goes t x f (Reading.went e o) more h = sym (h e o)
state_goes t (LexExit.state s) f (Reading.stopped at) more h = refl
state_goes t (LexExit.fault i) f (Reading.stopped at) more h = refl
state_goes t (LexExit.state s) f (Reading.too_deep at) more h = refl
state_goes t (LexExit.fault i) f (Reading.too_deep at) more h = refl

pub goes_on_state : (limit : ℕ) (l r j : Entries) (right : OutcomeRunValue) (t : LexState) → l.exit ≡ exit.State t → entries_at right t ≡ Some r
    → l.marks.depth ≡ limit → j.exit ≡ r.exit → IsJoin l.marks r.marks j.marks → GoesOn limit l right j
goes_on_state limit l r j right t ends is deep same joined e o w =
    ap (λ x. at_exit (exit_of x) (answer j.marks e o)) same
    ∙ ap (at_exit (exit_of r.exit)) (joined e o (subst (λ d. length o ≤ d) (sym deep) w))
    ∙ state_goes t (exit_of r.exit) r.marks (answer l.marks e o) (outcome right) (λ e o. ap (λ x. outcome_in x e o) is)
    ∙ ap (λ x. and_then (at_exit (exit_of x) (answer l.marks e o)) (outcome right)) (sym ends)

fault_stays : (i : ℕ) (r : Reading) (more : LexState → Expect → List Holder → TextReading) → at_exit (LexExit.fault i) r ≡ and_then (at_exit (LexExit.fault i) r) more
fault_stays i (Reading.went e o) more = refl
fault_stays i (Reading.stopped at) more = refl
fault_stays i (Reading.too_deep at) more = refl

pub goes_on_fault : (limit : ℕ) (l : Entries) (right : OutcomeRunValue) (i : ℕ) → l.exit ≡ exit.Fault i → GoesOn limit l right l
goes_on_fault limit l right i ends e o w =
    ap (λ x. at_exit (exit_of x) (answer l.marks e o)) ends
    ∙ fault_stays i (answer l.marks e o) (outcome right)
    ∙ ap (λ x. and_then (at_exit (exit_of x) (answer l.marks e o)) (outcome right)) (sym ends)

-- ---- where the offsets of joined structures lie

-- a span may be widened
abbrev pub Wider : Type 0
Wider = (low high less more : ℕ) (f : StructureValue) → less ≤ low → high ≤ more → SpansIn low high f → SpansIn less more f

pub stays_within : Wider → (limit low between high : ℕ) (f : StructureValue) → IsFormWithin limit low between f → between ≤ high → IsFormWithin limit low high f
stays_within wider limit low between high f w above =
    record { depth = w.depth; offsets = wider low between low high f (omega arith) above w.offsets }

pub joined_within : Wider → (limit low between high : ℕ) (a b f : StructureValue) → IsFormWithin limit low between a → IsFormWithin limit between high b → low ≤ between → between ≤ high
    → GoesOnWith a b f → IsFormWithin limit low high f
joined_within wider limit low between high a b f w v below above goes =
    record {
      depth = goes.depth ∙ w.depth;
      offsets = goes.offsets low high (wider low between low high a (omega arith) above w.offsets) (wider between high low high b below (omega arith) v.offsets);
    }

-- the right's structure, by the left's depth and end
pub right_within : (limit limit' between start high : ℕ) (f : StructureValue) → limit ≡ limit' → between ≡ start → IsFormWithin limit' start high f → IsFormWithin limit between high f
right_within limit limit' between start high f e i w = record { depth = w.depth ∙ sym e; offsets = subst (λ m. SpansIn m high f) (sym i) w.offsets }

-- ---- transitions that go on

pub through_fault : (left right : OutcomeRunValue) (s : LexState) (w : Transition) (i : ℕ) → slice_get left.transitions (ordinal s) ≡ Some w → w.structure < length left.structures
    → w.exit ≡ exit.Fault i → GoesThrough left right s w.exit (record { left = w.structure; right = None })
through_fault left right s w i h low ends e f is deep made =
    let a = some_of left.structures w.structure low in
    let entries : Entries = record { exit = w.exit; marks = a.0 } in
    let it : Some entries ≡ Some e = sym (entries_are left s w a.0 h a.1) ∙ is in
    let same : entries ≡ e = cc in
    subst (λ g. GoesOn left.depth e right (record { exit = w.exit; marks = g })) (sym (made a.0 a.1))
    (subst (λ x. GoesOn left.depth x right entries) same (goes_on_fault left.depth entries right i ends))

pub through_state : (left right : OutcomeRunValue) (s t : LexState) (w u : Transition) → slice_get left.transitions (ordinal s) ≡ Some w → w.structure < length left.structures
    → w.exit ≡ exit.State t → slice_get right.transitions (ordinal t) ≡ Some u → u.structure < length right.structures
    → GoesThrough left right s u.exit (record { left = w.structure; right = Some u.structure })
through_state left right s t w u h low ends k below e f is deep made =
    let a = some_of left.structures w.structure low in
    let b = some_of right.structures u.structure below in
    let goes = made a.0 a.1 b.0 b.1 in
    let entries : Entries = record { exit = w.exit; marks = a.0 } in
    let next : Entries = record { exit = u.exit; marks = b.0 } in
    let it : Some entries ≡ Some e = sym (entries_are left s w a.0 h a.1) ∙ is in
    let same : entries ≡ e = cc in
    subst (λ x. GoesOn left.depth x right (record { exit = u.exit; marks = f })) same
    (goes_on_state left.depth entries next (record { exit = u.exit; marks = f }) right t ends (entries_are right t u b.0 k b.1) (sym goes.depth ∙ deep) refl goes.joined)

pub from_there : (left : OutcomeRunValue) (s : LexState) (w : Transition) → slice_get left.transitions (ordinal s) ≡ Some w → w.structure < length left.structures
    → (e : Entries) × (entries_at left s ≡ Some e)
from_there left s w h low =
    let a = some_of left.structures w.structure low in
    (record { exit = w.exit; marks = a.0 }, entries_are left s w a.0 h a.1)

-- ---- structures of pairs

pub made_of : (left right : OutcomeRunValue) (pair : Pair) (r : ℕ) (a b f : StructureValue) → pair.right ≡ Some r → slice_get left.structures pair.left ≡ Some a
    → slice_get right.structures r ≡ Some b → GoesOnWith a b f → IsMade left right pair f
made_of left right pair r a b f is ha hb goes x hx =
    subst (λ o. IsOnward right.structures o x f) (sym is)
    (λ y hy. subst (λ z. GoesOnWith z y f) (one_of left.structures pair.left a x ha hx) (subst (λ z. GoesOnWith a z f) (one_of right.structures r b y hb hy) goes))

pub push_made : (left right : OutcomeRunValue) (pairs : List Pair) (fs : List StructureValue) (pair : Pair) (f : StructureValue) → AreMade left right pairs fs → IsMade left right pair f
    → AreMade left right (pairs ++ pair ∷ []) (fs ++ f ∷ [])
push_made left right pairs fs pair f h made =
    record {
      all = (let n = length-append pairs (pair ∷ []) in let m = length-append fs (f ∷ []) in let k = h.all in omega (arith, n, m, k));
      each = λ i p e. pick i p (with_one pairs pair i p e);
    }
  where
    pick : (i : ℕ) (p : Pair) → (slice_get pairs i ≡ Some p) ⊎ ((i ≡ length pairs) × (pair ≡ p)) → IsMadeAt left right (fs ++ f ∷ []) p i
    pick i p (inl e) =
        let x = h.each i p e in
        record { form = x.form; at = push_above fs f i x.form x.at; made = x.made }
    pick i p (inr e) =
        record {
          form = f;
          at = ap (slice_get (fs ++ f ∷ [])) (e.0 ∙ h.all) ∙ at_end fs f;
          made = subst (λ q. IsMade left right q f) e.1 made;
        }

-- ---- the transitions of the joined bytes

module _ (left right : OutcomeRunValue) where
  each-above : (olds news : List StructureValue) → IsAbove olds news → (ss : List LexState) (ws : List Transition) → AreJoinedTransitions left right olds ss ws → AreJoinedTransitions left right news ss ws
  each-above olds news up [] [] h = tt
  each-above olds news up [] (w ∷ ws) h = absurd h
  each-above olds news up (s ∷ ss) [] h = absurd h
  each-above olds news up (s ∷ ss) (w ∷ ws) h =
      (record { form = h.0.form; at = up w.structure h.0.form h.0.at; goes = h.0.goes }, each-above olds news up ss ws h.1)

  each-more : (fs : List StructureValue) (ss : List LexState) (ws : List Transition) (s : LexState) (w : Transition) → AreJoinedTransitions left right fs ss ws → IsJoinedTransition left right fs s w
      → AreJoinedTransitions left right fs (ss ++ s ∷ []) (ws ++ w ∷ [])
  each-more fs [] [] s w h a = (a, tt)
  each-more fs [] (x ∷ ws) s w h a = absurd h
  each-more fs (t ∷ ss) [] s w h a = absurd h
  each-more fs (t ∷ ss) (x ∷ ws) s w h a = (h.0, each-more fs ss ws s w h.1 a)

  pub joined-length : (fs : List StructureValue) (ss : List LexState) (ws : List Transition) → AreJoinedTransitions left right fs ss ws → length ws ≡ length ss
  joined-length fs [] [] h = refl
  joined-length fs [] (x ∷ ws) h = absurd h
  joined-length fs (t ∷ ss) [] h = absurd h
  joined-length fs (t ∷ ss) (x ∷ ws) h = ap suc (joined-length fs ss ws h.1)

  pub joined_there : (fs : List StructureValue) (ss : List LexState) (ws : List Transition) → AreJoinedTransitions left right fs ss ws → All (λ (w : Transition). w.structure < length fs) ws
  joined_there fs [] [] h = All-nil (λ (w : Transition). w.structure < length fs)
  joined_there fs [] (x ∷ ws) h = absurd h
  joined_there fs (t ∷ ss) [] h = absurd h
  joined_there fs (t ∷ ss) (x ∷ ws) h =
      All-cons (λ (w : Transition). w.structure < length fs) x ws (slice_get_within fs x.structure h.0.form h.0.at) (joined_there fs ss ws h.1)

  abbrev JoinedAt : List StructureValue → List Transition → ℕ → LexState → Type 0
  JoinedAt fs ws i s = (w : Transition) × (slice_get ws i ≡ Some w) × IsJoinedTransition left right fs s w

  joined-at : (fs : List StructureValue) (ss : List LexState) (ws : List Transition) → AreJoinedTransitions left right fs ss ws → (i : ℕ) (s : LexState) → slice_get ss i ≡ Some s → JoinedAt fs ws i s
  joined-at fs [] ws h i s g = absurd cc
  joined-at fs (t ∷ ss) [] h i s g = absurd h
  joined-at fs (t ∷ ss) (x ∷ ws) h zero s g = let e : t ≡ s = cc in subst (JoinedAt fs (x ∷ ws) 0) e (x, refl, h.0)
  joined-at fs (t ∷ ss) (x ∷ ws) h (suc i) s g = joined-at fs ss ws h.1 i s g

  -- the transition from the next state, by what is made of its pair
  pub joined_by : (states : List LexState) (i : ℕ) (olds news : List StructureValue) (ws : List Transition) (d : LexState) (out : declared_exit.LexExit) (pair : Pair) (n : ℕ)
      → i < 32 → states ≡ all_states → AreJoinedTransitions left right olds (take i all_states) ws → IsAbove olds news → IsMadeAt left right news pair n
      → All (IsFormWithin left.depth left.start right.end) news → GoesThrough left right (get_or states i d) out pair
      → AreJoinedTransitions left right news (take (i + 1) all_states) (ws ++ record { exit = out; structure = n } ∷ [])
  joined_by states i olds news ws d out pair n low is h up m within goes =
      let w : Transition = record { exit = out; structure = n } in
      let in_span : IsFormWithin left.depth left.start right.end m.form = all_at (IsFormWithin left.depth left.start right.end) news n m.form within m.at in
      let it : IsJoinedTransition left right news (get_or states i d) w = record { form = m.form; at = m.at; goes = λ e is. goes e m.form is in_span.depth m.made } in
      subst (λ ss. AreJoinedTransitions left right news ss (ws ++ w ∷ []))
      (ap (λ ss. take i all_states ++ get_or ss i d ∷ []) is ∙ sym (take-suc all_states i d low) ∙ ap (λ n. take n all_states) (let n : suc i ≡ i + 1 = omega arith in n))
      (each-more news (take i all_states) ws (get_or states i d) w (each-above olds news up (take i all_states) ws h) it)

  -- and by the structure of its pair
  pub joined_next : (states : List LexState) (i : ℕ) (olds news : List StructureValue) (pairs : List Pair) (ws : List Transition) (d : LexState) (out : declared_exit.LexExit) (pair : Pair) (n : ℕ)
      → i < 32 → states ≡ all_states → AreJoinedTransitions left right olds (take i all_states) ws → IsAbove olds news → AreMade left right pairs news
      → All (IsFormWithin left.depth left.start right.end) news → slice_get pairs n ≡ Some pair → GoesThrough left right (get_or states i d) out pair
      → AreJoinedTransitions left right news (take (i + 1) all_states) (ws ++ record { exit = out; structure = n } ∷ [])
  joined_next states i olds news pairs ws d out pair n low is h up made within at goes =
      joined_by states i olds news ws d out pair n low is h up (made.each n pair at) within goes

-- ---- structures behind those of the left

front-at : (ls fs : List StructureValue) (n : ℕ) (f : StructureValue) → slice_get ls n ≡ Some f → slice_get (ls ++ fs) n ≡ Some f
front-at [] fs n f h = let low = slice_get_within [] n f h in absurd (omega (arith, low))
front-at (x ∷ ls) fs zero f h = h
front-at (x ∷ ls) fs (suc n) f h = front-at ls fs n f h

behind-at : (ls fs : List StructureValue) (n : ℕ) (f : StructureValue) → slice_get fs n ≡ Some f → slice_get (ls ++ fs) (length ls + n) ≡ Some f
behind-at [] fs n f h = let e : 0 + n ≡ n = omega arith in ap (slice_get fs) e ∙ h
behind-at (x ∷ ls) fs n f h =
    let e : suc (length ls) + n ≡ suc (length ls + n) = omega arith in
    ap (slice_get ((x ∷ ls) ++ fs)) e ∙ behind-at ls fs n f h

-- what stands behind others stays where more is put behind it
pub behind_above : (ls olds news : List StructureValue) → IsAbove olds news → IsAbove (ls ++ olds) (ls ++ news)
behind_above [] olds news up = up
behind_above (x ∷ ls) olds news up = above (behind_above ls olds news up)
  where
    above : IsAbove (ls ++ olds) (ls ++ news) → (i : ℕ) (f : StructureValue) → slice_get (x ∷ (ls ++ olds)) i ≡ Some f → slice_get (x ∷ (ls ++ news)) i ≡ Some f
    above rest zero f h = h
    above rest (suc n) f h = rest n f h

-- what is made of the left alone stands among the structures of the left
pub made_in_front : (left right : OutcomeRunValue) (fs : List StructureValue) (pair : Pair) → pair.right ≡ None → pair.left < length left.structures
    → IsMadeAt left right (left.structures ++ fs) pair pair.left
made_in_front left right fs pair alone low =
    let a = some_of left.structures pair.left low in
    record {
      form = a.0;
      at = front-at left.structures fs pair.left a.0 a.1;
      made = λ x h. subst (λ o. IsOnward right.structures o x a.0) (sym alone) (one_of left.structures pair.left a.0 x a.1 h);
    }

pub made_behind : (left right : OutcomeRunValue) (pairs : List Pair) (fs : List StructureValue) (pair : Pair) (n k : ℕ) → k ≡ length left.structures → AreMade left right pairs fs
    → slice_get pairs n ≡ Some pair → IsMadeAt left right (left.structures ++ fs) pair (k + n)
made_behind left right pairs fs pair n k count made at =
    let m = made.each n pair at in
    record {
      form = m.form;
      at = ap (λ k. slice_get (left.structures ++ fs) (k + n)) count ∙ behind-at left.structures fs n m.form m.at;
      made = m.made;
    }

pub all_within : Wider → (left right : OutcomeRunValue) (fs : List StructureValue) → IsWellFormed left → left.end ≡ right.start → right.start ≤ right.end
    → All (IsFormWithin left.depth left.start right.end) fs → All (IsFormWithin left.depth left.start right.end) (left.structures ++ fs)
all_within wider left right fs whole mid order within =
    All-append (IsFormWithin left.depth left.start right.end) left.structures fs
    (λ k d low. stays_within wider left.depth left.start left.end right.end (get_or left.structures k d) (whole.within k d low) (omega (arith, mid, order))) within

-- ---- runs

abbrev pub joined_run : OutcomeRunValue → OutcomeRunValue → List Transition → List StructureValue → OutcomeRunValue
joined_run left right ws fs = record { depth = left.depth; start = left.start; end = right.end; transitions = ws; structures = fs }

-- by what two runs show
pub joined_seen : (l k r q : OutcomeRunValue) (ws : List Transition) (fs : List StructureValue) → l ≡ k → r ≡ q → joined_run l r ws fs ≡ joined_run k q ws fs
joined_seen l k r q ws fs e f = ap (λ (x : OutcomeRunValue). joined_run x r ws fs) e ∙ ap (λ (x : OutcomeRunValue). joined_run k x ws fs) f

pub joined_whole : (left right : OutcomeRunValue) (ws : List Transition) (fs : List StructureValue) → left.start ≤ right.end → AreJoined left right ws fs → IsWellFormed (joined_run left right ws fs)
joined_whole left right ws fs order a =
    record {
      order = order;
      all = joined-length left right fs all_states ws a.each ∙ states-many;
      few = a.few;
      there = joined_there left right fs all_states ws a.each;
      within = a.within;
    }

outcome_goes : (l r : OutcomeRunValue) (ws : List Transition) (fs : List StructureValue) → IsWellFormed l → AreJoined l r ws fs → (s : LexState) (e : Expect) (o : List Holder)
    → length o ≤ l.depth → outcome (joined_run l r ws fs) s e o ≡ and_then (outcome l s e o) (outcome r)
outcome_goes l r ws fs whole a s e o h =
    let x = has_entries l whole s in
    let w = joined-at l r fs all_states ws a.each (ordinal s) s (state-at s) in
    let k = w.2 in
    ap (λ z. outcome_in z e o) (entries_are (joined_run l r ws fs) s w.0 k.form w.1 k.at)
    ∙ k.goes x.0 x.1 e o h
    ∙ ap (λ z. and_then (outcome_in z e o) (outcome r)) (sym x.1)

-- an outcome that goes on does so from the state in which its transition ends
went-ends : (x : LexExit) (r : Reading) (t : LexState) (e : Expect) (o : List Holder) → at_exit x r ≡ went t e o → x ≡ LexExit.state t
went-ends (LexExit.state s) (Reading.went e' o') t e o h = cc
went-ends (LexExit.fault i) (Reading.went e' o') t e o h = cc
went-ends (LexExit.state s) (Reading.stopped at) t e o h = cc
went-ends (LexExit.fault i) (Reading.stopped at) t e o h = cc
went-ends (LexExit.state s) (Reading.too_deep at) t e o h = cc
went-ends (LexExit.fault i) (Reading.too_deep at) t e o h = cc

run_ends : (l : OutcomeRunValue) → IsWellFormed l → (s t : LexState) (e d : Expect) (o p : List Holder) → outcome l s e o ≡ went t d p → exit_at l s ≡ LexExit.state t
run_ends l whole s t e d o p h =
    let x = has_entries l whole s in
    ap exit_in x.1 ∙ went-ends (exit_of (x.0).exit) (answer (x.0).marks e o) t d p (sym (ap (λ z. outcome_in z e o) x.1) ∙ h)

-- what reading goes on to is asked only of where it goes on
and_then-there : (r : TextReading) (f g : LexState → Expect → List Holder → TextReading) → ((s : LexState) (e : Expect) (o : List Holder) → r ≡ went s e o → f s e o ≡ g s e o)
    → and_then r f ≡ and_then r g
and_then-there (went s e o) f g h = h s e o refl
and_then-there (stopped at) f g h = refl
and_then-there (too_deep at) f g h = refl

-- a run of the bytes is one from each state
pub any_rest : (l r : OutcomeRunValue) (ys : List ℕ) → IsOutcomeRun ys r → IsRestOf l ys r
any_rest l r ys y = record { long = y.long; outcomes = λ s t ends. y.outcomes t }

pub rest_is_of : (l r : OutcomeRunValue) (ws : List Transition) (fs : List StructureValue) → IsWellFormed l → AreJoined l r ws fs → l.depth ≡ r.depth → l.end ≡ r.start
    → (xs ys : List ℕ) → IsOutcomeRun xs l → IsRestOf l ys r → IsOutcomeRun (xs ++ ys) (joined_run l r ws fs)
rest_is_of l r ws fs whole a lr mid xs ys x y =
    record {
      long = (let n = length-append xs ys in let p = x.long in let q = y.long in omega (arith, n, p, q, mid));
      outcomes = λ s e o h.
          outcome_goes l r ws fs whole a s e o h
          ∙ and_then-there (outcome l s e o) (outcome r) (λ s e o. read l.depth s e o (l.start + length xs) ys)
          (λ t d p is.
          y.outcomes s t (run_ends l whole s t e d o p is) d p
          (subst (λ n. length p ≤ n) lr (subst (Within l.depth) (sym (x.outcomes s e o h) ∙ is) (read-within l.depth xs s e o l.start h)))
          ∙ ap (λ n. read n t d p r.start ys) (sym lr)
          ∙ ap (λ i. read l.depth t d p i ys) (sym mid ∙ x.long))
          ∙ ap (λ z. and_then z (λ s e o. read l.depth s e o (l.start + length xs) ys)) (x.outcomes s e o h)
          ∙ sym (read-append l.depth xs ys s e o l.start h);
    }

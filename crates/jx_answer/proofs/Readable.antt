-- The readings that a run over a whole input shows are readings of its elements.
use Rattle.std.proofs.Common.{◌≡◌, ℕ, suc, ◌+◌, ◌<◌, ◌≤◌, List, [], ◌∷◌, ◌++◌, length, Bool, true, false, cond, refl, sym, ap, subst, ◌∙◌, arith}
use Rattle.std.specs.Prelude.{slice_range, All}
use Rattle.std.specs.List.{AllZip}
use Rattle.std.proofs.lemmas.List.Elements.{All-nil, All-cons, All-head, All-tail}
use Rattle.jx_run.specs.Elements.{Part, part, is_separator, before_separator, after_separators}
use Rattle.jx_run.specs.SeqRun.{IsReading}
use Rattle.jx_run.specs.Started.{StartedValue, IsStarted}
use Rattle.jx_run.proofs.ElementsLie.{LiesIn, parts_lie}
use Rattle.jx_run.specs.MarkAlone.{part_of}
use Rattle.jx_answer.specs.declared.element.Element.{Element}
use Rattle.jx_answer.specs.Sequence.{IsElement}
use Rattle.jx_answer.specs.inside.Pushed.{IsReadable, IsOfReading}

-- it stands behind a record separator of the input
pub record IsMarkedIn (input : List ℕ) (p : Part) : Type 0 where
  pub lies : LiesIn input p
  pub behind : 0 < p.at

-- what stands behind a separator begins past the first byte
wider : (at : ℕ) (ps : List Part) → All (λ (p : Part). suc at < p.at) ps → All (λ (p : Part). at < p.at) ps
wider at [] h = All-nil (λ (p : Part). at < p.at)
wider at (p ∷ ps) h =
    let past : suc at < p.at = All-head (λ (p : Part). suc at < p.at) p ps h in
    All-cons (λ (p : Part). at < p.at) p ps (omega arith) (wider at ps (All-tail (λ (p : Part). suc at < p.at) p ps h))

pub behind_marks : (at : ℕ) (bytes : List ℕ) → All (λ (p : Part). at < p.at) (after_separators at bytes)
behind_marks at [] = All-nil (λ (p : Part). at < p.at)
behind_marks at (b ∷ bytes) = pick (is_separator b) (wider at (after_separators (suc at) bytes) (behind_marks (suc at) bytes))
  where
    pick : (m : Bool) → All (λ (p : Part). at < p.at) (after_separators (suc at) bytes)
        → All (λ (p : Part). at < p.at) (cond m (part (suc at) (before_separator bytes) ∷ after_separators (suc at) bytes) (after_separators (suc at) bytes))
    pick true h = All-cons (λ (p : Part). at < p.at) (part (suc at) (before_separator bytes)) (after_separators (suc at) bytes) (omega arith) h
    pick false h = h

both : (input : List ℕ) (ps : List Part) → All (LiesIn input) ps → All (λ (p : Part). 0 < p.at) ps → All (IsMarkedIn input) ps
both input [] l m = All-nil (IsMarkedIn input)
both input (p ∷ ps) l m =
    All-cons (IsMarkedIn input) p ps (record { lies = All-head (LiesIn input) p ps l; behind = All-head (λ (p : Part). 0 < p.at) p ps m })
    (both input ps (All-tail (LiesIn input) p ps l) (All-tail (λ (p : Part). 0 < p.at) p ps m))

pub marked_parts : (input : List ℕ) → All (IsMarkedIn input) (after_separators 0 input)
marked_parts input = both input (after_separators 0 input) (parts_lie input 0 input refl (omega arith)) (behind_marks 0 input)

pub all_front : (input : List ℕ) (ps : List Part) (q : Part) → All (IsMarkedIn input) (ps ++ q ∷ []) → All (IsMarkedIn input) ps
all_front input [] q h = All-nil (IsMarkedIn input)
all_front input (p ∷ ps) q h =
    All-cons (IsMarkedIn input) p ps (All-head (IsMarkedIn input) p (ps ++ q ∷ []) h) (all_front input ps q (All-tail (IsMarkedIn input) p (ps ++ q ∷ []) h))

pub all_last : (input : List ℕ) (ps : List Part) (q : Part) → All (IsMarkedIn input) (ps ++ q ∷ []) → IsMarkedIn input q
all_last input [] q h = All-head (IsMarkedIn input) q [] h
all_last input (p ∷ ps) q h = all_last input ps q (All-tail (IsMarkedIn input) p (ps ++ q ∷ []) h)

-- the part at a reading's span is the part that it is a reading of
pub part_is : (input : List ℕ) (limit : ℕ) (p : Part) (s : StartedValue) → IsReading limit p s → LiesIn input p → part_of input s.span ≡ p
part_is input limit p s r lies =
    let at : s.span.start ≡ p.at = r.start in
    let end : s.span.end ≡ p.at + length p.bytes = r.of.long ∙ ap (λ n. n + length p.bytes) at in
    ap (λ n. part n (slice_range input n s.span.end)) at ∙ ap (λ n. part p.at (slice_range input p.at n)) end ∙ ap (part p.at) lies.bytes

pub readable : (input : List ℕ) (limit : ℕ) (p : Part) (s : StartedValue) → IsReading limit p s → IsMarkedIn input p → IsReadable input s
readable input limit p s r m =
    let at : s.span.start ≡ p.at = r.start in
    let long : s.span.end ≡ s.span.start + length p.bytes = r.of.long in
    let within : p.at + length p.bytes ≤ length input = m.lies.within in
    let behind : 0 < p.at = m.behind in
    let same : part_of input s.span ≡ p = part_is input limit p s r m.lies in
    record {
      marked = omega arith;
      ordered = omega arith;
      within = omega arith;
      reading = subst (λ (b : List ℕ). IsStarted b s) (sym (ap (λ (q : Part). q.bytes) same)) r.of;
    }

pub all_readable : (input : List ℕ) (limit : ℕ) (ps : List Part) (ss : List StartedValue) → AllZip (IsReading limit) ps ss → All (IsMarkedIn input) ps
    → All (IsReadable input) ss
all_readable input limit [] [] z m = All-nil (IsReadable input)
all_readable input limit [] (s ∷ ss) z m = absurd z
all_readable input limit (p ∷ ps) [] z m = absurd z
all_readable input limit (p ∷ ps) (s ∷ ss) z m =
    All-cons (IsReadable input) s ss (readable input limit p s z.0 (All-head (IsMarkedIn input) p ps m))
    (all_readable input limit ps ss z.1 (All-tail (IsMarkedIn input) p ps m))

-- what is answered on the readings is answered on the elements
pub answered : (input : List ℕ) (limit : ℕ) (ps : List Part) (ss : List StartedValue) (es : List Element) → AllZip (IsReading limit) ps ss
    → All (IsMarkedIn input) ps → AllZip (IsOfReading input) ss es → AllZip (IsElement input limit) ps es
answered input limit [] [] [] z m a = tt
answered input limit [] [] (e ∷ es) z m a = absurd a
answered input limit [] (s ∷ ss) es z m a = absurd z
answered input limit (p ∷ ps) [] es z m a = absurd z
answered input limit (p ∷ ps) (s ∷ ss) [] z m a = absurd a
answered input limit (p ∷ ps) (s ∷ ss) (e ∷ es) z m a =
    let lies = (All-head (IsMarkedIn input) p ps m).lies in (
      subst (λ (q : Part). IsElement input limit q e) (part_is input limit p s z.0 lies) (subst (λ (d : ℕ). IsElement input d (part_of input s.span) e) (z.0).depth a.0),
      answered input limit ps ss es z.1 (All-tail (IsMarkedIn input) p ps m) a.1,
    )

pub AllZip-append : {A B : Type 0} (R : A → B → Type 0) (xs xs' : List A) (ys ys' : List B) → AllZip R xs ys → AllZip R xs' ys' → AllZip R (xs ++ xs') (ys ++ ys')
AllZip-append R [] xs' [] ys' h k = k
AllZip-append R [] xs' (y ∷ ys) ys' h k = absurd h
AllZip-append R (x ∷ xs) xs' [] ys' h k = absurd h
AllZip-append R (x ∷ xs) xs' (y ∷ ys) ys' h k = (h.0, AllZip-append R xs xs' ys ys' h.1 k)

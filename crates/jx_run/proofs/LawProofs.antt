-- The laws of the reader, at the plain reading.
use Rattle.std.proofs.Common.{◌≡◌, ℕ, suc, ◌+◌, max, List, [], ◌++◌, take, drop, refl, sym, subst, arith}
use Rattle.jx_lex.specs.declared.alphabet.state.LexState.TheVariants as state
use Rattle.jx_reduce.specs.declared.table.expect.Expect.TheVariants as expect
use Rattle.jx_run.specs.Reading.{TextReading, went, stopped, too_deep, read_text}
use Rattle.jx_run.specs.Tree.{Tree, span}
use Rattle.jx_run.specs.Grammar.{Value, leaf, empty_array, array, empty_object, object}
use Rattle.jx_run.specs.Text.{Begins, IsDocument}
use Rattle.jx_run.specs.Verdict.{IsLongestBeginning, Judged}
use Rattle.jx_run.specs.Laws.{IsNoFault, IsAccepting, IsFaultAt, IsTooDeep, MeetsNoFault, Accepts, FaultsAt, BeginsAtSomeDepth, span_of, verdict_of}
use Rattle.jx_run.specs.inside.Closing.{completion}
use Rattle.jx_run.proofs.Bytes.{AreBytes, completion-bytes}
use Rattle.jx_run.proofs.Completion.{went-accepted}
use Rattle.jx_run.proofs.Endings.{Ending, goes_on, is_stopped, is_deep, ending}
use Rattle.jx_run.proofs.Fused.{read-run}
use Rattle.jx_run.proofs.ToGrammar.{Accepted}
use Rattle.jx_run.proofs.Theorems.{start_run, went→begins, begins→no_fault, begins-deeper, NoFault, accepts→text, text→accepts, end_accepts, accepts_end, up_to, judged}
use Rattle.jx_run.proofs.Lexical.{TokensAreRead}
use Rattle.jx_run.proofs.Unique

read_start : (limit at : ℕ) (t : List ℕ) → read_text limit at t ≡ start_run limit at t
read_start limit at t = read-run limit state.Gap expect.Value [] at t

-- ---- where the bytes stand changes no reading but its offsets

no_fault : (r : TextReading) → NoFault r → IsNoFault r
no_fault (went s e o) h = tt
no_fault (stopped at) h = h
no_fault (too_deep at) h = h

by_no_fault : (r : TextReading) → IsNoFault r → NoFault r
by_no_fault (went s e o) h = tt
by_no_fault (stopped at) h = h
by_no_fault (too_deep at) h = h

moved_no_fault : TokensAreRead → (limit a b : ℕ) (t : List ℕ) → NoFault (start_run limit a t) → NoFault (start_run limit b t)
moved_no_fault law limit a b t n = by_ending (ending law limit t state.Gap expect.Value [])
  where
    by_ending : Ending limit state.Gap expect.Value [] t → NoFault (start_run limit b t)
    by_ending (goes_on s e o h) = subst NoFault (sym (h limit b (omega arith))) tt
    by_ending (is_stopped k lt s e o f g p) = absurd (subst NoFault (f a) n)
    by_ending (is_deep k lt s e o f g p d s2 e2 o2 le q) = absurd (subst NoFault (f a) n)

-- ---- beginnings

went_begins : TokensAreRead → (limit : ℕ) (t : List ℕ) (r : TextReading) → start_run limit 0 t ≡ r → NoFault r → Begins t limit
went_begins law limit t (went s e o) h n = went→begins law limit 0 t s e o h
went_begins law limit t (stopped at) h n = absurd n
went_begins law limit t (too_deep at) h n = absurd n

pub begins_law : TokensAreRead → (limit at : ℕ) (t : List ℕ) → (MeetsNoFault limit at t → Begins t limit) × (Begins t limit → MeetsNoFault limit at t)
begins_law law limit at t = (
  (λ n. went_begins law limit t (start_run limit 0 t) refl (moved_no_fault law limit at 0 t (by_no_fault _ (subst IsNoFault (read_start limit at t) n)))),
  (λ b. subst IsNoFault (sym (read_start limit at t)) (no_fault _ (moved_no_fault law limit 0 at t (begins→no_fault law limit t b)))),
)

-- ---- texts

accepted_of : (r : TextReading) → IsAccepting r → Accepted r
accepted_of (went s e o) h = end_accepts s e o (h)
accepted_of (stopped at) h = absurd h
accepted_of (too_deep at) h = absurd h

accepting_of : (r : TextReading) → Accepted r → IsAccepting r
accepting_of (went s e o) h = accepts_end h
accepting_of (stopped at) h = elim h [ ]
accepting_of (too_deep at) h = elim h [ ]

pub sound_law : TokensAreRead → (limit at : ℕ) (t : List ℕ) → Accepts limit at t → (tree : Tree) × IsDocument at t limit tree
sound_law law limit at t h = accepts→text law limit at t (accepted_of (start_run limit at t) (subst IsAccepting (read_start limit at t) h))

pub complete_law : TokensAreRead → (limit at : ℕ) (t : List ℕ) (tree : Tree) → IsDocument at t limit tree → Accepts limit at t
complete_law law limit at t tree d = subst IsAccepting (sym (read_start limit at t)) (accepting_of (start_run limit at t) (text→accepts law limit at t tree d))

pub tree_law : TokensAreRead → (at limit : ℕ) (t : List ℕ) (x y : Tree) → IsDocument at t limit x → IsDocument at t limit y → x ≡ y
tree_law law at limit t x y a b = Unique.one_tree law a.reads b.reads

-- ---- the first fault

abbrev pub FirstFault : ℕ → ℕ → List ℕ → ℕ → Type 0
FirstFault limit at t i = (k : ℕ) × (i ≡ at + k) × IsLongestBeginning t limit k

-- what the law of the reader says of first faults, and of verdicts
abbrev pub FirstFaults : Type 0
FirstFaults = (limit at i : ℕ) (t : List ℕ) → FaultsAt limit at t i → FirstFault limit at t i

abbrev pub Verdicts : Type 0
Verdicts = (limit at : ℕ) (t : List ℕ) → Judged at t limit (verdict_of (read_text limit at t))

pub first_fault_law : TokensAreRead → (limit at i : ℕ) (t : List ℕ) → FaultsAt limit at t i → FirstFault limit at t i
first_fault_law law limit at i t h = by_ending (ending law limit t state.Gap expect.Value []) (subst (λ r. IsFaultAt r i) (read_start limit at t) h)
  where
    by_ending : Ending limit state.Gap expect.Value [] t → IsFaultAt (start_run limit at t) i → FirstFault limit at t i
    by_ending (goes_on s e o g) n = absurd (subst (λ r. IsFaultAt r i) (g limit at (omega arith)) n)
    by_ending (is_stopped k lt s e o f g p) n =
        let is : at + k ≡ i = subst (λ r. IsFaultAt r i) (f at) n in
        (k, sym is, up_to law limit at t k lt s e o (g limit 0 (omega arith)) (λ m. subst NoFault (p limit 0 (omega arith)) m))
    by_ending (is_deep k lt s e o f g p d s2 e2 o2 le q) n =
        let is : at + k ≡ i = subst (λ r. IsFaultAt r i) (f at) n in
        (k, sym is, up_to law limit at t k lt s e o (g limit 0 (omega arith)) (λ m. subst NoFault (p 0) m))

abbrev DeepLaw : ℕ → ℕ → ℕ → List ℕ → TextReading → Type 0
DeepLaw limit at k t r = (IsTooDeep r → BeginsAtSomeDepth (take (suc k) t)) × (BeginsAtSomeDepth (take (suc k) t) → IsTooDeep r)

pub too_deep_law : TokensAreRead → (limit at k : ℕ) (t : List ℕ) → FaultsAt limit at t (at + k) → DeepLaw limit at k t (read_text limit at t)
too_deep_law law limit at k t h =
    subst (DeepLaw limit at k t) (sym (read_start limit at t)) (by_ending (ending law limit t state.Gap expect.Value []) (subst (λ r. IsFaultAt r (at + k)) (read_start limit at t) h))
  where
    by_ending : Ending limit state.Gap expect.Value [] t → IsFaultAt (start_run limit at t) (at + k) → DeepLaw limit at k t (start_run limit at t)
    by_ending (goes_on s e o g) n = absurd (subst (λ r. IsFaultAt r (at + k)) (g limit at (omega arith)) n)
    by_ending (is_stopped j lt s e o f g p) n =
        let is : at + j ≡ at + k = subst (λ r. IsFaultAt r (at + k)) (f at) n in let same : j ≡ k = omega arith in
        subst (DeepLaw limit at k t) (sym (f at)) (subst (λ m. DeepLaw limit at m t (stopped (at + j))) same (
          (λ x. absurd x),
          (λ b. subst NoFault (p (max limit b.0) 0 (omega arith)) (begins→no_fault law (max limit b.0) (take (suc j) t) (begins-deeper b.0 (max limit b.0) _ (omega arith) b.1))),
        ))
    by_ending (is_deep j lt s e o f g p d s2 e2 o2 le q) n =
        let is : at + j ≡ at + k = subst (λ r. IsFaultAt r (at + k)) (f at) n in let same : j ≡ k = omega arith in
        subst (DeepLaw limit at k t) (sym (f at)) (subst (λ m. DeepLaw limit at m t (too_deep (at + j))) same (
          (λ x. (d, went→begins law d 0 (take (suc j) t) s2 e2 o2 (q 0))),
          (λ b. tt),
        ))

pub verdict_law : TokensAreRead → (limit at : ℕ) (t : List ℕ) → Judged at t limit (verdict_of (read_text limit at t))
verdict_law law limit at t = subst (λ r. Judged at t limit (verdict_of r)) (sym (read_start limit at t)) (judged law limit at t)

-- ---- completions

abbrev Completed : ℕ → ℕ → List ℕ → Type 0
Completed at limit t = (more : List ℕ) × (tree : Tree) × AreBytes more × IsDocument at (t ++ more) limit tree

went_completed : TokensAreRead → (at limit : ℕ) (t : List ℕ) (r : TextReading) → start_run limit at t ≡ r → NoFault r → Completed at limit t
went_completed law at limit t (went s e o) h n =
    let x = accepts→text law limit at (t ++ completion s e o) (went-accepted limit t state.Gap s expect.Value e [] o at tt h) in
    (completion s e o, x.0, completion-bytes s e o, x.1)
went_completed law at limit t (stopped i) h n = absurd n
went_completed law at limit t (too_deep i) h n = absurd n

pub completed_law : TokensAreRead → (at limit : ℕ) (t : List ℕ) → Begins t limit → Completed at limit t
completed_law law at limit t b = went_completed law at limit t (start_run limit at t) refl (moved_no_fault law limit 0 at t (begins→no_fault law limit t b))

-- ---- spans

pub value_span : {i j : ℕ} {t u : List ℕ} {tree : Tree} → Value i t j u tree → span_of tree ≡ span i j
value_span (leaf s) = refl
value_span (empty_array bs) = refl
value_span (array xs) = refl
value_span (empty_object bs) = refl
value_span (object xs) = refl

pub place_law : (text : List ℕ) (i j : ℕ) (rest : List ℕ) (tree : Tree) → Value i (drop i text) j rest tree → span_of tree ≡ span i j
place_law text i j rest tree v = value_span v

-- What stands in front of a text decides where the verdict begins.
use Rattle.std.proofs.Common.{◌≡◌, ◌≢◌, ℕ, zero, suc, ◌+◌, ◌-◌, ◌<◌, ◌≤◌, List, [], ◌∷◌, ◌++◌, length, take, drop, Bool, true, false, cond, append_assoc, refl, sym, ap, subst, ◌∙◌, inl, inr, ◌⊎◌, arith}
use Rattle.std.specs.Prelude.{◌==◌}
use Rattle.std.proofs.lemmas.Bool.Decides.{Decides-eqb, nat_tests, not_from_Decides}
use Rattle.std.proofs.lemmas.List.{length-append}
use Rattle.jx_lex.specs.Classes.{class_at}
use Rattle.jx_lex.specs.declared.alphabet.state.LexState.TheVariants as state
use Rattle.jx_reduce.specs.declared.table.expect.Expect.TheVariants as expect
use Rattle.jx_run.specs.declared.texts.settings.Front.{Front}
use Rattle.jx_run.specs.declared.texts.settings.Front.TheVariants as seen
use Rattle.jx_run.specs.declared.texts.settings.FrontMark.{FrontMark}
use Rattle.jx_run.specs.declared.texts.settings.FrontMark.TheVariants as on_mark
use Rattle.jx_run.specs.declared.texts.settings.Settings.{Settings}
use Rattle.jx_run.specs.declared.texts.verdict.Verdict.{Verdict}
use Rattle.jx_run.specs.declared.texts.verdict.Verdict.TheVariants as verdict
use Rattle.jx_run.specs.declared.texts.verdict.Refusal.{Refusal}
use Rattle.jx_run.specs.declared.texts.verdict.Refusal.TheVariants as refusal
use Rattle.jx_run.specs.Front.{agreed, front_by, front_of, IsTold}
use Rattle.jx_run.specs.Laws.{IsAccepting, IsNoFault, verdict_of}
use Rattle.jx_run.specs.Reading.{TextReading, went, read_text}
use Rattle.jx_run.specs.Reading as reading
use Rattle.jx_run.specs.Settings.{at_depth, byte_order_mark, BeginsBy, IsDocumentBy, IsFront, IsLongestBeginningBy, JudgedBy}
use Rattle.jx_run.specs.Settings as by
use Rattle.jx_run.specs.Text.{Begins, IsDocument}
use Rattle.jx_run.specs.Tree.{Tree}
use Rattle.jx_run.specs.Verdict.{IsLongestBeginning, Judged, a_text, cut_short, too_deep, stopped}
use Rattle.jx_run.proofs.Fused.{run}
use Rattle.jx_run.proofs.LawProofs.{begins_law, complete_law, completed_law, tree_law, verdict_law}
use Rattle.jx_run.proofs.Theorems.{begins→no_fault, begins-front, went→begins}
use Rattle.jx_run.proofs.Lexical.{TokensAreRead}
use Rattle.jx_run.proofs.VerdictLaws.{one_verdict_by}

-- ---- texts and their first byte

-- no text begins with the first byte of a mark
no_mark : TokensAreRead → (limit : ℕ) (x : List ℕ) → Begins (0xef ∷ x) limit → ⊥
unfolding run class_at
no_mark law limit x b = begins→no_fault law limit (0xef ∷ x) b

begins_none : TokensAreRead → (limit : ℕ) → Begins [] limit
unfolding run
begins_none law limit = went→begins law limit 0 [] state.Gap expect.Value [] refl

accepting_no_fault : (r : TextReading) → IsAccepting r → IsNoFault r
accepting_no_fault (went s e o) h = tt
accepting_no_fault (reading.TextReading.stopped at) h = h
accepting_no_fault (reading.TextReading.too_deep at) h = h

document_begins : TokensAreRead → (limit at : ℕ) (t : List ℕ) (tree : Tree) → IsDocument at t limit tree → Begins t limit
document_begins law limit at t tree d = (begins_law law limit at t).0 (accepting_no_fault (read_text limit at t) (complete_law law limit at t tree d))

-- ---- fronts

abbrev pub IsOther : List ℕ → Type 0
IsOther bytes = (x : List ℕ) → bytes ≡ 0xef ∷ x → ⊥

nothing : (m : FrontMark) → IsFront m []
nothing on_mark.Refused = refl
nothing on_mark.Ignored = inl refl

fronts : (m : FrontMark) (front : List ℕ) → IsFront m front → (front ≡ []) ⊎ (front ≡ byte_order_mark)
fronts on_mark.Refused front h = inl h
fronts on_mark.Ignored front h = h

ignored : (s : Settings) → s.mark ≡ on_mark.Ignored → IsFront s.mark byte_order_mark
ignored s is = subst (λ m. IsFront m byte_order_mark) (sym is) (inr refl)

pub plain : (s : Settings) (start : ℕ) (bytes : List ℕ) (tree : Tree) → IsDocument start bytes s.depth tree → IsDocumentBy s start bytes tree
plain s start bytes tree d =
    let e : start ≡ start + 0 = omega arith in
    record { front = []; rest = bytes; is_front = nothing s.mark; whole = refl; text = subst (λ n. IsDocument n bytes s.depth tree) e d }

-- a text with nothing in front
bare : (s : Settings) (start : ℕ) (bytes : List ℕ) (tree : Tree) (d : IsDocumentBy s start bytes tree) → d.front ≡ [] → IsDocument start bytes s.depth tree
bare s start bytes tree d e =
    let here : start + 0 ≡ start = omega arith in
    subst (λ b. IsDocument start b s.depth tree) (sym (d.whole ∙ ap (λ f. f ++ d.rest) e))
    (subst (λ n. IsDocument n d.rest s.depth tree) (ap (λ f. start + length f) e ∙ here) d.text)

unmarked : (s : Settings) (start : ℕ) (bytes : List ℕ) (tree : Tree) → IsOther bytes → IsDocumentBy s start bytes tree → IsDocument start bytes s.depth tree
unmarked s start bytes tree other d = pick (fronts s.mark d.front d.is_front)
  where
    pick : (d.front ≡ []) ⊎ (d.front ≡ byte_order_mark) → IsDocument start bytes s.depth tree
    pick (inl e) = bare s start bytes tree d e
    pick (inr e) = absurd (other (0xbb ∷ 0xbf ∷ d.rest) (d.whole ∙ ap (λ f. f ++ d.rest) e))

-- what begins as a mark does has a mark in front
abbrev IsMarked : Settings → ℕ → List ℕ → Tree → Type 0
IsMarked s start bytes tree = (rest : List ℕ) × (bytes ≡ byte_order_mark ++ rest) × IsDocument (start + 3) rest s.depth tree

marked : TokensAreRead → (s : Settings) (start : ℕ) (x : List ℕ) (tree : Tree) → IsDocumentBy s start (0xef ∷ x) tree → IsMarked s start (0xef ∷ x) tree
marked law s start x tree d = pick (fronts s.mark d.front d.is_front)
  where
    pick : (d.front ≡ []) ⊎ (d.front ≡ byte_order_mark) → IsMarked s start (0xef ∷ x) tree
    pick (inl e) = absurd (no_mark law s.depth x (document_begins law s.depth start (0xef ∷ x) tree (bare s start (0xef ∷ x) tree d e)))
    pick (inr e) = (d.rest, d.whole ∙ ap (λ f. f ++ d.rest) e, subst (λ f. IsDocument (start + length f) d.rest s.depth tree) e d.text)

-- ---- beginnings

pub begins_plain : (s : Settings) (t : List ℕ) → Begins t s.depth → BeginsBy s t
begins_plain s t b = record { more = b.more; tree = b.tree; text = plain s 0 (t ++ b.more) b.tree b.text }

begins_unmarked : TokensAreRead → (s : Settings) (bytes : List ℕ) (n : ℕ) → IsOther bytes → BeginsBy s (take n bytes) → Begins (take n bytes) s.depth
begins_unmarked law s [] zero other b = begins_none law s.depth
begins_unmarked law s (c ∷ t) zero other b = begins_none law s.depth
begins_unmarked law s [] (suc n) other b = begins_none law s.depth
begins_unmarked law s (c ∷ t) (suc n) other b =
    record {
      more = b.more;
      tree = b.tree;
      text = unmarked s 0 ((c ∷ take n t) ++ b.more) b.tree (λ x h. let same : c ≡ 0xef = cc in other t (ap (λ z. z ∷ t) same)) b.text;
    }

module _ (law : TokensAreRead) (s : Settings) (is : s.mark ≡ on_mark.Ignored) where
  begins_marked : (t : List ℕ) → Begins t s.depth → BeginsBy s (byte_order_mark ++ t)
  begins_marked t b =
      let c = completed_law law 3 s.depth t b in
      record { more = c.0; tree = c.1; text = record { front = byte_order_mark; rest = t ++ c.0; is_front = ignored s is; whole = refl; text = c.3 } }

  -- a part of the mark begins a text
  begins_part : (p q : List ℕ) → p ++ q ≡ byte_order_mark → BeginsBy s p
  begins_part p q h =
      let b = begins_marked [] (begins_none law s.depth) in
      record {
        more = q ++ b.more;
        tree = b.tree;
        text = subst (λ x. IsDocumentBy s 0 x b.tree) (sym (sym (append_assoc p q b.more) ∙ ap (λ f. f ++ b.more) h)) b.text;
      }

behind_mark : TokensAreRead → (s : Settings) (t : List ℕ) → BeginsBy s (byte_order_mark ++ t) → Begins t s.depth
behind_mark law s t b =
    let m = marked law s 0 (0xbb ∷ 0xbf ∷ (t ++ b.more)) b.tree b.text in
    let is : 0xef ∷ 0xbb ∷ 0xbf ∷ (t ++ b.more) ≡ 0xef ∷ 0xbb ∷ 0xbf ∷ m.0 = m.1 in
    let same : t ++ b.more ≡ m.0 = cc in
    begins-front s.depth t b.more (document_begins law s.depth 3 (t ++ b.more) b.tree (subst (λ x. IsDocument 3 x s.depth b.tree) (sym same) m.2))

no_second : TokensAreRead → (s : Settings) (c : ℕ) (u : List ℕ) → (c ≡ 0xbb → ⊥) → BeginsBy s (0xef ∷ c ∷ u) → ⊥
no_second law s c u other b = let m = marked law s 0 (c ∷ (u ++ b.more)) b.tree b.text in let is : 0xef ∷ c ∷ (u ++ b.more) ≡ 0xef ∷ 0xbb ∷ 0xbf ∷ m.0 = m.1 in let same : c ≡ 0xbb = cc in other same

no_third : TokensAreRead → (s : Settings) (c : ℕ) (u : List ℕ) → (c ≡ 0xbf → ⊥) → BeginsBy s (0xef ∷ 0xbb ∷ c ∷ u) → ⊥
no_third law s c u other b = let m = marked law s 0 (0xbb ∷ c ∷ (u ++ b.more)) b.tree b.text in let is : 0xef ∷ 0xbb ∷ c ∷ (u ++ b.more) ≡ 0xef ∷ 0xbb ∷ 0xbf ∷ m.0 = m.1 in let same : c ≡ 0xbf = cc in other same

-- ---- one tree

pub one_tree_by : TokensAreRead → (s : Settings) (start : ℕ) (bytes : List ℕ) (x y : Tree) → IsDocumentBy s start bytes x → IsDocumentBy s start bytes y → x ≡ y
one_tree_by law s start [] x y d e =
    let none : IsOther [] = (λ t h. cc) in
    tree_law law start s.depth [] x y (unmarked s start [] x none d) (unmarked s start [] y none e)
one_tree_by law s start (b ∷ t) x y d e = pick (b == 0xef) refl
  where
    pick : (v : Bool) → (b == 0xef) ≡ v → x ≡ y
    pick true q =
        let same : b ≡ 0xef = grind (arith, nat_tests) in
        let m = marked law s start t x (subst (λ (c : ℕ). IsDocumentBy s start (c ∷ t) x) same d) in
        let n = marked law s start t y (subst (λ (c : ℕ). IsDocumentBy s start (c ∷ t) y) same e) in
        let first : 0xef ∷ t ≡ 0xef ∷ 0xbb ∷ 0xbf ∷ m.0 = m.1 in
        let second : 0xef ∷ t ≡ 0xef ∷ 0xbb ∷ 0xbf ∷ n.0 = n.1 in
        let rest : n.0 ≡ m.0 = cc in
        tree_law law (start + 3) s.depth m.0 x y m.2 (subst (λ (r : List ℕ). IsDocument (start + 3) r s.depth y) rest n.2)
    pick false q =
        let differs : b ≢ 0xef = not_from_Decides (b == 0xef) (Decides-eqb b 0xef) q in
        let other : IsOther (b ∷ t) = (λ z h. let same : b ≡ 0xef = cc in differs same) in
        tree_law law start s.depth (b ∷ t) x y (unmarked s start (b ∷ t) x other d) (unmarked s start (b ∷ t) y other e)

-- ---- the verdict behind so many bytes

module _ (s : Settings) (start m : ℕ) (bytes rest : List ℕ) (long : length bytes ≡ m + length rest)
    (to : (tree : Tree) → IsDocument (start + m) rest s.depth tree → IsDocumentBy s start bytes tree)
    (of : (tree : Tree) → IsDocumentBy s start bytes tree → IsDocument (start + m) rest s.depth tree)
    (begins_to : (e n : ℕ) → Begins (take n rest) e → BeginsBy (at_depth s e) (take (m + n) bytes))
    (begins_of : (e n : ℕ) → BeginsBy (at_depth s e) (take (m + n) bytes) → Begins (take n rest) e) where
  longest : (k : ℕ) → IsLongestBeginning rest s.depth k → IsLongestBeginningBy s bytes (m + k)
  longest k h =
      record {
        within = (let w = h.within in omega (arith, w, long));
        begins = begins_to s.depth k h.begins;
        greatest = λ n lt le b.
            let e : n ≡ m + (n - m) = omega (arith, lt) in
            h.greatest (n - m) (omega (arith, lt)) (omega (arith, lt, le, long)) (begins_of s.depth (n - m) (subst (λ i. BeginsBy s (take i bytes)) e b));
      }

  judged_behind : (v : Verdict) → Judged (start + m) rest s.depth v → JudgedBy s start bytes v
  judged_behind _ (a_text d) = by.a_text (to _ d)
  judged_behind _ (cut_short never l) = by.cut_short (λ tree d. never tree (of tree d)) (subst (IsLongestBeginningBy s bytes) (sym long) (longest (length rest) l))
  judged_behind _ (too_deep {k = k} {e = e} never l lt b) =
      let at : start + (m + k) ≡ (start + m) + k = omega arith in
      let next : m + suc k ≡ suc (m + k) = omega arith in
      subst (λ i. JudgedBy s start bytes (verdict.Refused (refusal.TooDeep i))) at
      (by.too_deep (λ tree d. never tree (of tree d)) (longest k l) (omega (arith, lt, long)) (subst (λ i. BeginsBy (at_depth s e) (take i bytes)) next (begins_to e (suc k) b)))
  judged_behind _ (stopped {k = k} never l lt b) =
      let at : start + (m + k) ≡ (start + m) + k = omega arith in
      let next : suc (m + k) ≡ m + suc k = omega arith in
      subst (λ i. JudgedBy s start bytes (verdict.Refused (refusal.Stopped i))) at
      (by.stopped (λ tree d. never tree (of tree d)) (longest k l) (omega (arith, lt, long)) (λ e c. b e (begins_of e (suc k) (subst (λ i. BeginsBy (at_depth s e) (take i bytes)) next c))))

-- bytes that don't begin as a mark does
pub judged_other : TokensAreRead → (s : Settings) (start : ℕ) (bytes : List ℕ) → IsOther bytes → (v : Verdict) → Judged start bytes s.depth v → JudgedBy s start bytes v
judged_other law s start bytes other v j =
    let e : start ≡ start + 0 = omega arith in
    let none : (n : ℕ) → n ≡ 0 + n = λ n. omega arith in
    let here : start + 0 ≡ start = omega arith in
    judged_behind s start 0 bytes bytes (none (length bytes))
    (λ tree d. plain s start bytes tree (subst (λ i. IsDocument i bytes s.depth tree) here d))
    (λ tree d. subst (λ i. IsDocument i bytes s.depth tree) e (unmarked s start bytes tree other d))
    (λ e n b. subst (λ i. BeginsBy (at_depth s e) (take i bytes)) (none n) (begins_plain (at_depth s e) (take n bytes) b))
    (λ e n b. begins_unmarked law (at_depth s e) bytes n other (subst (λ i. BeginsBy (at_depth s e) (take i bytes)) (sym (none n)) b))
    v (subst (λ i. Judged i bytes s.depth v) e j)

judged_marked : TokensAreRead → (s : Settings) (start : ℕ) → s.mark ≡ on_mark.Ignored → (rest : List ℕ) (v : Verdict) → Judged (start + 3) rest s.depth v
    → JudgedBy s start (byte_order_mark ++ rest) v
judged_marked law s start is rest v j =
    let three : (n : ℕ) → suc (suc (suc n)) ≡ 3 + n = λ n. omega arith in
    judged_behind s start 3 (byte_order_mark ++ rest) rest (three (length rest))
    (λ tree d. record { front = byte_order_mark; rest = rest; is_front = ignored s is; whole = refl; text = d })
    (λ tree d. let m = marked law s start (0xbb ∷ 0xbf ∷ rest) tree d in let is : 0xef ∷ 0xbb ∷ 0xbf ∷ rest ≡ 0xef ∷ 0xbb ∷ 0xbf ∷ m.0 = m.1 in let same : rest ≡ m.0 = cc in subst (λ x. IsDocument (start + 3) x s.depth tree) (sym same) m.2)
    (λ e n b. subst (λ i. BeginsBy (at_depth s e) (take i (byte_order_mark ++ rest))) (three n) (begins_marked law (at_depth s e) is (take n rest) b))
    (λ e n b. behind_mark law (at_depth s e) (take n rest) (subst (λ i. BeginsBy (at_depth s e) (take i (byte_order_mark ++ rest))) (sym (three n)) b))
    v j

-- ---- a part of the mark

module _ (law : TokensAreRead) (s : Settings) (start : ℕ) (is : s.mark ≡ on_mark.Ignored) where
  one_cut : JudgedBy s start (0xef ∷ []) (verdict.Refused refusal.Truncated)
  one_cut =
      by.cut_short (λ tree d. let m = marked law s start [] tree d in let e : 0xef ∷ [] ≡ 0xef ∷ 0xbb ∷ 0xbf ∷ m.0 = m.1 in cc)
      (record { within = omega arith; begins = begins_part law s is (0xef ∷ []) (0xbb ∷ 0xbf ∷ []) refl; greatest = λ n lt le b. omega (arith, lt, le) })

  two_cut : JudgedBy s start (0xef ∷ 0xbb ∷ []) (verdict.Refused refusal.Truncated)
  two_cut =
      by.cut_short (λ tree d. let m = marked law s start (0xbb ∷ []) tree d in let e : 0xef ∷ 0xbb ∷ [] ≡ 0xef ∷ 0xbb ∷ 0xbf ∷ m.0 = m.1 in cc)
      (record { within = omega arith; begins = begins_part law s is (0xef ∷ 0xbb ∷ []) (0xbf ∷ []) refl; greatest = λ n lt le b. omega (arith, lt, le) })

  one_other : (c : ℕ) (t : List ℕ) → (c ≡ 0xbb → ⊥) → JudgedBy s start (0xef ∷ c ∷ t) (verdict.Refused (refusal.Stopped (start + 1)))
  one_other c t other =
      by.stopped {k = 1} (λ tree d. let m = marked law s start (c ∷ t) tree d in let e : 0xef ∷ c ∷ t ≡ 0xef ∷ 0xbb ∷ 0xbf ∷ m.0 = m.1 in let same : c ≡ 0xbb = cc in other same)
      (record { within = omega arith; begins = begins_part law s is (0xef ∷ []) (0xbb ∷ 0xbf ∷ []) refl; greatest = greatest })
      (omega arith) (λ e b. no_second law (at_depth s e) c [] other b)
    where
      greatest : (n : ℕ) → 1 < n → n ≤ length (0xef ∷ c ∷ t) → BeginsBy s (take n (0xef ∷ c ∷ t)) → ⊥
      greatest zero lt le b = omega (arith, lt)
      greatest (suc zero) lt le b = omega (arith, lt)
      greatest (suc (suc n)) lt le b = no_second law s c (take n t) other b

  two_other : (c : ℕ) (t : List ℕ) → (c ≡ 0xbf → ⊥) → JudgedBy s start (0xef ∷ 0xbb ∷ c ∷ t) (verdict.Refused (refusal.Stopped (start + 2)))
  two_other c t other =
      by.stopped {k = 2} (λ tree d. let m = marked law s start (0xbb ∷ c ∷ t) tree d in let e : 0xef ∷ 0xbb ∷ c ∷ t ≡ 0xef ∷ 0xbb ∷ 0xbf ∷ m.0 = m.1 in let same : c ≡ 0xbf = cc in other same)
      (record { within = omega arith; begins = begins_part law s is (0xef ∷ 0xbb ∷ []) (0xbf ∷ []) refl; greatest = greatest })
      (omega arith) (λ e b. no_third law (at_depth s e) c [] other b)
    where
      greatest : (n : ℕ) → 2 < n → n ≤ length (0xef ∷ 0xbb ∷ c ∷ t) → BeginsBy s (take n (0xef ∷ 0xbb ∷ c ∷ t)) → ⊥
      greatest zero lt le b = omega (arith, lt)
      greatest (suc zero) lt le b = omega (arith, lt)
      greatest (suc (suc zero)) lt le b = omega (arith, lt)
      greatest (suc (suc (suc n))) lt le b = no_third law s c (take n t) other b

-- ---- no mark is ignored

bare_front : (m : FrontMark) (front : List ℕ) → m ≡ on_mark.Refused → IsFront m front → front ≡ []
bare_front on_mark.Refused front is h = h
bare_front on_mark.Ignored front is h = absurd cc

module _ (s : Settings) (is : s.mark ≡ on_mark.Refused) where
  pub refused_texts : (start : ℕ) (bytes : List ℕ) (tree : Tree) → IsDocumentBy s start bytes tree → IsDocument start bytes s.depth tree
  refused_texts start bytes tree d = bare s start bytes tree d (bare_front s.mark d.front is d.is_front)

  pub refused_begins : (t : List ℕ) → BeginsBy s t → Begins t s.depth
  refused_begins t b = record { more = b.more; tree = b.tree; text = refused_texts 0 (t ++ b.more) b.tree b.text }

pub refused_judged : (s : Settings) (start : ℕ) (bytes : List ℕ) → s.mark ≡ on_mark.Refused → (v : Verdict) → Judged start bytes s.depth v → JudgedBy s start bytes v
refused_judged s start bytes is v j =
    let e : start ≡ start + 0 = omega arith in
    let none : (n : ℕ) → n ≡ 0 + n = λ n. omega arith in
    let here : start + 0 ≡ start = omega arith in
    judged_behind s start 0 bytes bytes (none (length bytes))
    (λ tree d. plain s start bytes tree (subst (λ i. IsDocument i bytes s.depth tree) here d))
    (λ tree d. subst (λ i. IsDocument i bytes s.depth tree) e (refused_texts s is start bytes tree d))
    (λ e n b. subst (λ i. BeginsBy (at_depth s e) (take i bytes)) (none n) (begins_plain (at_depth s e) (take n bytes) b))
    (λ e n b. refused_begins (at_depth s e) is (take n bytes) (subst (λ i. BeginsBy (at_depth s e) (take i bytes)) (sym (none n)) b))
    v (subst (λ i. Judged i bytes s.depth v) e j)

-- the other way, since the verdict is one
pub judged_refused : TokensAreRead → (s : Settings) (start : ℕ) (bytes : List ℕ) → s.mark ≡ on_mark.Refused → (v : Verdict) → JudgedBy s start bytes v → Judged start bytes s.depth v
judged_refused law s start bytes is v j =
    let w = verdict_of (read_text s.depth start bytes) in
    let k : Judged start bytes s.depth w = verdict_law law s.depth start bytes in
    subst (Judged start bytes s.depth) (one_verdict_by s start bytes w v (refused_judged s start bytes is w k) j) k

-- ---- the front tells the verdict

-- a refusal of bytes that stand further on
abbrev pub further : ℕ → Refusal → Refusal
further by (refusal.Stopped at) = refusal.Stopped (by + at)
further by refusal.Truncated = refusal.Truncated
further by (refusal.TooDeep at) = refusal.TooDeep (by + at)
further by (refusal.RepeatedName at) = refusal.RepeatedName (by + at)

-- what a front tells of bytes that stand from an offset on
abbrev pub IsToldFrom : ℕ → FrontMark → List ℕ → Front → Type 0
IsToldFrom start m text (seen.Skip n) =
    (n ≤ length text) × ((s : Settings) (v : Verdict) → s.mark ≡ m → Judged (start + n) (drop n text) s.depth v → JudgedBy s start text v)
IsToldFrom start m text (seen.Refused r) = (s : Settings) → s.mark ≡ m → JudgedBy s start text (verdict.Refused (further start r))

-- agreed w [] doesn't compute before w is known
pub none_agreed : (w : List ℕ) → agreed w [] ≡ 0
none_agreed [] = refl
none_agreed (b ∷ w) = refl

module _ (law : TokensAreRead) (start : ℕ) where
  abbrev Told : List ℕ → ℕ → ℕ → Type 0
  Told text n count = IsToldFrom start on_mark.Ignored text (front_by n count)

  zero_at : start + 0 ≡ start
  zero_at = omega arith

  other_told : (text : List ℕ) (count : ℕ) → IsOther text → Told text 0 count
  other_told text count other = (omega arith, λ s v is j. judged_other law s start text other v (subst (λ i. Judged i text s.depth v) zero_at j))

  all_told : (d : ℕ) (w : List ℕ) → d ≡ 0xbf → Told (0xef ∷ 0xbb ∷ d ∷ w) (suc (suc (suc (agreed w [])))) (suc (suc (suc (length w))))
  all_told d w same =
      subst (λ n. Told (0xef ∷ 0xbb ∷ d ∷ w) (suc (suc (suc n))) (suc (suc (suc (length w))))) (sym (none_agreed w))
      (subst (λ b. Told (0xef ∷ 0xbb ∷ b ∷ w) 3 (suc (suc (suc (length w))))) (sym same) (omega arith, λ s v is j. judged_marked law s start is w v j))

  second : (u : List ℕ) → Told (0xef ∷ u) (suc (agreed u (0xbb ∷ 0xbf ∷ []))) (suc (length u))
  second [] = λ s is. one_cut law s start is
  second (c ∷ t) = pick (c == 0xbb) refl
    where
      third : (t : List ℕ) → Told (0xef ∷ 0xbb ∷ t) (suc (suc (agreed t (0xbf ∷ [])))) (suc (suc (length t)))
      third [] = λ s is. two_cut law s start is
      third (d ∷ w) = last (d == 0xbf) refl
        where
          last : (x : Bool) → (d == 0xbf) ≡ x → Told (0xef ∷ 0xbb ∷ d ∷ w) (suc (suc (cond x (suc (agreed w [])) 0))) (suc (suc (suc (length w))))
          last true q = all_told d w (grind (arith, nat_tests))
          last false q =
              let more : (2 == suc (suc (suc (length w)))) ≡ false = grind (arith, nat_tests) in
              let other : d ≢ 0xbf = not_from_Decides (d == 0xbf) (Decides-eqb d 0xbf) q in
              subst (λ b. IsToldFrom start on_mark.Ignored (0xef ∷ 0xbb ∷ d ∷ w) (cond b (seen.Refused refusal.Truncated) (seen.Refused (refusal.Stopped 2)))) (sym more) (λ s is. two_other law s start is d w other)

      pick : (x : Bool) → (c == 0xbb) ≡ x → Told (0xef ∷ c ∷ t) (suc (cond x (suc (agreed t (0xbf ∷ []))) 0)) (suc (suc (length t)))
      pick true q = let same : c ≡ 0xbb = grind (arith, nat_tests) in subst (λ b. Told (0xef ∷ b ∷ t) (suc (suc (agreed t (0xbf ∷ [])))) (suc (suc (length t)))) (sym same) (third t)
      pick false q =
          let more : (1 == suc (suc (length t))) ≡ false = grind (arith, nat_tests) in
          let other : c ≢ 0xbb = not_from_Decides (c == 0xbb) (Decides-eqb c 0xbb) q in
          subst (λ b. IsToldFrom start on_mark.Ignored (0xef ∷ c ∷ t) (cond b (seen.Refused refusal.Truncated) (seen.Refused (refusal.Stopped 1)))) (sym more) (λ s is. one_other law s start is c t other)

  pub told_from : (m : FrontMark) (text : List ℕ) → IsToldFrom start m text (front_of m text)
  told_from on_mark.Refused text = (omega arith, λ s v is j. refused_judged s start text is v (subst (λ i. Judged i text s.depth v) zero_at j))
  told_from on_mark.Ignored [] = other_told [] 0 (λ x h. cc)
  told_from on_mark.Ignored (a ∷ u) = pick (a == 0xef) refl
    where
      pick : (x : Bool) → (a == 0xef) ≡ x → Told (a ∷ u) (cond x (suc (agreed u (0xbb ∷ 0xbf ∷ []))) 0) (suc (length u))
      pick true q = let same : a ≡ 0xef = grind (arith, nat_tests) in subst (λ b. Told (b ∷ u) (suc (agreed u (0xbb ∷ 0xbf ∷ []))) (suc (length u))) (sym same) (second u)
      pick false q =
          let other : a ≢ 0xef = not_from_Decides (a == 0xef) (Decides-eqb a 0xef) q in
          other_told (a ∷ u) (suc (length u)) (λ x h. let same : a ≡ 0xef = cc in other same)

pub front_told : TokensAreRead → (m : FrontMark) (text : List ℕ) → IsTold m text (front_of m text)
front_told law m text = at_zero (front_of m text) (told_from law 0 m text)
  where
    none : (r : Refusal) → further 0 r ≡ r
    none (refusal.Stopped at) = let e : 0 + at ≡ at = omega arith in ap (λ i. refusal.Stopped i) e
    none refusal.Truncated = refl
    none (refusal.TooDeep at) = let e : 0 + at ≡ at = omega arith in ap (λ i. refusal.TooDeep i) e
    none (refusal.RepeatedName at) = let e : 0 + at ≡ at = omega arith in ap (λ i. refusal.RepeatedName i) e

    at_zero : (f : Front) → IsToldFrom 0 m text f → IsTold m text f
    at_zero (seen.Skip n) h = (h.0, λ s v is j. h.1 s v is (let e : n ≡ 0 + n = omega arith in subst (λ i. Judged i (drop n text) s.depth v) e j))
    at_zero (seen.Refused r) h = λ s is. subst (λ x. JudgedBy s 0 text (verdict.Refused x)) (none r) (h s is)

-- ---- a front and more bytes

pub agreed_short : (xs ms : List ℕ) → agreed xs ms ≤ length xs
agreed_short [] ms = omega arith
agreed_short (x ∷ xs) [] = omega arith
agreed_short (x ∷ xs) (m ∷ ms) = pick (x == m) (agreed_short xs ms)
  where
    pick : (b : Bool) → agreed xs ms ≤ length xs → cond b (suc (agreed xs ms)) 0 ≤ suc (length xs)
    pick true h = omega arith
    pick false h = omega arith

-- more bytes change nothing of it behind the first that differs, and behind all
pub agreed_on : (xs ms more : List ℕ) → (agreed xs ms < length xs) ⊎ (agreed xs ms ≡ length ms) → agreed (xs ++ more) ms ≡ agreed xs ms
agreed_on [] ms more (inl h) = absurd (omega (arith, h))
agreed_on [] [] more (inr h) = none_agreed more
agreed_on [] (m ∷ ms) more (inr h) = absurd (omega (arith, h))
agreed_on (x ∷ xs) [] more h = refl
agreed_on (x ∷ xs) (m ∷ ms) more h = pick (x == m) (agreed_on xs ms more) h
  where
    pick : (b : Bool) → ((agreed xs ms < length xs) ⊎ (agreed xs ms ≡ length ms) → agreed (xs ++ more) ms ≡ agreed xs ms)
        → (cond b (suc (agreed xs ms)) 0 < suc (length xs)) ⊎ (cond b (suc (agreed xs ms)) 0 ≡ suc (length ms)) → cond b (suc (agreed (xs ++ more) ms)) 0 ≡ cond b (suc (agreed xs ms)) 0
    pick true on (inl k) = ap suc (on (inl (omega (arith, k))))
    pick true on (inr k) = ap suc (on (inr (omega (arith, k))))
    pick false on k = refl

agreed_low : (xs ms : List ℕ) → agreed xs ms ≤ length ms
agreed_low [] ms = omega arith
agreed_low (x ∷ xs) [] = omega arith
agreed_low (x ∷ xs) (m ∷ ms) = pick (x == m) (agreed_low xs ms)
  where
    pick : (b : Bool) → agreed xs ms ≤ length ms → cond b (suc (agreed xs ms)) 0 ≤ suc (length ms)
    pick true h = omega arith
    pick false h = omega arith

-- the first three bytes decide what the front is
pub front_stays : (m : FrontMark) (text more : List ℕ) → 3 ≤ length text → front_of m (text ++ more) ≡ front_of m text
front_stays on_mark.Refused text more h = refl
front_stays on_mark.Ignored text more h =
    let n : agreed text byte_order_mark ≤ 3 = agreed_low text byte_order_mark in
    ap (λ k. front_by k (length (text ++ more))) (agreed_on text byte_order_mark more (reach (agreed text byte_order_mark == 3) refl n))
    ∙ same (agreed text byte_order_mark) (length (text ++ more)) (length text) n (omega (arith, h, length-append text more)) h
  where
    reach : (b : Bool) → (agreed text byte_order_mark == 3) ≡ b → agreed text byte_order_mark ≤ 3 → (agreed text byte_order_mark < length text) ⊎ (agreed text byte_order_mark ≡ 3)
    reach true q n = inr (grind (arith, nat_tests))
    reach false q n = let other : agreed text byte_order_mark ≢ 3 = grind (arith, nat_tests) in inl (omega (arith, other, n, h))

    apart : (n p : ℕ) → n < p → (n == p) ≡ false
    apart n p low = grind (arith, nat_tests)

    same : (n p q : ℕ) → n ≤ 3 → 3 ≤ p → 3 ≤ q → front_by n p ≡ front_by n q
    same zero p q n a b = refl
    same (suc zero) p q n a b = ap (λ x. cond x (seen.Refused refusal.Truncated) (seen.Refused (refusal.Stopped 1))) (apart 1 p (omega (arith, a)) ∙ sym (apart 1 q (omega (arith, b))))
    same (suc (suc zero)) p q n a b = ap (λ x. cond x (seen.Refused refusal.Truncated) (seen.Refused (refusal.Stopped 2))) (apart 2 p (omega (arith, a)) ∙ sym (apart 2 q (omega (arith, b))))
    same (suc (suc (suc zero))) p q n a b = refl
    same (suc (suc (suc (suc k)))) p q n a b = absurd (omega (arith, n))

-- where all bytes agree, they are the first ones of the other list
pub all_of : (xs ms : List ℕ) → agreed xs ms ≡ length xs → xs ≡ take (length xs) ms
all_of [] ms e = refl
all_of (x ∷ xs) [] e = absurd (omega (arith, e))
all_of (x ∷ xs) (m ∷ ms) e = pick (x == m) refl (all_of xs ms) e
  where
    pick : (b : Bool) → (x == m) ≡ b → (agreed xs ms ≡ length xs → xs ≡ take (length xs) ms) → cond b (suc (agreed xs ms)) 0 ≡ suc (length xs) → x ∷ xs ≡ m ∷ take (length xs) ms
    pick true q more h =
        let same : x ≡ m = grind (arith, nat_tests) in
        ap (λ (y : ℕ). y ∷ xs) same ∙ ap (λ (t : List ℕ). m ∷ t) (more (omega (arith, h)))
    pick false q more h = absurd (omega (arith, h))

-- behind the first bytes of the mark
pub agreed_behind : (bytes slice : List ℕ) → agreed bytes byte_order_mark ≡ length bytes → length bytes < 3
    → agreed (bytes ++ slice) byte_order_mark ≡ length bytes + agreed slice (drop (length bytes) byte_order_mark)
agreed_behind bytes slice part cut =
    subst (λ (xs : List ℕ). agreed (xs ++ slice) byte_order_mark ≡ length bytes + agreed slice (drop (length bytes) byte_order_mark)) (sym (all_of bytes byte_order_mark part)) (go (length bytes) cut)
  where
    go : (n : ℕ) → n < 3 → agreed (take n byte_order_mark ++ slice) byte_order_mark ≡ n + agreed slice (drop n byte_order_mark)
    go zero low = omega arith
    go (suc zero) low = omega arith
    go (suc (suc zero)) low = omega arith
    go (suc (suc (suc n))) low = absurd (omega (arith, low))

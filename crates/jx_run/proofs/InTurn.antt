-- The tokens of bytes that are read slice by slice, and those of an accepted text.
use Rattle.std.proofs.Common.{◌≡◌, ℕ, suc, ◌+◌, ◌-◌, ◌<◌, ◌≤◌, List, [], ◌∷◌, ◌++◌, length, drop, refl, sym, ◌∙◌, ap, subst, arith, inl, inr, Option, Some, None, Bool, true, false, cond}
use Rattle.std.specs.Prelude.{◌==◌}
use Rattle.std.proofs.lemmas.Bool.Decides.{nat_tests}
use Rattle.std.proofs.lemmas.List.{drop-append-le, length-drop, nil_from_length}
use Rattle.std.proofs.Math.Nat.{add-suc}
use Rattle.std.proofs.Math.Seq.{drop-append-add}
use Rattle.jx_lex.specs.declared.alphabet.mark.Mark.{Mark}
use Rattle.jx_lex.specs.declared.alphabet.mark.MarkKind.{MarkKind}
use Rattle.jx_lex.specs.declared.alphabet.state.LexState.{LexState}
use Rattle.jx_lex.specs.declared.alphabet.state.LexState.TheVariants as state
use Rattle.jx_lex.specs.declared.alphabet.state.Step.{Step}
use Rattle.jx_lex.specs.declared.alphabet.state.TokenEnd.{TokenEnd}
use Rattle.jx_lex.specs.declared.alphabet.state.TokenEnd.TheVariants.{Before, After}
use Rattle.jx_lex.specs.Lex as lexical
use Rattle.jx_lex.specs.Lex.{lex, LexExit, Track, after_step, on_next, with_end, with_mark}
use Rattle.jx_lex.specs.Moves.{move}
use Rattle.jx_lex.specs.TwoPieces.{joined, right_of}
use Rattle.jx_reduce.specs.declared.table.expect.Expect.{Expect}
use Rattle.jx_reduce.specs.declared.table.holder.Holder.{Holder}
use Rattle.jx_reduce.specs.Read.{Reading}
use Rattle.jx_run.specs.declared.texts.settings.Front.TheVariants as seen
use Rattle.jx_run.specs.declared.texts.settings.FrontMark.{FrontMark}
use Rattle.jx_run.specs.declared.texts.settings.FrontMark.TheVariants as on_mark
use Rattle.jx_run.specs.declared.texts.settings.NameRule.TheVariants as name_rule
use Rattle.jx_run.specs.declared.texts.settings.Settings.{Settings}
use Rattle.jx_run.specs.declared.texts.verdict.Refusal.TheVariants as refusal
use Rattle.jx_run.specs.declared.texts.verdict.Verdict.TheVariants as verdict
use Rattle.jx_run.specs.Front.{agreed, front_by, front_of}
use Rattle.jx_run.specs.Laws.{verdict_on}
use Rattle.jx_run.specs.Reader.{Outcome, in_front, reads, is_fault, read_behind, read_by}
use Rattle.jx_run.specs.Reading.{went, stopped, too_deep, at_exit, read, read_text}
use Rattle.jx_run.specs.Settings.{byte_order_mark}
use Rattle.jx_run.specs.Telling.{IsAcceptedFrom, moved_ends, moved_marks, no_tokens, tokens_by, track_of}
use Rattle.jx_run.specs.Verdict.{Judged}
use Rattle.jx_run.proofs.Fronts.{agreed_behind, agreed_on, agreed_short}
use Rattle.jx_run.proofs.LawProofs.{Verdicts}
use Rattle.jx_run.proofs.ReaderFeeds.{Case, cases, whole, part, none, cut, by_whole, by_part, by_none, by_cut, passed}
use Rattle.jx_run.proofs.Tellings.{front_none, front_part, front_whole, none_of_none}

-- ---- the same bytes further on

abbrev pub moved_exit : ℕ → LexExit → LexExit
moved_exit b (lexical.state s) = lexical.state s
moved_exit b (lexical.fault at) = lexical.fault (b + at)

abbrev pub moved : ℕ → Track → Track
moved b t = record { marks = moved_marks b t.marks; ends = moved_ends b t.ends; exit = moved_exit b t.exit }

marks_moved : (k : Option MarkKind) (b at : ℕ) (ms : List Mark) → with_mark k (b + at) (moved_marks b ms) ≡ moved_marks b (with_mark k at ms)
marks_moved None b at ms = refl
marks_moved (Some k) b at ms = refl

ends_moved : (e : Option TokenEnd) (b at : ℕ) (es : List ℕ) → with_end e (b + at) (moved_ends b es) ≡ moved_ends b (with_end e at es)
ends_moved None b at es = refl
ends_moved (Some Before) b at es = refl
ends_moved (Some After) b at es = ap (λ (k : ℕ). k ∷ moved_ends b es) (sym (add-suc b at))

step_moved : (step : Step) (b at : ℕ) (rest : Track) → after_step step (b + at) (moved b rest) ≡ moved b (after_step step at rest)
step_moved step b at rest =
    ap (λ (ms : List Mark). record { marks = ms; ends = with_end step.end (b + at) (moved_ends b rest.ends); exit = moved_exit b rest.exit }) (marks_moved step.begin b at rest.marks)
    ∙ ap (λ (es : List ℕ). record { marks = moved_marks b (with_mark step.begin at rest.marks); ends = es; exit = moved_exit b rest.exit }) (ends_moved step.end b at rest.ends)

next_moved : (n : Option LexState) (b at : ℕ) (f g : LexState → Track) → ((s : LexState) → f s ≡ moved b (g s)) → on_next n (b + at) f ≡ moved b (on_next n at g)
next_moved None b at f g h = refl
next_moved (Some s) b at f g h = h s

pub lex_moved : (b : ℕ) (s : LexState) (at : ℕ) (xs : List ℕ) → lex s (b + at) xs ≡ moved b (lex s at xs)
unfolding lex
lex_moved b s at [] = refl
lex_moved b s at (x ∷ xs) =
    ap (after_step (move s x) (b + at))
    (next_moved ((move s x).next) b at (λ next. lex next (suc (b + at)) xs) (λ next. lex next (suc at) xs)
    (λ t. ap (λ (k : ℕ). lex t k xs) (sym (add-suc b at)) ∙ lex_moved b t (suc at) xs))
    ∙ step_moved (move s x) b at (on_next ((move s x).next) at (λ next. lex next (suc at) xs))

-- ---- in two pieces

abbrev pub InPieces : Type 0
InPieces = (s : LexState) (at : ℕ) (first rest : List ℕ) → lex s at (first ++ rest) ≡ joined (lex s at first) (λ next. lex next (at + length first) rest)

-- the tokens of a slice are behind the others
pub record Follows (all first : Track) (b : ℕ) (next : Track) : Type 0 where
  pub marks : all.marks ≡ first.marks ++ moved_marks b next.marks
  pub ends : all.ends ≡ first.ends ++ moved_ends b next.ends

follows_as : {all all' first first' next next' : Track} {b b' : ℕ} → all ≡ all' → first ≡ first' → b ≡ b' → next ≡ next' → Follows all' first' b' next' → Follows all first b next
follows_as {all} {all'} {first} {first'} {next} {next'} {b} {b'} e f g i h =
    subst (λ (x : Track). Follows x first b next) (sym e)
    (subst (λ (x : Track). Follows all' x b next) (sym f)
    (subst (λ (x : ℕ). Follows all' first' x next) (sym g)
    (subst (λ (x : Track). Follows all' first' b' x) (sym i) h)))

follows_exit : InPieces → (at b : ℕ) (bytes slice : List ℕ) (s : LexState) → at + length bytes ≡ b → (lex state.Gap at bytes).exit ≡ lexical.state s
    → Follows (lex state.Gap at (bytes ++ slice)) (lex state.Gap at bytes) b (lex s 0 slice)
follows_exit two at b bytes slice s base leads =
    let l = lex state.Gap at bytes in
    let far : lex s (at + length bytes) slice ≡ moved b (lex s 0 slice) =
    ap (λ (k : ℕ). lex s k slice) (base ∙ (let z : b ≡ b + 0 = omega arith in z)) ∙ lex_moved b s 0 slice in
    let all : lex state.Gap at (bytes ++ slice) ≡ record { marks = l.marks ++ moved_marks b (lex s 0 slice).marks; ends = l.ends ++ moved_ends b (lex s 0 slice).ends; exit = moved_exit b (lex s 0 slice).exit } =
    two state.Gap at bytes slice
    ∙ ap (λ (e : LexExit). let r = right_of e (λ next. lex next (at + length bytes) slice) in record { marks = l.marks ++ r.marks; ends = l.ends ++ r.ends; exit = r.exit }) leads
    ∙ ap (λ (r : Track). record { marks = l.marks ++ r.marks; ends = l.ends ++ r.ends; exit = r.exit }) far in
    record { marks = ap (λ (t : Track). t.marks) all; ends = ap (λ (t : Track). t.ends) all }

-- ---- slice by slice

leads_to : (x : LexExit) (r : Reading) (s : LexState) (e : Expect) (o : List Holder) → at_exit x r ≡ went s e o → x ≡ lexical.state s
leads_to (lexical.state t) (Reading.went f p) s e o h = cc
leads_to (lexical.fault i) (Reading.went f p) s e o h = cc
leads_to (lexical.state t) (Reading.stopped at) s e o h = cc
leads_to (lexical.fault i) (Reading.stopped at) s e o h = cc
leads_to (lexical.state t) (Reading.too_deep at) s e o h = cc
leads_to (lexical.fault i) (Reading.too_deep at) s e o h = cc

exit_is : (limit at : ℕ) (bytes : List ℕ) (s : LexState) (e : Expect) (o : List Holder) → read_text limit at bytes ≡ went s e o → (lex state.Gap at bytes).exit ≡ lexical.state s
unfolding read
exit_is limit at bytes s e o h = leads_to (lex state.Gap at bytes).exit _ s e o h

-- a reading that goes on, from an offset on
behind : InPieces → (limit at b : ℕ) (bytes slice : List ℕ) (z : Outcome) → at + length bytes ≡ b → reads (read_text limit at bytes) ≡ z → is_fault (Some z) ≡ false
    → Follows (lex state.Gap at (bytes ++ slice)) (lex state.Gap at bytes) b (track_of z slice)
behind two limit at b bytes slice (in_front n) base is goes = absurd cc
behind two limit at b bytes slice (reads (stopped i)) base is goes = absurd cc
behind two limit at b bytes slice (reads (too_deep i)) base is goes = absurd cc
behind two limit at b bytes slice (reads (went s e o)) base is goes =
    let same : read_text limit at bytes ≡ went s e o = cc in
    follows_exit two at b bytes slice s base (exit_is limit at bytes s e o same)

few : (bytes : List ℕ) → agreed bytes byte_order_mark ≤ 3
few [] = omega arith
few (a ∷ []) = pick (a == 0xef)
  where
    pick : (x : Bool) → cond x 1 0 ≤ 3
    pick true = omega arith
    pick false = omega arith
few (a ∷ b ∷ []) = pick (a == 0xef) (b == 0xbb)
  where
    pick : (x y : Bool) → cond x (suc (cond y 1 0)) 0 ≤ 3
    pick true true = omega arith
    pick true false = omega arith
    pick false y = omega arith
few (a ∷ b ∷ c ∷ []) = pick (a == 0xef) (b == 0xbb) (c == 0xbf)
  where
    pick : (x y z : Bool) → cond x (suc (cond y (suc (cond z 1 0)) 0)) 0 ≤ 3
    pick true true true = omega arith
    pick true true false = omega arith
    pick true false z = omega arith
    pick false y z = omega arith
few (a ∷ b ∷ c ∷ d ∷ xs) = pick (a == 0xef) (b == 0xbb) (c == 0xbf)
  where
    pick : (x y z : Bool) → cond x (suc (cond y (suc (cond z 1 0)) 0)) 0 ≤ 3
    pick true true true = omega arith
    pick true true false = omega arith
    pick true false z = omega arith
    pick false y z = omega arith

-- the tokens of bytes in front of which a mark may stand, by how many of them agree with one
module _ (bytes : List ℕ) where
  tokens_whole : agreed bytes byte_order_mark ≡ 3 → tokens_by on_mark.Ignored bytes ≡ lex state.Gap 3 (drop 3 bytes)
  tokens_whole e = front_whole 0 bytes (0 + agreed bytes (drop 0 byte_order_mark)) (omega (arith, e))

  tokens_bare : agreed bytes byte_order_mark ≡ 0 → tokens_by on_mark.Ignored bytes ≡ lex state.Gap 0 bytes
  tokens_bare e = front_none 0 bytes (0 + agreed bytes (drop 0 byte_order_mark)) (omega (arith, e))

  tokens_part : (agreed bytes byte_order_mark ≡ 3 → ⊥) → (agreed bytes byte_order_mark ≡ 0 → ⊥) → tokens_by on_mark.Ignored bytes ≡ no_tokens
  tokens_part other some = front_part 0 bytes (0 + agreed bytes (drop 0 byte_order_mark)) (λ e. other (omega (arith, e))) (λ e. some (omega (arith, e)))

none_moved : (b : ℕ) → Follows no_tokens no_tokens b no_tokens
none_moved b = record { marks = refl; ends = refl }

-- where all bytes begin a mark
in_part : (bytes slice : List ℕ) → (agreed bytes byte_order_mark ≡ 3 → ⊥) → agreed bytes byte_order_mark ≡ length bytes
    → Follows (tokens_by on_mark.Ignored (bytes ++ slice)) (tokens_by on_mark.Ignored bytes) (length bytes) (track_of (in_front (agreed bytes byte_order_mark)) slice)
in_part bytes slice other long = subst (λ (n : ℕ). Follows (tokens_by on_mark.Ignored (bytes ++ slice)) (tokens_by on_mark.Ignored bytes) (length bytes) (track_of (in_front n) slice)) (sym long) (go (count == 3) (count == 0) refl refl)
  where
    n : ℕ
    n = length bytes

    count : ℕ
    count = n + agreed slice (drop n byte_order_mark)

    less : length bytes < 3
    less = let most = few bytes in let differs : length bytes ≡ 3 → ⊥ = λ e. other (long ∙ e) in omega (arith, most, differs, long)

    all : agreed (bytes ++ slice) byte_order_mark ≡ count
    all = agreed_behind bytes slice long less

    first : tokens_by on_mark.Ignored bytes ≡ no_tokens
    first = pick (n == 0) refl
      where
        pick : (x : Bool) → (n == 0) ≡ x → tokens_by on_mark.Ignored bytes ≡ no_tokens
        pick true q =
            let e : n ≡ 0 = grind (arith, nat_tests) in
            tokens_bare bytes (long ∙ e) ∙ ap (lex state.Gap 0) (nil_from_length bytes e) ∙ none_of_none
        pick false q = let some : n ≡ 0 → ⊥ = grind (arith, nat_tests) in tokens_part bytes other (λ e. some (sym long ∙ e))

    go : (x y : Bool) → (count == 3) ≡ x → (count == 0) ≡ y → Follows (tokens_by on_mark.Ignored (bytes ++ slice)) (tokens_by on_mark.Ignored bytes) (length bytes) (track_of (in_front n) slice)
    go true y q r =
        let e : count ≡ 3 = grind (arith, nat_tests) in
        let k : 3 ≡ n + (3 - n) = omega (arith, less) in
        let rest : drop 3 (bytes ++ slice) ≡ drop (3 - n) slice = ap (λ (i : ℕ). drop i (bytes ++ slice)) k ∙ drop-append-add bytes slice (3 - n) in
        let far : lex state.Gap 3 (drop 3 (bytes ++ slice)) ≡ moved n (lex state.Gap (3 - n) (drop (3 - n) slice)) =
        ap (lex state.Gap 3) rest ∙ ap (λ (i : ℕ). lex state.Gap i (drop (3 - n) slice)) k ∙ lex_moved n state.Gap (3 - n) (drop (3 - n) slice) in
        follows_as (tokens_whole (bytes ++ slice) (all ∙ e) ∙ far) first refl (front_whole n slice count e) (record { marks = refl; ends = refl })
    go false true q r =
        let e : count ≡ 0 = grind (arith, nat_tests) in
        let z : n ≡ 0 = omega (arith, e) in
        let same : bytes ++ slice ≡ slice = ap (λ (xs : List ℕ). xs ++ slice) (nil_from_length bytes z) in
        let far : lex state.Gap 0 (bytes ++ slice) ≡ moved n (lex state.Gap 0 slice) =
        ap (lex state.Gap 0) same ∙ ap (λ (i : ℕ). lex state.Gap i slice) (let w : 0 ≡ n + 0 = omega (arith, z) in w) ∙ lex_moved n state.Gap 0 slice in
        follows_as (tokens_bare (bytes ++ slice) (all ∙ e) ∙ far) first refl (front_none n slice count e) (record { marks = refl; ends = refl })
    go false false q r =
        let no : count ≡ 3 → ⊥ = grind (arith, nat_tests) in
        let some : count ≡ 0 → ⊥ = grind (arith, nat_tests) in
        follows_as (tokens_part (bytes ++ slice) (λ e. no (sym all ∙ e)) (λ e. some (sym all ∙ e))) first refl (front_part n slice count no some) (none_moved n)

pub in_turn : InPieces → (m : FrontMark) (limit : ℕ) (bytes slice : List ℕ) → is_fault (Some (read_by m limit 0 bytes)) ≡ false
    → Follows (tokens_by m (bytes ++ slice)) (tokens_by m bytes) (length bytes) (track_of (read_by m limit 0 bytes) slice)
in_turn two on_mark.Refused limit bytes slice goes = behind two limit 0 (length bytes) bytes slice (reads (read_text limit 0 bytes)) (omega arith) refl goes
in_turn two on_mark.Ignored limit bytes slice goes = go (cases (agreed bytes byte_order_mark) (length bytes) (agreed_short bytes byte_order_mark))
  where
    n : ℕ
    n = agreed bytes byte_order_mark

    z : Outcome
    z = read_behind n limit 0 bytes

    go : Case (agreed bytes byte_order_mark) (length bytes) → Follows (tokens_by on_mark.Ignored (bytes ++ slice)) (tokens_by on_mark.Ignored bytes) (length bytes) (track_of z slice)
    go (whole e) =
        let three : 3 ≤ length bytes = omega (arith, e, agreed_short bytes byte_order_mark) in
        let long : 3 + length (drop 3 bytes) ≡ length bytes = omega (arith, length-drop 3 bytes, three) in
        follows_as
        (tokens_whole (bytes ++ slice) (agreed_on bytes byte_order_mark slice (inr e) ∙ e) ∙ ap (lex state.Gap 3) (drop-append-le 3 bytes slice three))
        (tokens_whole bytes e) refl refl
        (behind two limit 3 (length bytes) (drop 3 bytes) slice z long (sym (by_whole n limit 0 bytes e)) goes)
    go (part other e) =
        follows_as refl refl refl (ap (λ (o : Outcome). track_of o slice) (by_part n limit 0 bytes other e)) (in_part bytes slice other e)
    go (none e some) =
        follows_as
        (tokens_bare (bytes ++ slice) (agreed_on bytes byte_order_mark slice (inl (omega (arith, e, some))) ∙ e))
        (tokens_bare bytes e) refl refl
        (behind two limit 0 (length bytes) bytes slice z (omega arith) (sym (by_none n limit 0 bytes e some)) goes)
    go (cut other some less) =
        let stops : z ≡ reads (stopped (0 + n)) = by_cut n limit 0 bytes other some less in
        absurd cc

-- no slice undoes a fault
pub faults_stay : (m : FrontMark) (limit : ℕ) (bytes slice : List ℕ) → is_fault (Some (read_by m limit 0 (bytes ++ slice))) ≡ false → is_fault (Some (read_by m limit 0 bytes)) ≡ false
faults_stay m limit bytes slice goes = pick (is_fault (Some (read_by m limit 0 bytes))) refl
  where
    settings : Settings
    settings = record { depth = limit; mark = m; names = name_rule.Any }

    pick : (x : Bool) → is_fault (Some (read_by m limit 0 bytes)) ≡ x → is_fault (Some (read_by m limit 0 bytes)) ≡ false
    pick false e = e
    pick true e = absurd (let same : true ≡ false = sym e ∙ ap is_fault (passed settings 0 bytes slice (Some (read_by m limit 0 bytes)) e refl) ∙ goes in cc)

pub no_tokens_yet : (m : FrontMark) → tokens_by m [] ≡ no_tokens
unfolding lex
no_tokens_yet on_mark.Refused = refl
no_tokens_yet on_mark.Ignored = refl

-- ---- accepted texts

record From (m : FrontMark) (limit : ℕ) (bytes : List ℕ) : Type 0 where
  count : ℕ
  within : count ≤ length bytes
  front : front_of m bytes ≡ seen.Skip count
  judged : Judged count (drop count bytes) limit verdict.Accepted
  tokens : tokens_by m bytes ≡ lex state.Gap count (drop count bytes)

from : Verdicts → (m : FrontMark) (limit : ℕ) (bytes : List ℕ) → verdict_on (read_by m limit 0 bytes) ≡ verdict.Accepted → From m limit bytes
from law on_mark.Refused limit bytes is = record { count = 0; within = omega arith; front = refl; judged = subst (Judged 0 bytes limit) is (law limit 0 bytes); tokens = refl }
from law on_mark.Ignored limit bytes is = go (cases (agreed bytes byte_order_mark) (length bytes) (agreed_short bytes byte_order_mark))
  where
    n : ℕ
    n = agreed bytes byte_order_mark

    skips : (x y : Bool) → (n == 0) ≡ x → (n == 3) ≡ y
        → front_by n (length bytes) ≡ cond x (seen.Skip 0) (cond y (seen.Skip 3) (cond (n == length bytes) (seen.Refused refusal.Truncated) (seen.Refused (refusal.Stopped n))))
    skips x y e f =
        ap (λ t. cond t (seen.Skip 0) (cond (n == 3) (seen.Skip 3) (cond (n == length bytes) (seen.Refused refusal.Truncated) (seen.Refused (refusal.Stopped n))))) e
        ∙ ap (λ t. cond x (seen.Skip 0) (cond t (seen.Skip 3) (cond (n == length bytes) (seen.Refused refusal.Truncated) (seen.Refused (refusal.Stopped n))))) f

    go : Case (agreed bytes byte_order_mark) (length bytes) → From on_mark.Ignored limit bytes
    go (whole e) = record {
      count = 3;
      within = omega (arith, e, agreed_short bytes byte_order_mark);
      front = skips false true (grind (arith, nat_tests)) (grind (arith, nat_tests));
      judged = subst (Judged 3 (drop 3 bytes) limit) (sym (ap verdict_on (by_whole n limit 0 bytes e)) ∙ is) (law limit 3 (drop 3 bytes));
      tokens = tokens_whole bytes e;
    }
    go (part other e) = let here : verdict.Refused refusal.Truncated ≡ verdict.Accepted = sym (ap verdict_on (by_part n limit 0 bytes other e)) ∙ is in absurd cc
    go (none e some) = record {
      count = 0;
      within = omega arith;
      front = skips true (n == 3) (grind (arith, nat_tests)) refl;
      judged = subst (Judged 0 bytes limit) (sym (ap verdict_on (by_none n limit 0 bytes e some)) ∙ is) (law limit 0 bytes);
      tokens = tokens_bare bytes e;
    }
    go (cut other some less) = let here : verdict.Refused (refusal.Stopped (0 + n)) ≡ verdict.Accepted = sym (ap verdict_on (by_cut n limit 0 bytes other some less)) ∙ is in absurd cc

pub accepted_from : Verdicts → (settings : Settings) (bytes : List ℕ) → verdict_on (read_by settings.mark settings.depth 0 bytes) ≡ verdict.Accepted → IsAcceptedFrom settings bytes
accepted_from law settings bytes is =
    let f = from law settings.mark settings.depth bytes is in
    record { count = f.count; within = f.within; front = f.front; judged = f.judged; tokens = f.tokens }

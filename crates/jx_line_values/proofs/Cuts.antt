-- Lines are cut, whether a byte order mark stands in front of the first or not.
use Rattle.std.proofs.Common.{◌≡◌, ℕ, suc, ◌+◌, ◌<◌, ◌==◌, List, [], ◌∷◌, ◌++◌, length, take, drop, get_or, filter, Bool, true, false, cond, refl, sym, ap, subst, ◌∙◌, append_assoc, append-nil, arith}
use Rattle.std.specs.List.{AllZip}
use Rattle.std.proofs.lemmas.Bool.Decides.{nat_tests}
use Rattle.std.proofs.lemmas.Grind.{flat_map-append}
use Rattle.std.proofs.lemmas.List.Elements.{filter-append}
use Rattle.jx_run.specs.declared.texts.settings.FrontMark.{FrontMark}
use Rattle.jx_run.specs.declared.texts.settings.FrontMark.TheVariants.{Refused, Ignored}
use Rattle.jx_run.specs.Elements.{Part, part, has_bytes}
use Rattle.jx_run.specs.Front.{agreed}
use Rattle.jx_run.specs.Settings.{byte_order_mark}
use Rattle.jx_run.proofs.PartedJoins.{AllZip-append}
use Rattle.jx_run.proofs.SeqReading.{has, has_not}
use Rattle.jx_run.proofs.Fronts.{none_agreed}
use Rattle.jx_ndjson.specs.Answers.{IsVerdictOn, mark_at, settings_at}
use Rattle.jx_ndjson.specs.Lines.{Line, line, ended_lines, is_line_feed, lines, lines_of, mark_length}
use Rattle.jx_ndjson.specs.Parts.{before_first, behind_each, parts_by}
use Rattle.jx_ndjson.specs.Reading.{ended_from}
use Rattle.jx_ndjson.specs.inside.Steps.{HasNoLineFeed}
use Rattle.jx_ndjson.proofs.Cuts.{longer, none-behind, parts-append, take-snoc}
use Rattle.jx_ndjson.proofs.Steps.{lines-split, whole}
use Rattle.jx_ndjson.proofs.Fronts.{beyond, whole_mark}
use Rattle.jx_ends.specs.declared.exit.Exit.{Exit}
use Rattle.jx_ends.specs.declared.exit.Exit.TheVariants.{Good}
use Rattle.jx_line_values.specs.declared.task.LineValuesTask.{LineValuesTask}
use Rattle.jx_line_values.specs.LineValues.{IsDue, IsGiven, IsGivenBy, LineGiven, LineValuesOutput, all_told, all_written, exit_by}
use Rattle.jx_line_values.specs.inside.Adding.{IsAdded, exit_past, settings_with}
use Rattle.jx_line_values.specs.inside.Cutting.{CutterValue, HasTaken, bare, bare_bytes, bare_first, line_bytes, line_mark}
use Rattle.jx_line_values.proofs.Marks.{bare_mark, later_mark}

-- ---- a byte order mark in front

-- where all bytes of the mark agree, they stand in front
all_agreed : (marks xs : List ℕ) → agreed xs marks ≡ length marks → xs ≡ marks ++ drop (length marks) xs
all_agreed [] xs h = refl
all_agreed (m ∷ marks) [] h = absurd (cc)
all_agreed (m ∷ marks) (x ∷ xs) h = pick (x == m) refl h (all_agreed marks xs)
  where
    pick : (t : Bool) → (x == m) ≡ t → cond t (suc (agreed xs marks)) 0 ≡ suc (length marks) → (agreed xs marks ≡ length marks → xs ≡ marks ++ drop (length marks) xs)
        → x ∷ xs ≡ m ∷ (marks ++ drop (length marks) xs)
    pick true e h more =
        let same : x ≡ m = grind (arith, nat_tests) in
        let rest : agreed xs marks ≡ length marks = cc in
        ap (λ (y : ℕ). y ∷ xs) same ∙ ap (λ (ys : List ℕ). m ∷ ys) (more rest)
    pick false e h more = absurd (cc)

-- the line feed is no byte of the mark
line_feed_differs : (b : ℕ) → is_line_feed b ≡ true → ((b == 0xef) ≡ false) × ((b == 0xbb) ≡ false) × ((b == 0xbf) ≡ false)
line_feed_differs b h =
    let is : b ≡ 0x0a = grind (arith, nat_tests) in
    (ap (λ (x : ℕ). x == 0xef) is, ap (λ (x : ℕ). x == 0xbb) is, ap (λ (x : ℕ). x == 0xbf) is)

-- so the first line begins with as many of them as the input
data HasNoFeeds : List ℕ → Type 0 where
  no_more : HasNoFeeds []
  one_more : {m : ℕ} {marks : List ℕ} → ((b : ℕ) → is_line_feed b ≡ true → (b == m) ≡ false) → HasNoFeeds marks → HasNoFeeds (m ∷ marks)

same_agreed : (marks xs : List ℕ) → HasNoFeeds marks → agreed (before_first is_line_feed xs) marks ≡ agreed xs marks
same_agreed [] xs h = none_agreed (before_first is_line_feed xs) ∙ sym (none_agreed xs)
same_agreed (m ∷ marks) [] h = refl
same_agreed (m ∷ marks) (x ∷ xs) (one_more differs h) = pick (is_line_feed x) (differs x) (same_agreed marks xs h)
  where
    pick : (t : Bool) → (t ≡ true → (x == m) ≡ false) → agreed (before_first is_line_feed xs) marks ≡ agreed xs marks
        → agreed (cond t [] (x ∷ before_first is_line_feed xs)) (m ∷ marks) ≡ cond (x == m) (suc (agreed xs marks)) 0
    pick true away more = ap (λ (s : Bool). cond s (suc (agreed xs marks)) 0) (sym (away refl))
    pick false away more = ap (λ (n : ℕ). cond (x == m) (suc n) 0) more

mark_has_none : HasNoFeeds byte_order_mark
mark_has_none =
    one_more (λ b h. (line_feed_differs b h).0) (one_more (λ b h. (line_feed_differs b h).1) (one_more (λ b h. (line_feed_differs b h).2) no_more))

-- the parts behind the mark are those of the input, but for the mark in front of the first
behind_mark : (input : List ℕ) → parts_by is_line_feed (mark_length Ignored input) (drop (mark_length Ignored input) input) ≡ bare_first Ignored (parts_by is_line_feed 0 input)
behind_mark input = pick (agreed input byte_order_mark == 3) refl
  where
    first : List ℕ
    first = before_first is_line_feed input

    same : mark_length Ignored first ≡ mark_length Ignored input
    same = ap (λ (n : ℕ). cond (n == 3) 3 0) (same_agreed byte_order_mark input mark_has_none)

    marked : (ys : List ℕ) → parts_by is_line_feed (mark_length Ignored (byte_order_mark ++ ys)) (drop (mark_length Ignored (byte_order_mark ++ ys)) (byte_order_mark ++ ys))
        ≡ bare_first Ignored (parts_by is_line_feed 0 (byte_order_mark ++ ys))
    marked ys =
        ap (λ (n : ℕ). parts_by is_line_feed n (drop n (byte_order_mark ++ ys))) (whole_mark ys)
        ∙ ap (λ (n : ℕ). part n (drop n (byte_order_mark ++ before_first is_line_feed ys)) ∷ behind_each is_line_feed 3 ys) (sym (whole_mark (before_first is_line_feed ys)))

    pick : (t : Bool) → (agreed input byte_order_mark == 3) ≡ t
        → parts_by is_line_feed (mark_length Ignored input) (drop (mark_length Ignored input) input) ≡ bare_first Ignored (parts_by is_line_feed 0 input)
    pick true e =
        let all : agreed input byte_order_mark ≡ 3 = grind (arith, nat_tests) in
        subst (λ (xs : List ℕ). parts_by is_line_feed (mark_length Ignored xs) (drop (mark_length Ignored xs) xs) ≡ bare_first Ignored (parts_by is_line_feed 0 xs))
        (sym (all_agreed byte_order_mark input all)) (marked (drop 3 input))
    pick false e =
        let none : mark_length Ignored input ≡ 0 = ap (λ (t : Bool). cond t 3 0) e in
        ap (λ (n : ℕ). parts_by is_line_feed n (drop n input)) none
        ∙ ap (λ (n : ℕ). part n (drop n first) ∷ behind_each is_line_feed 0 input) (sym (same ∙ none))

bare_parts : (mark : FrontMark) (input : List ℕ) → parts_by is_line_feed (mark_length mark input) (drop (mark_length mark input) input) ≡ bare_first mark (parts_by is_line_feed 0 input)
bare_parts Refused input = refl
bare_parts Ignored input = behind_mark input

-- ---- the parts of a line that goes on

-- the last part, without a mark where it is the first one
abbrev last_bare : FrontMark → List Part → Part → Part
last_bare mark [] p = bare mark p
last_bare mark (q ∷ ps) p = p

bare_split : (mark : FrontMark) (ps : List Part) (p : Part) → bare_first mark (ps ++ p ∷ []) ≡ bare_first mark ps ++ last_bare mark ps p ∷ []
bare_split mark [] p = refl
bare_split mark (q ∷ ps) p = refl

bare_length : (mark : FrontMark) (ps : List Part) → length (bare_first mark ps) ≡ length ps
bare_length mark [] = refl
bare_length mark (q ∷ ps) = refl

pub bytes_are : (mark : FrontMark) (ps : List Part) (p : Part) → line_bytes mark (length ps) p.bytes ≡ (last_bare mark ps p).bytes
bytes_are mark [] p = refl
bytes_are mark (q ∷ ps) p =
    let e : (suc (length ps) == 0) ≡ false = grind (arith, nat_tests) in
    ap (λ (b : Bool). cond b (bare_bytes mark p.bytes) p.bytes) e

-- a part behind a line feed stands behind the offset 0
behind_after : (xs : List ℕ) (at : ℕ) (ps : List Part) (p : Part) → behind_each is_line_feed at xs ≡ ps ++ p ∷ [] → at < p.at
behind_after [] at [] p h = absurd (cc)
behind_after [] at (q ∷ ps) p h = absurd (cc)
behind_after (b ∷ xs) at ps p h = pick (is_line_feed b) ps h (λ qs k. let low = behind_after xs (suc at) qs p k in omega (arith, low))
  where
    pick : (t : Bool) (ps : List Part) → cond t (part (suc at) (before_first is_line_feed xs) ∷ behind_each is_line_feed (suc at) xs) (behind_each is_line_feed (suc at) xs) ≡ ps ++ p ∷ []
        → ((qs : List Part) → behind_each is_line_feed (suc at) xs ≡ qs ++ p ∷ [] → at < p.at) → at < p.at
    pick true [] h more = let e : suc at ≡ p.at = ap (λ (x : Part). x.at) (let same : part (suc at) (before_first is_line_feed xs) ≡ p = cc in same) in omega (arith, e)
    pick true (q ∷ ps) h more = more ps (cc)
    pick false ps h more = more ps h

-- what may stand in front of the last one
marks_are : (mark : FrontMark) (bytes : List ℕ) (ps : List Part) (p : Part) → parts_by is_line_feed 0 bytes ≡ ps ++ p ∷ [] → line_mark mark (length ps) p.bytes ≡ mark_at mark (last_bare mark ps p).at
marks_are mark bytes [] p h = bare_mark mark p.bytes
marks_are mark bytes (q ∷ ps) p h =
    later_mark mark (suc (length ps)) p.bytes (omega arith)
    ∙ sym (beyond mark p.at (behind_after bytes 0 ps p (cc)))

mark_is : (mark : FrontMark) (bytes : List ℕ) (ended : ℕ) (kept : List ℕ) (ps : List Part) (p : Part) → parts_by is_line_feed 0 bytes ≡ ps ++ p ∷ [] → ended ≡ length ps → kept ≡ p.bytes
    → line_mark mark ended kept ≡ mark_at mark (last_bare mark ps p).at
mark_is mark bytes ended kept ps p h count is =
    ap (λ (n : ℕ). line_mark mark n kept) count ∙ ap (line_mark mark (length ps)) is ∙ marks_are mark bytes ps p h

-- ---- the lines of an input

ended-snoc : (n : ℕ) (ps : List Part) (p : Part) → ended_from n (ps ++ p ∷ []) ≡ ended_from n ps ++ line (n + length ps) p true ∷ []
ended-snoc n [] p = let e : n ≡ n + 0 = omega arith in ap (λ (k : ℕ). line k p true ∷ []) e
ended-snoc n (q ∷ ps) p =
    let e : suc n + length ps ≡ n + length (q ∷ ps) = omega arith in
    ap (λ (ls : List Line). line n q true ∷ ls) (ended-snoc (suc n) ps p ∙ ap (λ (k : ℕ). ended_from (suc n) ps ++ line k p true ∷ []) e)

abbrev is_ended : Line → Bool
is_ended l = l.is_ended

ended_alone : (n : ℕ) (ps : List Part) → filter is_ended (ended_from n ps) ≡ ended_from n ps
ended_alone n [] = refl
ended_alone n (p ∷ ps) = ap (λ (ls : List Line). line n p true ∷ ls) (ended_alone (suc n) ps)

-- where the last part has bytes, it is a line
abbrev last_line : ℕ → Part → List Line
last_line n p = cond (has_bytes p) (line n p false ∷ []) []

last_alone : (n : ℕ) (p : Part) → filter is_ended (last_line n p) ≡ []
last_alone n p = pick (has_bytes p)
  where
    pick : (b : Bool) → filter is_ended (cond b (line n p false ∷ []) []) ≡ []
    pick true = refl
    pick false = refl

lines_are : (mark : FrontMark) (input : List ℕ) (ps : List Part) (p : Part) → parts_by is_line_feed 0 input ≡ ps ++ p ∷ []
    → lines mark input ≡ ended_from 1 (bare_first mark ps) ++ last_line (1 + length ps) (last_bare mark ps p)
lines_are mark input ps p h =
    ap (lines_of 1) (bare_parts mark input ∙ ap (bare_first mark) h ∙ bare_split mark ps p)
    ∙ lines-split 1 (bare_first mark ps) (last_bare mark ps p) []
    ∙ ap (λ (n : ℕ). ended_from 1 (bare_first mark ps) ++ last_line (1 + n) (last_bare mark ps p)) (bare_length mark ps)

ended_are : (mark : FrontMark) (input : List ℕ) (ps : List Part) (p : Part) → parts_by is_line_feed 0 input ≡ ps ++ p ∷ [] → ended_lines mark input ≡ ended_from 1 (bare_first mark ps)
ended_are mark input ps p h =
    let first : List Line = ended_from 1 (bare_first mark ps) in
    let last : List Line = last_line (1 + length ps) (last_bare mark ps p) in
    ap (filter is_ended) (lines_are mark input ps p h)
    ∙ filter-append is_ended first last
    ∙ ap (λ (ls : List Line). ls ++ filter is_ended last) (ended_alone 1 (bare_first mark ps))
    ∙ ap (λ (ls : List Line). first ++ ls) (last_alone (1 + length ps) (last_bare mark ps p))
    ∙ append-nil first

-- ---- one line more

one_more_written : (given : List LineGiven) (g : LineGiven) → all_written (given ++ g ∷ []) ≡ all_written given ++ g.written
one_more_written given g =
    flat_map-append (λ (x : LineGiven). x.written) given (g ∷ []) ∙ ap (λ (xs : List ℕ). all_written given ++ xs) (append-nil g.written)

one_more_said : (given : List LineGiven) (g : LineGiven) → all_told (given ++ g ∷ []) ≡ all_told given ++ g.told
one_more_said given g =
    flat_map-append (λ (x : LineGiven). x.told) given (g ∷ []) ∙ ap (λ (xs : List ℕ). all_told given ++ xs) (append-nil g.told)

-- a line by itself is the line where it stands
given_there : (task : LineValuesTask) (mark : FrontMark) (n m : ℕ) (p : Part) (bytes : List ℕ) (e : Bool) (g : LineGiven) → n ≡ m → bytes ≡ p.bytes → mark ≡ mark_at task.settings.mark p.at
    → IsGivenBy (settings_with task mark) task (line n (part 0 bytes) e) g → IsGiven task (line m p e) g
given_there task mark n m p bytes e g same is there h =
    let k : IsGivenBy (settings_with task mark) task (line m (part 0 p.bytes) e) g =
    subst (λ (x : ℕ). IsGivenBy (settings_with task mark) task (line x (part 0 p.bytes) e) g) same (subst (λ (xs : List ℕ). IsGivenBy (settings_with task mark) task (line n (part 0 xs) e) g) is h) in
    let v : IsVerdictOn (line m (part 0 p.bytes) e) (settings_at task.settings p.at) k.verdict =
    subst (λ (f : FrontMark). IsVerdictOn (line m (part 0 p.bytes) e) (settings_with task f) k.verdict) there k.is_verdict in
    record { verdict = k.verdict; is_verdict = v; gives = k.gives }

-- ---- bytes are taken

pub taken_none : (task : LineValuesTask) (t : CutterValue) → t.kept ≡ [] → t.ended ≡ 0 → t.ready ≡ [] → t.told ≡ [] → t.exit ≡ Good → HasTaken task [] [] [] t
taken_none task t kept ended ready told exit =
    record { ended = []; last = part 0 []; parts = refl; kept = kept; count = ended; lines = []; are_given = tt; written = ready; told = told; exit = exit }

-- that end no line
pub takes_more : (task : LineValuesTask) (bytes more given said : List ℕ) (old new : CutterValue) → HasTaken task bytes given said old → HasNoLineFeed more → new.kept ≡ old.kept ++ more
    → new.ended ≡ old.ended → new.ready ≡ old.ready → new.told ≡ old.told → new.exit ≡ old.exit → HasTaken task (bytes ++ more) given said new
takes_more task bytes more given said old new h unfed kept ended ready told exit =
    record {
      ended = h.ended;
      last = longer h.last more;
      parts =
          parts-append is_line_feed bytes more 0 h.ended h.last h.parts
          ∙ ap (λ (t : List ℕ). h.ended ++ longer h.last t ∷ behind_each is_line_feed (0 + length bytes) more) unfed
          ∙ ap (λ (ps : List Part). h.ended ++ longer h.last more ∷ ps) (none-behind is_line_feed more (0 + length bytes) unfed);
      kept = kept ∙ ap (λ (xs : List ℕ). xs ++ more) h.kept;
      count = ended ∙ h.count;
      lines = h.lines;
      are_given = h.are_given;
      written = ap (λ (xs : List ℕ). given ++ xs) ready ∙ h.written;
      told = ap (λ (xs : List ℕ). said ++ xs) told ∙ h.told;
      exit = exit ∙ h.exit;
    }

behind : (given ready more all : List ℕ) → given ++ ready ≡ all → given ++ (ready ++ more) ≡ all ++ more
behind given ready more all h = sym (append_assoc given ready more) ∙ ap (λ (xs : List ℕ). xs ++ more) h

-- a line feed, which ends one
pub ends_line : (task : LineValuesTask) (bytes given said : List ℕ) (number : ℕ) (old new : CutterValue) → HasTaken task bytes given said old → number ≡ suc old.ended
    → IsAdded task (line_mark task.settings.mark old.ended old.kept) (line number (part 0 (line_bytes task.settings.mark old.ended old.kept)) true) old.ready new.ready old.told new.told
    → new.kept ≡ [] → new.ended ≡ number → new.exit ≡ old.exit → HasTaken task (bytes ++ 0x0a ∷ []) given said new
ends_line task bytes given said number old new h is added kept ended exit =
    let mark : FrontMark = task.settings.mark in
    let next : Part = part (suc (0 + length bytes)) [] in
    let all : List Part = h.ended ++ h.last ∷ [] in
    let p : Part = last_bare mark h.ended h.last in
    let g : LineGiven = added.given in
    let bytes_same : line_bytes mark old.ended old.kept ≡ p.bytes =
    ap (λ (n : ℕ). line_bytes mark n old.kept) h.count ∙ ap (line_bytes mark (length h.ended)) h.kept ∙ bytes_are mark h.ended h.last in
    let long = bare_length mark h.ended in
    let count = h.count in
    let numbered : number ≡ 1 + length (bare_first mark h.ended) = omega (arith, is, long, count) in
    let more : length all ≡ suc (length h.ended) = length-snoc h.ended h.last in
    record {
      ended = all;
      last = next;
      parts =
          parts-append is_line_feed bytes (0x0a ∷ []) 0 h.ended h.last h.parts
          ∙ ap (λ (q : Part). h.ended ++ q ∷ next ∷ []) (whole h.last)
          ∙ sym (append_assoc h.ended (h.last ∷ []) (next ∷ []));
      kept = kept;
      count = omega (arith, ended, is, count, more);
      lines = h.lines ++ g ∷ [];
      are_given =
          subst (λ (ls : List Line). AllZip (IsGiven task) ls (h.lines ++ g ∷ [])) (sym (ap (ended_from 1) (bare_split mark h.ended h.last) ∙ ended-snoc 1 (bare_first mark h.ended) p))
          (AllZip-append (IsGiven task) (ended_from 1 (bare_first mark h.ended)) (line (1 + length (bare_first mark h.ended)) p true ∷ []) h.lines (g ∷ []) h.are_given (
            given_there task (line_mark mark old.ended old.kept) number (1 + length (bare_first mark h.ended)) p (line_bytes mark old.ended old.kept) true g numbered bytes_same
                (mark_is mark bytes old.ended old.kept h.ended h.last h.parts h.count h.kept) added.is_given,
            tt,
          ));
      written = ap (λ (xs : List ℕ). given ++ xs) added.written ∙ behind given old.ready g.written (all_written h.lines) h.written ∙ sym (one_more_written h.lines g);
      told = ap (λ (xs : List ℕ). said ++ xs) added.telling ∙ behind said old.told g.told (all_told h.lines) h.told ∙ sym (one_more_said h.lines g);
      exit = exit ∙ h.exit;
    }
  where
    length-snoc : {A : Type 0} (xs : List A) (x : A) → length (xs ++ x ∷ []) ≡ suc (length xs)
    length-snoc [] x = refl
    length-snoc (y ∷ xs) x = ap suc (length-snoc xs x)

-- a slice up to and with its first line feed
pub with_feed : (bytes slice : List ℕ) (at : ℕ) → at < length slice → is_line_feed (get_or slice at 0) ≡ true → (bytes ++ take at slice) ++ 0x0a ∷ [] ≡ bytes ++ take (at + 1) slice
with_feed bytes slice at low feed =
    let byte : get_or slice at 0 ≡ 0x0a = let b = get_or slice at 0 in let e : b ≡ 0x0a = grind (arith, nat_tests) in e in
    let one : at + 1 ≡ suc at = omega arith in
    append_assoc bytes (take at slice) (0x0a ∷ [])
    ∙ ap (λ (b : ℕ). bytes ++ (take at slice ++ b ∷ [])) (sym byte)
    ∙ ap (λ (xs : List ℕ). bytes ++ xs) (sym (take-snoc slice at low))
    ∙ ap (λ (k : ℕ). bytes ++ take k slice) (sym one)

-- ---- what waits was written and told

exit_behind : (said more : List ℕ) → exit_past (exit_by said) more ≡ exit_by (said ++ more)
exit_behind [] [] = refl
exit_behind [] (b ∷ more) = refl
exit_behind (b ∷ said) [] = refl
exit_behind (b ∷ said) (c ∷ more) = refl

pub gives : (task : LineValuesTask) (bytes given said : List ℕ) (old new : CutterValue) → HasTaken task bytes given said old → new.kept ≡ old.kept → new.ended ≡ old.ended → new.ready ≡ [] → new.told ≡ []
    → new.exit ≡ exit_past old.exit old.told → HasTaken task bytes (given ++ old.ready) (said ++ old.told) new
gives task bytes given said old new h kept ended ready told exit =
    record {
      ended = h.ended;
      last = h.last;
      parts = h.parts;
      kept = kept ∙ h.kept;
      count = ended ∙ h.count;
      lines = h.lines;
      are_given = h.are_given;
      written = ap (λ (xs : List ℕ). (given ++ old.ready) ++ xs) ready ∙ append-nil (given ++ old.ready) ∙ h.written;
      told = ap (λ (xs : List ℕ). (said ++ old.told) ++ xs) told ∙ append-nil (said ++ old.told) ∙ h.told;
      exit = exit ∙ ap (λ (x : Exit). exit_past x old.told) h.exit ∙ exit_behind said old.told;
    }

pub due : (task : LineValuesTask) (bytes given said : List ℕ) (t : CutterValue) → HasTaken task bytes given said t → IsDue task bytes (given ++ t.ready) (said ++ t.told)
due task bytes given said t h =
    record {
      given = h.lines;
      are_given = subst (λ (ls : List Line). AllZip (IsGiven task) ls h.lines) (sym (ended_are task.settings.mark bytes h.ended h.last h.parts)) h.are_given;
      written = h.written;
      told = h.told;
    }

-- ---- the end

exits : (said told : List ℕ) (old exit : Exit) → old ≡ exit_by said → exit ≡ exit_past old told → exit ≡ exit_by (said ++ told)
exits said told old exit h e = e ∙ ap (λ (x : Exit). exit_past x told) h ∙ exit_behind said told

-- without a last line
pub ends_so : (task : LineValuesTask) (bytes given said : List ℕ) (t : CutterValue) (exit : Exit) → HasTaken task bytes given said t → length (line_bytes task.settings.mark t.ended t.kept) ≡ 0
    → exit ≡ exit_past t.exit t.told → LineValuesOutput task bytes (given ++ t.ready) (said ++ t.told) exit
ends_so task bytes given said t exit h without e =
    let mark : FrontMark = task.settings.mark in
    let p : Part = last_bare mark h.ended h.last in
    let bytes_same : line_bytes mark t.ended t.kept ≡ p.bytes =
    ap (λ (n : ℕ). line_bytes mark n t.kept) h.count ∙ ap (line_bytes mark (length h.ended)) h.kept ∙ bytes_are mark h.ended h.last in
    let empty : has_bytes p ≡ false = has_not p (ap length (sym bytes_same) ∙ without) in
    record {
      given = h.lines;
      are_given =
          subst (λ (ls : List Line). AllZip (IsGiven task) ls h.lines)
          (sym (lines_are mark bytes h.ended h.last h.parts
          ∙ ap (λ (b : Bool). ended_from 1 (bare_first mark h.ended) ++ cond b (line (1 + length h.ended) p false ∷ []) []) empty
          ∙ append-nil (ended_from 1 (bare_first mark h.ended))))
          h.are_given;
      written = h.written;
      told = h.told;
      ends = exits said t.told t.exit exit h.exit e;
    }

-- with one
pub ends_with : (task : LineValuesTask) (bytes given said ready told : List ℕ) (number : ℕ) (t : CutterValue) (exit : Exit) → HasTaken task bytes given said t
    → 0 < length (line_bytes task.settings.mark t.ended t.kept) → number ≡ suc t.ended
    → IsAdded task (line_mark task.settings.mark t.ended t.kept) (line number (part 0 (line_bytes task.settings.mark t.ended t.kept)) false) t.ready ready t.told told
    → exit ≡ exit_past t.exit told → LineValuesOutput task bytes (given ++ ready) (said ++ told) exit
ends_with task bytes given said ready told number t exit h some is added e =
    let mark : FrontMark = task.settings.mark in
    let p : Part = last_bare mark h.ended h.last in
    let g : LineGiven = added.given in
    let bytes_same : line_bytes mark t.ended t.kept ≡ p.bytes =
    ap (λ (n : ℕ). line_bytes mark n t.kept) h.count ∙ ap (line_bytes mark (length h.ended)) h.kept ∙ bytes_are mark h.ended h.last in
    let filled : has_bytes p ≡ true = has p (subst (λ (xs : List ℕ). 0 < length xs) bytes_same some) in
    let count = h.count in
    let numbered : number ≡ 1 + length h.ended = omega (arith, is, count) in
    record {
      given = h.lines ++ g ∷ [];
      are_given =
          subst (λ (ls : List Line). AllZip (IsGiven task) ls (h.lines ++ g ∷ []))
          (sym (lines_are mark bytes h.ended h.last h.parts
          ∙ ap (λ (b : Bool). ended_from 1 (bare_first mark h.ended) ++ cond b (line (1 + length h.ended) p false ∷ []) []) filled))
          (AllZip-append (IsGiven task) (ended_from 1 (bare_first mark h.ended)) (line (1 + length h.ended) p false ∷ []) h.lines (g ∷ []) h.are_given (
            given_there task (line_mark mark t.ended t.kept) number (1 + length h.ended) p (line_bytes mark t.ended t.kept) false g numbered bytes_same
                (mark_is mark bytes t.ended t.kept h.ended h.last h.parts h.count h.kept) added.is_given,
            tt,
          ));
      written = ap (λ (xs : List ℕ). given ++ xs) added.written ∙ behind given t.ready g.written (all_written h.lines) h.written ∙ sym (one_more_written h.lines g);
      told = ap (λ (xs : List ℕ). said ++ xs) added.telling ∙ behind said t.told g.told (all_told h.lines) h.told ∙ sym (one_more_said h.lines g);
      ends = exits said told t.exit exit h.exit e;
    }

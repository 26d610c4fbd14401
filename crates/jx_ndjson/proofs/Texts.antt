-- Whole lines that are texts.
use Rattle.std.proofs.Common.{◌≡◌, ℕ, suc, ◌+◌, ◌-◌, ◌^◌, ◌<◌, ◌≤◌, List, [], ◌∷◌, ◌++◌, length, take, get_or, arith, Bool, true, false, Option, Some, None, refl, sym, ap, subst, ◌∙◌}
use Rattle.std.specs.Prelude.{◌==◌, ◌||◌, IfSome, slice_range}
use Rattle.std.proofs.lemmas.Bool.Decides.{nat_tests}
use Rattle.std.proofs.lemmas.List.{length-append, length-take-le}
use Rattle.std.proofs.lemmas.List.Edits.{length-between}
use Rattle.std.proofs.lemmas.Bool.{and_parts}
use Rattle.jx_lex.specs.declared.alphabet.lex_exit.LexExit.{LexExit}
use Rattle.jx_lex.specs.declared.alphabet.lex_exit.LexExit.TheVariants as exit
use Rattle.jx_lex.specs.declared.alphabet.mark.Mark.{Mark}
use Rattle.jx_lex.specs.declared.alphabet.state.LexState.TheVariants.{Gap}
use Rattle.jx_lex.specs.Classes.{class_at}
use Rattle.jx_lex.specs.Lex.{Track, lex}
use Rattle.jx_lex.specs.Lex as lexical
use Rattle.jx_lex.specs.Seen.{SeesTrack}
use Rattle.jx_lex.specs.Uneventful.{is_blank}
use Rattle.jx_lex.specs.Exit.{exit_of}
use Rattle.jx_reduce.specs.KnownStack.{Known, HasRead, start}
use Rattle.jx_reduce.specs.Read.{Reading, read as read_marks}
use Rattle.jx_reduce.specs.Whole.{whole_of}
use Rattle.jx_run.specs.declared.texts.verdict.Verdict.TheVariants as verdict
use Rattle.jx_run.specs.Elements.{Part, part}
use Rattle.jx_reduce.specs.KnownStack.{HasSeen}
use Rattle.jx_run.specs.Laws.{verdict_of}
use Rattle.jx_run.specs.Reading.{at_exit, read, read_text}
use Rattle.jx_run.specs.Tree.{span}
use Rattle.jx_run.specs.Verdict.{Judged}
use Rattle.jx_run.specs.Whole.{verdict_from}
use Rattle.jx_run.proofs.Fronts.{refused_judged}
use Rattle.jx_run.proofs.LawProofs.{Verdicts}
use Rattle.jx_run.proofs.RunVerdict.{same_verdict}
use Rattle.jx_ndjson.specs.declared.judged_line.LineVerdict.TheVariants.{Accepted}
use Rattle.jx_ndjson.specs.Answers.{are_blanks}
use Rattle.jx_ndjson.specs.Lines.{is_line_feed}
use Rattle.jx_ndjson.specs.Parts.{behind_each, parts_by}
use Rattle.jx_ndjson.specs.WholeLines.{WholeLinesValue, unmarked}
use Rattle.jx_ndjson.specs.inside.Steps.{HasNoLineFeed}
use Rattle.jx_ndjson.specs.inside.Texts.{AreTexts, IsEnd, IsTextWithin}
use Rattle.jx_ndjson.proofs.Cuts.{none-behind, parts-append, take-snoc}
use Rattle.jx_ndjson.proofs.Tallies.{one_step}
use Rattle.jx_ndjson.proofs.Whole.{whole_joins}

-- ---- blanks

-- what holds of the four holds of a blank
of_blank : (P : ℕ → Type 0) (b : ℕ) → is_blank b ≡ true → P 0x20 → P 0x09 → P 0x0a → P 0x0d → P b
of_blank P b h space tab feed return = pick (b == 0x20) (b == 0x09) (b == 0x0a) (b == 0x0d) refl refl refl refl h
  where
    pick : (w x y z : Bool) → (b == 0x20) ≡ w → (b == 0x09) ≡ x → (b == 0x0a) ≡ y → (b == 0x0d) ≡ z → (w || x || y || z) ≡ true → P b
    pick true x y z e f g i one = subst P (let is : 0x20 ≡ b = grind (arith, nat_tests) in is) space
    pick false true y z e f g i one = subst P (let is : 0x09 ≡ b = grind (arith, nat_tests) in is) tab
    pick false false true z e f g i one = subst P (let is : 0x0a ≡ b = grind (arith, nat_tests) in is) feed
    pick false false false true e f g i one = subst P (let is : 0x0d ≡ b = grind (arith, nat_tests) in is) return
    pick false false false false e f g i one = absurd (cc)

-- they have no mark
no_marks : (bytes : List ℕ) (at : ℕ) → are_blanks bytes ≡ true → (lex Gap at bytes).marks ≡ []
unfolding lex class_at
no_marks [] at h = refl
no_marks (b ∷ bs) at h =
    let both = and_parts (is_blank b) (are_blanks bs) h in
    let rest : (lex Gap (suc at) bs).marks ≡ [] = no_marks bs (suc at) both.1 in
    of_blank (λ (c : ℕ). (lex Gap at (c ∷ bs)).marks ≡ []) b both.0 rest rest rest rest

-- and are no text
no_end : (x : LexExit) → verdict_from x (whole_of start) ≡ verdict.Accepted → ⊥
no_end (exit.State s) h = absurd (cc)
no_end (exit.Fault at) h = absurd (cc)

not_blank : (limit : ℕ) (bytes : List ℕ) (x : LexExit) → verdict_from x (whole_of (read_marks limit (lex Gap 0 bytes).marks start)) ≡ verdict.Accepted → are_blanks bytes ≡ false
not_blank limit bytes x v = pick (are_blanks bytes) refl
  where
    pick : (b : Bool) → are_blanks bytes ≡ b → b ≡ false
    pick false e = refl
    pick true e = absurd (no_end x (subst (λ (ms : List Mark). verdict_from x (whole_of (read_marks limit ms start)) ≡ verdict.Accepted) (no_marks bytes 0 e) v))

-- ---- a text

text_verdict : (limit : ℕ) (bytes : List ℕ) (x : LexExit) → exit_of x ≡ (lex Gap 0 bytes).exit → verdict_from x (whole_of (read_marks limit (lex Gap 0 bytes).marks start)) ≡ verdict.Accepted
    → verdict_of (read_text limit 0 bytes) ≡ verdict.Accepted
unfolding read
text_verdict limit bytes x ends v =
    ap (λ (e : lexical.LexExit). verdict_of (at_exit e (read_marks limit (lex Gap 0 bytes).marks start))) (sym ends)
    ∙ same_verdict x (read_marks limit (lex Gap 0 bytes).marks start)
    ∙ v

pub text_within : Verdicts → (limit : ℕ) (bytes : List ℕ) (x : Option LexExit) (k : Known) → k.depth ≡ limit → IfSome x (λ (e : LexExit). exit_of e ≡ (lex Gap 0 bytes).exit)
    → HasRead (lex Gap 0 bytes).marks k → IsEnd x (whole_of k.reading) → IsTextWithin limit bytes
text_within law limit bytes None k deep ends seen end = absurd end
text_within law limit bytes (Some x) k deep ends seen end =
    let here : k.reading ≡ read_marks limit (lex Gap 0 bytes).marks start = seen ∙ ap (λ (d : ℕ). read_marks d (lex Gap 0 bytes).marks start) deep in
    let v : verdict_from x (whole_of (read_marks limit (lex Gap 0 bytes).marks start)) ≡ verdict.Accepted = subst (λ (r : Reading). verdict_from x (whole_of r) ≡ verdict.Accepted) here end in
    record {
      judged = subst (Judged 0 bytes limit) (text_verdict limit bytes x ends v) (law limit 0 bytes);
      not_blank = not_blank limit bytes x v;
    }

-- a stack that had read nothing has read the marks of a scan, within the same depth
pub scanned : (old new : Known) (track : Track) → HasRead [] old → SeesTrack (λ marks ends. HasSeen marks ends old) (λ marks ends. HasSeen marks ends new) track → (new.depth ≡ old.depth) × HasRead track.marks new
scanned old new track none sees =
    let h = sees [] (old.depth ∷ []) (record { read = none; rest = []; depth = refl }) in
    let same : old.depth ≡ new.depth = let long = h.depth in cc in
    (sym same, h.read)

-- ---- a line

never : {A : Type 0} → true ≡ false → A
never h = absurd (cc)

line_parts : (xs : List ℕ) → HasNoLineFeed xs → parts_by is_line_feed 0 (xs ++ 0x0a ∷ []) ≡ part 0 xs ∷ part (length (xs ++ 0x0a ∷ [])) [] ∷ []
line_parts xs none =
    let alone : parts_by is_line_feed 0 xs ≡ part 0 xs ∷ [] =
    ap (λ (t : List ℕ). part 0 t ∷ behind_each is_line_feed 0 xs) none ∙ ap (λ (ps : List Part). part 0 xs ∷ ps) (none-behind is_line_feed xs 0 none) in
    let long : length (xs ++ 0x0a ∷ []) ≡ length xs + 1 = length-append xs (0x0a ∷ []) in
    let same : suc (0 + length xs) ≡ length (xs ++ 0x0a ∷ []) = omega (arith, long) in
    parts-append is_line_feed xs (0x0a ∷ []) 0 [] (part 0 xs) alone
    ∙ ap (λ (t : List ℕ). part 0 t ∷ part (suc (0 + length xs)) [] ∷ []) (append-none xs)
    ∙ ap (λ (n : ℕ). part 0 xs ∷ part n [] ∷ []) same
  where
    append-none : (ys : List ℕ) → ys ++ [] ≡ ys
    append-none [] = refl
    append-none (y ∷ ys) = ap (λ (t : List ℕ). y ∷ t) (append-none ys)

one_line : (limit : ℕ) (xs : List ℕ) → HasNoLineFeed xs → IsTextWithin limit xs → AreTexts limit (xs ++ 0x0a ∷ []) 1
one_line limit xs none h = (
  record { number = 1; span = span 0 (0 + length xs); verdict = Accepted } ∷ [],
  record {
    ended = part 0 xs ∷ [];
    parts = line_parts xs none;
    are_answers = (record { number_is = refl; span_is = refl; verdict_is = (h.not_blank, refused_judged (unmarked limit) 0 xs refl verdict.Accepted h.judged, λ c. never c.not_ended) }, tt);
    len_is = refl;
    count_is = refl;
    bad_are = refl;
  },
)

pub is_not : (b : Bool) → b ≡ false → b ≡ true → ⊥
is_not b off on = absurd (cc)

pub first_line : (limit : ℕ) (slice : List ℕ) (end : ℕ) → end < length slice → is_line_feed (get_or slice end 0) ≡ true → HasNoLineFeed (take end slice) → IsTextWithin limit (take end slice)
    → AreTexts limit (take (end + 1) slice) 1
first_line limit slice end low feed none h =
    let byte : get_or slice end 0 ≡ 0x0a = let b = get_or slice end 0 in let e : b ≡ 0x0a = grind (arith, nat_tests) in e in
    let one : suc end ≡ end + 1 = omega arith in
    subst (λ (xs : List ℕ). AreTexts limit xs 1)
    (ap (λ (b : ℕ). take end slice ++ b ∷ []) (sym byte) ∙ sym (take-snoc slice end low) ∙ ap (λ (k : ℕ). take k slice) one)
    (one_line limit (take end slice) none h)

-- ---- lines one behind another

texts_join : Verdicts → (limit : ℕ) (xs ys : List ℕ) (count more : ℕ) → length xs + length ys < 2 ^ 64 → count ≤ length xs → AreTexts limit xs count → AreTexts limit ys more → AreTexts limit (xs ++ ys) (count + more)
texts_join law limit xs ys count more low few h k =
    let v : WholeLinesValue = record { len = length xs; count = count; bad = [] } in
    let w : WholeLinesValue = record { len = length ys; count = more; bad = [] } in
    let u : WholeLinesValue = record { len = length (xs ++ ys); count = count + more; bad = [] } in
    (_, whole_joins law limit xs ys h.0 k.0 v w u low few h.1 k.1 (length-append xs ys) refl refl)

pub one_more : Verdicts → (limit : ℕ) (slice : List ℕ) (at n count : ℕ) → at ≤ length slice → n ≤ length slice - at → at + n < 2 ^ 64 → count ≤ at → AreTexts limit (take at slice) count
    → AreTexts limit (take n (slice_range slice at (length slice))) 1 → AreTexts limit (take (at + n) slice) (count + 1)
one_more law limit slice at n count within low fits few h k =
    let rest : List ℕ = slice_range slice at (length slice) in
    let left : length (take at slice) ≡ at = length-take-le at slice within in
    let long : length rest ≡ length slice - at = length-between slice at (length slice) (omega arith) in
    let right : length (take n rest) ≡ n = length-take-le n rest (omega (arith, long, low)) in
    subst (λ (xs : List ℕ). AreTexts limit xs (count + 1)) (one_step [] slice at n within low)
    (texts_join law limit (take at slice) (take n rest) count 1 (omega (arith, left, right, fits)) (omega (arith, left, few)) h k)

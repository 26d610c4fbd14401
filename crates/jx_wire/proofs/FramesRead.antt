-- What is written as frames is read as such.
use Rattle.std.proofs.Common.{◌≡◌, ℕ, zero, suc, ◌+◌, ◌-◌, ◌<◌, ◌≤◌, min, true, false, cond, not, List, [], ◌∷◌, ◌++◌, length, take, append_assoc, refl, sym, ap, subst, ◌∙◌, arith, lt-ltb, le-ltb}
use Rattle.std.specs.Prelude.{nat_lt, ◌==◌, Some, None, Ok, codes, decimal, position, slice_index, unwrap_or}
use Rattle.std.specs.Char.{is_ascii_digit}
use Rattle.std.specs.List.{All, list_all, position_or_len}
use Rattle.std.specs.Str.Parse.{AllDigits, digits_value}
use Rattle.std.proofs.lemmas.Bool.Decides.{nat_tests}
use Rattle.std.proofs.lemmas.Fmt.{decimal_is_IsNumeral, length-decimal-le}
use Rattle.std.proofs.Math.Seq.{drop-length}
use Rattle.std.proofs.lemmas.List.{length_push, get_or_push, take_all, take_at}
use Rattle.std.proofs.lemmas.Str.Parse.{digit_from_value}
use Rattle.std.proofs.lemmas.Bool.{and_parts}
use Rattle.jx_wire.specs.declared.frame_fault.FrameFault.TheVariants.{BareLineFeed}
use Rattle.jx_wire.specs.declared.frame_reader.Part.TheVariants.{Head, Body, Broken}
use Rattle.jx_wire.specs.Frames.{Step, start, going, entered, step, frame, frames, first_ink, ink_from, is_blank, without_blanks, word_end, length_by_word, length_from, length_in, if_given, field_of, behind_field, behind_line, part_behind}
use Rattle.jx_wire.specs.Numbers.{number_of}
use Rattle.jx_wire.proofs.FrameSteps.{Leads, nowhere, one_byte, and_then, and_others, body_whole, HasNoFeed, no_feed-append, head_part, in_the_body, in_the_head}

-- ---- a number

digits_pass : (ds : List ℕ) → AllDigits 10 ds → list_all is_ascii_digit ds ≡ true
digits_pass [] h = refl
digits_pass (d ∷ ds) h =
    let r = digit_from_value d h.0 in
    let low : 48 ≤ d = r.0 in
    let high : d ≤ 57 = r.1 in
    let e : is_ascii_digit d ≡ true = grind (arith, nat_tests) in
    rw e (digits_pass ds h.1)

pub number_decimal : (n : ℕ) → n ≤ 4294967296 → number_of (decimal n) ≡ Some n
number_decimal n h =
    let numeral = decimal_is_IsNumeral n (omega arith) in
    let some : nat_lt 0 (length (decimal n)) ≡ true = lt-ltb 0 (length (decimal n)) numeral.0.0 in
    let value : min (digits_value 10 (decimal n)) 4294967296 ≡ n = rw numeral.1 (omega arith) in
    rw (some, digits_pass (decimal n) numeral.0.1) (ap Some value)

blank_goes : (ds : List ℕ) → 0 < length ds → AllDigits 10 ds → without_blanks (0x20 ∷ ds) ≡ ds
blank_goes [] h k = absurd (omega arith)
blank_goes (d ∷ ds) h k =
    let r = digit_from_value d k.0 in
    let low : 48 ≤ d = r.0 in
    let e : (d == 0x20) ≡ false = grind (arith, nat_tests) in
    let f : (d == 0x09) ≡ false = grind (arith, nat_tests) in
    let l : nat_lt 1 (suc (suc (length ds))) ≡ true = lt-ltb 1 (suc (suc (length ds))) (omega arith) in
    let p : first_ink (0x20 ∷ d ∷ ds) ≡ Some 1 = rw (e, f, l) refl in
    ap (λ o. ink_from o (0x20 ∷ d ∷ ds)) p

no_blank : (ds : List ℕ) → AllDigits 10 ds → position_or_len is_blank ds ≡ length ds
no_blank [] h = refl
no_blank (d ∷ ds) h =
    let r = digit_from_value d h.0 in
    let low : 48 ≤ d = r.0 in
    let e : is_blank d ≡ false = grind (arith, nat_tests) in
    let more : 1 + length ds ≡ length (d ∷ ds) = omega arith in
    rw e (ap (λ n. 1 + n) (no_blank ds h.1) ∙ more)

ends_last : (ds : List ℕ) → AllDigits 10 ds → word_end ds ≡ length ds
ends_last ds h =
    let p : position is_blank ds ≡ None = rw (no_blank ds h, le-ltb (length ds) (length ds) (omega arith)) refl in
    ap (λ o. unwrap_or o (length ds)) p

word_alone : (ds : List ℕ) → AllDigits 10 ds → length_by_word (word_end ds) ds ≡ length_from (number_of ds)
word_alone ds h = rw (ends_last ds h, drop-length ds, take_all (length ds) ds (omega arith)) refl

digits_have_no_feed : (ds : List ℕ) → AllDigits 10 ds → HasNoFeed ds
digits_have_no_feed [] h = tt
digits_have_no_feed (d ∷ ds) h =
    let r = digit_from_value d h.0 in
    let low : 48 ≤ d = r.0 in
    ((λ e. omega arith), digits_have_no_feed ds h.1)

-- ---- a header

abbrev named : List ℕ → List ℕ
named ds = codes "Content-Length: " ++ ds

abbrev length_line : ℕ → List ℕ
length_line n = named (decimal n) ++ (0x0d ∷ [])

given_length : (n : ℕ) → n ≤ 1073741824 → length_in (0x20 ∷ decimal n) ≡ Ok n
given_length n h =
    let numeral = decimal_is_IsNumeral n (omega arith) in
    let most : nat_lt 1073741824 n ≡ false = le-ltb 1073741824 n h in
    let small : length_from (Some n) ≡ Ok n = rw most refl in
    ap (λ ds. length_by_word (word_end ds) ds) (blank_goes (decimal n) numeral.0.0 numeral.0.1) ∙ word_alone (decimal n) numeral.0.1 ∙ ap length_from (number_decimal n (omega arith)) ∙ small

field_length : (n : ℕ) → n ≤ 1073741824 → field_of (named (decimal n)) ≡ Ok (Some n)
field_length n h = ap if_given (given_length n h)

behind_named : (n : ℕ) → n ≤ 1073741824 → behind_line None (named (decimal n)) ≡ Head (Some n)
behind_named n h =
    let some : 0 < length (named (decimal n)) = omega arith in
    let z : (length (named (decimal n)) == 0) ≡ false = grind (arith, nat_tests) in
    rw z (ap (behind_field None) (field_length n h))

line_leads : (n : ℕ) → n ≤ 1073741824 → part_behind None (length_line n) ≡ Head (Some n)
line_leads n h =
    let line = named (decimal n) in
    let count : length (length_line n) - 1 ≡ length line = omega (arith, length_push line 0x0d) in
    let last : slice_index (length_line n) (length (length_line n) - 1) ≡ 0x0d = get_or_push line 0x0d 0 _ (sym count) in
    let rest : take (length (length_line n) - 1) (length_line n) ≡ line = take_at line (0x0d ∷ []) _ (sym count) in
    let ends : (slice_index (length_line n) (length (length_line n) - 1) == 0x0d) ≡ true = ap (λ b. b == 0x0d) last in
    let behind : behind_line None (take (length (length_line n) - 1) (length_line n)) ≡ Head (Some n) = ap (behind_line None) rest ∙ behind_named n h in
    ap (λ b. cond b (behind_line None (take (length (length_line n) - 1) (length_line n))) (Broken BareLineFeed)) ends ∙ behind

line_is_short : (n : ℕ) → n ≤ 1073741824 → length (length_line n) ≤ 1024
line_is_short n h =
    let digits : length (decimal n) ≤ 20 = length-decimal-le 20 n (omega arith) (omega arith) (omega arith) in
    omega (arith, length_push (named (decimal n)) 0x0d)

-- as a test tells
no_feed_by : (bytes : List ℕ) → list_all (λ b. not (b == 0x0a)) bytes ≡ true → HasNoFeed bytes
no_feed_by [] h = tt
no_feed_by (b ∷ bytes) h =
    let is = and_parts (not (b == 0x0a)) (list_all (λ b. not (b == 0x0a)) bytes) h in
    (λ e. let feed : not (b == 0x0a) ≡ false = ap (λ n. not (n == 0x0a)) e in absurd (cc (feed, is.0)), no_feed_by bytes is.1)

no_feed_named : (ds : List ℕ) → HasNoFeed ds → HasNoFeed (named ds)
no_feed_named ds h = no_feed-append (codes "Content-Length: ") ds (no_feed_by (codes "Content-Length: ") refl) h

line_has_no_feed : (n : ℕ) → n ≤ 1073741824 → HasNoFeed (length_line n)
line_has_no_feed n h =
    let numeral = decimal_is_IsNumeral n (omega arith) in
    no_feed-append (named (decimal n)) (0x0d ∷ []) (no_feed_named (decimal n) (digits_have_no_feed (decimal n) numeral.0.1)) ((λ e. omega arith), tt)

-- the two line feeds behind a line that gives a length
ends_of_lines : (n : ℕ) → n ≤ 1073741824 → Leads (in_the_head None (length_line n)) (0x0a ∷ 0x0d ∷ 0x0a ∷ []) (entered (Body n)).to (entered (Body n)).ended
ends_of_lines n h =
    let first : step (in_the_head None (length_line n)) 0x0a ≡ going (in_the_head (Some n) []) = ap entered (line_leads n h) in
    and_then _ (in_the_head (Some n) []) _ 0x0a _ [] _ first
    (and_then _ (in_the_head (Some n) (0x0d ∷ [])) _ 0x0d _ [] _ refl (one_byte (in_the_head (Some n) (0x0d ∷ [])) 0x0a))

-- ---- a frame

-- the body of a frame, behind its header
record Finishes (s : Step) (body : List ℕ) : Type 0 where
  ended : List (List ℕ)
  leads : Leads s.to body start ended
  all : s.ended ++ ended ≡ body ∷ []

entered_some : (n : ℕ) → 0 < n → entered (Body n) ≡ going (in_the_body n [])
entered_some n h =
    let z : (n == 0) ≡ false = grind (arith, nat_tests) in
    rw z refl

finishes : (n : ℕ) (body : List ℕ) → length body ≡ n → Finishes (entered (Body n)) body
finishes zero [] e = record { ended = []; leads = nowhere start; all = refl }
finishes zero (b ∷ body) e = absurd (omega arith)
finishes (suc n) body e =
    subst (λ s. Finishes s body) (sym (entered_some (suc n) (omega arith))) (record { ended = body ∷ []; leads = body_whole (suc n) [] body (omega arith) e; all = refl })

regrouped : (a b c d : List ℕ) → ((a ++ b) ++ (0x0d ∷ c)) ++ d ≡ (((a ++ b) ++ (0x0d ∷ [])) ++ c) ++ d
regrouped a b c d = ap (λ l. l ++ d) (sym (append_assoc (a ++ b) (0x0d ∷ []) c))

pub frame_read : (body : List ℕ) → length body ≤ 1073741824 → Leads start (frame body) start (body ∷ [])
frame_read body h =
    let n = length body in
    let line = head_part None [] (length_line n) (line_has_no_feed n h) (omega (arith, line_is_short n h)) in
    let head = and_others start (in_the_head None (length_line n)) _ (length_line n) (0x0a ∷ 0x0d ∷ 0x0a ∷ []) [] _ line (ends_of_lines n h) in
    let last = finishes n body refl in
    let all = and_others start _ start (length_line n ++ (0x0a ∷ 0x0d ∷ 0x0a ∷ [])) body _ _ head last.leads in
    let bytes = regrouped (codes "Content-Length: ") (decimal n) (0x0a ∷ 0x0d ∷ 0x0a ∷ []) body in
    let same = subst (λ l. Leads start ((length_line n ++ (0x0a ∷ 0x0d ∷ 0x0a ∷ [])) ++ body) start l) last.all all in
    subst (λ l. Leads start l start (body ∷ [])) (sym bytes) same

pub frames_read : (bs : List (List ℕ)) → All (λ b. length b ≤ 1073741824) bs → Leads start (frames bs) start bs
frames_read [] h = nowhere start
frames_read (b ∷ bs) h = and_others start start start (frame b) (frames bs) (b ∷ []) bs (frame_read b (h 0 b (omega arith))) (frames_read bs (λ k d l. h (suc k) d (omega arith)))

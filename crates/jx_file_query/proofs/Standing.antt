-- Where the reading of an accepted text stands between two of its parts.
use Rattle.std.proofs.Common.{◌≡◌, ℕ, suc, ◌+◌, ◌<◌, ◌≤◌, List, [], ◌∷◌, ◌++◌, length, drop, take, refl, sym, ap, subst, ◌∙◌, arith, Bool, true, false, cond, Option, Some}
use Rattle.std.specs.Prelude.{◌==◌, is_some}
use Rattle.std.proofs.lemmas.List.{take-append-drop}
use Rattle.jx_lex.specs.declared.alphabet.mark.Mark.{Mark}
use Rattle.jx_lex.specs.declared.alphabet.state.LexState.{LexState}
use Rattle.jx_lex.specs.declared.alphabet.state.LexState.TheVariants.{Gap}
use Rattle.jx_lex.specs.Lex as lexical
use Rattle.jx_lex.specs.Lex.{lex, LexExit}
use Rattle.jx_lex.specs.TokenStates.{in_token}
use Rattle.jx_reduce.specs.declared.table.expect.Expect.{Expect}
use Rattle.jx_reduce.specs.declared.table.expect.Expect.TheVariants.{Value}
use Rattle.jx_reduce.specs.declared.table.holder.Holder.{Holder}
use Rattle.jx_reduce.specs.Read.{Reading, read as read_marks}
use Rattle.jx_run.specs.declared.texts.settings.FrontMark.{FrontMark}
use Rattle.jx_run.specs.declared.texts.settings.FrontMark.TheVariants as on_mark
use Rattle.jx_run.specs.Front.{agreed}
use Rattle.jx_run.specs.Reader.{Outcome, in_front, reads, is_fault, read_by, state_behind}
use Rattle.jx_run.specs.Reading.{went, stopped, too_deep, at_exit, read, read_text}
use Rattle.jx_run.specs.Settings.{byte_order_mark}
use Rattle.jx_run.specs.Telling.{AwaitsBehind, at_start, tokens_by}
use Rattle.jx_run.proofs.Fronts.{agreed_short}
use Rattle.jx_run.proofs.InTurn.{faults_stay}
use Rattle.jx_run.proofs.ReaderFeeds.{Case, cases, whole, part, none, cut, at_front, by_cut, by_none, by_part, by_whole, goes_on_by}
use Rattle.jx_run.proofs.Tellings.{front_none, front_whole}

abbrev pub Goes : FrontMark → ℕ → List ℕ → Type 0
Goes m limit bytes = is_fault (Some (read_by m limit 0 bytes)) ≡ false

-- the first bytes of what has no fault have none
pub front_goes : (m : FrontMark) (limit n : ℕ) (text : List ℕ) → Goes m limit text → Goes m limit (take n text)
front_goes m limit n text h = faults_stay m limit (take n text) (drop n text) (subst (Goes m limit) (sym (take-append-drop n text)) h)

pub none_read : (m : FrontMark) (limit : ℕ) → read_by m limit 0 [] ≡ at_start m
unfolding read lex
none_read on_mark.Refused limit = refl
none_read on_mark.Ignored limit = refl

-- no token has begun in front of a text
pub between_first : (m : FrontMark) (limit : ℕ) → in_token (state_behind (read_by m limit 0 [])) ≡ false
unfolding read lex
between_first on_mark.Refused limit = refl
between_first on_mark.Ignored limit = refl

pub turn_at : (begun : Option Mark) (z : Outcome) → is_fault (Some z) ≡ false → AwaitsBehind (λ inside. is_some begun ≡ inside) z → is_some begun ≡ in_token (state_behind z)
turn_at begun (in_front n) goes h = h
turn_at begun (reads (went s e o)) goes h = h
turn_at begun (reads (stopped at)) goes h = absurd cc
turn_at begun (reads (too_deep at)) goes h = absurd cc

-- ---- where a reading stands behind some bytes

pub record Stands (m : FrontMark) (limit : ℕ) (bytes : List ℕ) : Type 0 where
  pub state : LexState
  pub expect : Expect
  pub holders : List Holder
  pub is : read_by m limit 0 bytes ≡ reads (went state expect holders)

one_more : (b : Bool) (n k : ℕ) → n ≤ k → cond b (suc n) 0 ≤ suc k
one_more true n k h = omega (arith, h)
one_more false n k h = omega arith

agreed_low : (xs ms : List ℕ) → agreed xs ms ≤ length ms
agreed_low [] ms = omega arith
agreed_low (x ∷ xs) [] = omega arith
agreed_low (x ∷ xs) (m ∷ ms) = one_more (x == m) (agreed xs ms) (length ms) (agreed_low xs ms)

not_in_front : (m : FrontMark) (limit n : ℕ) (bytes : List ℕ) → 3 < length bytes → read_by m limit 0 bytes ≡ in_front n → ⊥
not_in_front on_mark.Refused limit n bytes long e = cc
not_in_front on_mark.Ignored limit n bytes long e =
    let f = (at_front limit 0 n bytes e).0 in
    let l : agreed bytes byte_order_mark ≤ 3 = agreed_low bytes byte_order_mark in
    omega (arith, f, l, long)

pub stands : (m : FrontMark) (limit : ℕ) (bytes : List ℕ) → Goes m limit bytes → 3 < length bytes → Stands m limit bytes
stands m limit bytes goes long = pick (read_by m limit 0 bytes) refl
  where
    pick : (z : Outcome) → read_by m limit 0 bytes ≡ z → Stands m limit bytes
    pick (in_front n) e = absurd (not_in_front m limit n bytes long e)
    pick (reads (went s x o)) e = record { state = s; expect = x; holders = o; is = e }
    pick (reads (stopped at)) e = absurd (let f : true ≡ false = sym (ap (λ (z : Outcome). is_fault (Some z)) e) ∙ goes in cc)
    pick (reads (too_deep at)) e = absurd (let f : true ≡ false = sym (ap (λ (z : Outcome). is_fault (Some z)) e) ∙ goes in cc)

-- ---- what the lexical machine and the marks came to

pub record Came (x : LexExit) (r : Reading) (s : LexState) (e : Expect) (o : List Holder) : Type 0 where
  pub exit : x ≡ lexical.state s
  pub marks : r ≡ Reading.went e o

pub came : (x : LexExit) (r : Reading) (s : LexState) (e : Expect) (o : List Holder) → at_exit x r ≡ went s e o → Came x r s e o
came (lexical.state t) (Reading.went f p) s e o h = record { exit = (cc); marks = (cc) }
came (lexical.fault i) (Reading.went f p) s e o h = absurd cc
came (lexical.state t) (Reading.stopped at) s e o h = absurd cc
came (lexical.fault i) (Reading.stopped at) s e o h = absurd cc
came (lexical.state t) (Reading.too_deep at) s e o h = absurd cc
came (lexical.fault i) (Reading.too_deep at) s e o h = absurd cc

pub read_came : (limit : ℕ) (s : LexState) (e : Expect) (o : List Holder) (at : ℕ) (bytes : List ℕ) (t : LexState) (f : Expect) (p : List Holder) → read limit s e o at bytes ≡ went t f p
    → Came (lex s at bytes).exit (read_marks limit (lex s at bytes).marks (Reading.went e o)) t f p
unfolding read
read_came limit s e o at bytes t f p h = came (lex s at bytes).exit (read_marks limit (lex s at bytes).marks (Reading.went e o)) t f p h

pub tokens_whole : (bytes : List ℕ) → agreed bytes byte_order_mark ≡ 3 → tokens_by on_mark.Ignored bytes ≡ lex Gap 3 (drop 3 bytes)
tokens_whole bytes e = front_whole 0 bytes (0 + agreed bytes (drop 0 byte_order_mark)) (omega (arith, e))

pub tokens_bare : (bytes : List ℕ) → agreed bytes byte_order_mark ≡ 0 → tokens_by on_mark.Ignored bytes ≡ lex Gap 0 bytes
tokens_bare bytes e = front_none 0 bytes (0 + agreed bytes (drop 0 byte_order_mark)) (omega (arith, e))

-- the marks from the start on
pub marks_stand : (m : FrontMark) (limit : ℕ) (bytes : List ℕ) (s : LexState) (e : Expect) (o : List Holder) → read_by m limit 0 bytes ≡ reads (went s e o)
    → read_marks limit (tokens_by m bytes).marks (Reading.went Value []) ≡ Reading.went e o
marks_stand on_mark.Refused limit bytes s e o is = let same : read_text limit 0 bytes ≡ went s e o = cc in (read_came limit Gap Value [] 0 bytes s e o same).marks
marks_stand on_mark.Ignored limit bytes s e o is = go (cases (agreed bytes byte_order_mark) (length bytes) (agreed_short bytes byte_order_mark))
  where
    n : ℕ
    n = agreed bytes byte_order_mark

    go : Case (agreed bytes byte_order_mark) (length bytes) → read_marks limit (tokens_by on_mark.Ignored bytes).marks (Reading.went Value []) ≡ Reading.went e o
    go (whole q) =
        let here : reads (read_text limit (0 + 3) (drop 3 bytes)) ≡ reads (went s e o) = sym (by_whole n limit 0 bytes q) ∙ is in
        let same : read_text limit 3 (drop 3 bytes) ≡ went s e o = cc in
        ap (λ t. read_marks limit t.marks (Reading.went Value [])) (tokens_whole bytes q) ∙ (read_came limit Gap Value [] 3 (drop 3 bytes) s e o same).marks
    go (part other q) = let here : in_front n ≡ reads (went s e o) = sym (by_part n limit 0 bytes other q) ∙ is in absurd cc
    go (none q some) =
        let here : reads (read_text limit 0 bytes) ≡ reads (went s e o) = sym (by_none n limit 0 bytes q some) ∙ is in
        let same : read_text limit 0 bytes ≡ went s e o = cc in
        ap (λ t. read_marks limit t.marks (Reading.went Value [])) (tokens_bare bytes q) ∙ (read_came limit Gap Value [] 0 bytes s e o same).marks
    go (cut other some less) = let here : reads (stopped (0 + n)) ≡ reads (went s e o) = sym (by_cut n limit 0 bytes other some less) ∙ is in absurd cc

-- a part behind them
pub record Leads (limit at : ℕ) (s : LexState) (e : Expect) (o : List Holder) (piece : List ℕ) (t : LexState) (f : Expect) (p : List Holder) : Type 0 where
  pub exit : (lex s at piece).exit ≡ lexical.state t
  pub marks : read_marks limit (lex s at piece).marks (Reading.went e o) ≡ Reading.went f p

pub leads : (m : FrontMark) (limit at : ℕ) (bytes piece : List ℕ) (s t : LexState) (e f : Expect) (o p : List Holder) → at ≡ length bytes → read_by m limit 0 bytes ≡ reads (went s e o)
    → read_by m limit 0 (bytes ++ piece) ≡ reads (went t f p) → Leads limit at s e o piece t f p
leads m limit at bytes piece s t e f o p base is now =
    let here : reads (read limit s e o (0 + length bytes) piece) ≡ reads (went t f p) = sym (goes_on_by m limit 0 bytes piece (went s e o) is) ∙ now in
    let same : read limit s e o (0 + length bytes) piece ≡ went t f p = cc in
    let c = read_came limit s e o at piece t f p (ap (λ (i : ℕ). read limit s e o i piece) (let z : at ≡ 0 + length bytes = omega (arith, base) in z) ∙ same) in
    record { exit = c.exit; marks = c.marks }

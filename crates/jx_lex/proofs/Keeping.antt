-- What a sink has seen grows as the reading of a stretch goes on.
use Rattle.std.proofs.Common.{◌≡◌, ℕ, suc, ◌+◌, ◌≤◌, ◌<◌, List, [], ◌∷◌, ◌++◌, length, get_or, refl, ap, sym, subst, ◌∙◌, arith, append-nil, append_assoc, Option, Some, None}
use Rattle.std.specs.Prelude.{slice_range}
use Rattle.jx_lex.specs.declared.alphabet.state.LexState.{LexState}
use Rattle.jx_lex.specs.declared.alphabet.state.LexState.TheVariants as state
use Rattle.jx_lex.specs.declared.alphabet.state.Step.{Step}
use Rattle.jx_lex.specs.declared.alphabet.mark.Mark.{Mark}
use Rattle.jx_lex.specs.Classes.{class_at}
use Rattle.jx_lex.specs.Lex.{Track, LexExit, lex, with_mark, with_end, on_next, after_step}
use Rattle.jx_lex.specs.Lex as reading
use Rattle.jx_lex.specs.Moves.{move, as_gap}
use Rattle.jx_lex.specs.Uneventful.{Leads}
use Rattle.jx_lex.specs.Seen.{Seen, Grows, SeesTrack, GoesTo, EndsAtComma, Shuts}
use Rattle.jx_lex.specs.declared.alphabet.mark.MarkKind.TheVariants.{Colon, Comma}
use Rattle.jx_lex.specs.declared.alphabet.state.TokenEnd.TheVariants.{Before}
use Rattle.jx_lex.specs.TwoPieces.{joined, right_of}
use Rattle.jx_lex.proofs.LexJoin.{lex-append}
use Rattle.jx_lex.proofs.OneByte.{one-is}
use Rattle.jx_lex.proofs.Running.{lex-leads}
use Rattle.jx_lex.proofs.Slices.{slice-none, slice-more, slice-first, slice-length, slice-split}

-- ---- growth

pub grows-none : (seen : Seen) → Grows seen seen [] []
grows-none seen ms es h =
    subst (λ (xs : List Mark). seen xs (es ++ [])) (sym (append-nil ms)) (subst (λ (xs : List ℕ). seen ms xs) (sym (append-nil es)) h)

pub grows-then : (old mid new : Seen) (ms more : List Mark) (es others : List ℕ) → Grows old mid ms es → Grows mid new more others → Grows old new (ms ++ more) (es ++ others)
grows-then old mid new ms more es others f h xs ys k =
    subst (λ (zs : List Mark). new zs (ys ++ (es ++ others))) (append_assoc xs ms more)
    (subst (λ (zs : List ℕ). new ((xs ++ ms) ++ more) zs) (append_assoc ys es others) (h (xs ++ ms) (ys ++ es) (f xs ys k)))

pub sees-same : (old new : Seen) (t u : Track) → t ≡ u → SeesTrack old new u → SeesTrack old new t
sees-same old new t u e h = subst (λ (x : Track). SeesTrack old new x) (sym e) h

pub goes-same : (old new : Seen) (t u : Track) (s : LexState) → t ≡ u → GoesTo old new u s → GoesTo old new t s
goes-same old new t u s e h = subst (λ (x : Track). GoesTo old new x s) (sym e) h

-- ---- one stretch after another

abbrev pub then : Track → Track → Track
then t u = record { marks = t.marks ++ u.marks; ends = t.ends ++ u.ends; exit = u.exit }

right-at : (e : LexExit) (s : LexState) (right : LexState → Track) → e ≡ reading.state s → right_of e right ≡ right s
right-at e s right h = ap (λ (x : LexExit). right_of x right) h

-- a stretch is read in two pieces
pub in_two : (xs : List ℕ) (a b c : ℕ) (s : LexState) → a ≤ b → b ≤ c → b ≤ length xs
    → lex s a (slice_range xs a c) ≡ joined (lex s a (slice_range xs a b)) (λ next. lex next b (slice_range xs b c))
in_two xs a b c s low high fits =
    let u = slice_range xs a b in
    let v = slice_range xs b c in
    let n : a + length u ≡ b = sym (slice-length xs a b low fits) in
    ap (lex s a) (slice-split xs a b c low high) ∙ lex-append u v s a ∙ ap (λ (k : ℕ). joined (lex s a u) (λ next. lex next k v)) n

-- reading goes on where the first piece led to
pub lex-then : (xs : List ℕ) (a b c : ℕ) (s t : LexState) → a ≤ b → b ≤ c → b ≤ length xs → (lex s a (slice_range xs a b)).exit ≡ reading.state t
    → lex s a (slice_range xs a c) ≡ then (lex s a (slice_range xs a b)) (lex t b (slice_range xs b c))
lex-then xs a b c s t low high fits h =
    let u = slice_range xs a b in
    let v = slice_range xs b c in
    in_two xs a b c s low high fits
    ∙ ap (λ (r : Track). record { marks = (lex s a u).marks ++ r.marks; ends = (lex s a u).ends ++ r.ends; exit = r.exit }) (right-at (lex s a u).exit t (λ n. lex n b v) h)

pub sees-then : (xs : List ℕ) (a b c : ℕ) (s t : LexState) (old mid new : Seen) → a ≤ b → b ≤ c → b ≤ length xs
    → GoesTo old mid (lex s a (slice_range xs a b)) t → SeesTrack mid new (lex t b (slice_range xs b c)) → SeesTrack old new (lex s a (slice_range xs a c))
sees-then xs a b c s t old mid new low high fits f h =
    sees-same old new _ _ (lex-then xs a b c s t low high fits f.exit) (grows-then old mid new _ _ _ _ f.seen h)

pub exit-then : (xs : List ℕ) (a b c : ℕ) (s t : LexState) → a ≤ b → b ≤ c → b ≤ length xs → (lex s a (slice_range xs a b)).exit ≡ reading.state t
    → (lex s a (slice_range xs a c)).exit ≡ (lex t b (slice_range xs b c)).exit
exit-then xs a b c s t low high fits h = ap (λ (t : Track). t.exit) (lex-then xs a b c s t low high fits h)

pub goes-then : (xs : List ℕ) (a b c : ℕ) (s t r : LexState) (old mid new : Seen) → a ≤ b → b ≤ c → b ≤ length xs
    → GoesTo old mid (lex s a (slice_range xs a b)) t → GoesTo mid new (lex t b (slice_range xs b c)) r → GoesTo old new (lex s a (slice_range xs a c)) r
goes-then xs a b c s t r old mid new low high fits f h =
    record {
      seen = sees-then xs a b c s t old mid new low high fits f h.seen;
      exit = exit-then xs a b c s t low high fits f.exit ∙ h.exit;
    }

pub goes-none : (xs : List ℕ) (a : ℕ) (s : LexState) (seen : Seen) → GoesTo seen seen (lex s a (slice_range xs a a)) s
unfolding lex
goes-none xs a s seen =
    goes-same seen seen _ (lex s a []) s (ap (lex s a) (slice-none xs a)) (record { seen = grows-none seen; exit = refl })

-- ---- bytes with no event, and one byte

leads-exit : (s t : LexState) (at : ℕ) (w : List ℕ) → Leads s w t → lex s at w ≡ record { marks = []; ends = []; exit = reading.state t }
unfolding lex
leads-exit s t at w h = ap (lex s at) (sym (append-nil w)) ∙ lex-leads s t at w [] h

pub goes-led : (seen : Seen) (s t : LexState) (at : ℕ) (w : List ℕ) → Leads s w t → GoesTo seen seen (lex s at w) t
goes-led seen s t at w h = goes-same seen seen _ _ t (leads-exit s t at w h) (record { seen = grows-none seen; exit = refl })

slice-one : (xs : List ℕ) (i : ℕ) → i < length xs → slice_range xs i (i + 1) ≡ get_or xs i 0 ∷ []
slice-one xs i low = slice-more xs i i 0 (omega arith) low ∙ ap (λ ys. ys ++ get_or xs i 0 ∷ []) (slice-none xs i)

next-exit : (m : Option LexState) (at : ℕ) (t : LexState) → m ≡ Some t → (on_next m at (λ n. lex n (suc at) [])).exit ≡ reading.state t
unfolding lex
next-exit m at t e = ap (λ (o : Option LexState). (on_next o at (λ n. lex n (suc at) [])).exit) e

pub goes-byte : (xs : List ℕ) (i : ℕ) (s t : LexState) (old new : Seen) → i < length xs
    → Grows old new (with_mark ((move s (get_or xs i 0)).begin) i []) (with_end ((move s (get_or xs i 0)).end) i [])
    → (move s (get_or xs i 0)).next ≡ Some t → GoesTo old new (lex s i (slice_range xs i (i + 1))) t
goes-byte xs i s t old new low h e =
    goes-same old new _ _ t (ap (lex s i) (slice-one xs i low) ∙ one-is i (get_or xs i 0) s)
    (record { seen = h; exit = next-exit ((move s (get_or xs i 0)).next) i t e })

-- a fault ends the reading
fault-is : (s : LexState) (at b : ℕ) (v : List ℕ) → (move s b).next ≡ None
    → lex s at (b ∷ v) ≡ record { marks = with_mark ((move s b).begin) at []; ends = with_end ((move s b).end) at []; exit = reading.fault at }
unfolding lex
fault-is s at b v e = ap (λ (o : Option LexState). after_step (move s b) at (on_next o at (λ n. lex n (suc at) v))) e

pub fault-at : (xs : List ℕ) (i to : ℕ) (s : LexState) → i < to → to ≤ length xs → (move s (get_or xs i 0)).next ≡ None
    → lex s i (slice_range xs i to)
    ≡ record { marks = with_mark ((move s (get_or xs i 0)).begin) i []; ends = with_end ((move s (get_or xs i 0)).end) i []; exit = reading.fault i }
fault-at xs i to s low fits e = ap (lex s i) (slice-first xs i to 0 low fits) ∙ fault-is s i (get_or xs i 0) (slice_range xs (i + 1) to) e

-- ---- strings

-- the quotation mark that ends a string
pub goes-closed : (xs : List ℕ) (a e : ℕ) (old new : Seen) → a ≤ e → e < length xs → get_or xs e 0 ≡ 0x22 → Leads state.Str (slice_range xs a e) state.Str
    → Grows old new [] ((e + 1) ∷ []) → GoesTo old new (lex state.Str a (slice_range xs a (e + 1))) state.Gap
unfolding class_at
goes-closed xs a e old new low high quote led h =
    let n : suc e ≡ e + 1 = omega arith in
    let k : Grows old new [] (suc e ∷ []) = subst (λ (x : ℕ). Grows old new [] (x ∷ [])) (sym n) h in
    goes-then xs a e (e + 1) state.Str state.Str state.Gap old old new low (omega arith) (omega arith)
    (goes-led old state.Str state.Str a (slice_range xs a e) led)
    (goes-byte xs e state.Str state.Gap old new high
    (subst (λ (b : ℕ). Grows old new (with_mark ((move state.Str b).begin) e []) (with_end ((move state.Str b).end) e [])) (sym quote) k)
    (ap (λ (b : ℕ). (move state.Str b).next) quote))

-- the rest of a token, which ends with it
pub goes-shut : (xs : List ℕ) (a e : ℕ) (s : LexState) (old new : Seen) → a ≤ e → e ≤ length xs → Shuts s (slice_range xs a e)
    → ((marks : List Mark) (ends : List ℕ) → old marks ends → new marks (ends ++ e ∷ [])) → GoesTo old new (lex s a (slice_range xs a e)) state.Gap
goes-shut xs a e s old new low high shut h =
    let w = slice_range xs a e in
    let n : e ≡ a + length w = slice-length xs a e low high in
    goes-same old new _ (record { marks = []; ends = (a + length w) ∷ []; exit = reading.state state.Gap }) state.Gap (shut a)
    (record {
      seen = λ marks ends k. subst (λ (ms : List Mark). new ms (ends ++ (a + length w) ∷ [])) (sym (append-nil marks)) (subst (λ (x : ℕ). new marks (ends ++ x ∷ [])) n (h marks ends k));
      exit = refl;
    })

-- a name's colon
pub goes-colon : (xs : List ℕ) (i : ℕ) (old new : Seen) → i < length xs → get_or xs i 0 ≡ 0x3a → Grows old new (record { kind = Colon; at = i } ∷ []) []
    → GoesTo old new (lex state.Gap i (slice_range xs i (i + 1))) state.Gap
unfolding class_at
goes-colon xs i old new low is h =
    goes-byte xs i state.Gap state.Gap old new low
    (subst (λ (b : ℕ). Grows old new (with_mark ((move state.Gap b).begin) i []) (with_end ((move state.Gap b).end) i [])) (sym is) h)
    (ap (λ (b : ℕ). (move state.Gap b).next) is)

-- ---- numbers

pub ends-zero : EndsAtComma state.Zero
unfolding class_at as_gap
ends-zero = refl

pub ends-int : EndsAtComma state.Int
unfolding class_at as_gap
ends-int = refl

pub ends-frac : EndsAtComma state.Frac
unfolding class_at as_gap
ends-frac = refl

pub ends-exp : EndsAtComma state.Exp
unfolding class_at as_gap
ends-exp = refl

-- the comma that ends a number
pub goes-comma : (xs : List ℕ) (i : ℕ) (s : LexState) (old new : Seen) → i < length xs → get_or xs i 0 ≡ 0x2c → EndsAtComma s → Grows old new (record { kind = Comma; at = i } ∷ []) (i ∷ [])
    → GoesTo old new (lex s i (slice_range xs i (i + 1))) state.Gap
goes-comma xs i s old new low is ends h =
    let e : move s (get_or xs i 0) ≡ record { end = Some Before; begin = Some Comma; next = Some state.Gap } = ap (move s) is ∙ ends in
    goes-byte xs i s state.Gap old new low
    (subst (λ (m : Step). Grows old new (with_mark m.begin i []) (with_end m.end i [])) (sym e) h)
    (ap (λ (m : Step). m.next) e)

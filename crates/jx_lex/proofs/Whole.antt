-- Whole tokens and blanks, one behind another.
use Rattle.std.proofs.Common.{◌≡◌, ℕ, ◌+◌, ◌≤◌, ◌<◌, List, [], ◌∷◌, ◌++◌, length, get_or, refl, ap, sym, subst, ◌∙◌, arith, append-nil, Some}
use Rattle.std.specs.Prelude.{slice_range}
use Rattle.jx_lex.specs.declared.alphabet.state.LexState.{LexState}
use Rattle.jx_lex.specs.declared.alphabet.state.LexState.TheVariants as state
use Rattle.jx_lex.specs.declared.alphabet.state.TokenEnd.TheVariants.{Before}
use Rattle.jx_lex.specs.declared.alphabet.state.Step.{Step}
use Rattle.jx_lex.specs.declared.alphabet.mark.Mark.{Mark}
use Rattle.jx_lex.specs.declared.alphabet.mark.MarkKind.{MarkKind}
use Rattle.jx_lex.specs.declared.alphabet.mark.MarkKind.TheVariants as mark
use Rattle.jx_lex.specs.Classes.{class_at}
use Rattle.jx_lex.specs.Lex.{lex, with_mark, with_end}
use Rattle.jx_lex.specs.Moves.{move, begin, structural, as_gap}
use Rattle.jx_lex.specs.Seen.{Seen, Grows, GoesTo, Shuts}
use Rattle.jx_lex.specs.Uneventful.{AllKeep, Leads}
use Rattle.jx_lex.specs.Whole.{Passes, PassesNumber, EndsBefore, MayEnd}
use Rattle.jx_lex.proofs.Forward.{move-range}
use Rattle.jx_lex.proofs.Keeping.{goes-byte, goes-closed, goes-led, goes-none, goes-shut, goes-then}
use Rattle.jx_lex.proofs.Running.{AllKeep-leads}
use Rattle.jx_lex.specs.declared.alphabet.class.Class.TheVariants as class

-- ---- the marks and ends that were seen

abbrev pub has : List Mark → List ℕ → Seen
has ms es = λ marks ends. (marks ≡ ms) × (ends ≡ es)

grows-has : (ms more : List Mark) (es others : List ℕ) → Grows (has ms es) (has (ms ++ more) (es ++ others)) more others
grows-has ms more es others = λ marks ends e. (ap (λ (xs : List Mark). xs ++ more) e.0, ap (λ (xs : List ℕ). xs ++ others) e.1)

-- an end, and no mark
grows-end : (ms : List Mark) (es others : List ℕ) → Grows (has ms es) (has ms (es ++ others)) [] others
grows-end ms es others = λ marks ends e. (append-nil marks ∙ e.0, ap (λ (xs : List ℕ). xs ++ others) e.1)

pub passes-of : (xs : List ℕ) (a b : ℕ) (ms : List Mark) (es : List ℕ) → a ≤ b → b ≤ length xs → GoesTo (has [] []) (has ms es) (lex state.Gap a (slice_range xs a b)) state.Gap → Passes xs a b ms es
passes-of xs a b ms es low fits h =
    let both = h.seen [] [] (refl, refl) in
    record { low = low; fits = fits; marks_are = both.0; ends_are = both.1; exit = h.exit }

-- ---- blanks, and one behind another

pub passes-none : (xs : List ℕ) (a : ℕ) → a ≤ length xs → Passes xs a a [] []
passes-none xs a fits = passes-of xs a a [] [] (omega arith) fits (goes-none xs a state.Gap (has [] []))

pub passes-kept : (xs : List ℕ) (a b : ℕ) → a ≤ b → b ≤ length xs → AllKeep state.Gap (slice_range xs a b) → Passes xs a b [] []
passes-kept xs a b low fits h = passes-of xs a b [] [] low fits (goes-led (has [] []) state.Gap state.Gap a (slice_range xs a b) (AllKeep-leads state.Gap (slice_range xs a b) h))

-- ---- one byte

goes-first : (xs : List ℕ) (i : ℕ) (kind : MarkKind) (s : LexState) → i < length xs → move state.Gap (get_or xs i 0) ≡ begin kind s
    → GoesTo (has [] []) (has (record { kind = kind; at = i } ∷ []) []) (lex state.Gap i (slice_range xs i (i + 1))) s
goes-first xs i kind s low e =
    let m : Mark = record { kind = kind; at = i } in
    goes-byte xs i state.Gap s (has [] []) (has (m ∷ []) []) low
    (subst (λ (step : Step). Grows (has [] []) (has (m ∷ []) []) (with_mark step.begin i []) (with_end step.end i [])) (sym e) (grows-has [] (m ∷ []) [] []))
    (ap (λ (step : Step). step.next) e)

passes-mark : (xs : List ℕ) (i byte : ℕ) (kind : MarkKind) → i < length xs → get_or xs i 0 ≡ byte → move state.Gap byte ≡ structural kind
    → Passes xs i (i + 1) (record { kind = kind; at = i } ∷ []) []
passes-mark xs i byte kind low is e =
    passes-of xs i (i + 1) (record { kind = kind; at = i } ∷ []) [] (omega arith) (omega (arith, low)) (goes-first xs i kind state.Gap low (ap (move state.Gap) is ∙ e))

pub passes-comma : (xs : List ℕ) (i : ℕ) → i < length xs → get_or xs i 0 ≡ 0x2c → Passes xs i (i + 1) (record { kind = mark.Comma; at = i } ∷ []) []
unfolding class_at
passes-comma xs i low is = passes-mark xs i 0x2c mark.Comma low is refl

pub passes-colon : (xs : List ℕ) (i : ℕ) → i < length xs → get_or xs i 0 ≡ 0x3a → Passes xs i (i + 1) (record { kind = mark.Colon; at = i } ∷ []) []
unfolding class_at
passes-colon xs i low is = passes-mark xs i 0x3a mark.Colon low is refl

pub passes-open_array : (xs : List ℕ) (i : ℕ) → i < length xs → get_or xs i 0 ≡ 0x5b → Passes xs i (i + 1) (record { kind = mark.OpenArray; at = i } ∷ []) []
unfolding class_at
passes-open_array xs i low is = passes-mark xs i 0x5b mark.OpenArray low is refl

pub passes-close_array : (xs : List ℕ) (i : ℕ) → i < length xs → get_or xs i 0 ≡ 0x5d → Passes xs i (i + 1) (record { kind = mark.CloseArray; at = i } ∷ []) []
unfolding class_at
passes-close_array xs i low is = passes-mark xs i 0x5d mark.CloseArray low is refl

pub passes-open_object : (xs : List ℕ) (i : ℕ) → i < length xs → get_or xs i 0 ≡ 0x7b → Passes xs i (i + 1) (record { kind = mark.OpenObject; at = i } ∷ []) []
unfolding class_at
passes-open_object xs i low is = passes-mark xs i 0x7b mark.OpenObject low is refl

pub passes-close_object : (xs : List ℕ) (i : ℕ) → i < length xs → get_or xs i 0 ≡ 0x7d → Passes xs i (i + 1) (record { kind = mark.CloseObject; at = i } ∷ []) []
unfolding class_at
passes-close_object xs i low is = passes-mark xs i 0x7d mark.CloseObject low is refl

-- a space
pub passes-space : (xs : List ℕ) (i : ℕ) → i < length xs → get_or xs i 0 ≡ 0x20 → Passes xs i (i + 1) [] []
unfolding class_at
passes-space xs i low is =
    passes-of xs i (i + 1) [] [] (omega arith) (omega (arith, low))
    (goes-byte xs i state.Gap state.Gap (has [] []) (has [] []) low
    (subst (λ (b : ℕ). Grows (has [] []) (has [] []) (with_mark ((move state.Gap b).begin) i []) (with_end ((move state.Gap b).end) i [])) (sym is) (grows-end [] [] []))
    (ap (λ (b : ℕ). (move state.Gap b).next) is))

-- ---- strings

pub passes-string : (xs : List ℕ) (a e : ℕ) → a + 1 ≤ e → e < length xs → get_or xs a 0 ≡ 0x22 → get_or xs e 0 ≡ 0x22 → Leads state.Str (slice_range xs (a + 1) e) state.Str
    → Passes xs a (e + 1) (record { kind = mark.String; at = a } ∷ []) ((e + 1) ∷ [])
unfolding class_at
passes-string xs a e low fits first last led =
    let ms : List Mark = record { kind = mark.String; at = a } ∷ [] in
    passes-of xs a (e + 1) ms ((e + 1) ∷ []) (omega (arith, low)) (omega (arith, fits))
    (goes-then xs a (a + 1) (e + 1) state.Gap state.Str state.Gap (has [] []) (has ms []) (has ms ((e + 1) ∷ [])) (omega arith) (omega (arith, low)) (omega (arith, low, fits))
    (goes-first xs a mark.String state.Str (omega (arith, low, fits)) (ap (move state.Gap) first))
    (goes-closed xs (a + 1) e (has ms []) (has ms ((e + 1) ∷ [])) low fits last led (grows-end ms [] ((e + 1) ∷ []))))

-- ---- literals

pub passes-literal : (xs : List ℕ) (a e : ℕ) (kind : MarkKind) (s : LexState) → a + 1 ≤ e → e ≤ length xs → a < length xs → move state.Gap (get_or xs a 0) ≡ begin kind s
    → Shuts s (slice_range xs (a + 1) e) → Passes xs a e (record { kind = kind; at = a } ∷ []) (e ∷ [])
passes-literal xs a e kind s low fits here first shut =
    let ms : List Mark = record { kind = kind; at = a } ∷ [] in
    passes-of xs a e ms (e ∷ []) (omega (arith, low)) fits
    (goes-then xs a (a + 1) e state.Gap s state.Gap (has [] []) (has ms []) (has ms (e ∷ [])) (omega arith) low (omega (arith, here))
    (goes-first xs a kind s here first)
    (goes-shut xs (a + 1) e s (has ms []) (has ms (e ∷ [])) low fits shut (λ marks ends h. (h.0, ap (λ (us : List ℕ). us ++ e ∷ []) h.1))))

pub begins-true : (b : ℕ) → b ≡ 0x74 → move state.Gap b ≡ begin mark.True state.T
unfolding class_at
begins-true b e = ap (move state.Gap) e

pub begins-false : (b : ℕ) → b ≡ 0x66 → move state.Gap b ≡ begin mark.False state.F
unfolding class_at
begins-false b e = ap (move state.Gap) e

pub begins-null : (b : ℕ) → b ≡ 0x6e → move state.Gap b ≡ begin mark.Null state.N
unfolding class_at
begins-null b e = ap (move state.Gap) e

-- ---- numbers

pub begins-minus : (b : ℕ) → b ≡ 0x2d → move state.Gap b ≡ begin mark.Number state.Minus
unfolding class_at
begins-minus b e = ap (move state.Gap) e

pub begins-zero : (b : ℕ) → b ≡ 0x30 → move state.Gap b ≡ begin mark.Number state.Zero
unfolding class_at
begins-zero b e = ap (move state.Gap) e

pub begins-digit : (b : ℕ) → 0x31 ≤ b → b ≤ 0x39 → move state.Gap b ≡ begin mark.Number state.Int
begins-digit b from to = move-range 0x31 0x39 (class.Digit ∷ []) refl (omega arith) state.Gap (begin mark.Number state.Int) (refl, tt) (record { from = from; to = to })

pub zero-ends : MayEnd state.Zero
unfolding class_at as_gap
zero-ends = (refl, refl, refl, refl, refl, refl)

pub int-ends : MayEnd state.Int
unfolding class_at as_gap
int-ends = (refl, refl, refl, refl, refl, refl)

pub frac-ends : MayEnd state.Frac
unfolding class_at as_gap
frac-ends = (refl, refl, refl, refl, refl, refl)

pub exp-ends : MayEnd state.Exp
unfolding class_at as_gap
exp-ends = (refl, refl, refl, refl, refl, refl)

pub passes-number : (xs : List ℕ) (a e : ℕ) (s t : LexState) → a + 1 ≤ e → e ≤ length xs → a < length xs → move state.Gap (get_or xs a 0) ≡ begin mark.Number s
    → Leads s (slice_range xs (a + 1) e) t → MayEnd t → PassesNumber xs a e
passes-number xs a e s t low fits here first led ends =
    let ms : List Mark = record { kind = mark.Number; at = a } ∷ [] in
    let goes : GoesTo (has [] []) (has ms []) (lex state.Gap a (slice_range xs a e)) t =
    goes-then xs a (a + 1) e state.Gap s t (has [] []) (has ms []) (has ms []) (omega arith) low (omega (arith, here))
    (goes-first xs a mark.Number s here first)
    (goes-led (has ms []) s t (a + 1) (slice_range xs (a + 1) e) led) in
    let both = goes.seen [] [] (refl, refl) in
    record { low = omega (arith, low); fits = fits; last = t; may_end = ends; marks_are = both.0; ends_are = both.1; exit = goes.exit }

-- a number, and the byte before which it ends
number-then : (xs : List ℕ) (a e byte : ℕ) (more : List Mark) (n : PassesNumber xs a e) → e < length xs → get_or xs e 0 ≡ byte → EndsBefore n.last byte
    → (move state.Gap byte).next ≡ Some state.Gap → with_mark ((move state.Gap byte).begin) e [] ≡ more
    → Passes xs a (e + 1) (record { kind = mark.Number; at = a } ∷ more) (e ∷ [])
number-then xs a e byte more n fits is ends next begun =
    let low = n.low in
    let ms : List Mark = record { kind = mark.Number; at = a } ∷ [] in
    let f : move n.last (get_or xs e 0) ≡ record (move state.Gap byte) { end = Some Before } = ap (move n.last) is ∙ ends in
    passes-of xs a (e + 1) (ms ++ more) (e ∷ []) (omega (arith, low)) (omega (arith, fits))
    (goes-then xs a e (e + 1) state.Gap n.last state.Gap (has [] []) (has ms []) (has (ms ++ more) (e ∷ [])) (omega (arith, low)) (omega arith) (omega (arith, fits))
    (record {
      seen = λ marks ends h. (ap (λ (us : List Mark). us ++ (lex state.Gap a (slice_range xs a e)).marks) h.0 ∙ n.marks_are, ap (λ (us : List ℕ). us ++ (lex state.Gap a (slice_range xs a e)).ends) h.1 ∙ n.ends_are);
      exit = n.exit;
    })
    (goes-byte xs e n.last state.Gap (has ms []) (has (ms ++ more) (e ∷ [])) fits
    (subst (λ (step : Step). Grows (has ms []) (has (ms ++ more) (e ∷ [])) (with_mark step.begin e []) (with_end step.end e [])) (sym f)
    (λ marks ends h. (ap (λ (us : List Mark). us ++ with_mark ((move state.Gap byte).begin) e []) h.0 ∙ ap (λ (us : List Mark). ms ++ us) begun, ap (λ (us : List ℕ). us ++ e ∷ []) h.1)))
    (ap (λ (step : Step). step.next) f ∙ next)))

pub number-comma : (xs : List ℕ) (a e : ℕ) → PassesNumber xs a e → e < length xs → get_or xs e 0 ≡ 0x2c
    → Passes xs a (e + 1) (record { kind = mark.Number; at = a } ∷ record { kind = mark.Comma; at = e } ∷ []) (e ∷ [])
unfolding class_at
number-comma xs a e n fits is = number-then xs a e 0x2c (record { kind = mark.Comma; at = e } ∷ []) n fits is n.may_end.0 refl refl

pub number-close_array : (xs : List ℕ) (a e : ℕ) → PassesNumber xs a e → e < length xs → get_or xs e 0 ≡ 0x5d
    → Passes xs a (e + 1) (record { kind = mark.Number; at = a } ∷ record { kind = mark.CloseArray; at = e } ∷ []) (e ∷ [])
unfolding class_at
number-close_array xs a e n fits is = number-then xs a e 0x5d (record { kind = mark.CloseArray; at = e } ∷ []) n fits is n.may_end.1 refl refl

pub number-close_object : (xs : List ℕ) (a e : ℕ) → PassesNumber xs a e → e < length xs → get_or xs e 0 ≡ 0x7d
    → Passes xs a (e + 1) (record { kind = mark.Number; at = a } ∷ record { kind = mark.CloseObject; at = e } ∷ []) (e ∷ [])
unfolding class_at
number-close_object xs a e n fits is = number-then xs a e 0x7d (record { kind = mark.CloseObject; at = e } ∷ []) n fits is n.may_end.2 refl refl

pub number-space : (xs : List ℕ) (a e : ℕ) → PassesNumber xs a e → e < length xs → get_or xs e 0 ≡ 0x20 → Passes xs a (e + 1) (record { kind = mark.Number; at = a } ∷ []) (e ∷ [])
unfolding class_at
number-space xs a e n fits is = number-then xs a e 0x20 [] n fits is n.may_end.3 refl refl

pub number-line_feed : (xs : List ℕ) (a e : ℕ) → PassesNumber xs a e → e < length xs → get_or xs e 0 ≡ 0x0a → Passes xs a (e + 1) (record { kind = mark.Number; at = a } ∷ []) (e ∷ [])
unfolding class_at
number-line_feed xs a e n fits is = number-then xs a e 0x0a [] n fits is n.may_end.4 refl refl

pub number-return : (xs : List ℕ) (a e : ℕ) → PassesNumber xs a e → e < length xs → get_or xs e 0 ≡ 0x0d → Passes xs a (e + 1) (record { kind = mark.Number; at = a } ∷ []) (e ∷ [])
unfolding class_at
number-return xs a e n fits is = number-then xs a e 0x0d [] n fits is n.may_end.5 refl refl

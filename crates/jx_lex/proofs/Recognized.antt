-- What the lexical machine reads as one token is a token, and what a byte may do, in a token and between tokens.
use Rattle.std.proofs.Common.{◌≡◌, ℕ, true, List, [], ◌∷◌, Some, refl, sym, ap, subst}
use Rattle.jx_lex.specs.declared.alphabet.class.Class.{Class}
use Rattle.jx_lex.specs.declared.kind.Kind.{Kind}
use Rattle.jx_lex.specs.declared.kind.Kind.TheVariants as kind
use Rattle.jx_lex.specs.declared.alphabet.mark.MarkKind.{MarkKind}
use Rattle.jx_lex.specs.declared.alphabet.mark.MarkKind.TheVariants as mark
use Rattle.jx_lex.specs.declared.alphabet.state.LexState.{LexState}
use Rattle.jx_lex.specs.declared.alphabet.state.LexState.TheVariants as state
use Rattle.jx_lex.specs.declared.alphabet.state.Step.{Step}
use Rattle.jx_lex.specs.Classes.{class_at}
use Rattle.jx_lex.specs.Moves.{move, go, begin, close, structural, fault, as_gap}
use Rattle.jx_lex.specs.Token
use Rattle.jx_lex.specs.Token.{IsToken}
use Rattle.jx_lex.specs.TokenStates.{in_token, Spells, here, goes, shuts, IsFinal, final_gap, final_zero, final_int, final_frac, final_exp, mark_of, IsRead}
use Rattle.jx_lex.specs.TokenSteps.{TokenStep, goes_on, ends, ended, fails, IsStructural, open_array, close_array, open_object, close_object, colon, comma, GapStep, a_blank, a_token, a_mark, no_step}
use Rattle.jx_lex.proofs.Cases
use Rattle.jx_lex.proofs.Completes
use Rattle.jx_lex.proofs.Completes.{Completes}
use Rattle.jx_lex.proofs.Stays.{go_stays}

-- ---- one byte

pub token_step : (s : LexState) (b : ℕ) → in_token s ≡ true → TokenStep s b
token_step state.Gap b h = absurd cc
token_step state.Str b h = Cases.cases_Str b (λ m. move state.Str b ≡ m → TokenStep state.Str b) (λ f e. ends e) (λ f e. goes_on {next = state.Esc} refl e) (λ f e. goes_on {next = state.Str} refl e) (λ f e. goes_on {next = state.Tail1} refl e) (λ f e. goes_on {next = state.AfterE0} refl e) (λ f e. goes_on {next = state.Tail2} refl e) (λ f e. goes_on {next = state.AfterEd} refl e) (λ f e. goes_on {next = state.AfterF0} refl e) (λ f e. goes_on {next = state.Tail3} refl e) (λ f e. goes_on {next = state.AfterF4} refl e) (λ e. fails e) refl
token_step state.Esc b h = Cases.cases_Esc b (λ m. move state.Esc b ≡ m → TokenStep state.Esc b) (λ f e. goes_on {next = state.Str} refl e) (λ f e. goes_on {next = state.Hex4} refl e) (λ e. fails e) refl
token_step state.Hex4 b h = Cases.cases_Hex4 b (λ m. move state.Hex4 b ≡ m → TokenStep state.Hex4 b) (λ f e. goes_on {next = state.Hex3} refl e) (λ e. fails e) refl
token_step state.Hex3 b h = Cases.cases_Hex3 b (λ m. move state.Hex3 b ≡ m → TokenStep state.Hex3 b) (λ f e. goes_on {next = state.Hex2} refl e) (λ e. fails e) refl
token_step state.Hex2 b h = Cases.cases_Hex2 b (λ m. move state.Hex2 b ≡ m → TokenStep state.Hex2 b) (λ f e. goes_on {next = state.Hex1} refl e) (λ e. fails e) refl
token_step state.Hex1 b h = Cases.cases_Hex1 b (λ m. move state.Hex1 b ≡ m → TokenStep state.Hex1 b) (λ f e. goes_on {next = state.Str} refl e) (λ e. fails e) refl
token_step state.Tail1 b h = Cases.cases_Tail1 b (λ m. move state.Tail1 b ≡ m → TokenStep state.Tail1 b) (λ f e. goes_on {next = state.Str} refl e) (λ e. fails e) refl
token_step state.Tail2 b h = Cases.cases_Tail2 b (λ m. move state.Tail2 b ≡ m → TokenStep state.Tail2 b) (λ f e. goes_on {next = state.Tail1} refl e) (λ e. fails e) refl
token_step state.Tail3 b h = Cases.cases_Tail3 b (λ m. move state.Tail3 b ≡ m → TokenStep state.Tail3 b) (λ f e. goes_on {next = state.Tail2} refl e) (λ e. fails e) refl
token_step state.AfterE0 b h = Cases.cases_AfterE0 b (λ m. move state.AfterE0 b ≡ m → TokenStep state.AfterE0 b) (λ f e. goes_on {next = state.Tail1} refl e) (λ e. fails e) refl
token_step state.AfterEd b h = Cases.cases_AfterEd b (λ m. move state.AfterEd b ≡ m → TokenStep state.AfterEd b) (λ f e. goes_on {next = state.Tail1} refl e) (λ e. fails e) refl
token_step state.AfterF0 b h = Cases.cases_AfterF0 b (λ m. move state.AfterF0 b ≡ m → TokenStep state.AfterF0 b) (λ f e. goes_on {next = state.Tail2} refl e) (λ e. fails e) refl
token_step state.AfterF4 b h = Cases.cases_AfterF4 b (λ m. move state.AfterF4 b ≡ m → TokenStep state.AfterF4 b) (λ f e. goes_on {next = state.Tail2} refl e) (λ e. fails e) refl
token_step state.Minus b h = Cases.cases_Minus b (λ m. move state.Minus b ≡ m → TokenStep state.Minus b) (λ f e. goes_on {next = state.Zero} refl e) (λ f e. goes_on {next = state.Int} refl e) (λ e. fails e) refl
token_step state.Zero b h = Cases.cases_Zero b (λ m. move state.Zero b ≡ m → TokenStep state.Zero b) (λ f e. goes_on {next = state.Dot} refl e) (λ f e. goes_on {next = state.E} refl e) (λ e. ended final_zero e) refl
token_step state.Int b h = Cases.cases_Int b (λ m. move state.Int b ≡ m → TokenStep state.Int b) (λ f e. goes_on {next = state.Int} refl e) (λ f e. goes_on {next = state.Dot} refl e) (λ f e. goes_on {next = state.E} refl e) (λ e. ended final_int e) refl
token_step state.Dot b h = Cases.cases_Dot b (λ m. move state.Dot b ≡ m → TokenStep state.Dot b) (λ f e. goes_on {next = state.Frac} refl e) (λ e. fails e) refl
token_step state.Frac b h = Cases.cases_Frac b (λ m. move state.Frac b ≡ m → TokenStep state.Frac b) (λ f e. goes_on {next = state.Frac} refl e) (λ f e. goes_on {next = state.E} refl e) (λ e. ended final_frac e) refl
token_step state.E b h = Cases.cases_E b (λ m. move state.E b ≡ m → TokenStep state.E b) (λ f e. goes_on {next = state.ESign} refl e) (λ f e. goes_on {next = state.Exp} refl e) (λ e. fails e) refl
token_step state.ESign b h = Cases.cases_ESign b (λ m. move state.ESign b ≡ m → TokenStep state.ESign b) (λ f e. goes_on {next = state.Exp} refl e) (λ e. fails e) refl
token_step state.Exp b h = Cases.cases_Exp b (λ m. move state.Exp b ≡ m → TokenStep state.Exp b) (λ f e. goes_on {next = state.Exp} refl e) (λ e. ended final_exp e) refl
token_step state.T b h = Cases.cases_T b (λ m. move state.T b ≡ m → TokenStep state.T b) (λ f e. goes_on {next = state.Tr} refl e) (λ e. fails e) refl
token_step state.Tr b h = Cases.cases_Tr b (λ m. move state.Tr b ≡ m → TokenStep state.Tr b) (λ f e. goes_on {next = state.Tru} refl e) (λ e. fails e) refl
token_step state.Tru b h = Cases.cases_Tru b (λ m. move state.Tru b ≡ m → TokenStep state.Tru b) (λ f e. ends e) (λ e. fails e) refl
token_step state.F b h = Cases.cases_F b (λ m. move state.F b ≡ m → TokenStep state.F b) (λ f e. goes_on {next = state.Fa} refl e) (λ e. fails e) refl
token_step state.Fa b h = Cases.cases_Fa b (λ m. move state.Fa b ≡ m → TokenStep state.Fa b) (λ f e. goes_on {next = state.Fal} refl e) (λ e. fails e) refl
token_step state.Fal b h = Cases.cases_Fal b (λ m. move state.Fal b ≡ m → TokenStep state.Fal b) (λ f e. goes_on {next = state.Fals} refl e) (λ e. fails e) refl
token_step state.Fals b h = Cases.cases_Fals b (λ m. move state.Fals b ≡ m → TokenStep state.Fals b) (λ f e. ends e) (λ e. fails e) refl
token_step state.N b h = Cases.cases_N b (λ m. move state.N b ≡ m → TokenStep state.N b) (λ f e. goes_on {next = state.Nu} refl e) (λ e. fails e) refl
token_step state.Nu b h = Cases.cases_Nu b (λ m. move state.Nu b ≡ m → TokenStep state.Nu b) (λ f e. goes_on {next = state.Nul} refl e) (λ e. fails e) refl
token_step state.Nul b h = Cases.cases_Nul b (λ m. move state.Nul b ≡ m → TokenStep state.Nul b) (λ f e. ends e) (λ e. fails e) refl

structural_byte : {n : ℕ} {k : MarkKind} (b : ℕ) → b ≡ n → IsStructural n k → IsStructural b k
structural_byte {k = k} b h s = subst (λ m. IsStructural m k) (sym h) s

pub gap_step : (b : ℕ) → GapStep b
gap_step b =
    Cases.cases_Gap b (λ m. move state.Gap b ≡ m → GapStep b)
    (λ h e. a_blank h e)
    (λ h e. a_token kind.String state.Str tt refl e)
    (λ h e. a_token kind.Number state.Minus tt refl e)
    (λ h e. a_token kind.Number state.Zero tt refl e)
    (λ h e. a_token kind.Number state.Int tt refl e)
    (λ h e. a_token kind.True state.T tt refl e)
    (λ h e. a_token kind.False state.F tt refl e)
    (λ h e. a_token kind.Null state.N tt refl e)
    (λ h e. a_mark (structural_byte b h open_array) e)
    (λ h e. a_mark (structural_byte b h close_array) e)
    (λ h e. a_mark (structural_byte b h open_object) e)
    (λ h e. a_mark (structural_byte b h close_object) e)
    (λ h e. a_mark (structural_byte b h colon) e)
    (λ h e. a_mark (structural_byte b h comma) e)
    (λ e. no_step e) refl

-- ---- the bytes of a token after its first

same : (x : LexState) {next : LexState} {w : List ℕ} → go x ≡ go next → Completes next w → Completes x w
same x {next} {w} e c = let q : Some x ≡ Some next = ap (λ (m : Step). m.next) e in let r : x ≡ next = cc in subst (λ s. Completes s w) (sym r) c

at_byte : (s : LexState) (n b : ℕ) (w : List ℕ) → b ≡ n → Completes s (n ∷ w) → Completes s (b ∷ w)
at_byte s n b w h c = subst (λ m. Completes s (m ∷ w)) (sym h) c

never_close : {A : Type 0} {next : LexState} → close ≡ go next → A
never_close e = let q = ap (λ (m : Step). m.end) e in absurd cc

never_fault : {A : Type 0} {next : LexState} → fault ≡ go next → A
never_fault e = let q = ap (λ (m : Step). m.next) e in absurd cc

never_gap : {A : Type 0} {next : LexState} (c : Class) → as_gap c ≡ go next → A
unfolding as_gap
never_gap c e = let q = ap (λ (m : Step). m.end) e in absurd cc

not_close : {A : Type 0} {next : LexState} → go next ≡ close → A
not_close e = let q = ap (λ (m : Step). m.end) e in absurd cc

no_fault : {A : Type 0} → fault ≡ close → A
no_fault e = let q = ap (λ (m : Step). m.end) e in absurd cc

no_gap : {A : Type 0} (c : Class) → as_gap c ≡ close → A
unfolding as_gap
no_gap c e = let q = ap (λ (m : Step). m.end) e in absurd cc

t_r : (w : List ℕ) → Completes state.Tr w → Completes state.T (0x72 ∷ w)
t_r _ Completes.from_tr = Completes.from_t

tr_u : (w : List ℕ) → Completes state.Tru w → Completes state.Tr (0x75 ∷ w)
tr_u _ Completes.from_tru = Completes.from_tr

f_a : (w : List ℕ) → Completes state.Fa w → Completes state.F (0x61 ∷ w)
f_a _ Completes.from_fa = Completes.from_f

fa_l : (w : List ℕ) → Completes state.Fal w → Completes state.Fa (0x6c ∷ w)
fa_l _ Completes.from_fal = Completes.from_fa

fal_s : (w : List ℕ) → Completes state.Fals w → Completes state.Fal (0x73 ∷ w)
fal_s _ Completes.from_fals = Completes.from_fal

n_u : (w : List ℕ) → Completes state.Nu w → Completes state.N (0x75 ∷ w)
n_u _ Completes.from_nu = Completes.from_n

nu_l : (w : List ℕ) → Completes state.Nul w → Completes state.Nu (0x6c ∷ w)
nu_l _ Completes.from_nul = Completes.from_nu

onward : (s : LexState) (b : ℕ) (next : LexState) (w : List ℕ) → in_token s ≡ true → move s b ≡ go next → Completes next w → Completes s (b ∷ w)
onward state.Gap b next w h e c = absurd cc
onward state.Str b next w h e c =
    Cases.cases_Str b (λ m. m ≡ go next → Completes next w → Completes state.Str (b ∷ w))
    (λ h e c. never_close e)
    (λ h e c. at_byte state.Str 0x5c b w h (Completes.str_escape (same state.Esc e c)))
    (λ h e c. Completes.str_ordinary h (same state.Str e c))
    (λ h e c. Completes.str_lead2 h (same state.Tail1 e c))
    (λ h e c. at_byte state.Str 0xe0 b w h (Completes.str_e0 (same state.AfterE0 e c)))
    (λ h e c. Completes.str_lead3 h (same state.Tail2 e c))
    (λ h e c. at_byte state.Str 0xed b w h (Completes.str_ed (same state.AfterEd e c)))
    (λ h e c. at_byte state.Str 0xf0 b w h (Completes.str_f0 (same state.AfterF0 e c)))
    (λ h e c. Completes.str_lead4 h (same state.Tail3 e c))
    (λ h e c. at_byte state.Str 0xf4 b w h (Completes.str_f4 (same state.AfterF4 e c)))
    (λ e c. never_fault e) e c
onward state.Esc b next w h e c =
    Cases.cases_Esc b (λ m. m ≡ go next → Completes next w → Completes state.Esc (b ∷ w))
    (λ h e c. Completes.from_esc_letter h (same state.Str e c))
    (λ h e c. at_byte state.Esc 0x75 b w h (Completes.from_esc_u (same state.Hex4 e c)))
    (λ e c. never_fault e) e c
onward state.Hex4 b next w h e c =
    Cases.cases_Hex4 b (λ m. m ≡ go next → Completes next w → Completes state.Hex4 (b ∷ w))
    (λ h e c. Completes.from_hex4 h (same state.Hex3 e c))
    (λ e c. never_fault e) e c
onward state.Hex3 b next w h e c =
    Cases.cases_Hex3 b (λ m. m ≡ go next → Completes next w → Completes state.Hex3 (b ∷ w))
    (λ h e c. Completes.from_hex3 h (same state.Hex2 e c))
    (λ e c. never_fault e) e c
onward state.Hex2 b next w h e c =
    Cases.cases_Hex2 b (λ m. m ≡ go next → Completes next w → Completes state.Hex2 (b ∷ w))
    (λ h e c. Completes.from_hex2 h (same state.Hex1 e c))
    (λ e c. never_fault e) e c
onward state.Hex1 b next w h e c =
    Cases.cases_Hex1 b (λ m. m ≡ go next → Completes next w → Completes state.Hex1 (b ∷ w))
    (λ h e c. Completes.from_hex1 h (same state.Str e c))
    (λ e c. never_fault e) e c
onward state.Tail1 b next w h e c =
    Cases.cases_Tail1 b (λ m. m ≡ go next → Completes next w → Completes state.Tail1 (b ∷ w))
    (λ h e c. Completes.from_tail1 h (same state.Str e c))
    (λ e c. never_fault e) e c
onward state.Tail2 b next w h e c =
    Cases.cases_Tail2 b (λ m. m ≡ go next → Completes next w → Completes state.Tail2 (b ∷ w))
    (λ h e c. Completes.from_tail2 h (same state.Tail1 e c))
    (λ e c. never_fault e) e c
onward state.Tail3 b next w h e c =
    Cases.cases_Tail3 b (λ m. m ≡ go next → Completes next w → Completes state.Tail3 (b ∷ w))
    (λ h e c. Completes.from_tail3 h (same state.Tail2 e c))
    (λ e c. never_fault e) e c
onward state.AfterE0 b next w h e c =
    Cases.cases_AfterE0 b (λ m. m ≡ go next → Completes next w → Completes state.AfterE0 (b ∷ w))
    (λ h e c. Completes.from_e0 h (same state.Tail1 e c))
    (λ e c. never_fault e) e c
onward state.AfterEd b next w h e c =
    Cases.cases_AfterEd b (λ m. m ≡ go next → Completes next w → Completes state.AfterEd (b ∷ w))
    (λ h e c. Completes.from_ed h (same state.Tail1 e c))
    (λ e c. never_fault e) e c
onward state.AfterF0 b next w h e c =
    Cases.cases_AfterF0 b (λ m. m ≡ go next → Completes next w → Completes state.AfterF0 (b ∷ w))
    (λ h e c. Completes.from_f0 h (same state.Tail2 e c))
    (λ e c. never_fault e) e c
onward state.AfterF4 b next w h e c =
    Cases.cases_AfterF4 b (λ m. m ≡ go next → Completes next w → Completes state.AfterF4 (b ∷ w))
    (λ h e c. Completes.from_f4 h (same state.Tail2 e c))
    (λ e c. never_fault e) e c
onward state.Minus b next w h e c =
    Cases.cases_Minus b (λ m. m ≡ go next → Completes next w → Completes state.Minus (b ∷ w))
    (λ h e c. at_byte state.Minus 0x30 b w h (Completes.minus_zero (same state.Zero e c)))
    (λ h e c. Completes.minus_digit h (same state.Int e c))
    (λ e c. never_fault e) e c
onward state.Zero b next w h e c =
    Cases.cases_Zero b (λ m. m ≡ go next → Completes next w → Completes state.Zero (b ∷ w))
    (λ h e c. at_byte state.Zero 0x2e b w h (Completes.zero_dot (same state.Dot e c)))
    (λ h e c. Completes.zero_e h (same state.E e c))
    (λ e c. never_gap (class_at b) e) e c
onward state.Int b next w h e c =
    Cases.cases_Int b (λ m. m ≡ go next → Completes next w → Completes state.Int (b ∷ w))
    (λ h e c. Completes.int_digit h (same state.Int e c))
    (λ h e c. at_byte state.Int 0x2e b w h (Completes.int_dot (same state.Dot e c)))
    (λ h e c. Completes.int_e h (same state.E e c))
    (λ e c. never_gap (class_at b) e) e c
onward state.Dot b next w h e c =
    Cases.cases_Dot b (λ m. m ≡ go next → Completes next w → Completes state.Dot (b ∷ w))
    (λ h e c. Completes.dot_digit h (same state.Frac e c))
    (λ e c. never_fault e) e c
onward state.Frac b next w h e c =
    Cases.cases_Frac b (λ m. m ≡ go next → Completes next w → Completes state.Frac (b ∷ w))
    (λ h e c. Completes.frac_digit h (same state.Frac e c))
    (λ h e c. Completes.frac_e h (same state.E e c))
    (λ e c. never_gap (class_at b) e) e c
onward state.E b next w h e c =
    Cases.cases_E b (λ m. m ≡ go next → Completes next w → Completes state.E (b ∷ w))
    (λ h e c. Completes.e_sign h (same state.ESign e c))
    (λ h e c. Completes.e_digit h (same state.Exp e c))
    (λ e c. never_fault e) e c
onward state.ESign b next w h e c =
    Cases.cases_ESign b (λ m. m ≡ go next → Completes next w → Completes state.ESign (b ∷ w))
    (λ h e c. Completes.sign_digit h (same state.Exp e c))
    (λ e c. never_fault e) e c
onward state.Exp b next w h e c =
    Cases.cases_Exp b (λ m. m ≡ go next → Completes next w → Completes state.Exp (b ∷ w))
    (λ h e c. Completes.exp_digit h (same state.Exp e c))
    (λ e c. never_gap (class_at b) e) e c
onward state.T b next w h e c =
    Cases.cases_T b (λ m. m ≡ go next → Completes next w → Completes state.T (b ∷ w))
    (λ h e c. at_byte state.T 0x72 b w h (t_r w (same state.Tr e c)))
    (λ e c. never_fault e) e c
onward state.Tr b next w h e c =
    Cases.cases_Tr b (λ m. m ≡ go next → Completes next w → Completes state.Tr (b ∷ w))
    (λ h e c. at_byte state.Tr 0x75 b w h (tr_u w (same state.Tru e c)))
    (λ e c. never_fault e) e c
onward state.Tru b next w h e c =
    Cases.cases_Tru b (λ m. m ≡ go next → Completes next w → Completes state.Tru (b ∷ w))
    (λ h e c. never_close e)
    (λ e c. never_fault e) e c
onward state.F b next w h e c =
    Cases.cases_F b (λ m. m ≡ go next → Completes next w → Completes state.F (b ∷ w))
    (λ h e c. at_byte state.F 0x61 b w h (f_a w (same state.Fa e c)))
    (λ e c. never_fault e) e c
onward state.Fa b next w h e c =
    Cases.cases_Fa b (λ m. m ≡ go next → Completes next w → Completes state.Fa (b ∷ w))
    (λ h e c. at_byte state.Fa 0x6c b w h (fa_l w (same state.Fal e c)))
    (λ e c. never_fault e) e c
onward state.Fal b next w h e c =
    Cases.cases_Fal b (λ m. m ≡ go next → Completes next w → Completes state.Fal (b ∷ w))
    (λ h e c. at_byte state.Fal 0x73 b w h (fal_s w (same state.Fals e c)))
    (λ e c. never_fault e) e c
onward state.Fals b next w h e c =
    Cases.cases_Fals b (λ m. m ≡ go next → Completes next w → Completes state.Fals (b ∷ w))
    (λ h e c. never_close e)
    (λ e c. never_fault e) e c
onward state.N b next w h e c =
    Cases.cases_N b (λ m. m ≡ go next → Completes next w → Completes state.N (b ∷ w))
    (λ h e c. at_byte state.N 0x75 b w h (n_u w (same state.Nu e c)))
    (λ e c. never_fault e) e c
onward state.Nu b next w h e c =
    Cases.cases_Nu b (λ m. m ≡ go next → Completes next w → Completes state.Nu (b ∷ w))
    (λ h e c. at_byte state.Nu 0x6c b w h (nu_l w (same state.Nul e c)))
    (λ e c. never_fault e) e c
onward state.Nul b next w h e c =
    Cases.cases_Nul b (λ m. m ≡ go next → Completes next w → Completes state.Nul (b ∷ w))
    (λ h e c. never_close e)
    (λ e c. never_fault e) e c

shut : (s : LexState) (b : ℕ) → in_token s ≡ true → move s b ≡ close → Completes s (b ∷ [])
shut state.Gap b h e = absurd cc
shut state.Str b h e =
    Cases.cases_Str b (λ m. m ≡ close → Completes state.Str (b ∷ []))
    (λ h e. at_byte state.Str 0x22 b [] h Completes.str_close)
    (λ h e. not_close e)
    (λ h e. not_close e)
    (λ h e. not_close e)
    (λ h e. not_close e)
    (λ h e. not_close e)
    (λ h e. not_close e)
    (λ h e. not_close e)
    (λ h e. not_close e)
    (λ h e. not_close e)
    (λ e. no_fault e) e
shut state.Esc b h e =
    Cases.cases_Esc b (λ m. m ≡ close → Completes state.Esc (b ∷ []))
    (λ h e. not_close e)
    (λ h e. not_close e)
    (λ e. no_fault e) e
shut state.Hex4 b h e =
    Cases.cases_Hex4 b (λ m. m ≡ close → Completes state.Hex4 (b ∷ []))
    (λ h e. not_close e)
    (λ e. no_fault e) e
shut state.Hex3 b h e =
    Cases.cases_Hex3 b (λ m. m ≡ close → Completes state.Hex3 (b ∷ []))
    (λ h e. not_close e)
    (λ e. no_fault e) e
shut state.Hex2 b h e =
    Cases.cases_Hex2 b (λ m. m ≡ close → Completes state.Hex2 (b ∷ []))
    (λ h e. not_close e)
    (λ e. no_fault e) e
shut state.Hex1 b h e =
    Cases.cases_Hex1 b (λ m. m ≡ close → Completes state.Hex1 (b ∷ []))
    (λ h e. not_close e)
    (λ e. no_fault e) e
shut state.Tail1 b h e =
    Cases.cases_Tail1 b (λ m. m ≡ close → Completes state.Tail1 (b ∷ []))
    (λ h e. not_close e)
    (λ e. no_fault e) e
shut state.Tail2 b h e =
    Cases.cases_Tail2 b (λ m. m ≡ close → Completes state.Tail2 (b ∷ []))
    (λ h e. not_close e)
    (λ e. no_fault e) e
shut state.Tail3 b h e =
    Cases.cases_Tail3 b (λ m. m ≡ close → Completes state.Tail3 (b ∷ []))
    (λ h e. not_close e)
    (λ e. no_fault e) e
shut state.AfterE0 b h e =
    Cases.cases_AfterE0 b (λ m. m ≡ close → Completes state.AfterE0 (b ∷ []))
    (λ h e. not_close e)
    (λ e. no_fault e) e
shut state.AfterEd b h e =
    Cases.cases_AfterEd b (λ m. m ≡ close → Completes state.AfterEd (b ∷ []))
    (λ h e. not_close e)
    (λ e. no_fault e) e
shut state.AfterF0 b h e =
    Cases.cases_AfterF0 b (λ m. m ≡ close → Completes state.AfterF0 (b ∷ []))
    (λ h e. not_close e)
    (λ e. no_fault e) e
shut state.AfterF4 b h e =
    Cases.cases_AfterF4 b (λ m. m ≡ close → Completes state.AfterF4 (b ∷ []))
    (λ h e. not_close e)
    (λ e. no_fault e) e
shut state.Minus b h e =
    Cases.cases_Minus b (λ m. m ≡ close → Completes state.Minus (b ∷ []))
    (λ h e. not_close e)
    (λ h e. not_close e)
    (λ e. no_fault e) e
shut state.Zero b h e =
    Cases.cases_Zero b (λ m. m ≡ close → Completes state.Zero (b ∷ []))
    (λ h e. not_close e)
    (λ h e. not_close e)
    (λ e. no_gap (class_at b) e) e
shut state.Int b h e =
    Cases.cases_Int b (λ m. m ≡ close → Completes state.Int (b ∷ []))
    (λ h e. not_close e)
    (λ h e. not_close e)
    (λ h e. not_close e)
    (λ e. no_gap (class_at b) e) e
shut state.Dot b h e =
    Cases.cases_Dot b (λ m. m ≡ close → Completes state.Dot (b ∷ []))
    (λ h e. not_close e)
    (λ e. no_fault e) e
shut state.Frac b h e =
    Cases.cases_Frac b (λ m. m ≡ close → Completes state.Frac (b ∷ []))
    (λ h e. not_close e)
    (λ h e. not_close e)
    (λ e. no_gap (class_at b) e) e
shut state.E b h e =
    Cases.cases_E b (λ m. m ≡ close → Completes state.E (b ∷ []))
    (λ h e. not_close e)
    (λ h e. not_close e)
    (λ e. no_fault e) e
shut state.ESign b h e =
    Cases.cases_ESign b (λ m. m ≡ close → Completes state.ESign (b ∷ []))
    (λ h e. not_close e)
    (λ e. no_fault e) e
shut state.Exp b h e =
    Cases.cases_Exp b (λ m. m ≡ close → Completes state.Exp (b ∷ []))
    (λ h e. not_close e)
    (λ e. no_gap (class_at b) e) e
shut state.T b h e =
    Cases.cases_T b (λ m. m ≡ close → Completes state.T (b ∷ []))
    (λ h e. not_close e)
    (λ e. no_fault e) e
shut state.Tr b h e =
    Cases.cases_Tr b (λ m. m ≡ close → Completes state.Tr (b ∷ []))
    (λ h e. not_close e)
    (λ e. no_fault e) e
shut state.Tru b h e =
    Cases.cases_Tru b (λ m. m ≡ close → Completes state.Tru (b ∷ []))
    (λ h e. at_byte state.Tru 0x65 b [] h Completes.from_tru)
    (λ e. no_fault e) e
shut state.F b h e =
    Cases.cases_F b (λ m. m ≡ close → Completes state.F (b ∷ []))
    (λ h e. not_close e)
    (λ e. no_fault e) e
shut state.Fa b h e =
    Cases.cases_Fa b (λ m. m ≡ close → Completes state.Fa (b ∷ []))
    (λ h e. not_close e)
    (λ e. no_fault e) e
shut state.Fal b h e =
    Cases.cases_Fal b (λ m. m ≡ close → Completes state.Fal (b ∷ []))
    (λ h e. not_close e)
    (λ e. no_fault e) e
shut state.Fals b h e =
    Cases.cases_Fals b (λ m. m ≡ close → Completes state.Fals (b ∷ []))
    (λ h e. at_byte state.Fals 0x65 b [] h Completes.from_fals)
    (λ e. no_fault e) e
shut state.N b h e =
    Cases.cases_N b (λ m. m ≡ close → Completes state.N (b ∷ []))
    (λ h e. not_close e)
    (λ e. no_fault e) e
shut state.Nu b h e =
    Cases.cases_Nu b (λ m. m ≡ close → Completes state.Nu (b ∷ []))
    (λ h e. not_close e)
    (λ e. no_fault e) e
shut state.Nul b h e =
    Cases.cases_Nul b (λ m. m ≡ close → Completes state.Nul (b ∷ []))
    (λ h e. at_byte state.Nul 0x6c b [] h Completes.from_nul)
    (λ e. no_fault e) e

stops : (s : LexState) → IsFinal s → in_token s ≡ true → Completes s []
stops _ final_gap h = absurd cc
stops _ final_zero h = Completes.from_zero Token.no_frac Token.no_exp
stops _ final_int h = Completes.from_int Token.no_digits Token.no_frac Token.no_exp
stops _ final_frac h = Completes.from_frac Token.no_digits Token.no_exp
stops _ final_exp h = Completes.from_exp Token.no_digits

completes_of : {s last : LexState} {w : List ℕ} → Spells s w last → IsFinal last → in_token s ≡ true → Completes s w
completes_of (here {s = s}) f h = stops s f h
completes_of (goes {s = s} {next = next} {b = b} {bs = bs} e i) f h = onward s b next bs h e (completes_of i f (go_stays s b next h e))
completes_of (shuts {s = s} {b = b} e) f h = shut s b h e

-- ---- a whole token

begun : (k : MarkKind) (x : LexState) {entry : LexState} {w : List ℕ} → begin k x ≡ begin k entry → Completes entry w → Completes x w
begun k x {entry} {w} e c = let q : Some x ≡ Some entry = ap (λ (m : Step). m.next) e in let r : x ≡ entry = cc in subst (λ s. Completes s w) (sym r) c

no_token : {A : Type 0} {k : MarkKind} {entry : LexState} → in_token entry ≡ true → structural k ≡ begin k entry → A
no_token {entry = entry} h e = let q : Some state.Gap ≡ Some entry = ap (λ (m : Step). m.next) e in let r : state.Gap ≡ entry = cc in let f = ap in_token r in absurd cc

at_first : (k : Kind) (n b : ℕ) (w : List ℕ) → b ≡ n → IsToken k (n ∷ w) → IsToken k (b ∷ w)
at_first k n b w h t = subst (λ m. IsToken k (m ∷ w)) (sym h) t

true_of : (w : List ℕ) → Completes state.T w → IsToken kind.True (0x74 ∷ w)
true_of _ Completes.from_t = refl

false_of : (w : List ℕ) → Completes state.F w → IsToken kind.False (0x66 ∷ w)
false_of _ Completes.from_f = refl

null_of : (w : List ℕ) → Completes state.N w → IsToken kind.Null (0x6e ∷ w)
null_of _ Completes.from_n = refl

first_byte : (k : Kind) (b : ℕ) (entry : LexState) (w : List ℕ) → in_token entry ≡ true → move state.Gap b ≡ begin (mark_of k) entry → Completes entry w → IsToken k (b ∷ w)
first_byte kind.String b entry w entered e c =
    Cases.cases_Gap b (λ m. m ≡ begin mark.String entry → Completes entry w → IsToken kind.String (b ∷ w))
    (λ h e c. let q = ap (λ (m : Step). m.begin) e in absurd cc)
    (λ h e c. at_first kind.String 0x22 b w h (Completes.string_of (begun mark.String state.Str e c)))
    (λ h e c. let q = ap (λ (m : Step). m.begin) e in absurd cc)
    (λ h e c. let q = ap (λ (m : Step). m.begin) e in absurd cc)
    (λ h e c. let q = ap (λ (m : Step). m.begin) e in absurd cc)
    (λ h e c. let q = ap (λ (m : Step). m.begin) e in absurd cc)
    (λ h e c. let q = ap (λ (m : Step). m.begin) e in absurd cc)
    (λ h e c. let q = ap (λ (m : Step). m.begin) e in absurd cc)
    (λ h e c. let q = ap (λ (m : Step). m.begin) e in absurd cc)
    (λ h e c. let q = ap (λ (m : Step). m.begin) e in absurd cc)
    (λ h e c. let q = ap (λ (m : Step). m.begin) e in absurd cc)
    (λ h e c. let q = ap (λ (m : Step). m.begin) e in absurd cc)
    (λ h e c. let q = ap (λ (m : Step). m.begin) e in absurd cc)
    (λ h e c. let q = ap (λ (m : Step). m.begin) e in absurd cc)
    (λ e c. let q = ap (λ (m : Step). m.begin) e in absurd cc) e c
first_byte kind.Number b entry w entered e c =
    Cases.cases_Gap b (λ m. m ≡ begin mark.Number entry → Completes entry w → IsToken kind.Number (b ∷ w))
    (λ h e c. let q = ap (λ (m : Step). m.begin) e in absurd cc)
    (λ h e c. let q = ap (λ (m : Step). m.begin) e in absurd cc)
    (λ h e c. at_first kind.Number 0x2d b w h (Completes.number_minus (begun mark.Number state.Minus e c)))
    (λ h e c. at_first kind.Number 0x30 b w h (Completes.number_zero (begun mark.Number state.Zero e c)))
    (λ h e c. Completes.number_digit h (begun mark.Number state.Int e c))
    (λ h e c. let q = ap (λ (m : Step). m.begin) e in absurd cc)
    (λ h e c. let q = ap (λ (m : Step). m.begin) e in absurd cc)
    (λ h e c. let q = ap (λ (m : Step). m.begin) e in absurd cc)
    (λ h e c. let q = ap (λ (m : Step). m.begin) e in absurd cc)
    (λ h e c. let q = ap (λ (m : Step). m.begin) e in absurd cc)
    (λ h e c. let q = ap (λ (m : Step). m.begin) e in absurd cc)
    (λ h e c. let q = ap (λ (m : Step). m.begin) e in absurd cc)
    (λ h e c. let q = ap (λ (m : Step). m.begin) e in absurd cc)
    (λ h e c. let q = ap (λ (m : Step). m.begin) e in absurd cc)
    (λ e c. let q = ap (λ (m : Step). m.begin) e in absurd cc) e c
first_byte kind.True b entry w entered e c =
    Cases.cases_Gap b (λ m. m ≡ begin mark.True entry → Completes entry w → IsToken kind.True (b ∷ w))
    (λ h e c. let q = ap (λ (m : Step). m.begin) e in absurd cc)
    (λ h e c. let q = ap (λ (m : Step). m.begin) e in absurd cc)
    (λ h e c. let q = ap (λ (m : Step). m.begin) e in absurd cc)
    (λ h e c. let q = ap (λ (m : Step). m.begin) e in absurd cc)
    (λ h e c. let q = ap (λ (m : Step). m.begin) e in absurd cc)
    (λ h e c. at_first kind.True 0x74 b w h (true_of _ (begun mark.True state.T e c)))
    (λ h e c. let q = ap (λ (m : Step). m.begin) e in absurd cc)
    (λ h e c. let q = ap (λ (m : Step). m.begin) e in absurd cc)
    (λ h e c. let q = ap (λ (m : Step). m.begin) e in absurd cc)
    (λ h e c. let q = ap (λ (m : Step). m.begin) e in absurd cc)
    (λ h e c. let q = ap (λ (m : Step). m.begin) e in absurd cc)
    (λ h e c. let q = ap (λ (m : Step). m.begin) e in absurd cc)
    (λ h e c. let q = ap (λ (m : Step). m.begin) e in absurd cc)
    (λ h e c. let q = ap (λ (m : Step). m.begin) e in absurd cc)
    (λ e c. let q = ap (λ (m : Step). m.begin) e in absurd cc) e c
first_byte kind.False b entry w entered e c =
    Cases.cases_Gap b (λ m. m ≡ begin mark.False entry → Completes entry w → IsToken kind.False (b ∷ w))
    (λ h e c. let q = ap (λ (m : Step). m.begin) e in absurd cc)
    (λ h e c. let q = ap (λ (m : Step). m.begin) e in absurd cc)
    (λ h e c. let q = ap (λ (m : Step). m.begin) e in absurd cc)
    (λ h e c. let q = ap (λ (m : Step). m.begin) e in absurd cc)
    (λ h e c. let q = ap (λ (m : Step). m.begin) e in absurd cc)
    (λ h e c. let q = ap (λ (m : Step). m.begin) e in absurd cc)
    (λ h e c. at_first kind.False 0x66 b w h (false_of _ (begun mark.False state.F e c)))
    (λ h e c. let q = ap (λ (m : Step). m.begin) e in absurd cc)
    (λ h e c. let q = ap (λ (m : Step). m.begin) e in absurd cc)
    (λ h e c. let q = ap (λ (m : Step). m.begin) e in absurd cc)
    (λ h e c. let q = ap (λ (m : Step). m.begin) e in absurd cc)
    (λ h e c. let q = ap (λ (m : Step). m.begin) e in absurd cc)
    (λ h e c. let q = ap (λ (m : Step). m.begin) e in absurd cc)
    (λ h e c. let q = ap (λ (m : Step). m.begin) e in absurd cc)
    (λ e c. let q = ap (λ (m : Step). m.begin) e in absurd cc) e c
first_byte kind.Null b entry w entered e c =
    Cases.cases_Gap b (λ m. m ≡ begin mark.Null entry → Completes entry w → IsToken kind.Null (b ∷ w))
    (λ h e c. let q = ap (λ (m : Step). m.begin) e in absurd cc)
    (λ h e c. let q = ap (λ (m : Step). m.begin) e in absurd cc)
    (λ h e c. let q = ap (λ (m : Step). m.begin) e in absurd cc)
    (λ h e c. let q = ap (λ (m : Step). m.begin) e in absurd cc)
    (λ h e c. let q = ap (λ (m : Step). m.begin) e in absurd cc)
    (λ h e c. let q = ap (λ (m : Step). m.begin) e in absurd cc)
    (λ h e c. let q = ap (λ (m : Step). m.begin) e in absurd cc)
    (λ h e c. at_first kind.Null 0x6e b w h (null_of _ (begun mark.Null state.N e c)))
    (λ h e c. let q = ap (λ (m : Step). m.begin) e in absurd cc)
    (λ h e c. let q = ap (λ (m : Step). m.begin) e in absurd cc)
    (λ h e c. let q = ap (λ (m : Step). m.begin) e in absurd cc)
    (λ h e c. let q = ap (λ (m : Step). m.begin) e in absurd cc)
    (λ h e c. let q = ap (λ (m : Step). m.begin) e in absurd cc)
    (λ h e c. let q = ap (λ (m : Step). m.begin) e in absurd cc)
    (λ e c. let q = ap (λ (m : Step). m.begin) e in absurd cc) e c
first_byte kind.Object b entry w entered e c =
    Cases.cases_Gap b (λ m. m ≡ begin mark.OpenObject entry → Completes entry w → IsToken kind.Object (b ∷ w))
    (λ h e c. let q = ap (λ (m : Step). m.begin) e in absurd cc)
    (λ h e c. let q = ap (λ (m : Step). m.begin) e in absurd cc)
    (λ h e c. let q = ap (λ (m : Step). m.begin) e in absurd cc)
    (λ h e c. let q = ap (λ (m : Step). m.begin) e in absurd cc)
    (λ h e c. let q = ap (λ (m : Step). m.begin) e in absurd cc)
    (λ h e c. let q = ap (λ (m : Step). m.begin) e in absurd cc)
    (λ h e c. let q = ap (λ (m : Step). m.begin) e in absurd cc)
    (λ h e c. let q = ap (λ (m : Step). m.begin) e in absurd cc)
    (λ h e c. let q = ap (λ (m : Step). m.begin) e in absurd cc)
    (λ h e c. let q = ap (λ (m : Step). m.begin) e in absurd cc)
    (λ h e c. no_token entered e)
    (λ h e c. let q = ap (λ (m : Step). m.begin) e in absurd cc)
    (λ h e c. let q = ap (λ (m : Step). m.begin) e in absurd cc)
    (λ h e c. let q = ap (λ (m : Step). m.begin) e in absurd cc)
    (λ e c. let q = ap (λ (m : Step). m.begin) e in absurd cc) e c
first_byte kind.Array b entry w entered e c =
    Cases.cases_Gap b (λ m. m ≡ begin mark.OpenArray entry → Completes entry w → IsToken kind.Array (b ∷ w))
    (λ h e c. let q = ap (λ (m : Step). m.begin) e in absurd cc)
    (λ h e c. let q = ap (λ (m : Step). m.begin) e in absurd cc)
    (λ h e c. let q = ap (λ (m : Step). m.begin) e in absurd cc)
    (λ h e c. let q = ap (λ (m : Step). m.begin) e in absurd cc)
    (λ h e c. let q = ap (λ (m : Step). m.begin) e in absurd cc)
    (λ h e c. let q = ap (λ (m : Step). m.begin) e in absurd cc)
    (λ h e c. let q = ap (λ (m : Step). m.begin) e in absurd cc)
    (λ h e c. let q = ap (λ (m : Step). m.begin) e in absurd cc)
    (λ h e c. no_token entered e)
    (λ h e c. let q = ap (λ (m : Step). m.begin) e in absurd cc)
    (λ h e c. let q = ap (λ (m : Step). m.begin) e in absurd cc)
    (λ h e c. let q = ap (λ (m : Step). m.begin) e in absurd cc)
    (λ h e c. let q = ap (λ (m : Step). m.begin) e in absurd cc)
    (λ h e c. let q = ap (λ (m : Step). m.begin) e in absurd cc)
    (λ e c. let q = ap (λ (m : Step). m.begin) e in absurd cc) e c

pub token_of : (k : Kind) (w : List ℕ) → IsRead (mark_of k) w → IsToken k w
token_of k w r = subst (IsToken k) (sym r.whole) (first_byte k r.first r.entry r.bytes r.entered r.begins (completes_of r.inside r.final r.entered))

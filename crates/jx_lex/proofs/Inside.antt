-- The bytes of a token take the machine from Gap through the token's states, with one mark, at the first byte.
use Rattle.std.proofs.Common.{◌≡◌, ◌≢◌, ℕ, ◌≤◌, true, List, [], ◌∷◌, ◌++◌, refl, arith}
use Rattle.jx_lex.specs.declared.alphabet.class.Class.TheVariants as class
use Rattle.jx_lex.specs.declared.kind.Kind.{Kind}
use Rattle.jx_lex.specs.declared.kind.Kind.TheVariants as kind
use Rattle.jx_lex.specs.declared.alphabet.state.LexState.{LexState}
use Rattle.jx_lex.specs.declared.alphabet.state.LexState.TheVariants as state
use Rattle.jx_lex.specs.declared.alphabet.mark.MarkKind.TheVariants as mark
use Rattle.jx_lex.specs.Character.{IsTail, Utf8, one, two, three_e0, three_low, three_ed, three_high, four_f0, four_mid, four_f4}
use Rattle.jx_lex.specs.Classes.{class_at}
use Rattle.jx_lex.specs.Moves.{move, row, go, begin}
use Rattle.jx_lex.specs.Token
use Rattle.jx_lex.specs.Token.{Digits, no_digits, digit, unsigned, minus, zero_alone, leading, IsFrac, no_frac, frac, IsSign, no_sign, plus, minus_sign, IsExp, no_exp, exp, IsNumber, number, IsEscaped, IsChar, character, escape, unit, Chars, no_chars, one_char, IsString, quoted, IsToken}
use Rattle.jx_lex.specs.TokenStates.{in_token, Spells, here, goes, shuts, IsFinal, final_gap, final_zero, final_int, final_frac, final_exp, mark_of, IsRead}
use Rattle.jx_lex.proofs.Forward.{move-range, move-digit, move-e, move-hex, move-tail, Str-ordinary}

pub Spells-append : {s m last : LexState} {u v : List ℕ} → in_token m ≡ true → Spells s u m → Spells m v last → Spells s (u ++ v) last
Spells-append k here j = j
Spells-append k (goes e i) j = goes e (Spells-append k i j)
Spells-append k (shuts e) j = absurd cc

-- ---- numbers

digits : (s : LexState) → row s class.Zero ≡ go s → row s class.Digit ≡ go s → {ds : List ℕ} → Digits ds → Spells s ds s
digits s z d no_digits = here
digits s z d (digit h ds) = goes (move-digit s s z d h) (digits s z d ds)

record Ends (s : LexState) (w : List ℕ) : Type 0 where
  last : LexState
  inside : Spells s w last
  final : IsFinal last

-- after int, and after int and frac
data AfterInt : LexState → Type 0 where
  at_zero : AfterInt state.Zero
  at_int : AfterInt state.Int

exp_part : (s : LexState) → IsFinal s → row s class.LowE ≡ go state.E → row s class.UpE ≡ go state.E → {x : List ℕ} → IsExp x → Ends s x
unfolding class_at
exp_part s f l u no_exp = record { last = s; inside = here; final = f }
exp_part s f l u (exp {e = e} {b = b} {bs = bs} he sign h ds) = record { last = state.Exp; inside = goes (move-e s state.E l u e he) (signed sign); final = final_exp }
  where
    signed : {v : List ℕ} → IsSign v → Spells state.E (v ++ (b ∷ bs)) state.Exp
    signed no_sign = goes (move-digit state.E state.Exp refl refl h) (digits state.Exp refl refl ds)
    signed plus = goes {next = state.ESign} refl (goes (move-digit state.ESign state.Exp refl refl h) (digits state.Exp refl refl ds))
    signed minus_sign = goes {next = state.ESign} refl (goes (move-digit state.ESign state.Exp refl refl h) (digits state.Exp refl refl ds))

frac_part : {s : LexState} → AfterInt s → {f x : List ℕ} → IsFrac f → IsExp x → Ends s (f ++ x)
unfolding class_at
frac_part at_zero no_frac x = exp_part state.Zero final_zero refl refl x
frac_part at_int no_frac x = exp_part state.Int final_int refl refl x
frac_part at_zero (frac h ds) x =
    let e = exp_part state.Frac final_frac refl refl x in
    record { last = e.last; final = e.final; inside = goes {next = state.Dot} refl (goes (move-digit state.Dot state.Frac refl refl h) (Spells-append refl (digits state.Frac refl refl ds) e.inside)) }
frac_part at_int (frac h ds) x =
    let e = exp_part state.Frac final_frac refl refl x in
    record { last = e.last; final = e.final; inside = goes {next = state.Dot} refl (goes (move-digit state.Dot state.Frac refl refl h) (Spells-append refl (digits state.Frac refl refl ds) e.inside)) }

pub number_reads : {w : List ℕ} → IsNumber w → IsRead mark.Number w
unfolding class_at
number_reads (number unsigned zero_alone f x) =
    let e = frac_part at_zero f x in
    record { first = 0x30; bytes = _; entry = state.Zero; last = e.last; whole = refl; begins = refl; inside = e.inside; final = e.final; entered = refl }
number_reads (number unsigned (leading h ds) f x) =
    let e = frac_part at_int f x in
    record {
      first = _;
      bytes = _;
      entry = state.Int;
      last = e.last;
      whole = refl;
      begins = move-range 0x31 0x39 (class.Digit ∷ []) refl (omega arith) state.Gap (begin mark.Number state.Int) (refl, tt) h;
      inside = Spells-append refl (digits state.Int refl refl ds) e.inside;
      final = e.final;
      entered = refl;
    }
number_reads (number minus zero_alone f x) =
    let e = frac_part at_zero f x in
    record { first = 0x2d; bytes = _; entry = state.Minus; last = e.last; whole = refl; begins = refl; inside = goes {next = state.Zero} refl e.inside; final = e.final; entered = refl }
number_reads (number minus (leading h ds) f x) =
    let e = frac_part at_int f x in
    record {
      first = 0x2d;
      bytes = _;
      entry = state.Minus;
      last = e.last;
      whole = refl;
      begins = refl;
      inside = goes {next = state.Int} (move-range 0x31 0x39 (class.Digit ∷ []) refl (omega arith) state.Minus (go state.Int) (refl, tt) h) (Spells-append refl (digits state.Int refl refl ds) e.inside);
      final = e.final;
      entered = refl;
    }

-- ---- strings

tails1 : {b : ℕ} → IsTail b → Spells state.Tail1 (b ∷ []) state.Str
tails1 h = goes (move-tail state.Tail1 state.Str (refl, (refl, (refl, tt))) h) here

tails2 : {b c : ℕ} → IsTail b → IsTail c → Spells state.Tail2 (b ∷ c ∷ []) state.Str
tails2 h k = goes (move-tail state.Tail2 state.Tail1 (refl, (refl, (refl, tt))) h) (tails1 k)

tails3 : {b c d : ℕ} → IsTail b → IsTail c → IsTail d → Spells state.Tail3 (b ∷ c ∷ d ∷ []) state.Str
tails3 h k l = goes (move-tail state.Tail3 state.Tail2 (refl, (refl, (refl, tt))) h) (tails2 k l)

pub char_inside : {w : List ℕ} {c : ℕ} → Utf8 w c → 0x20 ≤ c → c ≢ 0x22 → c ≢ 0x5c → Spells state.Str w state.Str
unfolding class_at
char_inside (one le) from q k = goes (Str-ordinary _ (record { from = from; to = le; no_quote = q; no_backslash = k })) here
char_inside (two h t) from q k = goes (move-range 0xc2 0xdf (class.Lead2 ∷ []) refl (omega arith) state.Str (go state.Tail1) (refl, tt) h) (tails1 t)
char_inside (three_e0 h t) from q k = goes {next = state.AfterE0} refl (goes (move-range 0xa0 0xbf (class.TailC ∷ []) refl (omega arith) state.AfterE0 (go state.Tail1) (refl, tt) h) (tails1 t))
char_inside (three_low h t u) from q k = goes (move-range 0xe1 0xec (class.Lead3 ∷ []) refl (omega arith) state.Str (go state.Tail2) (refl, tt) h) (tails2 t u)
char_inside (three_ed h t) from q k = goes {next = state.AfterEd} refl (goes (move-range 0x80 0x9f (class.TailA ∷ class.TailB ∷ []) refl (omega arith) state.AfterEd (go state.Tail1) (refl, (refl, tt)) h) (tails1 t))
char_inside (three_high h t u) from q k = goes (move-range 0xee 0xef (class.Lead3 ∷ []) refl (omega arith) state.Str (go state.Tail2) (refl, tt) h) (tails2 t u)
char_inside (four_f0 h t u) from q k = goes {next = state.AfterF0} refl (goes (move-range 0x90 0xbf (class.TailB ∷ class.TailC ∷ []) refl (omega arith) state.AfterF0 (go state.Tail2) (refl, (refl, tt)) h) (tails2 t u))
char_inside (four_mid h t u v) from q k = goes (move-range 0xf1 0xf3 (class.Lead4 ∷ []) refl (omega arith) state.Str (go state.Tail3) (refl, tt) h) (tails3 t u v)
char_inside (four_f4 h t u) from q k = goes {next = state.AfterF4} refl (goes (move-range 0x80 0x8f (class.TailA ∷ []) refl (omega arith) state.AfterF4 (go state.Tail2) (refl, tt) h) (tails2 t u))

pub escaped : {b : ℕ} → IsEscaped b → move state.Esc b ≡ go state.Str
unfolding class_at
escaped Token.quotation_mark = refl
escaped Token.backslash = refl
escaped Token.slash = refl
escaped Token.backspace = refl
escaped Token.form_feed = refl
escaped Token.new_line = refl
escaped Token.return = refl
escaped Token.tabulator = refl

pub string_char_inside : {w us : List ℕ} → IsChar w us → Spells state.Str w state.Str
unfolding class_at
string_char_inside (character u from q k) = char_inside u from q k
string_char_inside (escape h) = goes {next = state.Esc} refl (goes (escaped h) here)
string_char_inside (unit a b c d) =
    goes {next = state.Esc} refl (goes {next = state.Hex4} refl
    (goes (move-hex state.Hex4 state.Hex3 (refl, (refl, tt)) (refl, (refl, tt)) (refl, (refl, (refl, (refl, (refl, tt))))) a)
    (goes (move-hex state.Hex3 state.Hex2 (refl, (refl, tt)) (refl, (refl, tt)) (refl, (refl, (refl, (refl, (refl, tt))))) b)
    (goes (move-hex state.Hex2 state.Hex1 (refl, (refl, tt)) (refl, (refl, tt)) (refl, (refl, (refl, (refl, (refl, tt))))) c)
    (goes (move-hex state.Hex1 state.Str (refl, (refl, tt)) (refl, (refl, tt)) (refl, (refl, (refl, (refl, (refl, tt))))) d) here)))))

pub chars_inside : {w us : List ℕ} → Chars w us → Spells state.Str w state.Str
chars_inside no_chars = here
chars_inside (one_char p ps) = Spells-append refl (string_char_inside p) (chars_inside ps)

pub string_reads : {w us : List ℕ} → IsString w us → IsRead mark.String w
unfolding class_at
string_reads (quoted ps) =
    record {
      first = 0x22;
      bytes = _;
      entry = state.Str;
      last = state.Gap;
      whole = refl;
      begins = refl;
      inside = Spells-append refl (chars_inside ps) (shuts refl);
      final = final_gap;
      entered = refl;
    }

-- ---- all tokens

pub token_reads : (k : Kind) (w : List ℕ) → IsToken k w → IsRead (mark_of k) w
unfolding class_at
token_reads kind.Object w h = absurd h
token_reads kind.Array w h = absurd h
token_reads kind.String w h = string_reads h.1
token_reads kind.Number w h = number_reads h
token_reads kind.True w h =
    record {
      first = 0x74;
      bytes = 0x72 ∷ 0x75 ∷ 0x65 ∷ [];
      entry = state.T;
      last = state.Gap;
      whole = h;
      begins = refl;
      inside = goes {next = state.Tr} refl (goes {next = state.Tru} refl (shuts refl));
      final = final_gap;
      entered = refl;
    }
token_reads kind.False w h =
    record {
      first = 0x66;
      bytes = 0x61 ∷ 0x6c ∷ 0x73 ∷ 0x65 ∷ [];
      entry = state.F;
      last = state.Gap;
      whole = h;
      begins = refl;
      inside = goes {next = state.Fa} refl (goes {next = state.Fal} refl (goes {next = state.Fals} refl (shuts refl)));
      final = final_gap;
      entered = refl;
    }
token_reads kind.Null w h =
    record {
      first = 0x6e;
      bytes = 0x75 ∷ 0x6c ∷ 0x6c ∷ [];
      entry = state.N;
      last = state.Gap;
      whole = h;
      begins = refl;
      inside = goes {next = state.Nu} refl (goes {next = state.Nul} refl (shuts refl));
      final = final_gap;
      entered = refl;
    }

-- The last byte of a text, by its first one.
use Rattle.std.proofs.Common.{◌≡◌, ℕ, ◌≤◌, List, [], ◌∷◌, ◌++◌, Bool, true, false, append_assoc, append-nil, refl, sym, ap, ◌∙◌, inl, inr, ◌⊎◌, arith}
use Rattle.std.specs.Prelude.{◌&&◌, ◌||◌, not}
use Rattle.std.proofs.lemmas.List.Folds.{list_all-append}
use Rattle.jx_lex.specs.declared.kind.Kind.{Kind}
use Rattle.jx_lex.specs.declared.kind.Kind.TheVariants as kind
use Rattle.jx_lex.specs.Character.{IsWithin}
use Rattle.jx_lex.specs.Token.{IsBlank, space, tab, line_feed, carriage_return, IsDigit, Digits, no_digits, digit, IsMinus, unsigned, minus, IsInt, zero_alone, leading, IsFrac, no_frac, frac, IsSign, no_sign, plus, minus_sign, IsE, IsExp, no_exp, exp, IsNumber, number, IsString, quoted, IsToken}
use Rattle.jx_lex.specs.Uneventful.{is_blank}
use Rattle.jx_run.specs.Grammar.{Blanks, no_blanks, blank, Value, leaf, empty_array, array, empty_object, object}
use Rattle.jx_run.specs.Text.{Document, document, IsDocument}
use Rattle.jx_run.specs.Tree.{Tree}
use Rattle.jx_run.proofs.Spans.{blanks_stretch, items_stretch, members_stretch}
use Rattle.jx_texts.specs.Reading.{closing, have_no_border}
use Rattle.jx_texts.specs.Texts.{IsBare, is_border, opens}
use Rattle.jx_texts.proofs.Lists.{clash}

blank_is : {b : ℕ} → IsBlank b → is_blank b ≡ true
blank_is space = refl
blank_is tab = refl
blank_is line_feed = refl
blank_is carriage_return = refl

-- white space is nothing, or ends in a blank
record EndsBlank (t : List ℕ) : Type 0 where
  rest : List ℕ
  last : ℕ
  whole : t ≡ rest ++ last ∷ []
  is : is_blank last ≡ true

blanks_end : {i j : ℕ} {t : List ℕ} → Blanks i t j [] → (t ≡ []) ⊎ EndsBlank t
blanks_end no_blanks = inl refl
blanks_end (blank {b = b} {bytes = t} h bs) = pick (blanks_end bs)
  where
    pick : (t ≡ []) ⊎ EndsBlank t → (b ∷ t ≡ []) ⊎ EndsBlank (b ∷ t)
    pick (inl e) = inr (record { rest = []; last = b; whole = ap (λ (xs : List ℕ). b ∷ xs) e; is = blank_is h })
    pick (inr e) = inr (record { rest = b ∷ e.rest; last = e.last; whole = ap (λ (xs : List ℕ). b ∷ xs) e.whole; is = e.is })

-- none stands behind a bare text
no_blanks_behind : {i j : ℕ} (text front : List ℕ) {t : List ℕ} → IsBare text → text ≡ front ++ t → Blanks i t j [] → t ≡ []
no_blanks_behind text front {t = t} bare e bs = pick (blanks_end bs)
  where
    pick : (t ≡ []) ⊎ EndsBlank t → t ≡ []
    pick (inl h) = h
    pick (inr h) = clash h.is (bare.behind (front ++ h.rest) h.last (e ∙ ap (λ (xs : List ℕ). front ++ xs) h.whole ∙ sym (append_assoc front h.rest (h.last ∷ []))))

-- ---- what ends by a byte of its own

record EndsSo (b : ℕ) (w : List ℕ) : Type 0 where
  opens_it : opens b ≡ true
  front : List ℕ
  whole : w ≡ front ++ closing b ∷ []

-- a container's bytes after the first one
container_end : (b close : ℕ) (w front t : List ℕ) {i j : ℕ} → opens b ≡ true → closing b ≡ close → IsBare (b ∷ w) → w ≡ front ++ (close ∷ t) → Blanks i t j [] → EndsSo b w
container_end b close w front t o is bare e bs =
    let before : b ∷ w ≡ (b ∷ (front ++ close ∷ [])) ++ t = ap (λ (xs : List ℕ). b ∷ xs) (e ∙ sym (append_assoc front (close ∷ []) t)) in
    let none : t ≡ [] = no_blanks_behind (b ∷ w) (b ∷ (front ++ close ∷ [])) bare before bs in
    record { opens_it = o; front = front; whole = e ∙ ap (λ (xs : List ℕ). front ++ (close ∷ xs)) none ∙ ap (λ (c : ℕ). front ++ c ∷ []) (sym is) }

string_end : (b : ℕ) (w token rest : List ℕ) {us : List ℕ} {i j : ℕ} → IsBare (b ∷ w) → b ∷ w ≡ token ++ rest → IsString token us → Blanks i rest j [] → EndsSo b w
string_end b w _ rest bare e (quoted {w = chars} cs) bs =
    let none : rest ≡ [] = no_blanks_behind (b ∷ w) (0x22 ∷ (chars ++ 0x22 ∷ [])) bare e bs in
    let head : b ≡ 0x22 = cc in
    let tail : w ≡ (chars ++ 0x22 ∷ []) ++ rest = cc in
    let is : closing b ≡ 0x22 = ap closing head in
    record {
      opens_it = ap opens head;
      front = chars;
      whole = tail ∙ ap (λ (xs : List ℕ). (chars ++ 0x22 ∷ []) ++ xs) none ∙ append-nil (chars ++ 0x22 ∷ []) ∙ ap (λ (c : ℕ). chars ++ c ∷ []) (sym is);
    }

-- ---- numbers

within_no_border : (b : ℕ) → 0x2b ≤ b → b ≤ 0x39 → is_border b ≡ false
within_no_border b p q = grind arith

digit_no_border : {b : ℕ} → IsDigit b → is_border b ≡ false
digit_no_border {b = b} d = let p = d.from in let q = d.to in within_no_border b (omega (arith, p)) q

leading_no_border : {b : ℕ} → IsWithin 0x31 0x39 b → is_border b ≡ false
leading_no_border {b = b} d = let p = d.from in let q = d.to in within_no_border b (omega (arith, p)) q

and_false : (b : ℕ) (w : List ℕ) → is_border b ≡ false → have_no_border w ≡ true → have_no_border (b ∷ w) ≡ true
and_false b w h t = ap (λ (x : Bool). not x && have_no_border w) h ∙ t

digits_none : {w : List ℕ} → Digits w → have_no_border w ≡ true
digits_none no_digits = refl
digits_none (digit {b = b} {bs = bs} d ds) = and_false b bs (digit_no_border d) (digits_none ds)

minus_none : {w : List ℕ} → IsMinus w → have_no_border w ≡ true
minus_none unsigned = refl
minus_none minus = refl

int_none : {w : List ℕ} → IsInt w → have_no_border w ≡ true
int_none zero_alone = refl
int_none (leading {b = b} {bs = bs} d ds) = and_false b bs (leading_no_border d) (digits_none ds)

frac_none : {w : List ℕ} → IsFrac w → have_no_border w ≡ true
frac_none no_frac = refl
frac_none (frac {b = b} {bs = bs} d ds) = and_false b bs (digit_no_border d) (digits_none ds)

sign_none : {w : List ℕ} → IsSign w → have_no_border w ≡ true
sign_none no_sign = refl
sign_none plus = refl
sign_none minus_sign = refl

e_none : {b : ℕ} → IsE b → is_border b ≡ false
e_none (inl h) = ap is_border h
e_none (inr h) = ap is_border h

both_none : (v w : List ℕ) → have_no_border v ≡ true → have_no_border w ≡ true → have_no_border (v ++ w) ≡ true
both_none v w p q = list_all-append (λ (b : ℕ). not (is_border b)) v w ∙ ap (λ (x : Bool). x && have_no_border w) p ∙ q

exp_none : {w : List ℕ} → IsExp w → have_no_border w ≡ true
exp_none no_exp = refl
exp_none (exp {e = e} {b = b} {sign = s} {bs = bs} h k d ds) =
    and_false e (s ++ (b ∷ bs)) (e_none h) (both_none s (b ∷ bs) (sign_none k) (and_false b bs (digit_no_border d) (digits_none ds)))

number_none : {w : List ℕ} → IsNumber w → have_no_border w ≡ true
number_none (number {minus = m} {int = i} {frac = f} {exp = e} a b c d) =
    both_none m (i ++ (f ++ e)) (minus_none a) (both_none i (f ++ e) (int_none b) (both_none f e (frac_none c) (exp_none d)))

first_none : (b : ℕ) (w : List ℕ) → have_no_border (b ∷ w) ≡ true → opens b ≡ false
first_none b w h = pick (is_blank b) (opens b) h
  where
    pick : (x y : Bool) → (not (x || y) && have_no_border w) ≡ true → y ≡ false
    pick x false e = refl
    pick true true e = absurd (cc)
    pick false true e = absurd (cc)

-- ---- texts

-- a bare text that is no string and no container has no border
record IsBareToken (b : ℕ) (w : List ℕ) : Type 0 where
  none : have_no_border (b ∷ w) ≡ true

by_token : (k : Kind) (b : ℕ) (w token rest : List ℕ) {i j : ℕ} → IsBare (b ∷ w) → b ∷ w ≡ token ++ rest → IsToken k token → Blanks i rest j [] → EndsSo b w ⊎ IsBareToken b w
by_token kind.Object b w token rest bare e t bs = absurd t
by_token kind.Array b w token rest bare e t bs = absurd t
by_token kind.String b w token rest bare e t bs = inl (string_end b w token rest bare e t.1 bs)
by_token kind.Number b w token rest bare e t bs = inr (record { none = ap have_no_border (e ∙ ap (λ (xs : List ℕ). token ++ xs) (no_blanks_behind (b ∷ w) token bare e bs) ∙ append-nil token) ∙ number_none t })
by_token kind.True b w token rest bare e t bs = inr (record { none = ap have_no_border (e ∙ ap (λ (xs : List ℕ). token ++ xs) (no_blanks_behind (b ∷ w) token bare e bs) ∙ append-nil token ∙ t) })
by_token kind.False b w token rest bare e t bs = inr (record { none = ap have_no_border (e ∙ ap (λ (xs : List ℕ). token ++ xs) (no_blanks_behind (b ∷ w) token bare e bs) ∙ append-nil token ∙ t) })
by_token kind.Null b w token rest bare e t bs = inr (record { none = ap have_no_border (e ∙ ap (λ (xs : List ℕ). token ++ xs) (no_blanks_behind (b ∷ w) token bare e bs) ∙ append-nil token ∙ t) })

by_value : (i : ℕ) (b : ℕ) (w : List ℕ) {k l : ℕ} {t : List ℕ} {tree : Tree} → IsBare (b ∷ w) → Value i (b ∷ w) k t tree → Blanks k t l [] → EndsSo b w ⊎ IsBareToken b w
by_value i b w {t = t} bare (leaf {kind = k} s) bs = by_token k b w s.token t bare s.whole s.is_token bs
by_value i _ w {t = t} bare (empty_array cs) bs = let s = blanks_stretch cs in inl (container_end 0x5b 0x5d w s.bytes t refl refl bare s.whole bs)
by_value i _ w {t = t} bare (array xs) bs = let s = items_stretch xs in inl (container_end 0x5b 0x5d w s.bytes t refl refl bare s.whole bs)
by_value i _ w {t = t} bare (empty_object cs) bs = let s = blanks_stretch cs in inl (container_end 0x7b 0x7d w s.bytes t refl refl bare s.whole bs)
by_value i _ w {t = t} bare (object xs) bs = let s = members_stretch xs in inl (container_end 0x7b 0x7d w s.bytes t refl refl bare s.whole bs)

by_document : (at b : ℕ) (w : List ℕ) {tree : Tree} → IsBare (b ∷ w) → Document at (b ∷ w) tree → EndsSo b w ⊎ IsBareToken b w
by_document at b w bare (document no_blanks v bs) = by_value at b w bare v bs
by_document at b w bare (document (blank h cs) v bs) = clash (blank_is h) (bare.front b w refl)

-- what [, { or " begins ends by its closing byte
pub closed_end : (at limit b : ℕ) (w : List ℕ) (tree : Tree) → opens b ≡ true → IsBare (b ∷ w) → IsDocument at (b ∷ w) limit tree → (v : List ℕ) × (w ≡ v ++ closing b ∷ [])
closed_end at limit b w tree o bare d = pick (by_document at b w bare d.reads)
  where
    pick : EndsSo b w ⊎ IsBareToken b w → (v : List ℕ) × (w ≡ v ++ closing b ∷ [])
    pick (inl e) = (e.front, e.whole)
    pick (inr t) = clash o (first_none b w t.none)

-- other texts have no border
pub bare_end : (at limit b : ℕ) (w : List ℕ) (tree : Tree) → opens b ≡ false → IsBare (b ∷ w) → IsDocument at (b ∷ w) limit tree → have_no_border (b ∷ w) ≡ true
bare_end at limit b w tree o bare d = pick (by_document at b w bare d.reads)
  where
    pick : EndsSo b w ⊎ IsBareToken b w → have_no_border (b ∷ w) ≡ true
    pick (inl e) = clash e.opens_it o
    pick (inr t) = t.none

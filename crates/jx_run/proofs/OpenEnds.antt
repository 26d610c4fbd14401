-- The last byte of a text shows whether its end shows only in what follows.
use Rattle.std.proofs.Common.{◌≡◌, ℕ, ◌+◌, ◌<◌, List, [], ◌∷◌, ◌++◌, length, Bool, true, false, refl, sym, ap, subst, ◌∙◌, append-nil, arith}
use Rattle.std.proofs.lemmas.Bool.Decides.{nat_tests}
use Rattle.jx_lex.specs.declared.kind.Kind.{Kind}
use Rattle.jx_lex.specs.declared.kind.Kind.TheVariants.{Object, Array, String, Number, True, False, Null}
use Rattle.jx_lex.specs.Character.{IsWithin}
use Rattle.jx_lex.specs.Token.{IsBlank, space, tab, line_feed, carriage_return, IsDigit, Digits, no_digits, digit, IsInt, zero_alone, leading, IsFrac, no_frac, frac, IsExp, no_exp, exp, IsNumber, number, IsString, quoted, IsToken}
use Rattle.jx_run.specs.Elements.{Part}
use Rattle.jx_run.specs.Grammar.{Blanks, no_blanks, blank, Value, leaf, empty_array, array, empty_object, object}
use Rattle.jx_run.specs.Text.{Document, document, IsDocument}
use Rattle.jx_run.specs.Tree.{Tree, node, Children, no_children, span}
use Rattle.jx_run.specs.Unclosed.{is_unclosed, EndsUnclosed, end_of, is_open, last_open, ends_open}
use Rattle.jx_run.proofs.Spans.{then_stretch, blanks_stretch, value_stretch, items_stretch, members_stretch}

-- ---- lists

pub last_open-append : (o : Bool) (xs ys : List ℕ) → last_open o (xs ++ ys) ≡ last_open (last_open o xs) ys
last_open-append o [] ys = refl
last_open-append o (x ∷ xs) ys = last_open-append (is_open x) xs ys

-- ---- tokens

digit_open : (b : ℕ) → IsDigit b → is_open b ≡ true
digit_open b h = grind (arith, nat_tests)

digits_open : {bs : List ℕ} → Digits bs → last_open true bs ≡ true
digits_open no_digits = refl
digits_open (digit {b = b} {bs = bs} d more) = ap (λ o. last_open o bs) (digit_open b d) ∙ digits_open more

lead_open : (b : ℕ) → IsWithin 0x31 0x39 b → is_open b ≡ true
lead_open b h = grind (arith, nat_tests)

int_open : (o : Bool) {w : List ℕ} → IsInt w → last_open o w ≡ true
int_open o zero_alone = refl
int_open o (leading {b = b} {bs = bs} h more) = ap (λ x. last_open x bs) (lead_open b h) ∙ digits_open more

frac_open : {w : List ℕ} → IsFrac w → last_open true w ≡ true
frac_open no_frac = refl
frac_open (frac {b = b} {bs = bs} d more) = ap (λ x. last_open x bs) (digit_open b d) ∙ digits_open more

exp_open : {w : List ℕ} → IsExp w → last_open true w ≡ true
exp_open no_exp = refl
exp_open (exp {e = e} {b = b} {sign = sign} {bs = bs} h s d more) =
    last_open-append (is_open e) sign (b ∷ bs) ∙ ap (λ x. last_open x bs) (digit_open b d) ∙ digits_open more

number_open : (o : Bool) {w : List ℕ} → IsNumber w → last_open o w ≡ true
number_open o (number {minus = m} {int = i} {frac = f} {exp = x} hm hi hf hx) =
    last_open-append o m (i ++ (f ++ x))
    ∙ last_open-append (last_open o m) i (f ++ x)
    ∙ ap (λ b. last_open b (f ++ x)) (int_open (last_open o m) hi)
    ∙ last_open-append true f x
    ∙ ap (λ b. last_open b x) (frac_open hf)
    ∙ exp_open hx

string_open : (o : Bool) {w us : List ℕ} → IsString w us → last_open o w ≡ false
string_open o (quoted {w = w} parts) = last_open-append (is_open 0x22) w (0x22 ∷ [])

token_open : (kind : Kind) (o : Bool) (w : List ℕ) → IsToken kind w → last_open o w ≡ is_unclosed kind
token_open Object o w h = absurd h
token_open Array o w h = absurd h
token_open String o w h = string_open o h.1
token_open Number o w h = number_open o h
token_open True o w h = ap (last_open o) h
token_open False o w h = ap (last_open o) h
token_open Null o w h = ap (last_open o) h

-- ---- values

abbrev kind_open : Tree → Bool
kind_open (node kind _ _) = is_unclosed kind

-- behind a byte that closes
closed_behind : (o : Bool) (t p u : List ℕ) (b : ℕ) → is_open b ≡ false → t ≡ p ++ b ∷ u → last_open o t ≡ last_open false u
closed_behind o t p u b h e = ap (last_open o) e ∙ last_open-append o p (b ∷ u) ∙ ap (λ x. last_open x u) h

value_open : (o : Bool) {i j : ℕ} {t u : List ℕ} {tree : Tree} → Value i t j u tree → last_open o t ≡ last_open (kind_open tree) u
value_open o {u = u} (leaf {kind = kind} x) =
    ap (last_open o) x.whole ∙ last_open-append o x.token u ∙ ap (λ b. last_open b u) (token_open kind o x.token x.is_token)
value_open o {u = u} (empty_array {bytes = bytes} bs) = let p = blanks_stretch bs in closed_behind (is_open 0x5b) bytes p.bytes u 0x5d refl p.whole
value_open o {u = u} (array {bytes = bytes} xs) = let p = items_stretch xs in closed_behind (is_open 0x5b) bytes p.bytes u 0x5d refl p.whole
value_open o {u = u} (empty_object {bytes = bytes} bs) = let p = blanks_stretch bs in closed_behind (is_open 0x7b) bytes p.bytes u 0x7d refl p.whole
value_open o {u = u} (object {bytes = bytes} xs) = let p = members_stretch xs in closed_behind (is_open 0x7b) bytes p.bytes u 0x7d refl p.whole

-- ---- blanks behind the value

blank_closed : {b : ℕ} → IsBlank b → is_open b ≡ false
blank_closed space = refl
blank_closed tab = refl
blank_closed line_feed = refl
blank_closed carriage_return = refl

blanks_closed : {i j : ℕ} {t u : List ℕ} → Blanks i t j u → u ≡ [] → last_open false t ≡ false
blanks_closed no_blanks e = ap (last_open false) e
blanks_closed (blank {bytes = bytes} h bs) e = ap (λ o. last_open o bytes) (blank_closed h) ∙ blanks_closed bs e

-- nothing stands there, or the last byte is a blank
data Behind (o : Bool) (i j : ℕ) (t : List ℕ) : Type 0 where
  nothing : i ≡ j → last_open o t ≡ o → Behind o i j t
  blanks : i < j → last_open o t ≡ false → Behind o i j t

behind : (o : Bool) {i j : ℕ} {t u : List ℕ} → Blanks i t j u → u ≡ [] → Behind o i j t
behind o no_blanks e = nothing refl (ap (last_open o) e)
behind o (blank {b = b} {i = i} {j = j} {bytes = bytes} h bs) e =
    let p = (blanks_stretch bs).end in
    blanks (omega (arith, p)) (ap (λ x. last_open x bytes) (blank_closed h) ∙ blanks_closed bs e)

-- ---- texts

abbrev pub Shows : Tree → ℕ → Bool → Type 0
Shows tree end open_ended = (EndsUnclosed tree end → open_ended ≡ true) × (open_ended ≡ true → EndsUnclosed tree end)

not_true : {A : Type 0} → false ≡ true → A
not_true h = absurd (cc)

node_shows : (kind : Kind) (i j k : ℕ) (u : List ℕ) (below : Children) (open_ended : Bool) → Behind (is_unclosed kind) j k u → open_ended ≡ last_open (is_unclosed kind) u
    → Shows (node kind (span i j) below) k open_ended
node_shows kind i j k u below open_ended (nothing e h) is = ((λ x. is ∙ h ∙ x.0), (λ t. (sym (is ∙ h) ∙ t, e)))
node_shows kind i j k u below open_ended (blanks low h) is = ((λ x. let e = x.1 in absurd (omega (arith, e, low))), (λ t. not_true (sym (is ∙ h) ∙ t)))

value_shows : {i j : ℕ} (k : ℕ) {t : List ℕ} (u : List ℕ) {tree : Tree} → Value i t j u tree → (open_ended : Bool) → Behind (kind_open tree) j k u → open_ended ≡ last_open (kind_open tree) u
    → Shows tree k open_ended
value_shows {i = i} {j = j} k u (leaf {kind = kind} x) open_ended h e = node_shows kind i j k u no_children open_ended h e
value_shows {i = i} {j = j} k u (empty_array bs) open_ended h e = node_shows Array i j k u no_children open_ended h e
value_shows {i = i} {j = j} k u (array {children = below} xs) open_ended h e = node_shows Array i j k u below open_ended h e
value_shows {i = i} {j = j} k u (empty_object bs) open_ended h e = node_shows Object i j k u no_children open_ended h e
value_shows {i = i} {j = j} k u (object {children = below} xs) open_ended h e = node_shows Object i j k u below open_ended h e

document_shows : {i : ℕ} {t : List ℕ} {tree : Tree} → Document i t tree → Shows tree (i + length t) (ends_open t)
document_shows {i = i} {t = t} {tree = tree} (document {l = l} {t1 = t1} {t2 = t2} bs v cs) =
    let p = blanks_stretch bs in
    let all = then_stretch p (then_stretch (value_stretch v) (blanks_stretch cs)) in
    let long : length t ≡ length all.bytes = ap length (all.whole ∙ append-nil all.bytes) in
    let last = all.end in
    let same : ends_open t ≡ last_open (kind_open tree) t2 = ap ends_open p.whole ∙ last_open-append false p.bytes t1 ∙ value_open (last_open false p.bytes) v in
    subst (λ n. Shows tree n (ends_open t)) (omega (arith, last, long)) (value_shows l t2 v (ends_open t) (behind (kind_open tree) cs refl) same)

-- an element's last byte shows whether its end shows
pub element_shows : (p : Part) (limit : ℕ) (tree : Tree) → IsDocument p.at p.bytes limit tree → Shows tree (end_of p) (ends_open p.bytes)
element_shows p limit tree d = document_shows d.reads

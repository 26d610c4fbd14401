-- The stretches of a text that the grammar's relations stand for, and what they do to the front containers.
use Rattle.std.specs.Prelude.{◌==◌, codes}
use Rattle.std.proofs.Common.{◌≡◌, ℕ, zero, suc, ◌+◌, ◌≤◌, List, [], ◌∷◌, ◌++◌, length, append_assoc, true, false, refl, sym, ap, subst, ◌∙◌, arith, lit≤}
use Rattle.std.proofs.lemmas.Bool.{ne_eqb}
use Rattle.std.proofs.lemmas.List.{length-append}
use Rattle.jx_compact.specs.declared.place.Place.{Place}
use Rattle.jx_compact.specs.declared.place.Place.TheVariants.{Between}
use Rattle.jx_compact.specs.Compact.{compact, is_no_blank, next, place_behind}
use Rattle.jx_lex.specs.declared.kind.Kind.{Kind}
use Rattle.jx_lex.specs.declared.kind.Kind.TheVariants as kind
use Rattle.jx_lex.specs.Token.{space, tab, line_feed, carriage_return, unsigned, minus, IsInt, zero_alone, leading, IsNumber, number, IsString, quoted, IsToken}
use Rattle.jx_run.specs.Tree.{Tree, Children}
use Rattle.jx_run.specs.Grammar.{Blanks, no_blanks, blank, Scalar, Value, leaf, empty_array, array, empty_object, object, Items, last_item, item, Members, last_member, member}
use Rattle.jx_each.specs.declared.sign.Sign.TheVariants as sign
use Rattle.jx_each.specs.declared.sign.Turn.TheVariants.{Stay}
use Rattle.jx_each.specs.Turns.{sign_of, turn_by, turned, height_next, height_behind}
use Rattle.jx_each.proofs.Bytes.{Sits, StaysIn, blank_sits, higher, no_sits, stays_append, height_append, place_append, then_sits, token_sits}

-- a stretch between tokens that opens and closes the same containers, where so many are front at least
pub record Piece (low i : ℕ) (t : List ℕ) (j : ℕ) (u : List ℕ) : Type 0 where
  pub w : List ℕ
  pub whole : t ≡ w ++ u
  pub end : j ≡ i + length w
  pub sits : Sits Between Between low w

pub then_piece : {low i j k : ℕ} {t u v : List ℕ} → Piece low i t j u → Piece low j u k v → Piece low i t k v
then_piece {v = v} p q = record {
  w = p.w ++ q.w;
  whole = p.whole ∙ ap (λ (x : List ℕ). p.w ++ x) q.whole ∙ sym (append_assoc p.w q.w v);
  end = let e : _ ≡ _ = length-append p.w q.w in omega (arith, p.end, q.end, e);
  sits = then_sits p.w q.w p.sits q.sits;
}

pub lift : {low i j : ℕ} {t u : List ℕ} (high : ℕ) → low ≤ high → Piece low i t j u → Piece high i t j u
lift high le p = record { w = p.w; whole = p.whole; end = p.end; sits = higher high p.w le p.sits }

-- ---- blanks

pub record Gap (i : ℕ) (t : List ℕ) (j : ℕ) (u : List ℕ) : Type 0 where
  pub piece : Piece 0 i t j u
  pub nothing : compact piece.w ≡ []

-- a blank in front
one_gap : {i j : ℕ} {u : List ℕ} (b : ℕ) (t : List ℕ) → is_no_blank b ≡ false → next Between b ≡ Between → Sits Between Between 0 (b ∷ []) → Gap (suc i) t j u → Gap i (b ∷ t) j u
one_gap b t is stays sits g = record {
  piece = record {
    w = b ∷ g.piece.w;
    whole = ap (λ (x : List ℕ). b ∷ x) g.piece.whole;
    end = omega (arith, g.piece.end);
    sits = then_sits (b ∷ []) g.piece.w sits g.piece.sits;
  };
  nothing = gone b g.piece.w is stays g.nothing;
}
  where
    gone : (b : ℕ) (w : List ℕ) → is_no_blank b ≡ false → next Between b ≡ Between → compact w ≡ [] → compact (b ∷ w) ≡ []
    gone b w is stays h = rw is (rw stays h)

pub blanks_gap : {i j : ℕ} {t u : List ℕ} → Blanks i t j u → Gap i t j u
blanks_gap no_blanks = record { piece = record { w = []; whole = refl; end = omega arith; sits = no_sits Between 0 }; nothing = refl }
blanks_gap (blank {bytes = t} space bs) = one_gap 0x20 t refl refl (blank_sits 0x20 space) (blanks_gap bs)
blanks_gap (blank {bytes = t} tab bs) = one_gap 0x09 t refl refl (blank_sits 0x09 tab) (blanks_gap bs)
blanks_gap (blank {bytes = t} line_feed bs) = one_gap 0x0a t refl refl (blank_sits 0x0a line_feed) (blanks_gap bs)
blanks_gap (blank {bytes = t} carriage_return bs) = one_gap 0x0d t refl refl (blank_sits 0x0d carriage_return) (blanks_gap bs)

-- ---- values

-- the first byte is no blank
pub record Solid (w : List ℕ) : Type 0 where
  pub first : ℕ
  pub rest : List ℕ
  pub is : w ≡ first ∷ rest
  pub no_blank : is_no_blank first ≡ true

digit_no_blank : (b : ℕ) → 0x30 ≤ b → is_no_blank b ≡ true
digit_no_blank b le =
    let e1 : (b == 0x20) ≡ false = ne_eqb b 0x20 (λ e. omega (arith, le, e)) in
    let e2 : (b == 0x09) ≡ false = ne_eqb b 0x09 (λ e. omega (arith, le, e)) in
    let e3 : (b == 0x0a) ≡ false = ne_eqb b 0x0a (λ e. omega (arith, le, e)) in
    let e4 : (b == 0x0d) ≡ false = ne_eqb b 0x0d (λ e. omega (arith, le, e)) in
    rw e1 (rw e2 (rw e3 (rw e4 refl)))

int_solid : {w : List ℕ} (more : List ℕ) → IsInt w → Solid (w ++ more)
int_solid more zero_alone = record { first = 0x30; rest = more; is = refl; no_blank = refl }
int_solid more (leading {b = b} {bs = bs} d ds) = record { first = b; rest = bs ++ more; is = refl; no_blank = digit_no_blank b (let from : 0x31 ≤ b = d.from in omega (arith, from)) }

number_solid : {w : List ℕ} → IsNumber w → Solid w
number_solid (number {frac = f} {exp = x} unsigned i c d) = int_solid (f ++ x) i
number_solid (number {int = i} {frac = f} {exp = x} minus n c d) = record { first = 0x2d; rest = i ++ (f ++ x); is = refl; no_blank = refl }

string_solid : {w us : List ℕ} → IsString w us → Solid w
string_solid (quoted {w = w} cs) = record { first = 0x22; rest = w ++ (0x22 ∷ []); is = refl; no_blank = refl }

pub token_solid : (k : Kind) (w : List ℕ) → IsToken k w → Solid w
token_solid kind.String w h = string_solid h.1
token_solid kind.Number w h = number_solid h
token_solid kind.True w h = record { first = 0x74; rest = codes "rue"; is = h; no_blank = refl }
token_solid kind.False w h = record { first = 0x66; rest = codes "alse"; is = h; no_blank = refl }
token_solid kind.Null w h = record { first = 0x6e; rest = codes "ull"; is = h; no_blank = refl }
token_solid kind.Object w h = absurd h
token_solid kind.Array w h = absurd h

pub scalar_piece : {k : Kind} {i j : ℕ} {t u : List ℕ} → Scalar k i t j u → Piece 0 i t j u
scalar_piece {k} x = record { w = x.token; whole = x.whole; end = x.end; sits = token_sits k x.token x.is_token }

pub record ValuePiece (i : ℕ) (t : List ℕ) (j : ℕ) (u : List ℕ) : Type 0 where
  pub piece : Piece 1 i t j u
  pub solid : Solid piece.w

-- what opens and closes a container, around what stands in it
pub record IsPair (front back : ℕ) : Type 0 where
  pub opens : (h : ℕ) → turned h (sign_of front) ≡ suc h
  pub stays_open : (h : ℕ) → 1 ≤ h → turn_by h (sign_of front) ≡ Stay
  pub closes : (h : ℕ) → turned (suc h) (sign_of back) ≡ h
  pub stays_close : (h : ℕ) → 2 ≤ h → turn_by h (sign_of back) ≡ Stay
  pub between_open : next Between front ≡ Between
  pub between_close : next Between back ≡ Between

wrapped : (front back : ℕ) → IsPair front back → (w : List ℕ) → Sits Between Between 2 w → Sits Between Between 1 (front ∷ (w ++ (back ∷ [])))
wrapped front back p w x = record {
  stays = λ h le. (p.stays_open h le, stays_rest h le);
  height = λ h le. height_rest h le;
  place = place_rest;
}
  where
    start_height : (h : ℕ) → height_next Between h front ≡ suc h
    start_height h = p.opens h

    close_stays : (h : ℕ) → 1 ≤ h → StaysIn Between (suc h) (back ∷ [])
    close_stays h le = (p.stays_close (suc h) (omega (arith, le)), tt)

    inner_stays : (h : ℕ) → 1 ≤ h → StaysIn Between (suc h) (w ++ (back ∷ []))
    inner_stays h le =
        let two : 2 ≤ suc h = omega (arith, le) in
        stays_append Between (suc h) w (back ∷ []) (x.stays (suc h) two)
        (subst (λ (a : Place). StaysIn a (height_behind Between (suc h) w) (back ∷ [])) (sym x.place)
        (subst (λ (n : ℕ). StaysIn Between n (back ∷ [])) (sym (x.height (suc h) two)) (close_stays h le)))

    stays_rest : (h : ℕ) → 1 ≤ h → StaysIn (next Between front) (height_next Between h front) (w ++ (back ∷ []))
    stays_rest h le =
        subst (λ (a : Place). StaysIn a (height_next Between h front) (w ++ (back ∷ []))) (sym p.between_open)
        (subst (λ (n : ℕ). StaysIn Between n (w ++ (back ∷ []))) (sym (start_height h)) (inner_stays h le))

    height_rest : (h : ℕ) → 1 ≤ h → height_behind (next Between front) (height_next Between h front) (w ++ (back ∷ [])) ≡ h
    height_rest h le =
        let two : 2 ≤ suc h = omega (arith, le) in
        ap (λ (a : Place). height_behind a (height_next Between h front) (w ++ (back ∷ []))) p.between_open
        ∙ ap (λ (n : ℕ). height_behind Between n (w ++ (back ∷ []))) (start_height h)
        ∙ height_append Between (suc h) w (back ∷ [])
        ∙ ap (λ (a : Place). height_next a (height_behind Between (suc h) w) back) x.place
        ∙ ap (λ (n : ℕ). height_next Between n back) (x.height (suc h) two)
        ∙ p.closes h

    place_rest : place_behind (next Between front) (w ++ (back ∷ [])) ≡ Between
    place_rest =
        ap (λ (a : Place). place_behind a (w ++ (back ∷ []))) p.between_open
        ∙ place_append Between w (back ∷ [])
        ∙ ap (λ (a : Place). next a back) x.place
        ∙ p.between_close

array_open : (h : ℕ) → 1 ≤ h → turn_by h sign.OpenArray ≡ Stay
array_open zero le = absurd (omega (arith, le))
array_open (suc zero) le = refl
array_open (suc (suc n)) le = refl

object_open : (h : ℕ) → 1 ≤ h → turn_by h sign.OpenObject ≡ Stay
object_open zero le = absurd (omega (arith, le))
object_open (suc zero) le = refl
object_open (suc (suc n)) le = refl

-- what is deeper in stays
pub deep : (s : _) (h : ℕ) → 2 ≤ h → turn_by h s ≡ Stay
deep s zero le = absurd (omega (arith, le))
deep s (suc zero) le = absurd (omega (arith, le))
deep s (suc (suc n)) le = refl

brackets : IsPair 0x5b 0x5d
brackets = record { opens = λ h. refl; stays_open = array_open; closes = λ h. refl; stays_close = deep sign.Close; between_open = refl; between_close = refl }

braces : IsPair 0x7b 0x7d
braces = record { opens = λ h. refl; stays_open = object_open; closes = λ h. refl; stays_close = deep sign.Close; between_open = refl; between_close = refl }

-- a comma or a colon inside of an element
comma_sits : Sits Between Between 2 (0x2c ∷ [])
comma_sits = record { stays = λ h le. (deep sign.Comma h le, tt); height = λ h le. refl; place = refl }

colon_sits : Sits Between Between 2 (0x3a ∷ [])
colon_sits = record { stays = λ h le. (deep sign.Colon h le, tt); height = λ h le. refl; place = refl }

byte_piece : {low i : ℕ} {t : List ℕ} (b : ℕ) → Sits Between Between low (b ∷ []) → Piece low i (b ∷ t) (suc i) t
byte_piece b x = record { w = b ∷ []; whole = refl; end = omega arith; sits = x }

wrapped_piece : {i j : ℕ} {t u : List ℕ} (front back : ℕ) → IsPair front back → is_no_blank front ≡ true → Piece 2 (suc i) t j (back ∷ u) → ValuePiece i (front ∷ t) (suc j) u
wrapped_piece {i} {j} {t} {u} front back pair is p = record {
  piece = record {
    w = front ∷ (p.w ++ (back ∷ []));
    whole = ap (λ (x : List ℕ). front ∷ x) (p.whole ∙ sym (append_assoc p.w (back ∷ []) u));
    end = let e : _ ≡ _ = length-append p.w (back ∷ []) in omega (arith, p.end, e);
    sits = wrapped front back pair p.w p.sits;
  };
  solid = record { first = front; rest = p.w ++ (back ∷ []); is = refl; no_blank = is };
}

leaf_piece : {k : Kind} {i j : ℕ} {t u : List ℕ} → Scalar k i t j u → ValuePiece i t j u
leaf_piece {k} x = record {
  piece = record { w = x.token; whole = x.whole; end = x.end; sits = higher 1 x.token (lit≤ tt) (token_sits k x.token x.is_token) };
  solid = token_solid k x.token x.is_token;
}

mutual
  pub value_piece : {i j : ℕ} {t u : List ℕ} {tree : Tree} → Value i t j u tree → ValuePiece i t j u
  value_piece (leaf x) = leaf_piece x
  value_piece (empty_array bs) = wrapped_piece 0x5b 0x5d brackets refl (lift 2 (lit≤ tt) (blanks_gap bs).piece)
  value_piece (array xs) = wrapped_piece 0x5b 0x5d brackets refl (items_piece xs)
  value_piece (empty_object bs) = wrapped_piece 0x7b 0x7d braces refl (lift 2 (lit≤ tt) (blanks_gap bs).piece)
  value_piece (object xs) = wrapped_piece 0x7b 0x7d braces refl (members_piece xs)

  pub items_piece : {i j : ℕ} {t u : List ℕ} {c : Children} → Items i t j u c → Piece 2 i t j u
  items_piece (last_item bs v cs) =
      then_piece (lift 2 (lit≤ tt) (blanks_gap bs).piece) (then_piece (lift 2 (lit≤ tt) (value_piece v).piece) (lift 2 (lit≤ tt) (blanks_gap cs).piece))
  items_piece (item bs v cs xs) =
      then_piece (lift 2 (lit≤ tt) (blanks_gap bs).piece) (then_piece (lift 2 (lit≤ tt) (value_piece v).piece)
      (then_piece (lift 2 (lit≤ tt) (blanks_gap cs).piece) (then_piece (byte_piece 0x2c comma_sits) (items_piece xs))))

  pub members_piece : {i j : ℕ} {t u : List ℕ} {c : Children} → Members i t j u c → Piece 2 i t j u
  members_piece (last_member bs n cs ds v es) =
      then_piece (lift 2 (lit≤ tt) (blanks_gap bs).piece) (then_piece (lift 2 (lit≤ tt) (scalar_piece n)) (then_piece (lift 2 (lit≤ tt) (blanks_gap cs).piece)
      (then_piece (byte_piece 0x3a colon_sits) (then_piece (lift 2 (lit≤ tt) (blanks_gap ds).piece)
      (then_piece (lift 2 (lit≤ tt) (value_piece v).piece) (lift 2 (lit≤ tt) (blanks_gap es).piece))))))
  members_piece (member bs n cs ds v es xs) =
      then_piece (lift 2 (lit≤ tt) (blanks_gap bs).piece) (then_piece (lift 2 (lit≤ tt) (scalar_piece n)) (then_piece (lift 2 (lit≤ tt) (blanks_gap cs).piece)
      (then_piece (byte_piece 0x3a colon_sits) (then_piece (lift 2 (lit≤ tt) (blanks_gap ds).piece)
      (then_piece (lift 2 (lit≤ tt) (value_piece v).piece) (then_piece (lift 2 (lit≤ tt) (blanks_gap es).piece)
      (then_piece (byte_piece 0x2c comma_sits) (members_piece xs))))))))

-- Where a value stands to which tokens lead, and which marks stand before it.
use Rattle.std.proofs.Common.{◌≡◌, ℕ, suc, ◌+◌, ◌<◌, ◌≤◌, List, [], ◌∷◌, ◌++◌, length, drop, refl, sym, ap, subst, ◌∙◌, arith, append_assoc}
use Rattle.std.specs.Prelude.{Result, Ok, Err}
use Rattle.std.specs.List.{AllByRecursion}
use Rattle.jx_lex.specs.declared.kind.Kind.{Kind}
use Rattle.jx_lex.specs.declared.alphabet.mark.Mark.{Mark}
use Rattle.jx_lex.specs.declared.alphabet.mark.MarkKind.{MarkKind}
use Rattle.jx_lex.specs.declared.alphabet.state.LexState.TheVariants.{Gap}
use Rattle.jx_lex.specs.Classes.{class_at}
use Rattle.jx_lex.specs.Lex.{lex}
use Rattle.jx_lex.specs.Token.{IsBlank, space, tab, line_feed, carriage_return}
use Rattle.jx_lex.specs.TokenStates.{mark_of}
use Rattle.jx_run.specs.Tree.{Tree, Children, no_children, child}
use Rattle.jx_run.specs.Grammar.{Blanks, no_blanks, blank, Scalar, Value, leaf, empty_array, array, empty_object, object, Items, last_item, item, Members, last_member, member}
use Rattle.jx_run.specs.Text.{Document, document}
use Rattle.jx_run.proofs.Spans.{blanks_stretch, value_stretch}
use Rattle.jx_index.specs.declared.find_fault.FindFault.{FindFault}
use Rattle.jx_index.specs.Leads.{Numbered, and_then, children_of, kind_of, led, led_from, numbered, one_token, root_of}
use Rattle.jx_index.specs.Names.{is_name}
use Rattle.jx_index.specs.Rows.{size}
use Rattle.jx_index.proofs.Builds.{Structural, open_array, open_object, close_array, close_object, colon, comma, blanks_length, value_length, items_length, members_length}
use Rattle.jx_index.proofs.Each.{AtOk, Each, token_each, each_more}
use Rattle.jx_index.proofs.Tokens.{Delimited, at_end, at_close_array, at_close_object, at_colon, at_comma, blanks_delimited, tokened, TokensAreRead}
use Rattle.jx_file_query.proofs.Behinds.{left, left_byte, scalar_stretch}

-- ---- from one place between tokens to another

abbrev pub Low : ℕ → Mark → Type 0
Low n m = m.at < n

higher : (i j : ℕ) (ms : List Mark) → i ≤ j → AllByRecursion (Low i) ms → AllByRecursion (Low j) ms
higher i j [] le h = tt
higher i j (m ∷ ms) le h = (let l = h.0 in omega (arith, l, le), higher i j ms le h.1)

both_low : (n : ℕ) (xs ys : List Mark) → AllByRecursion (Low n) xs → AllByRecursion (Low n) ys → AllByRecursion (Low n) (xs ++ ys)
both_low n [] ys h k = k
both_low n (x ∷ xs) ys h k = (h.0, both_low n xs ys h.1 k)

record Over (i : ℕ) (t : List ℕ) (j : ℕ) (u : List ℕ) : Type 0 where
  between : List Mark
  marks : (lex Gap i t).marks ≡ between ++ (lex Gap j u).marks
  low : AllByRecursion (Low j) between
  long : i ≤ j

then_over : {i j k : ℕ} {t u v : List ℕ} → Over i t j u → Over j u k v → Over i t k v
then_over {j = j} {k = k} {v = v} p q = record {
  between = p.between ++ q.between;
  marks = p.marks ∙ ap (λ (ms : List Mark). p.between ++ ms) q.marks ∙ sym (append_assoc p.between q.between (lex Gap k v).marks);
  low = both_low k p.between q.between (higher j k p.between q.long p.low) q.low;
  long = let a = p.long in let b = q.long in omega (arith, a, b);
}

no_over : {i : ℕ} {t : List ℕ} → Over i t i t
no_over = record { between = []; marks = refl; low = tt; long = omega arith }

blank_marks : {b : ℕ} → IsBlank b → (at : ℕ) (t : List ℕ) → (lex Gap at (b ∷ t)).marks ≡ (lex Gap (suc at) t).marks
unfolding lex class_at
blank_marks space at t = refl
blank_marks tab at t = refl
blank_marks line_feed at t = refl
blank_marks carriage_return at t = refl

blank_over : {b i : ℕ} {t : List ℕ} → IsBlank b → Over i (b ∷ t) (suc i) t
blank_over {i = i} {t = t} h = record { between = []; marks = blank_marks h i t; low = tt; long = omega arith }

blanks_over : {i j : ℕ} {t u : List ℕ} → Blanks i t j u → Over i t j u
blanks_over no_blanks = no_over
blanks_over (blank h bs) = then_over (blank_over h) (blanks_over bs)

byte_marks : {b : ℕ} {k : MarkKind} → Structural b k → (at : ℕ) (t : List ℕ) → (lex Gap at (b ∷ t)).marks ≡ record { kind = k; at = at } ∷ (lex Gap (suc at) t).marks
unfolding lex class_at
byte_marks open_array at t = refl
byte_marks open_object at t = refl
byte_marks close_array at t = refl
byte_marks close_object at t = refl
byte_marks colon at t = refl
byte_marks comma at t = refl

byte_over : {b i : ℕ} {k : MarkKind} {t : List ℕ} → Structural b k → Over i (b ∷ t) (suc i) t
byte_over {i = i} {k = k} {t = t} s = record { between = record { kind = k; at = i } ∷ []; marks = byte_marks s i t; low = (omega arith, tt); long = omega arith }

module _ (law : TokensAreRead) (last : ℕ) where
  scalar_over : {k : Kind} {i j : ℕ} {t u : List ℕ} → Scalar k i t j u → Delimited u → j + length u ≡ last → Over i t j u
  scalar_over {k = k} {i = i} {j = j} x d h =
      let r = law.reads k x.token x.is_token in
      let w : length x.token ≡ suc (length r.bytes) = ap (λ (xs : List ℕ). length xs) r.whole in
      let e = x.end in
      record { between = record { kind = mark_of k; at = i } ∷ []; marks = (tokened law x d last h).marks; low = (omega (arith, w, e), tt); long = omega (arith, w, e) }

  mutual
    value_over : {i j : ℕ} {t u : List ℕ} {tree : Tree} → Value i t j u tree → Delimited u → j + length u ≡ last → Over i t j u
    value_over (leaf x) d h = scalar_over x d h
    value_over (empty_array bs) d h = then_over (byte_over open_array) (then_over (blanks_over bs) (byte_over close_array))
    value_over (array xs) d h = then_over (byte_over open_array) (then_over (items_over xs at_close_array (omega (arith, h))) (byte_over close_array))
    value_over (empty_object bs) d h = then_over (byte_over open_object) (then_over (blanks_over bs) (byte_over close_object))
    value_over (object xs) d h = then_over (byte_over open_object) (then_over (members_over xs at_close_object (omega (arith, h))) (byte_over close_object))

    items_over : {i j : ℕ} {t u : List ℕ} {c : Children} → Items i t j u c → Delimited u → j + length u ≡ last → Over i t j u
    items_over (last_item bs v cs) d h =
        let z = blanks_length cs in
        then_over (blanks_over bs) (then_over (value_over v (blanks_delimited cs d) (omega (arith, z, h))) (blanks_over cs))
    items_over (item bs v cs xs) d h =
        let z = blanks_length cs in
        let y = items_length xs in
        then_over (blanks_over bs) (then_over (value_over v (blanks_delimited cs at_comma) (omega (arith, z, y, h))) (then_over (blanks_over cs) (then_over (byte_over comma) (items_over xs d h))))

    members_over : {i j : ℕ} {t u : List ℕ} {c : Children} → Members i t j u c → Delimited u → j + length u ≡ last → Over i t j u
    members_over (last_member bs x cs ds v es) d h =
        let a = blanks_length cs in
        let b = blanks_length ds in
        let g = value_length v in
        let z = blanks_length es in
        then_over (blanks_over bs) (then_over (scalar_over x (blanks_delimited cs at_colon) (omega (arith, a, b, g, z, h))) (then_over (blanks_over cs) (then_over (byte_over colon) (then_over (blanks_over ds)
        (then_over (value_over v (blanks_delimited es d) (omega (arith, z, h))) (blanks_over es))))))
    members_over (member bs x cs ds v es xs) d h =
        let a = blanks_length cs in
        let b = blanks_length ds in
        let g = value_length v in
        let z = blanks_length es in
        let y = members_length xs in
        then_over (blanks_over bs) (then_over (scalar_over x (blanks_delimited cs at_colon) (omega (arith, a, b, g, z, y, h))) (then_over (blanks_over cs) (then_over (byte_over colon) (then_over (blanks_over ds)
        (then_over (value_over v (blanks_delimited es at_comma) (omega (arith, z, y, h))) (then_over (blanks_over es) (then_over (byte_over comma) (members_over xs d h))))))))

  -- ---- in a text with these marks

  module _ (text : List ℕ) (all : List Mark) where
    -- what stands from an offset on is read from between tokens, and these marks stand before it
    record Reached (i : ℕ) (t : List ℕ) : Type 0 where
      there : drop i text ≡ t
      before : List Mark
      marks : all ≡ before ++ (lex Gap i t).marks
      low : AllByRecursion (Low i) before

    reach : {i j : ℕ} {t u : List ℕ} → Reached i t → drop j text ≡ u → Over i t j u → Reached j u
    reach {j = j} {u = u} r there o = record {
      there = there;
      before = r.before ++ o.between;
      marks = r.marks ∙ ap (λ (ms : List Mark). r.before ++ ms) o.marks ∙ sym (append_assoc r.before o.between (lex Gap j u).marks);
      low = both_low j r.before o.between (higher _ j r.before o.long r.low) o.low;
    }

    pub record Inside (tree : Tree) : Type 0 where
      pub i : ℕ
      pub j : ℕ
      pub t : List ℕ
      pub rest : List ℕ
      pub value : Value i t j rest tree
      pub delimited : Delimited rest
      pub whole : j + length rest ≡ last
      pub there : drop i text ≡ t
      pub before : List Mark
      pub marks : all ≡ before ++ (lex Gap i t).marks
      pub low : AllByRecursion (Low i) before

    inside : {i j : ℕ} {t rest : List ℕ} {tree : Tree} → Value i t j rest tree → Delimited rest → j + length rest ≡ last → Reached i t → Inside tree
    inside {i = i} {j = j} {t = t} {rest = rest} v d h r =
        record { i = i; j = j; t = t; rest = rest; value = v; delimited = d; whole = h; there = r.there; before = r.before; marks = r.marks; low = r.low }

    abbrev IsInside : Numbered → Type 0
    IsInside c = Inside c.tree

    over_blanks : {i j : ℕ} {t u : List ℕ} → Reached i t → Blanks i t j u → Reached j u
    over_blanks r bs = reach r (left text r.there (blanks_stretch bs)) (blanks_over bs)

    over_byte : {b i : ℕ} {k : MarkKind} {t : List ℕ} → Reached i (b ∷ t) → Structural b k → Reached (suc i) t
    over_byte {b = b} {i = i} {t = t} r s = reach r (left_byte text b t i r.there) (byte_over s)

    over_value : {i j : ℕ} {t u : List ℕ} {tree : Tree} → Reached i t → Value i t j u tree → Delimited u → j + length u ≡ last → Reached j u
    over_value r v d h = reach r (left text r.there (value_stretch v)) (value_over v d h)

    over_scalar : {k : Kind} {i j : ℕ} {t u : List ℕ} → Reached i t → Scalar k i t j u → Delimited u → j + length u ≡ last → Reached j u
    over_scalar r x d h = reach r (left text r.there (scalar_stretch x)) (scalar_over x d h)

    items_inside : {i j : ℕ} {t rest : List ℕ} {children : Children} → Items i t j rest children → Delimited rest → j + length rest ≡ last → Reached i t → (number : ℕ) → Each IsInside (numbered children number)
    items_inside (last_item bs v cs) d h r number =
        let z = blanks_length cs in
        (inside v (blanks_delimited cs d) (omega (arith, z, h)) (over_blanks r bs), tt)
    items_inside (item {tree = tree} bs v cs xs) d h r number =
        let z = blanks_length cs in
        let y = items_length xs in
        let r1 = over_blanks r bs in
        let d1 = blanks_delimited cs at_comma in
        (inside v d1 (omega (arith, z, y, h)) r1, items_inside xs d h (over_byte (over_blanks (over_value r1 v d1 (omega (arith, z, y, h))) cs) comma) (number + size tree))

    members_inside : {i j : ℕ} {t rest : List ℕ} {children : Children} → Members i t j rest children → Delimited rest → j + length rest ≡ last → Reached i t → (number : ℕ) → Each IsInside (numbered children number)
    members_inside (last_member bs x cs ds v es) d h r number =
        let a = blanks_length cs in
        let b = blanks_length ds in
        let g = value_length v in
        let z = blanks_length es in
        let r1 = over_scalar (over_blanks r bs) x (blanks_delimited cs at_colon) (omega (arith, a, b, g, z, h)) in
        let r2 = over_blanks (over_byte (over_blanks r1 cs) colon) ds in
        (inside v (blanks_delimited es d) (omega (arith, z, h)) r2, tt)
    members_inside (member {tree = tree} bs x cs ds v es xs) d h r number =
        let a = blanks_length cs in
        let b = blanks_length ds in
        let g = value_length v in
        let z = blanks_length es in
        let y = members_length xs in
        let r1 = over_scalar (over_blanks r bs) x (blanks_delimited cs at_colon) (omega (arith, a, b, g, z, y, h)) in
        let r2 = over_blanks (over_byte (over_blanks r1 cs) colon) ds in
        let d2 = blanks_delimited es at_comma in
        (inside v d2 (omega (arith, z, y, h)) r2, members_inside xs d h (over_byte (over_blanks (over_value r2 v d2 (omega (arith, z, y, h))) es) comma) (number + size tree))

    -- the children of a value
    below : {i j : ℕ} {t rest : List ℕ} {tree : Tree} → Value i t j rest tree → j + length rest ≡ last → Reached i t → (number : ℕ) → Each IsInside (numbered (children_of tree) number)
    below (leaf x) h r number = tt
    below (empty_array bs) h r number = tt
    below (array xs) h r number = items_inside xs at_close_array (omega (arith, h)) (over_byte r open_array) number
    below (empty_object bs) h r number = tt
    below (object xs) h r number = members_inside xs at_close_object (omega (arith, h)) (over_byte r open_object) number

    reached_of : {tree : Tree} → (x : Inside tree) → Reached x.i x.t
    reached_of x = record { there = x.there; before = x.before; marks = x.marks; low = x.low }

    then_each : (r : Result Numbered FindFault) (on : Numbered → Result Numbered FindFault) → AtOk (λ (c : Numbered). AtOk IsInside (on c)) r → AtOk IsInside (and_then r on)
    then_each (Ok c) on h = h
    then_each (Err fault) on h = tt

    led_inside : (tokens : List (List ℕ)) (c : Numbered) → IsInside c → (k : ℕ) → AtOk IsInside (led_from text tokens c k)
    unfolding led_from
    led_inside [] c h k = h
    led_inside (token ∷ tokens) c h k =
        let on : Numbered → Result Numbered FindFault = λ d. led_from text tokens d (suc k) in
        then_each (one_token (λ (d : Numbered). is_name text token d.name) token (kind_of c.tree) (numbered (children_of c.tree) (suc c.number)) k) on
        (token_each (λ (d : Numbered). AtOk IsInside (on d)) (λ (d : Numbered). is_name text token d.name) token (kind_of c.tree) (numbered (children_of c.tree) (suc c.number)) k
        (each_more (λ (d : Numbered) (i : IsInside d). led_inside tokens d i (suc k)) (numbered (children_of c.tree) (suc c.number)) (below h.value h.whole (reached_of h) (suc c.number))))

    at_ok : (r : Result Numbered FindFault) → AtOk IsInside r → (c : Numbered) → r ≡ Ok c → IsInside c
    at_ok (Ok d) h c e = let same : d ≡ c = cc in subst IsInside same h
    at_ok (Err fault) h c e = absurd (cc)

    -- what tokens lead to in a document that stands from an offset on
    pub led_there : (n : ℕ) (t : List ℕ) (tree : Tree) → Document n t tree → drop n text ≡ t → n + length t ≡ last → all ≡ (lex Gap n t).marks
        → (tokens : List (List ℕ)) (c : Numbered) → led text tree tokens ≡ Ok c → Inside c.tree
    led_there n t tree doc there long are tokens c e = go doc there long are
      where
        go : {n : ℕ} {t : List ℕ} → Document n t tree → drop n text ≡ t → n + length t ≡ last → all ≡ (lex Gap n t).marks → Inside c.tree
        go (document bs v cs) there long are =
            let a = blanks_length bs in
            let b = value_length v in
            let z = blanks_length cs in
            let root : IsInside (root_of tree) = inside v (blanks_delimited cs at_end) (omega (arith, a, b, long)) (over_blanks (record { there = there; before = []; marks = are; low = tt }) bs) in
            at_ok (led text tree tokens) (led_inside tokens (root_of tree) root 0) c e

-- What is read to an accepting end is a text of the grammar, within the depth.
use Rattle.std.proofs.Common.{◌≡◌, ℕ, suc, ◌+◌, ◌≤◌, ◌<◌, List, [], ◌∷◌, ◌++◌, length, Bool, true, false, cond, refl, sym, ap, subst, arith}
use Rattle.std.specs.Prelude.{nat_lt}
use Rattle.std.proofs.lemmas.Bool.Decides.{nat_tests}
use Rattle.jx_lex.specs.declared.kind.Kind.{Kind}
use Rattle.jx_lex.specs.declared.kind.Kind.TheVariants as kind
use Rattle.jx_lex.specs.declared.alphabet.state.LexState.{LexState}
use Rattle.jx_lex.specs.declared.alphabet.state.LexState.TheVariants as state
use Rattle.jx_lex.specs.Classes.{class_at}
use Rattle.jx_lex.specs.Moves.{move, begin, structural, as_gap}
use Rattle.jx_lex.specs.declared.alphabet.mark.MarkKind.{MarkKind}
use Rattle.jx_lex.specs.declared.alphabet.mark.MarkKind.TheVariants as mark
use Rattle.jx_lex.specs.declared.alphabet.state.Step.{Step}
use Rattle.jx_lex.specs.Token.{IsBlank, IsToken}
use Rattle.jx_lex.specs.TokenStates.{in_token, Spells, here, goes, shuts, IsFinal, final_gap, final_zero, final_int, final_frac, final_exp, mark_of}
use Rattle.jx_lex.specs.TokenSteps as byte
use Rattle.jx_lex.specs.TokenSteps.{IsScalar, TokenStep, IsStructural, GapStep}
use Rattle.jx_reduce.specs.declared.table.expect.Expect.{Expect}
use Rattle.jx_reduce.specs.declared.table.expect.Expect.TheVariants as expect
use Rattle.jx_reduce.specs.declared.table.holder.Holder.{Holder}
use Rattle.jx_reduce.specs.declared.table.holder.Holder.TheVariants as holder
use Rattle.jx_reduce.specs.Read.{top}
use Rattle.jx_run.specs.inside.Turns.{at_scalar, at_string, at_open_array, at_open_object, at_close_array, at_close_object, at_colon, at_comma}
use Rattle.jx_run.specs.Reading.{TextReading, went}
use Rattle.jx_run.specs.Tree.{Tree, Children, no_children, depth, deepest, depth_over}
use Rattle.jx_run.specs.Grammar.{Blanks, no_blanks, blank, Scalar, Value, leaf, empty_array, array, empty_object, object, Items, last_item, item, Members, last_member, member}
use Rattle.jx_run.proofs.Fused.{after_turn, run, on_step}
use Rattle.jx_run.proofs.Lexical.{TokensAreRead, gap_of}

-- the end of a whole text
pub data Accepted : TextReading → Type 0 where
  accepted : {s : LexState} → IsFinal s → Accepted (went s expect.After [])

-- after an item, up to the array's end
pub data ArrayTail : ℕ → List ℕ → ℕ → List ℕ → Children → Type 0 where
  array_end : {i j : ℕ} {t rest : List ℕ} → Blanks i t j rest → ArrayTail i t j rest no_children
  array_more : {i j k : ℕ} {t u rest : List ℕ} {more : Children} → Blanks i t j (0x2c ∷ u) → Items (suc j) u k rest more → ArrayTail i t k rest more

pub data ObjectTail : ℕ → List ℕ → ℕ → List ℕ → Children → Type 0 where
  object_end : {i j : ℕ} {t rest : List ℕ} → Blanks i t j rest → ObjectTail i t j rest no_children
  object_more : {i j k : ℕ} {t u rest : List ℕ} {more : Children} → Blanks i t j (0x2c ∷ u) → Members (suc j) u k rest more → ObjectTail i t k rest more

module _ (limit : ℕ) where
  -- what may stand after a value, in these open containers
  pub data RestAfter : List Holder → ℕ → List ℕ → Type 0 where
    at_bottom : {i j : ℕ} {t : List ℕ} → Blanks i t j [] → RestAfter [] i t
    in_array : {o : List Holder} {i j : ℕ} {t u : List ℕ} {children : Children} → ArrayTail i t j (0x5d ∷ u) children
        → suc (deepest children) + length o ≤ limit → RestAfter o (suc j) u → RestAfter (holder.Array ∷ o) i t
    in_object : {o : List Holder} {i j : ℕ} {t u : List ℕ} {children : Children} → ObjectTail i t j (0x7d ∷ u) children
        → suc (deepest children) + length o ≤ limit → RestAfter o (suc j) u → RestAfter (holder.Object ∷ o) i t

  -- where a value may stand
  pub data RestValue : List Holder → ℕ → List ℕ → Type 0 where
    a_value : {o : List Holder} {i j k : ℕ} {t u v : List ℕ} {tree : Tree} → Blanks i t j u → Value j u k v tree
        → depth tree + length o ≤ limit → RestAfter o k v → RestValue o i t

  pub data RestColon : List Holder → ℕ → List ℕ → Type 0 where
    a_colon : {o : List Holder} {i j : ℕ} {t u : List ℕ} → Blanks i t j (0x3a ∷ u) → RestValue o (suc j) u → RestColon o i t

  pub data RestName : List Holder → ℕ → List ℕ → Type 0 where
    a_name : {o : List Holder} {i j k : ℕ} {t u v : List ℕ} → Blanks i t j u → Scalar kind.String j u k v → RestColon o k v → RestName o i t

  pub data RestFirst : List Holder → ℕ → List ℕ → Type 0 where
    some : {o : List Holder} {i : ℕ} {t : List ℕ} → RestValue o i t → RestFirst o i t
    none : {o : List Holder} {i j : ℕ} {t u : List ℕ} → Blanks i t j (0x5d ∷ u) → RestAfter o (suc j) u → RestFirst (holder.Array ∷ o) i t

  pub data RestFirstName : List Holder → ℕ → List ℕ → Type 0 where
    some_name : {o : List Holder} {i : ℕ} {t : List ℕ} → RestName o i t → RestFirstName o i t
    no_name : {o : List Holder} {i j : ℕ} {t u : List ℕ} → Blanks i t j (0x7d ∷ u) → RestAfter o (suc j) u → RestFirstName (holder.Object ∷ o) i t

  abbrev pub RestGap : Expect → List Holder → ℕ → List ℕ → Type 0
  RestGap expect.Value o i t = RestValue o i t
  RestGap expect.ArrayFirst o i t = RestFirst o i t
  RestGap expect.ObjectFirst o i t = RestFirstName o i t
  RestGap expect.Name o i t = RestName o i t
  RestGap expect.Colon o i t = RestColon o i t
  RestGap expect.After o i t = RestAfter o i t

  -- inside a token: the token's rest, and what may stand after it
  pub record RestToken (s : LexState) (e : Expect) (o : List Holder) (i : ℕ) (t : List ℕ) : Type 0 where
    pub token : List ℕ
    pub after : List ℕ
    pub end : ℕ
    pub last : LexState
    pub spells : Spells s token last
    pub final : IsFinal last
    pub whole : t ≡ token ++ after
    pub is_end : end ≡ i + length token
    pub rest : RestGap e o end after

  abbrev pub Rest : LexState → Expect → List Holder → ℕ → List ℕ → Type 0
  Rest state.Gap e o i t = RestGap e o i t
  Rest s e o i t = RestToken s e o i t

  to_rest : (s : LexState) (e : Expect) (o : List Holder) (i : ℕ) (t : List ℕ) → in_token s ≡ true → RestToken s e o i t → Rest s e o i t
  to_rest state.Gap e o i t h r = absurd cc
  to_rest _ e o i t h r = r

  of_rest : (s : LexState) (e : Expect) (o : List Holder) (i : ℕ) (t : List ℕ) → in_token s ≡ true → Rest s e o i t → RestToken s e o i t
  of_rest state.Gap e o i t h r = absurd cc
  of_rest _ e o i t h r = r

  -- ---- a blank before

  array_tail_blank : {b i j : ℕ} {t rest : List ℕ} {c : Children} → IsBlank b → ArrayTail (suc i) t j rest c → ArrayTail i (b ∷ t) j rest c
  array_tail_blank h (array_end bs) = array_end (blank h bs)
  array_tail_blank h (array_more bs xs) = array_more (blank h bs) xs

  object_tail_blank : {b i j : ℕ} {t rest : List ℕ} {c : Children} → IsBlank b → ObjectTail (suc i) t j rest c → ObjectTail i (b ∷ t) j rest c
  object_tail_blank h (object_end bs) = object_end (blank h bs)
  object_tail_blank h (object_more bs xs) = object_more (blank h bs) xs

  after_blank : {b i : ℕ} {t : List ℕ} {o : List Holder} → IsBlank b → RestAfter o (suc i) t → RestAfter o i (b ∷ t)
  after_blank h (at_bottom bs) = at_bottom (blank h bs)
  after_blank h (in_array x le r) = in_array (array_tail_blank h x) le r
  after_blank h (in_object x le r) = in_object (object_tail_blank h x) le r

  value_blank : {b i : ℕ} {t : List ℕ} {o : List Holder} → IsBlank b → RestValue o (suc i) t → RestValue o i (b ∷ t)
  value_blank h (a_value bs v le r) = a_value (blank h bs) v le r

  name_blank : {b i : ℕ} {t : List ℕ} {o : List Holder} → IsBlank b → RestName o (suc i) t → RestName o i (b ∷ t)
  name_blank h (a_name bs n c) = a_name (blank h bs) n c

  colon_blank : {b i : ℕ} {t : List ℕ} {o : List Holder} → IsBlank b → RestColon o (suc i) t → RestColon o i (b ∷ t)
  colon_blank h (a_colon bs r) = a_colon (blank h bs) r

  first_blank : {b i : ℕ} {t : List ℕ} {o : List Holder} → IsBlank b → RestFirst o (suc i) t → RestFirst o i (b ∷ t)
  first_blank h (some r) = some (value_blank h r)
  first_blank h (none bs r) = none (blank h bs) r

  first_name_blank : {b i : ℕ} {t : List ℕ} {o : List Holder} → IsBlank b → RestFirstName o (suc i) t → RestFirstName o i (b ∷ t)
  first_name_blank h (some_name r) = some_name (name_blank h r)
  first_name_blank h (no_name bs r) = no_name (blank h bs) r

  gap_blank : (e : Expect) (o : List Holder) (i : ℕ) (t : List ℕ) {b : ℕ} → IsBlank b → RestGap e o (suc i) t → RestGap e o i (b ∷ t)
  gap_blank expect.Value o i t h r = value_blank h r
  gap_blank expect.ArrayFirst o i t h r = first_blank h r
  gap_blank expect.ObjectFirst o i t h r = first_name_blank h r
  gap_blank expect.Name o i t h r = name_blank h r
  gap_blank expect.Colon o i t h r = colon_blank h r
  gap_blank expect.After o i t h r = after_blank h r

  -- ---- a value before, and a container around

  record IsArrayRest (o : List Holder) (i : ℕ) (t : List ℕ) : Type 0 where
    end : ℕ
    after : List ℕ
    children : Children
    items : Items i t end (0x5d ∷ after) children
    within : suc (deepest children) + length o ≤ limit
    rest : RestAfter o (suc end) after

  array_rest : {i : ℕ} {t : List ℕ} {o : List Holder} → RestValue (holder.Array ∷ o) i t → IsArrayRest o i t
  array_rest (a_value bs v le (in_array (array_end cs) le' r)) =
      record { end = _; after = _; children = _; items = last_item bs v cs; within = omega (arith, le, le'); rest = r }
  array_rest (a_value bs v le (in_array (array_more cs xs) le' r)) =
      record { end = _; after = _; children = _; items = item bs v cs xs; within = omega (arith, le, le'); rest = r }

  record IsObjectRest (o : List Holder) (i : ℕ) (t : List ℕ) : Type 0 where
    end : ℕ
    after : List ℕ
    children : Children
    members : Members i t end (0x7d ∷ after) children
    within : suc (deepest children) + length o ≤ limit
    rest : RestAfter o (suc end) after

  object_rest : {i : ℕ} {t : List ℕ} {o : List Holder} → RestName (holder.Object ∷ o) i t → IsObjectRest o i t
  object_rest (a_name bs n (a_colon cs (a_value ds v le (in_object (object_end es) le' r)))) =
      record { end = _; after = _; children = _; members = last_member bs n cs ds v es; within = omega (arith, le, le'); rest = r }
  object_rest (a_name bs n (a_colon cs (a_value ds v le (in_object (object_more es xs) le' r)))) =
      record { end = _; after = _; children = _; members = member bs n cs ds v es xs; within = omega (arith, le, le'); rest = r }

  open_array : {i : ℕ} {t : List ℕ} {o : List Holder} → length o < limit → RestFirst (holder.Array ∷ o) (suc i) t → RestValue o i (0x5b ∷ t)
  open_array lt (none bs r) = a_value no_blanks (empty_array bs) (omega arith) r
  open_array lt (some v) = let r = array_rest v in a_value no_blanks (array r.items) (r.within) r.rest

  open_object : {i : ℕ} {t : List ℕ} {o : List Holder} → length o < limit → RestFirstName (holder.Object ∷ o) (suc i) t → RestValue o i (0x7b ∷ t)
  open_object lt (no_name bs r) = a_value no_blanks (empty_object bs) (omega arith) r
  open_object lt (some_name v) = let r = object_rest v in a_value no_blanks (object r.members) (r.within) r.rest

  comma_array : {i : ℕ} {t : List ℕ} {o : List Holder} → RestValue (holder.Array ∷ o) (suc i) t → RestAfter (holder.Array ∷ o) i (0x2c ∷ t)
  comma_array v = let r = array_rest v in in_array (array_more no_blanks r.items) r.within r.rest

  comma_object : {i : ℕ} {t : List ℕ} {o : List Holder} → RestName (holder.Object ∷ o) (suc i) t → RestAfter (holder.Object ∷ o) i (0x2c ∷ t)
  comma_object v = let r = object_rest v in in_object (object_more no_blanks r.members) r.within r.rest

  -- ---- one byte between tokens

  module _ (law : TokensAreRead) (i : ℕ) (t : List ℕ) (more : LexState → Expect → List Holder → TextReading)
      (ih : (s : LexState) (e : Expect) (o : List Holder) → Accepted (more s e o) → length o ≤ limit → Rest s e o (suc i) t) where
    -- a scalar that begins with this byte
    scalar_rest : (k : Kind) (b : ℕ) (w after : List ℕ) (end : ℕ) (o : List Holder) → depth_over k 0 ≡ 0 → IsToken k (b ∷ w) → t ≡ w ++ after → end ≡ suc i + length w
        → length o ≤ limit → RestAfter o end after → RestValue o i (b ∷ t)
    scalar_rest k b w after end o flat h whole is_end le r =
        a_value no_blanks (leaf {kind = k} (record { token = b ∷ w; is_token = h; whole = ap (λ x. b ∷ x) whole; end = let x : end ≡ i + suc (length w) = omega (arith, is_end) in x }))
        (omega (arith, flat, le)) r

    scalar_turns : (e : Expect) (o : List Holder) (b : ℕ) (f : Expect → List Holder → TextReading) → Accepted (after_turn limit i o (at_scalar e) f)
        → (Accepted (f expect.After o) → RestValue o i (b ∷ t)) → RestGap e o i (b ∷ t)
    scalar_turns expect.Value o b f acc k = k acc
    scalar_turns expect.ArrayFirst o b f acc k = some (k acc)
    scalar_turns expect.ObjectFirst o b f acc k = elim acc [ ]
    scalar_turns expect.Name o b f acc k = elim acc [ ]
    scalar_turns expect.Colon o b f acc k = elim acc [ ]
    scalar_turns expect.After o b f acc k = elim acc [ ]

    string_turns : (e : Expect) (o : List Holder) (b : ℕ) (f : Expect → List Holder → TextReading) → Accepted (after_turn limit i o (at_string e) f)
        → (Accepted (f expect.After o) → RestValue o i (b ∷ t)) → (Accepted (f expect.Colon o) → RestName o i (b ∷ t)) → RestGap e o i (b ∷ t)
    string_turns expect.Value o b f acc k n = k acc
    string_turns expect.ArrayFirst o b f acc k n = some (k acc)
    string_turns expect.ObjectFirst o b f acc k n = some_name (n acc)
    string_turns expect.Name o b f acc k n = n acc
    string_turns expect.Colon o b f acc k n = elim acc [ ]
    string_turns expect.After o b f acc k n = elim acc [ ]

    below : (m : ℕ) (x y : TextReading) → Accepted (cond (nat_lt m limit) x y) → (Accepted y → ⊥) → (m < limit) × Accepted x
    below m x y acc never = pick (nat_lt m limit) refl acc
      where
        pick : (c : Bool) → nat_lt m limit ≡ c → Accepted (cond c x y) → (m < limit) × Accepted x
        pick true e a = ((let r : m < limit = grind (arith, nat_tests) in r), a)
        pick false e a = absurd (never a)

    open_array_turns : (e : Expect) (o : List Holder) (f : Expect → List Holder → TextReading)
        → Accepted (after_turn limit i o (at_open_array e) f)
        → (length o < limit → Accepted (f expect.ArrayFirst (holder.Array ∷ o)) → RestValue o i (0x5b ∷ t)) → RestGap e o i (0x5b ∷ t)
    open_array_turns expect.Value o f acc k = let p = below (length o) _ _ acc (λ a. elim a [ ]) in k p.0 p.1
    open_array_turns expect.ArrayFirst o f acc k = let p = below (length o) _ _ acc (λ a. elim a [ ]) in some (k p.0 p.1)
    open_array_turns expect.ObjectFirst o f acc k = elim acc [ ]
    open_array_turns expect.Name o f acc k = elim acc [ ]
    open_array_turns expect.Colon o f acc k = elim acc [ ]
    open_array_turns expect.After o f acc k = elim acc [ ]

    open_object_turns : (e : Expect) (o : List Holder) (f : Expect → List Holder → TextReading)
        → Accepted (after_turn limit i o (at_open_object e) f)
        → (length o < limit → Accepted (f expect.ObjectFirst (holder.Object ∷ o)) → RestValue o i (0x7b ∷ t)) → RestGap e o i (0x7b ∷ t)
    open_object_turns expect.Value o f acc k = let p = below (length o) _ _ acc (λ a. elim a [ ]) in k p.0 p.1
    open_object_turns expect.ArrayFirst o f acc k = let p = below (length o) _ _ acc (λ a. elim a [ ]) in some (k p.0 p.1)
    open_object_turns expect.ObjectFirst o f acc k = elim acc [ ]
    open_object_turns expect.Name o f acc k = elim acc [ ]
    open_object_turns expect.Colon o f acc k = elim acc [ ]
    open_object_turns expect.After o f acc k = elim acc [ ]

    close_array_turns : (e : Expect) (o : List Holder) → length o ≤ limit
        → Accepted (after_turn limit i o (at_close_array e (top o)) (λ e o. more state.Gap e o)) → RestGap e o i (0x5d ∷ t)
    close_array_turns expect.ArrayFirst (holder.Array ∷ o) le acc = none no_blanks (ih state.Gap expect.After o acc (omega arith))
    close_array_turns expect.After (holder.Array ∷ o) le acc = in_array (array_end no_blanks) (omega arith) (ih state.Gap expect.After o acc (omega arith))
    close_array_turns _ _ le acc = elim acc [ ]

    close_object_turns : (e : Expect) (o : List Holder) → length o ≤ limit
        → Accepted (after_turn limit i o (at_close_object e (top o)) (λ e o. more state.Gap e o)) → RestGap e o i (0x7d ∷ t)
    close_object_turns expect.ObjectFirst (holder.Object ∷ o) le acc = no_name no_blanks (ih state.Gap expect.After o acc (omega arith))
    close_object_turns expect.After (holder.Object ∷ o) le acc = in_object (object_end no_blanks) (omega arith) (ih state.Gap expect.After o acc (omega arith))
    close_object_turns _ _ le acc = elim acc [ ]

    colon_turns : (e : Expect) (o : List Holder) → length o ≤ limit
        → Accepted (after_turn limit i o (at_colon e) (λ e o. more state.Gap e o)) → RestGap e o i (0x3a ∷ t)
    colon_turns expect.Colon o le acc = a_colon no_blanks (ih state.Gap expect.Value o acc le)
    colon_turns _ o le acc = elim acc [ ]

    comma_turns : (e : Expect) (o : List Holder) → length o ≤ limit
        → Accepted (after_turn limit i o (at_comma e (top o)) (λ e o. more state.Gap e o)) → RestGap e o i (0x2c ∷ t)
    comma_turns expect.After (holder.Array ∷ o) le acc = comma_array (ih state.Gap expect.Value (holder.Array ∷ o) acc le)
    comma_turns expect.After (holder.Object ∷ o) le acc = comma_object (ih state.Gap expect.Name (holder.Object ∷ o) acc le)
    comma_turns _ _ le acc = elim acc [ ]

    -- ---- a token that begins here

    token_is : (k : Kind) (b : ℕ) (entry : LexState) → in_token entry ≡ true → move state.Gap b ≡ begin (mark_of k) entry → {e : Expect} {o : List Holder} {j : ℕ} {u : List ℕ}
        → (r : RestToken entry e o j u) → IsToken k (b ∷ r.token)
    token_is k b entry h m r =
        law.tokens k (b ∷ r.token) (record { first = b; bytes = r.token; entry = entry; last = r.last; whole = refl; begins = m; inside = r.spells; final = r.final; entered = h })

    scalar_begins : (k : Kind) (b : ℕ) (entry : LexState) → in_token entry ≡ true → move state.Gap b ≡ begin (mark_of k) entry → depth_over k 0 ≡ 0 → (e : Expect) (o : List Holder)
        → length o ≤ limit → Accepted (after_turn limit i o (at_scalar e) (λ e o. more entry e o)) → RestGap e o i (b ∷ t)
    scalar_begins k b entry h m flat e o le acc =
        scalar_turns e o b (λ e o. more entry e o) acc
        (λ a. let r = of_rest entry expect.After o (suc i) t h (ih entry expect.After o a le) in scalar_rest k b r.token r.after r.end o flat (token_is k b entry h m r) r.whole r.is_end le r.rest)

    string_begins : (b : ℕ) (entry : LexState) → in_token entry ≡ true → move state.Gap b ≡ begin mark.String entry → (e : Expect) (o : List Holder)
        → length o ≤ limit → Accepted (after_turn limit i o (at_string e) (λ e o. more entry e o)) → RestGap e o i (b ∷ t)
    string_begins b entry h m e o le acc =
        string_turns e o b (λ e o. more entry e o) acc
        (λ a. let r = of_rest entry expect.After o (suc i) t h (ih entry expect.After o a le) in scalar_rest kind.String b r.token r.after r.end o refl (token_is kind.String b entry h m r) r.whole r.is_end le r.rest)
        (λ a. let r = of_rest entry expect.Colon o (suc i) t h (ih entry expect.Colon o a le) in
        a_name {j = i} {k = r.end} {v = r.after} no_blanks (record { token = b ∷ r.token; is_token = token_is kind.String b entry h m r; whole = ap (λ x. b ∷ x) r.whole; end = let x : r.end ≡ i + suc (length r.token) = omega (arith, r.is_end) in x }) r.rest)

    token_begins : (k : Kind) (b : ℕ) (entry : LexState) → IsScalar k → in_token entry ≡ true → move state.Gap b ≡ begin (mark_of k) entry → (e : Expect) (o : List Holder)
        → length o ≤ limit → Accepted (on_step limit i e o (begin (mark_of k) entry) more) → RestGap e o i (b ∷ t)
    token_begins kind.Object b entry scalar h m e o le acc = absurd scalar
    token_begins kind.Array b entry scalar h m e o le acc = absurd scalar
    token_begins kind.String b entry scalar h m e o le acc = string_begins b entry h m e o le acc
    token_begins kind.Number b entry scalar h m e o le acc = scalar_begins kind.Number b entry h m refl e o le acc
    token_begins kind.True b entry scalar h m e o le acc = scalar_begins kind.True b entry h m refl e o le acc
    token_begins kind.False b entry scalar h m e o le acc = scalar_begins kind.False b entry h m refl e o le acc
    token_begins kind.Null b entry scalar h m e o le acc = scalar_begins kind.Null b entry h m refl e o le acc

    mark_rest : {b : ℕ} {k : MarkKind} → IsStructural b k → (e : Expect) (o : List Holder) → length o ≤ limit → Accepted (on_step limit i e o (structural k) more) → RestGap e o i (b ∷ t)
    mark_rest byte.open_array e o le acc = open_array_turns e o (λ e o. more state.Gap e o) acc (λ lt a. open_array lt (ih state.Gap expect.ArrayFirst (holder.Array ∷ o) a lt))
    mark_rest byte.close_array e o le acc = close_array_turns e o le acc
    mark_rest byte.open_object e o le acc = open_object_turns e o (λ e o. more state.Gap e o) acc (λ lt a. open_object lt (ih state.Gap expect.ObjectFirst (holder.Object ∷ o) a lt))
    mark_rest byte.close_object e o le acc = close_object_turns e o le acc
    mark_rest byte.colon e o le acc = colon_turns e o le acc
    mark_rest byte.comma e o le acc = comma_turns e o le acc

    gap_step : (b : ℕ) (e : Expect) (o : List Holder) → length o ≤ limit → Accepted (on_step limit i e o (move state.Gap b) more) → RestGap e o i (b ∷ t)
    gap_step b e o le acc = pick (law.gaps b)
      where
        to : {st : Step} → move state.Gap b ≡ st → Accepted (on_step limit i e o st more)
        to m = subst (λ (st : Step). Accepted (on_step limit i e o st more)) m acc

        pick : GapStep b → RestGap e o i (b ∷ t)
        pick (byte.a_blank h m) = gap_blank e o i t h (ih state.Gap e o (to m) le)
        pick (byte.a_token k entry scalar h m) = token_begins k b entry scalar h m e o le (to m)
        pick (byte.a_mark h m) = mark_rest h e o le (to m)
        pick (byte.no_step m) = elim (to m) [ ]

    -- ---- one byte inside a token

    gap_again : (b : ℕ) (e : Expect) (o : List Holder) → Accepted (on_step limit i e o (as_gap (class_at b)) more) → Accepted (on_step limit i e o (move state.Gap b) more)
    unfolding as_gap
    gap_again b e o acc = acc

    token_step : (s : LexState) (b : ℕ) (e : Expect) (o : List Holder) → length o ≤ limit → in_token s ≡ true → Accepted (on_step limit i e o (move s b) more) → RestToken s e o i (b ∷ t)
    token_step s b e o le inside acc = pick (law.steps s b inside)
      where
        to : {st : Step} → move s b ≡ st → Accepted (on_step limit i e o st more)
        to m = subst (λ (st : Step). Accepted (on_step limit i e o st more)) m acc

        pick : TokenStep s b → RestToken s e o i (b ∷ t)
        pick (byte.goes_on {next = next} h m) =
            let r = of_rest next e o (suc i) t h (ih next e o (to m) le) in
            record {
              token = b ∷ r.token;
              after = r.after;
              end = r.end;
              last = r.last;
              spells = goes m r.spells;
              final = r.final;
              whole = ap (λ x. b ∷ x) r.whole;
              is_end = let x : r.end ≡ i + suc (length r.token) = omega (arith, r.is_end) in x;
              rest = r.rest;
            }
        pick (byte.ends m) =
            record { token = b ∷ []; after = t; end = suc i; last = state.Gap; spells = shuts m; final = final_gap; whole = refl; is_end = let x : suc i ≡ i + 1 = omega arith in x; rest = ih state.Gap e o (to m) le }
        pick (byte.ended f m) =
            record { token = []; after = b ∷ t; end = i; last = s; spells = here; final = f; whole = refl; is_end = let x : i ≡ i + 0 = omega arith in x; rest = gap_step b e o le (gap_again b e o (to m)) }
        pick (byte.fails m) = elim (to m) [ ]

    any_step : (s : LexState) (b : ℕ) (e : Expect) (o : List Holder) → length o ≤ limit → Accepted (on_step limit i e o (move s b) more) → Rest s e o i (b ∷ t)
    any_step s b e o le acc = pick (in_token s) refl
      where
        pick : (c : Bool) → in_token s ≡ c → Rest s e o i (b ∷ t)
        pick true h = to_rest s e o i (b ∷ t) h (token_step s b e o le h acc)
        pick false h =
            subst (λ (x : LexState). Rest x e o i (b ∷ t)) (sym (gap_of s h))
            (gap_step b e o le (subst (λ (x : LexState). Accepted (on_step limit i e o (move x b) more)) (gap_of s h) acc))

  at_end : (s : LexState) (e : Expect) (o : List Holder) (i : ℕ) → Accepted (went s e o) → Rest s e o i []
  at_end _ _ _ i (accepted final_gap) = at_bottom no_blanks
  at_end _ _ _ i (accepted final_zero) = record { token = []; after = []; end = i; last = state.Zero; spells = here; final = final_zero; whole = refl; is_end = let x : i ≡ i + 0 = omega arith in x; rest = at_bottom no_blanks }
  at_end _ _ _ i (accepted final_int) = record { token = []; after = []; end = i; last = state.Int; spells = here; final = final_int; whole = refl; is_end = let x : i ≡ i + 0 = omega arith in x; rest = at_bottom no_blanks }
  at_end _ _ _ i (accepted final_frac) = record { token = []; after = []; end = i; last = state.Frac; spells = here; final = final_frac; whole = refl; is_end = let x : i ≡ i + 0 = omega arith in x; rest = at_bottom no_blanks }
  at_end _ _ _ i (accepted final_exp) = record { token = []; after = []; end = i; last = state.Exp; spells = here; final = final_exp; whole = refl; is_end = let x : i ≡ i + 0 = omega arith in x; rest = at_bottom no_blanks }

  pub rest_of : TokensAreRead → (t : List ℕ) (s : LexState) (e : Expect) (o : List Holder) (i : ℕ) → Accepted (run limit s e o i t) → length o ≤ limit → Rest s e o i t
  unfolding run
  rest_of law [] s e o i acc le = at_end s e o i acc
  rest_of law (b ∷ t) s e o i acc le = any_step law i t (λ s e o. run limit s e o (suc i) t) (λ s e o a l. rest_of law t s e o (suc i) a l) s b e o le acc

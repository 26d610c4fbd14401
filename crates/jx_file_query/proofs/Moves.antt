-- What one mark does to the reading of an accepted text.
use Rattle.std.proofs.Common.{◌≡◌, ℕ, List, ◌∷◌, length, refl, sym, ◌∙◌, ap, Bool, true, false}
use Rattle.std.specs.Prelude.{nat_lt, if◌then◌else◌}
use Rattle.jx_lex.specs.declared.alphabet.mark.Mark.{Mark}
use Rattle.jx_reduce.specs.declared.table.expect.Expect.{Expect}
use Rattle.jx_reduce.specs.declared.table.expect.Expect.TheVariants.{Value, ArrayFirst, ObjectFirst, Name, Colon, After}
use Rattle.jx_reduce.specs.declared.table.holder.Holder.{Holder}
use Rattle.jx_reduce.specs.declared.table.holder.Holder.TheVariants.{Array, Object, Bottom}
use Rattle.jx_reduce.specs.Read.{Reading, went, stopped, too_deep, moved, read, step, top, without_top}
use Rattle.jx_reduce.specs.Table.{same, added, removed, where_value, where_string, where_close_array, where_close_object, where_colon, where_comma}
use Rattle.jx_reduce.proofs.KnownMoves.{read-fault}
use Rattle.jx_file_query.specs.Passing.{room}

-- ---- a reading that goes on

pub record Goes (d : ℕ) (m : Mark) (ms : List Mark) (e : Expect) (hs : List Holder) (last : Expect) (lasts : List Holder) : Type 0 where
  pub expect : Expect
  pub holders : List Holder
  pub is : step d m (went e hs) ≡ went expect holders
  pub rest : read d ms (went expect holders) ≡ went last lasts

pub goes : (d : ℕ) (m : Mark) (ms : List Mark) (e : Expect) (hs : List Holder) (last : Expect) (lasts : List Holder) → read d (m ∷ ms) (went e hs) ≡ went last lasts → Goes d m ms e hs last lasts
goes d m ms e hs last lasts h = pick (step d m (went e hs)) refl
  where
    pick : (r : Reading) → step d m (went e hs) ≡ r → Goes d m ms e hs last lasts
    pick (went x xs) is = record { expect = x; holders = xs; is = is; rest = ap (read d ms) (sym is) ∙ h }
    pick (stopped at) is = let f : stopped at ≡ went last lasts = sym (read-fault d ms (stopped at) tt) ∙ ap (read d ms) (sym is) ∙ h in absurd cc
    pick (too_deep at) is = let f : too_deep at ≡ went last lasts = sym (read-fault d ms (too_deep at) tt) ∙ ap (read d ms) (sym is) ∙ h in absurd cc

-- ---- where a value may begin

pub record Begins (e next last : Expect) (hs lasts : List Holder) : Type 0 where
  pub room_is : room e ≡ 1
  pub next_is : last ≡ next
  pub holders : lasts ≡ hs

module _ (d at : ℕ) (hs : List Holder) (e last : Expect) (lasts : List Holder) where
  same_value : (x : Expect) → moved d at same (where_value After x) hs ≡ went last lasts → Begins x After last hs lasts
  same_value Value h = record { room_is = refl; next_is = (cc); holders = (cc) }
  same_value ArrayFirst h = record { room_is = refl; next_is = (cc); holders = (cc) }
  same_value ObjectFirst h = absurd cc
  same_value Name h = absurd cc
  same_value Colon h = absurd cc
  same_value After h = absurd cc

  pub value_begins : moved d at same (where_value After e) hs ≡ went last lasts → Begins e After last hs lasts
  value_begins h = same_value e h

  string_keeps : (x : Expect) → moved d at same (where_string x) hs ≡ went last lasts → lasts ≡ hs
  string_keeps Value h = cc
  string_keeps ArrayFirst h = cc
  string_keeps ObjectFirst h = cc
  string_keeps Name h = cc
  string_keeps Colon h = absurd cc
  string_keeps After h = absurd cc

  pub string_holders : moved d at same (where_string e) hs ≡ went last lasts → lasts ≡ hs
  string_holders h = string_keeps e h

  deeper_value : (x y : Expect) (h : Holder) (b : Bool) → (if b then went y (h ∷ hs) else too_deep at) ≡ went last lasts → lasts ≡ h ∷ hs
  deeper_value x y h true is = cc
  deeper_value x y h false is = absurd cc

  opens : (x y : Expect) (h : Holder) → moved d at (added h) (where_value y x) hs ≡ went last lasts → (room x ≡ 1) × (lasts ≡ h ∷ hs)
  opens Value y h is = (refl, deeper_value Value y h (nat_lt (length hs) d) is)
  opens ArrayFirst y h is = (refl, deeper_value ArrayFirst y h (nat_lt (length hs) d) is)
  opens ObjectFirst y h is = absurd cc
  opens Name y h is = absurd cc
  opens Colon y h is = absurd cc
  opens After y h is = absurd cc

  pub container_begins : (y : Expect) (h : Holder) → moved d at (added h) (where_value y e) hs ≡ went last lasts → (room e ≡ 1) × (lasts ≡ h ∷ hs)
  container_begins y h is = opens e y h is

  array_shuts : (x : Expect) (h : Holder) → moved d at removed (where_close_array x h) hs ≡ went last lasts → (last ≡ After) × (lasts ≡ without_top hs)
  array_shuts ArrayFirst Array is = ((cc), (cc))
  array_shuts ArrayFirst Object is = absurd cc
  array_shuts ArrayFirst Bottom is = absurd cc
  array_shuts After Array is = ((cc), (cc))
  array_shuts After Object is = absurd cc
  array_shuts After Bottom is = absurd cc
  array_shuts Value h is = absurd cc
  array_shuts ObjectFirst h is = absurd cc
  array_shuts Name h is = absurd cc
  array_shuts Colon h is = absurd cc

  pub array_ends : moved d at removed (where_close_array e (top hs)) hs ≡ went last lasts → (last ≡ After) × (lasts ≡ without_top hs)
  array_ends is = array_shuts e (top hs) is

  object_shuts : (x : Expect) (h : Holder) → moved d at removed (where_close_object x h) hs ≡ went last lasts → (last ≡ After) × (lasts ≡ without_top hs)
  object_shuts ObjectFirst Object is = ((cc), (cc))
  object_shuts ObjectFirst Array is = absurd cc
  object_shuts ObjectFirst Bottom is = absurd cc
  object_shuts After Object is = ((cc), (cc))
  object_shuts After Array is = absurd cc
  object_shuts After Bottom is = absurd cc
  object_shuts Value h is = absurd cc
  object_shuts ArrayFirst h is = absurd cc
  object_shuts Name h is = absurd cc
  object_shuts Colon h is = absurd cc

  pub object_ends : moved d at removed (where_close_object e (top hs)) hs ≡ went last lasts → (last ≡ After) × (lasts ≡ without_top hs)
  object_ends is = object_shuts e (top hs) is

  colons : (x : Expect) → moved d at same (where_colon x) hs ≡ went last lasts → (x ≡ Colon) × (lasts ≡ hs)
  colons Colon is = (refl, (cc))
  colons Value is = absurd cc
  colons ArrayFirst is = absurd cc
  colons ObjectFirst is = absurd cc
  colons Name is = absurd cc
  colons After is = absurd cc

  pub colon_stands : moved d at same (where_colon e) hs ≡ went last lasts → (e ≡ Colon) × (lasts ≡ hs)
  colon_stands is = colons e is

  -- an array goes on with a value
  pub record Comma (x : Expect) (h : Holder) : Type 0 where
    pub behind : x ≡ After
    pub array : h ≡ Array → last ≡ Value
    pub holders : lasts ≡ hs

  commas : (x : Expect) (h : Holder) → moved d at same (where_comma x h) hs ≡ went last lasts → Comma x h
  commas After Array is = record { behind = refl; array = λ e. (cc); holders = (cc) }
  commas After Object is = record { behind = refl; array = λ e. absurd (cc); holders = (cc) }
  commas After Bottom is = absurd cc
  commas Value h is = absurd cc
  commas ArrayFirst h is = absurd cc
  commas ObjectFirst h is = absurd cc
  commas Name h is = absurd cc
  commas Colon h is = absurd cc

  pub comma_stands : moved d at same (where_comma e (top hs)) hs ≡ went last lasts → Comma e (top hs)
  comma_stands is = commas e (top hs) is

-- A part of a text whose lowest marks stand in an object on the way, of members that nobody wants.
use Rattle.std.proofs.Common.{◌≡◌, ℕ, zero, suc, ◌+◌, ◌-◌, ◌<◌, ◌≤◌, List, [], ◌∷◌, ◌++◌, length, drop, take, inl, inr, refl, sym, ◌∙◌, ap, subst, append_assoc, arith, Bool, true, false, cond, Option, None, Some}
use Rattle.std.specs.Prelude.{◌==◌, ◌&&◌, All, is_some, slice_range}
use Rattle.std.proofs.lemmas.Bool.Decides.{nat_tests}
use Rattle.std.proofs.lemmas.Bool.{cases_lt}
use Rattle.std.proofs.lemmas.List.{drop-append-le, length-drop, take-append-le, take_all}
use Rattle.std.proofs.lemmas.List.Elements.{All-head, All-tail, All-take}
use Rattle.std.proofs.lemmas.List.Sums.{fold-append}
use Rattle.jx_lex.specs.declared.kind.Kind.{Kind}
use Rattle.jx_lex.specs.declared.kind.Kind.TheVariants as kind
use Rattle.jx_lex.specs.declared.alphabet.mark.Mark.{Mark}
use Rattle.jx_lex.specs.declared.alphabet.mark.MarkKind.{MarkKind}
use Rattle.jx_lex.specs.declared.alphabet.mark.MarkKind.TheVariants as mark
use Rattle.jx_run.specs.Tree.{span}
use Rattle.jx_reduce.specs.declared.table.expect.Expect.{Expect}
use Rattle.jx_reduce.specs.declared.table.expect.Expect.TheVariants.{Value, ArrayFirst, ObjectFirst, Name, Colon, After}
use Rattle.jx_reduce.specs.declared.table.holder.Holder.{Holder}
use Rattle.jx_reduce.specs.declared.table.holder.Holder.TheVariants.{Array, Object, Bottom}
use Rattle.jx_reduce.specs.Table.{same, where_value, where_string, where_comma, where_colon}
use Rattle.jx_reduce.specs.Read.{Reading, moved, went, stopped, too_deep, read, step, top, without_top}
use Rattle.jx_index.specs.declared.finder.Cursor.{Cursor}
use Rattle.jx_index.specs.declared.finder.Met.{Met}
use Rattle.jx_index.specs.declared.trie.Edge.{Edge}
use Rattle.jx_index.specs.declared.units.Spelling.TheVariants.{InText}
use Rattle.jx_index.specs.Units.{between_marks, chars_units, units_at}
use Rattle.jx_index.specs.inside.Building.{is_token, next_end}
use Rattle.jx_index.specs.inside.Finding.{Finding, begin_at, leaf_at, skip_over}
use Rattle.jx_index.specs.inside.InOrder.{behind}
use Rattle.jx_index.specs.inside.Trie.{child_at, element_at, seek_all, sought, string_among, target_node}
use Rattle.jx_file_index.specs.declared.sum.Sum.{Sum}
use Rattle.jx_file_index.specs.Sums.{at_comma, closing, noted, nothing, opening, sum_of}
use Rattle.jx_file_index.proofs.Sums.{close_none, comma_none}
use Rattle.jx_file_index.specs.Names.{NamesOf, none, plain, token, ended, is_behind_name, is_colon, kept}
use Rattle.jx_file_query.specs.Holding.{Holds, here, below, holder_of}
use Rattle.jx_file_query.specs.Passing.{room}
use Rattle.jx_file_query.specs.Members.{InObject, IsBegun, lacks, lacks_behind, unwanted_name}
use Rattle.jx_file_query.proofs.Moves.{array_ends, colon_stands, comma_stands, container_begins, object_ends, string_holders, value_begins}
use Rattle.jx_file_query.proofs.WalkPassings.{plain_ends, plain_over, seek_one, token_ends, token_over}
use Rattle.jx_file_query.proofs.Sums.{Open, none as none_open, some as some_open, close_some, comma_some, grows, open_or, token_noted}

-- ---- lists of which something holds everywhere

All-front : {X : Type 0} (P : X → Type 0) (xs ys : List X) → All P (xs ++ ys) → All P xs
All-front P xs ys all = subst (All P) (take-append-le (length xs) xs ys (omega arith) ∙ take_all (length xs) xs (omega arith)) (All-take P (length xs) (xs ++ ys) all)

All-last : {X : Type 0} (P : X → Type 0) (xs : List X) (x : X) → All P (xs ++ x ∷ []) → P x
All-last P [] x all = All-head P x [] all
All-last P (y ∷ ys) x all = All-last P ys x (All-tail P y (ys ++ x ∷ []) all)

-- ---- one mark more

sum_behind : (ms : List Mark) (m : Mark) → sum_of (ms ++ m ∷ []) ≡ noted m.kind (sum_of ms)
sum_behind ms m = fold-append (λ s mark. noted mark.kind s) nothing ms (m ∷ [])

record Undone (d : ℕ) (m : Mark) (ms : List Mark) (r : Reading) (x : Expect) (gs : List Holder) : Type 0 where
  expect : Expect
  holders : List Holder
  is : read d ms r ≡ went expect holders
  steps : step d m (went expect holders) ≡ went x gs

undone : (d : ℕ) (m : Mark) (ms : List Mark) (r : Reading) (x : Expect) (gs : List Holder) → read d (ms ++ m ∷ []) r ≡ went x gs → Undone d m ms r x gs
undone d m ms r x gs h = pick (read d ms r) refl
  where
    all : step d m (read d ms r) ≡ went x gs
    all = sym (fold-append (λ reading mark. step d mark reading) r ms (m ∷ [])) ∙ h

    pick : (y : Reading) → read d ms r ≡ y → Undone d m ms r x gs
    pick (went e hs) is = record { expect = e; holders = hs; is = is; steps = ap (step d m) (sym is) ∙ all }
    pick (stopped at) is = absurd (let f : stopped at ≡ went x gs = ap (step d m) (sym is) ∙ all in cc)
    pick (too_deep at) is = absurd (let f : too_deep at ≡ went x gs = ap (step d m) (sym is) ∙ all in cc)

-- the units of a name stand in what is known of a text
front_same : (xs ys : List ℕ) (a b : ℕ) → b ≤ length xs → slice_range (xs ++ ys) a b ≡ slice_range xs a b
front_same xs ys a b within = elim (cases_lt b a) [
  | inl lt ↦ let z : b - a ≡ 0 = omega (arith, lt) in ap (λ (k : ℕ). take k (drop a (xs ++ ys))) z ∙ sym (ap (λ (k : ℕ). take k (drop a xs)) z)
  | inr ge ↦ ap (take (b - a)) (drop-append-le a xs ys (omega (arith, ge, within)))
      ∙ take-append-le (b - a) (drop a xs) ys (let e : length (drop a xs) ≡ length xs - a = length-drop a xs in omega (arith, e, within))
]

units_same : (xs ys : List ℕ) (at end : ℕ) → end ≤ length xs → units_at (xs ++ ys) (span at end) ≡ units_at xs (span at end)
unfolding units_at
units_same xs ys at end within = ap (λ (w : List ℕ). chars_units InText 0 (between_marks w)) (front_same xs ys at end within)

-- ---- the object on the way

module _ (known future : List ℕ) (edges : List Edge) (last d : ℕ) (c : Cursor) (outer : List Cursor) (met : List Met) (object : c.is_object ≡ true) (n first slots : ℕ) (none_slots : 0 < n → slots ≡ 0) where
  abbrev pub text : List ℕ
  text = known ++ future

  -- so many members were counted, and so many containers are open that are skipped
  abbrev pub place : ℕ → ℕ → Option (Option ℕ) → Finding
  place k i w = record { met = met; opened = record c { count = k } ∷ outer; skipped = i; name = w }

  pub record Level (b : Option Mark) (s : Sum) (e : Expect) (hs : List Holder) (k i : ℕ) : Type 0 where
    pub rel : i + s.closed ≡ n + s.opened
    pub holds : Holds i (record c { count = k } ∷ outer) hs
    pub low : first ≤ k
    pub above : s.closed < n → k ≡ first
    pub level : s.closed ≡ n → k + lacks i (is_some b) e ≡ first + s.commas + slots
    pub stands : InObject i (is_some b) e
    pub busy : IsBegun i e b

  -- ---- the open containers

  recount : (k l i : ℕ) (hs : List Holder) → Holds i (record c { count = k } ∷ outer) hs → Holds i (record c { count = l } ∷ outer) hs
  recount k l i hs (here e rest) = here e rest
  recount k l i hs (below {k = j} {hs = gs} rest) = below (recount k l j gs rest)

  object_top : (k : ℕ) (hs : List Holder) → Holds 0 (record c { count = k } ∷ outer) hs → top hs ≡ Object
  object_top k hs (here e rest) = e ∙ ap holder_of object

  shallower : (k j : ℕ) (hs : List Holder) → Holds (suc j) (record c { count = k } ∷ outer) hs → Holds j (record c { count = k } ∷ outer) (without_top hs)
  shallower k j hs (below rest) = rest

  no_token : (i : ℕ) (e : Expect) → IsBegun i e None
  no_token i e = record { token = λ m h. absurd cc; string = λ m h z x. absurd cc }

  -- ---- nothing changes where more is skipped

  deeper : (b x : Option Mark) (s t : Sum) (e f : Expect) (hs gs : List Holder) (k i j : ℕ) → Level b s e hs k (suc i) → suc j + t.closed ≡ n + t.opened → t.closed ≡ s.closed → t.commas ≡ s.commas
      → Holds (suc j) (record c { count = k } ∷ outer) gs → IsBegun (suc j) f x → Level x t f gs k (suc j)
  deeper b x s t e f hs gs k i j l rel closed commas holds begun = record {
    rel = rel;
    holds = holds;
    low = l.low;
    above = λ h. l.above (omega (arith, h, closed));
    level = λ h. let was : k + 0 ≡ first + s.commas + slots = l.level (omega (arith, h, closed)) in omega (arith, was, commas);
    stands = tt;
    busy = begun;
  }

  -- behind a container that has ended
  none_lacks : (i : ℕ) (f : Expect) → f ≡ After → lacks i false f ≡ 0
  none_lacks zero f e = ap lacks_behind e
  none_lacks (suc i) f e = refl

  plainly : (i : ℕ) (f : Expect) → f ≡ After → InObject i false f
  plainly zero f e = subst (InObject 0 false) (sym e) tt
  plainly (suc i) f e = tt

  -- one container less is skipped
  out : (s : Sum) (e f : Expect) (hs : List Holder) (k j : ℕ) → Level None s e hs k (suc j) → (closing s).closed ≤ n → f ≡ After → Level None (closing s) f (without_top hs) k j
  out s e f hs k j l most after = go (open_or s.opened)
    where
      rel : suc j + s.closed ≡ n + s.opened
      rel = l.rel

      go : Open s.opened → Level None (closing s) f (without_top hs) k j
      go (some_open o is) =
          subst (λ (x : Sum). Level None x f (without_top hs) k j) (sym (close_some s o is))
          (record {
            rel = omega (arith, rel, is);
            holds = shallower k j hs l.holds;
            low = l.low;
            above = l.above;
            level = λ h. let was : k + 0 ≡ first + s.commas + slots = l.level h in let z = none_lacks j f after in omega (arith, was, z);
            stands = plainly j f after;
            busy = no_token j f;
          })
      go (none_open is) =
          let short : (closing s).closed ≡ suc s.closed = ap (λ (x : Sum). x.closed) (close_none s is) in
          let same : k ≡ first = l.above (omega (arith, short, most)) in
          let some : 0 < n = omega (arith, short, most) in
          let z = none_slots some in
          subst (λ (x : Sum). Level None x f (without_top hs) k j) (sym (close_none s is))
          (record {
            rel = omega (arith, rel, is);
            holds = shallower k j hs l.holds;
            low = l.low;
            above = λ h. same;
            level = λ h. let y = none_lacks j f after in omega (arith, same, z, y);
            stands = plainly j f after;
            busy = no_token j f;
          })

  -- ---- one mark that begins no token

  record Steps (m : Mark) (s : Sum) (e f : Expect) (gs : List Holder) (k i : ℕ) : Type 0 where
    count : ℕ
    skipped : ℕ
    next : Level None (noted m.kind s) f gs count skipped
    is : (more : List Mark) (ends : List ℕ) → seek_all text edges last (m ∷ more) ends (place k i (unwanted_name i false e)) ≡ seek_all text edges last more ends (place count skipped (unwanted_name skipped false f))

  -- where a container is open that is skipped
  skips : (m : Mark) (s : Sum) (e f : Expect) (hs gs : List Holder) (k j : ℕ) → is_token m.kind ≡ false → Level None s e hs k (suc j) → (noted m.kind s).closed ≤ n
      → step d m (went e hs) ≡ went f gs → Level None (noted m.kind s) f gs k (skip_over m.kind j)
  skips m s e f hs gs k j h l most is = go m.kind refl
    where
      rel : suc j + s.closed ≡ n + s.opened
      rel = l.rel

      opened : (x : Holder) → gs ≡ x ∷ hs → Level None (opening s) f gs k (suc (suc j))
      opened x g = deeper None None s (opening s) e f hs gs k j (suc j) l (omega (arith, rel)) refl refl (subst (λ (xs : List Holder). Holds (suc (suc j)) (record c { count = k } ∷ outer) xs) (sym g) (below l.holds)) (no_token (suc (suc j)) f)

      shut : f ≡ After → gs ≡ without_top hs → (closing s).closed ≤ n → Level None (closing s) f gs k j
      shut after g low = subst (λ (xs : List Holder). Level None (closing s) f xs k j) (sym g) (out s e f hs k j l low after)

      unchanged : gs ≡ hs → Level None s f gs k (suc j)
      unchanged g = deeper None None s s e f hs gs k j j l rel refl refl (subst (λ (xs : List Holder). Holds (suc j) (record c { count = k } ∷ outer) xs) (sym g) l.holds) (no_token (suc j) f)

      behind_comma : gs ≡ hs → Level None (at_comma s) f gs k (suc j)
      behind_comma g = pick (open_or s.opened)
        where
          pick : Open s.opened → Level None (at_comma s) f gs k (suc j)
          pick (some_open o q) = subst (λ (x : Sum). Level None x f gs k (suc j)) (sym (comma_some s o q)) (unchanged g)
          pick (none_open q) =
              subst (λ (x : Sum). Level None x f gs k (suc j)) (sym (comma_none s q))
              (record {
                rel = rel;
                holds = subst (λ (xs : List Holder). Holds (suc j) (record c { count = k } ∷ outer) xs) (sym g) l.holds;
                low = l.low;
                above = l.above;
                level = λ x. absurd (omega (arith, x, rel, q));
                stands = tt;
                busy = no_token (suc j) f;
              })

      steps : (kd : MarkKind) → m.kind ≡ kd → step d (record m { kind = kd }) (went e hs) ≡ went f gs
      steps kd q = subst (λ (x : MarkKind). step d (record m { kind = x }) (went e hs) ≡ went f gs) q is

      go : (kd : MarkKind) → m.kind ≡ kd → Level None (noted m.kind s) f gs k (skip_over m.kind j)
      go kd q = subst (λ (x : MarkKind). Level None (noted x s) f gs k (skip_over x j)) (sym q) (by kd q)
        where
          by : (x : MarkKind) → m.kind ≡ x → Level None (noted x s) f gs k (skip_over x j)
          by mark.OpenArray r = opened Array (container_begins d m.at hs e f gs ArrayFirst Array (steps mark.OpenArray r)).1
          by mark.OpenObject r = opened Object (container_begins d m.at hs e f gs ObjectFirst Object (steps mark.OpenObject r)).1
          by mark.CloseArray r = let p = array_ends d m.at hs e f gs (steps mark.CloseArray r) in shut p.0 p.1 (subst (λ (x : MarkKind). (noted x s).closed ≤ n) r most)
          by mark.CloseObject r = let p = object_ends d m.at hs e f gs (steps mark.CloseObject r) in shut p.0 p.1 (subst (λ (x : MarkKind). (noted x s).closed ≤ n) r most)
          by mark.Colon r = unchanged (colon_stands d m.at hs e f gs (steps mark.Colon r)).1
          by mark.Comma r = behind_comma (comma_stands d m.at hs e f gs (steps mark.Comma r)).holders
          by mark.String r = absurd (let z : is_token mark.String ≡ false = subst (λ (x : MarkKind). is_token x ≡ false) r h in cc)
          by mark.Number r = absurd (let z : is_token mark.Number ≡ false = subst (λ (x : MarkKind). is_token x ≡ false) r h in cc)
          by mark.True r = absurd (let z : is_token mark.True ≡ false = subst (λ (x : MarkKind). is_token x ≡ false) r h in cc)
          by mark.False r = absurd (let z : is_token mark.False ≡ false = subst (λ (x : MarkKind). is_token x ≡ false) r h in cc)
          by mark.Null r = absurd (let z : is_token mark.Null ≡ false = subst (λ (x : MarkKind). is_token x ≡ false) r h in cc)

  -- behind a container that has ended no name waits
  out_name : (i : ℕ) (f : Expect) → (i ≡ 0 → f ≡ After) → unwanted_name i false f ≡ None
  out_name zero f h = ap (unwanted_name 0 false) (h refl)
  out_name (suc i) f h = refl

  -- where a mark leads to a level at which nothing is skipped, a container has ended
  skipped_after : (kd : MarkKind) (at j : ℕ) (e f : Expect) (hs gs : List Holder) → step d (record { kind = kd; at = at }) (went e hs) ≡ went f gs → skip_over kd j ≡ 0 → f ≡ After
  skipped_after mark.OpenArray at j e f hs gs is z = absurd cc
  skipped_after mark.OpenObject at j e f hs gs is z = absurd cc
  skipped_after mark.CloseArray at j e f hs gs is z = (array_ends d at hs e f gs is).0
  skipped_after mark.CloseObject at j e f hs gs is z = (object_ends d at hs e f gs is).0
  skipped_after mark.Colon at j e f hs gs is z = absurd cc
  skipped_after mark.Comma at j e f hs gs is z = absurd cc
  skipped_after mark.String at j e f hs gs is z = absurd cc
  skipped_after mark.Number at j e f hs gs is z = absurd cc
  skipped_after mark.True at j e f hs gs is z = absurd cc
  skipped_after mark.False at j e f hs gs is z = absurd cc
  skipped_after mark.Null at j e f hs gs is z = absurd cc

  deep_step : (m : Mark) (s : Sum) (e f : Expect) (hs gs : List Holder) (k j : ℕ) → is_token m.kind ≡ false → Level None s e hs k (suc j) → (noted m.kind s).closed ≤ n
      → step d m (went e hs) ≡ went f gs → Steps m s e f gs k (suc j)
  deep_step m s e f hs gs k j h l most is =
      let i = skip_over m.kind j in
      record {
        count = k;
        skipped = i;
        next = skips m s e f hs gs k j h l most is;
        is = λ more ends.
            plain_over text edges last m more ends j (place k (suc j) None) refl h
            ∙ ap (λ (w : Option (Option ℕ)). seek_all text edges last more ends (place k i w)) (sym (out_name i f (skipped_after m.kind m.at j e f hs gs is)));
      }

  -- where nothing is skipped

  plainly_sought : (m : Mark) (more : List Mark) (ends : List ℕ) (k l i : ℕ) (v w : Option (Option ℕ)) → is_token m.kind ≡ false
      → sought text edges m.kind m.at (next_end last ends) (place k 0 v) ≡ place l i w → seek_all text edges last (m ∷ more) ends (place k 0 v) ≡ seek_all text edges last more ends (place l i w)
  plainly_sought m more ends k l i v w h is =
      seek_one text edges last m more ends (place k 0 v)
      ∙ ap (λ (xs : List ℕ). seek_all text edges last more xs (sought text edges m.kind m.at (next_end last ends) (place k 0 v))) (plain_ends m.kind ends h)
      ∙ ap (seek_all text edges last more ends) is

  target_is : (k : ℕ) → target_node edges (place k 0 (Some None)) ≡ None
  target_is k = ap (λ (b : Bool). cond b None (element_at edges c.level k)) object

  value_here : (x : Expect) → room x ≡ 1 → InObject 0 false x → x ≡ Value
  value_here Value h i = refl
  value_here ArrayFirst h i = absurd i
  value_here ObjectFirst h i = absurd cc
  value_here Name h i = absurd cc
  value_here Colon h i = absurd cc
  value_here After h i = absurd cc

  comma_names : (at : ℕ) (x f : Expect) (h : Holder) (hs gs : List Holder) → moved d at same (where_comma x h) hs ≡ went f gs → h ≡ Object → f ≡ Name
  comma_names at After f Array hs gs is o = absurd cc
  comma_names at After f Object hs gs is o = cc
  comma_names at After f Bottom hs gs is o = absurd cc
  comma_names at Value f h hs gs is o = absurd cc
  comma_names at ArrayFirst f h hs gs is o = absurd cc
  comma_names at ObjectFirst f h hs gs is o = absurd cc
  comma_names at Name f h hs gs is o = absurd cc
  comma_names at Colon f h hs gs is o = absurd cc

  colon_values : (at : ℕ) (x f : Expect) (hs gs : List Holder) → moved d at same (where_colon x) hs ≡ went f gs → f ≡ Value
  colon_values at Colon f hs gs is = cc
  colon_values at Value f hs gs is = absurd cc
  colon_values at ArrayFirst f hs gs is = absurd cc
  colon_values at ObjectFirst f hs gs is = absurd cc
  colon_values at Name f hs gs is = absurd cc
  colon_values at After f hs gs is = absurd cc

  -- a container begins as a value
  opened_level : (s : Sum) (e f : Expect) (hs gs : List Holder) (k : ℕ) (h : Holder) → Level None s e hs k 0 → s.closed ≡ n → s.opened ≡ 0 → e ≡ Value → gs ≡ h ∷ hs → Level None (opening s) f gs (suc k) 1
  opened_level s e f hs gs k h l closed shut value g =
      let was : k + 1 ≡ first + s.commas + slots = subst (λ (x : Expect). k + lacks 0 false x ≡ first + s.commas + slots) value (l.level closed) in
      let low = l.low in
      record {
        rel = omega (arith, closed, shut);
        holds = subst (λ (xs : List Holder). Holds 1 (record c { count = suc k } ∷ outer) xs) (sym g) (below (recount k (suc k) 0 hs l.holds));
        low = omega (arith, low);
        above = λ x. absurd (omega (arith, x, closed));
        level = λ x. omega (arith, was);
        stands = tt;
        busy = no_token 1 f;
      }

  lowest_step : (kd : MarkKind) (at : ℕ) (s : Sum) (e f : Expect) (hs gs : List Holder) (k : ℕ) → is_token kd ≡ false → Level None s e hs k 0 → s.closed ≡ n → s.opened ≡ 0 → (noted kd s).closed ≤ n
      → step d (record { kind = kd; at = at }) (went e hs) ≡ went f gs → Steps (record { kind = kd; at = at }) s e f gs k 0
  lowest_step mark.OpenArray at s e f hs gs k h l closed shut most is =
      let p = container_begins d at hs e f gs ArrayFirst Array is in
      let value = value_here e p.0 l.stands in
      record {
        count = suc k;
        skipped = 1;
        next = opened_level s e f hs gs k Array l closed shut value p.1;
        is = λ more ends.
            plainly_sought (record { kind = mark.OpenArray; at = at }) more ends k (suc k) 1 (unwanted_name 0 false e) None refl
            (ap (λ (x : Expect). sought text edges mark.OpenArray at (next_end last ends) (place k 0 (unwanted_name 0 false x))) value
            ∙ ap (λ (t : Option ℕ). begin_at t kind.Array false at (place k 0 (Some None))) (target_is k));
      }
  lowest_step mark.OpenObject at s e f hs gs k h l closed shut most is =
      let p = container_begins d at hs e f gs ObjectFirst Object is in
      let value = value_here e p.0 l.stands in
      record {
        count = suc k;
        skipped = 1;
        next = opened_level s e f hs gs k Object l closed shut value p.1;
        is = λ more ends.
            plainly_sought (record { kind = mark.OpenObject; at = at }) more ends k (suc k) 1 (unwanted_name 0 false e) None refl
            (ap (λ (x : Expect). sought text edges mark.OpenObject at (next_end last ends) (place k 0 (unwanted_name 0 false x))) value
            ∙ ap (λ (t : Option ℕ). begin_at t kind.Object true at (place k 0 (Some None))) (target_is k));
      }
  lowest_step mark.CloseArray at s e f hs gs k h l closed shut most is =
      let q : (closing s).closed ≡ suc s.closed = ap (λ (x : Sum). x.closed) (close_none s shut) in absurd (omega (arith, q, most, closed))
  lowest_step mark.CloseObject at s e f hs gs k h l closed shut most is =
      let q : (closing s).closed ≡ suc s.closed = ap (λ (x : Sum). x.closed) (close_none s shut) in absurd (omega (arith, q, most, closed))
  lowest_step mark.Colon at s e f hs gs k h l closed shut most is =
      let p = colon_stands d at hs e f gs is in
      let value = colon_values at e f hs gs is in
      let was : k + 1 ≡ first + s.commas + slots = subst (λ (x : Expect). k + lacks 0 false x ≡ first + s.commas + slots) p.0 (l.level closed) in
      record {
        count = k;
        skipped = 0;
        next = record {
          rel = l.rel;
          holds = subst (λ (xs : List Holder). Holds 0 (record c { count = k } ∷ outer) xs) (sym p.1) l.holds;
          low = l.low;
          above = l.above;
          level = λ x. subst (λ (y : Expect). k + lacks 0 false y ≡ first + s.commas + slots) (sym value) was;
          stands = subst (InObject 0 false) (sym value) tt;
          busy = no_token 0 f;
        };
        is = λ more ends.
            plainly_sought (record { kind = mark.Colon; at = at }) more ends k k 0 (unwanted_name 0 false e) (unwanted_name 0 false f) refl
            (ap (λ (x : Expect). place k 0 (unwanted_name 0 false x)) p.0 ∙ ap (λ (x : Expect). place k 0 (unwanted_name 0 false x)) (sym value));
      }
  lowest_step mark.Comma at s e f hs gs k h l closed shut most is =
      let p = comma_stands d at hs e f gs is in
      let name : f ≡ Name = comma_names at e f (top hs) hs gs is (object_top k hs l.holds) in
      let was : k + 0 ≡ first + s.commas + slots = subst (λ (x : Expect). k + lacks 0 false x ≡ first + s.commas + slots) p.behind (l.level closed) in
      let one : lacks 0 false f ≡ 1 = ap (lacks 0 false) name in
      record {
        count = k;
        skipped = 0;
        next = subst (λ (x : Sum). Level None x f gs k 0) (sym (comma_none s shut))
            (record {
              rel = omega (arith, closed, shut);
              holds = subst (λ (xs : List Holder). Holds 0 (record c { count = k } ∷ outer) xs) (sym p.holders) l.holds;
              low = l.low;
              above = l.above;
              level = λ x. omega (arith, was, one);
              stands = subst (InObject 0 false) (sym name) tt;
              busy = no_token 0 f;
            });
        is = λ more ends.
            plainly_sought (record { kind = mark.Comma; at = at }) more ends k k 0 (unwanted_name 0 false e) (unwanted_name 0 false f) refl
            (ap (λ (x : Expect). place k 0 (unwanted_name 0 false x)) p.behind ∙ ap (λ (x : Expect). place k 0 (unwanted_name 0 false x)) (sym name));
      }
  lowest_step mark.String at s e f hs gs k h l closed shut most is = absurd cc
  lowest_step mark.Number at s e f hs gs k h l closed shut most is = absurd cc
  lowest_step mark.True at s e f hs gs k h l closed shut most is = absurd cc
  lowest_step mark.False at s e f hs gs k h l closed shut most is = absurd cc
  lowest_step mark.Null at s e f hs gs k h l closed shut most is = absurd cc

  plain_step : (m : Mark) (s : Sum) (e f : Expect) (hs gs : List Holder) (k i : ℕ) → is_token m.kind ≡ false → Level None s e hs k i → (noted m.kind s).closed ≤ n
      → step d m (went e hs) ≡ went f gs → Steps m s e f gs k i
  plain_step m s e f hs gs k zero h l most is =
      let r = l.rel in
      let g = grows m.kind s in
      lowest_step m.kind m.at s e f hs gs k h l (omega (arith, r, most, g)) (omega (arith, r, most, g)) most is
  plain_step m s e f hs gs k (suc j) h l most is = deep_step m s e f hs gs k j h l most is

  -- ---- a token begins

  token_holders : (kd : MarkKind) (at : ℕ) (e f : Expect) (hs gs : List Holder) → is_token kd ≡ true → step d (record { kind = kd; at = at }) (went e hs) ≡ went f gs → gs ≡ hs
  token_holders mark.OpenArray at e f hs gs h is = absurd cc
  token_holders mark.OpenObject at e f hs gs h is = absurd cc
  token_holders mark.CloseArray at e f hs gs h is = absurd cc
  token_holders mark.CloseObject at e f hs gs h is = absurd cc
  token_holders mark.Colon at e f hs gs h is = absurd cc
  token_holders mark.Comma at e f hs gs h is = absurd cc
  token_holders mark.String at e f hs gs h is = string_holders d at hs e f gs is
  token_holders mark.Number at e f hs gs h is = (value_begins d at hs e f gs is).holders
  token_holders mark.True at e f hs gs h is = (value_begins d at hs e f gs is).holders
  token_holders mark.False at e f hs gs h is = (value_begins d at hs e f gs is).holders
  token_holders mark.Null at e f hs gs h is = (value_begins d at hs e f gs is).holders

  -- as the value of a member, or as the name of one
  data Begins (kd : MarkKind) (e f : Expect) : Type 0 where
    value : e ≡ Value → f ≡ After → Begins kd e f
    name : lacks_behind e ≡ 1 → unwanted_name 0 false e ≡ None → f ≡ Colon → kd ≡ mark.String → Begins kd e f

  string_begins : (at : ℕ) (e f : Expect) (hs gs : List Holder) → InObject 0 false e → moved d at same (where_string e) hs ≡ went f gs → Begins mark.String e f
  string_begins at Value f hs gs i is = value refl (cc)
  string_begins at ArrayFirst f hs gs i is = absurd i
  string_begins at ObjectFirst f hs gs i is = name refl refl (cc) refl
  string_begins at Name f hs gs i is = name refl refl (cc) refl
  string_begins at Colon f hs gs i is = absurd cc
  string_begins at After f hs gs i is = absurd cc

  other_begins : (kd : MarkKind) (at : ℕ) (e f : Expect) (hs gs : List Holder) → InObject 0 false e → moved d at same (where_value After e) hs ≡ went f gs → Begins kd e f
  other_begins kd at e f hs gs i is = let p = value_begins d at hs e f gs is in value (value_here e p.room_is i) p.next_is

  token_begins : (kd : MarkKind) (at : ℕ) (e f : Expect) (hs gs : List Holder) → is_token kd ≡ true → InObject 0 false e → step d (record { kind = kd; at = at }) (went e hs) ≡ went f gs → Begins kd e f
  token_begins mark.OpenArray at e f hs gs h i is = absurd cc
  token_begins mark.OpenObject at e f hs gs h i is = absurd cc
  token_begins mark.CloseArray at e f hs gs h i is = absurd cc
  token_begins mark.CloseObject at e f hs gs h i is = absurd cc
  token_begins mark.Colon at e f hs gs h i is = absurd cc
  token_begins mark.Comma at e f hs gs h i is = absurd cc
  token_begins mark.String at e f hs gs h i is = string_begins at e f hs gs i is
  token_begins mark.Number at e f hs gs h i is = other_begins mark.Number at e f hs gs i is
  token_begins mark.True at e f hs gs h i is = other_begins mark.True at e f hs gs i is
  token_begins mark.False at e f hs gs h i is = other_begins mark.False at e f hs gs i is
  token_begins mark.Null at e f hs gs h i is = other_begins mark.Null at e f hs gs i is

  record Begun (m : Mark) (s : Sum) (e f : Expect) (gs : List Holder) (k i : ℕ) : Type 0 where
    next : Level (Some m) s f gs k i
    name_is : unwanted_name i false e ≡ unwanted_name i true f

  token_step : (m : Mark) (s : Sum) (e f : Expect) (hs gs : List Holder) (k i : ℕ) → is_token m.kind ≡ true → Level None s e hs k i → step d m (went e hs) ≡ went f gs → Begun m s e f gs k i
  token_step m s e f hs gs k (suc j) h l is = record {
    next = deeper None (Some m) s s e f hs gs k j j l l.rel refl refl
        (subst (λ (xs : List Holder). Holds (suc j) (record c { count = k } ∷ outer) xs) (sym (token_holders m.kind m.at e f hs gs h is)) l.holds)
        (record { token = λ x q. let same : m ≡ x = cc in subst (λ (y : Mark). is_token y.kind ≡ true) same h; string = λ x q z. absurd cc });
    name_is = refl;
  }
  token_step m s e f hs gs k zero h l is = pick (token_begins m.kind m.at e f hs gs h l.stands is)
    where
      holds : Holds 0 (record c { count = k } ∷ outer) gs
      holds = subst (λ (xs : List Holder). Holds 0 (record c { count = k } ∷ outer) xs) (sym (token_holders m.kind m.at e f hs gs h is)) l.holds

      pick : Begins m.kind e f → Begun m s e f gs k 0
      pick (value is_value after) = record {
        next = record {
          rel = l.rel;
          holds = holds;
          low = l.low;
          above = l.above;
          level = λ x. subst (λ (y : Expect). k + lacks 0 false y ≡ first + s.commas + slots) is_value (l.level x);
          stands = subst (InObject 0 true) (sym after) tt;
          busy = record { token = λ x q. let same : m ≡ x = cc in subst (λ (y : Mark). is_token y.kind ≡ true) same h; string = λ x q z colon. absurd (let no : After ≡ Colon = sym after ∙ colon in cc) };
        };
        name_is = ap (unwanted_name 0 false) is_value ∙ sym (ap (unwanted_name 0 true) after);
      }
      pick (name lacking none_waits colon string) = record {
        next = record {
          rel = l.rel;
          holds = holds;
          low = l.low;
          above = l.above;
          level = λ x. let was : k + lacks_behind e ≡ first + s.commas + slots = l.level x in omega (arith, was, lacking);
          stands = subst (InObject 0 true) (sym colon) tt;
          busy = record { token = λ x q. let same : m ≡ x = cc in subst (λ (y : Mark). is_token y.kind ≡ true) same h; string = λ x q z w. let same : m ≡ x = cc in ap (λ (y : Mark). y.kind) (sym same) ∙ string };
        };
        name_is = none_waits ∙ sym (ap (unwanted_name 0 true) colon);
      }

  -- ---- a token ends

  leaf_is : (k at end : ℕ) (kd : Kind) → leaf_at (target_node edges (place k 0 (Some None))) kd (span at end) (place k 0 (Some None)) ≡ place (suc k) 0 None
  leaf_is k at end kd = ap (λ (t : Option ℕ). leaf_at t kd (span at end) (place k 0 (Some None))) (target_is k)

  leaf : (k at end : ℕ) (kd : MarkKind) → is_token kd ≡ true → sought text edges kd at end (place k 0 (Some None)) ≡ place (suc k) 0 None
  leaf k at end mark.OpenArray h = absurd cc
  leaf k at end mark.OpenObject h = absurd cc
  leaf k at end mark.CloseArray h = absurd cc
  leaf k at end mark.CloseObject h = absurd cc
  leaf k at end mark.Colon h = absurd cc
  leaf k at end mark.Comma h = absurd cc
  leaf k at end mark.String h = leaf_is k at end kind.String
  leaf k at end mark.Number h = leaf_is k at end kind.Number
  leaf k at end mark.True h = leaf_is k at end kind.True
  leaf k at end mark.False h = leaf_is k at end kind.False
  leaf k at end mark.Null h = leaf_is k at end kind.Null

  named : (k at end : ℕ) (kd : MarkKind) → kd ≡ mark.String → child_at edges c.level (units_at text (span at end)) ≡ None → sought text edges kd at end (place k 0 None) ≡ place k 0 (Some None)
  named k at end kd string unwanted =
      ap (λ (x : MarkKind). sought text edges x at end (place k 0 None)) string
      ∙ ap (λ (b : Bool). string_among (cond b (Some c.level) None) text edges (span at end) (place k 0 None)) object
      ∙ ap (λ (t : Option ℕ). place k 0 (Some t)) unwanted

  token_sought : (m : Mark) (more : List Mark) (end : ℕ) (others : List ℕ) (f g : Finding) → is_token m.kind ≡ true → sought text edges m.kind m.at end f ≡ g
      → seek_all text edges last (m ∷ more) (end ∷ others) f ≡ seek_all text edges last more others g
  token_sought m more end others f g h is =
      seek_one text edges last m more (end ∷ others) f
      ∙ ap (λ (xs : List ℕ). seek_all text edges last more xs (sought text edges m.kind m.at end f)) (token_ends m.kind (end ∷ others) h)
      ∙ ap (seek_all text edges last more others) is

  token_leaf : (m : Mark) (more : List Mark) (ends : List ℕ) (k : ℕ) → is_token m.kind ≡ true → seek_all text edges last (m ∷ more) ends (place k 0 (Some None)) ≡ seek_all text edges last more (drop 1 ends) (place (suc k) 0 None)
  token_leaf m more ends k h =
      seek_one text edges last m more ends (place k 0 (Some None))
      ∙ ap (λ (xs : List ℕ). seek_all text edges last more xs (sought text edges m.kind m.at (next_end last ends) (place k 0 (Some None)))) (token_ends m.kind ends h)
      ∙ ap (seek_all text edges last more (drop 1 ends)) (leaf k m.at (next_end last ends) m.kind h)

  -- which token has begun does not matter, unless it is a name
  pub same_wait : (m x : Mark) (k i : ℕ) (e : Expect) → is_token m.kind ≡ true → is_token x.kind ≡ true → (i ≡ 0 → e ≡ After) → (more : List Mark) (others : List ℕ)
      → seek_all text edges last (m ∷ more) others (place k i (unwanted_name i true e)) ≡ seek_all text edges last (x ∷ more) others (place k i (unwanted_name i true e))
  same_wait m x k (suc j) e is also h more others =
      token_over text edges last m more others j (place k (suc j) None) refl is ∙ sym (token_over text edges last x more others j (place k (suc j) None) refl also)
  same_wait m x k zero e is also h more others =
      ap (λ (y : Expect). seek_all text edges last (m ∷ more) others (place k 0 (unwanted_name 0 true y))) (h refl)
      ∙ token_leaf m more others k is ∙ sym (token_leaf x more others k also)
      ∙ ap (λ (y : Expect). seek_all text edges last (x ∷ more) others (place k 0 (unwanted_name 0 true y))) (sym (h refl))

  record Ends (m : Mark) (end : ℕ) (s : Sum) (e : Expect) (hs : List Holder) (k i : ℕ) : Type 0 where
    count : ℕ
    next : Level None s e hs count i
    is : (more : List Mark) (others : List ℕ) → seek_all text edges last (m ∷ more) (end ∷ others) (place k i (unwanted_name i true e)) ≡ seek_all text edges last more others (place count i (unwanted_name i false e))

  end_step : (m : Mark) (end : ℕ) (s : Sum) (e : Expect) (hs : List Holder) (k i : ℕ) → s.closed ≤ n → Level (Some m) s e hs k i → (s.closed ≡ n → s.opened ≡ 0 → e ≡ Colon → child_at edges c.level (units_at text (span m.at end)) ≡ None) → Ends m end s e hs k i
  end_step m end s e hs k (suc j) most l unwanted = record {
    count = k;
    next = deeper (Some m) None s s e e hs hs k j j l l.rel refl refl l.holds (no_token (suc j) e);
    is = λ more others. token_over text edges last m more (end ∷ others) j (place k (suc j) None) refl (l.busy.token m refl);
  }
  end_step m end s e hs k zero most l unwanted = pick e refl
    where
      rel : 0 + s.closed ≡ n + s.opened
      rel = l.rel

      closed : s.closed ≡ n
      closed = omega (arith, rel, most)

      shut : s.opened ≡ 0
      shut = omega (arith, rel, most)

      was : k + 1 ≡ first + s.commas + slots
      was = l.level closed

      lowest : first ≤ k
      lowest = l.low

      pick : (x : Expect) → e ≡ x → Ends m end s e hs k 0
      pick Colon is_colon = record {
        count = k;
        next = record {
          rel = l.rel;
          holds = l.holds;
          low = l.low;
          above = l.above;
          level = λ x. subst (λ (y : Expect). k + lacks 0 false y ≡ first + s.commas + slots) (sym is_colon) was;
          stands = subst (InObject 0 false) (sym is_colon) tt;
          busy = no_token 0 e;
        };
        is = λ more others.
            token_sought m more end others (place k 0 (unwanted_name 0 true e)) (place k 0 (unwanted_name 0 false e)) (l.busy.token m refl)
            (ap (λ (y : Expect). sought text edges m.kind m.at end (place k 0 (unwanted_name 0 true y))) is_colon
            ∙ named k m.at end m.kind (l.busy.string m refl refl is_colon) (unwanted closed shut is_colon)
            ∙ ap (λ (y : Expect). place k 0 (unwanted_name 0 false y)) (sym is_colon));
      }
      pick After after = record {
        count = suc k;
        next = record {
          rel = l.rel;
          holds = recount k (suc k) 0 hs l.holds;
          low = omega (arith, lowest);
          above = λ x. absurd (omega (arith, x, closed));
          level = λ x. subst (λ (y : Expect). suc k + lacks 0 false y ≡ first + s.commas + slots) (sym after) (omega (arith, was));
          stands = subst (InObject 0 false) (sym after) tt;
          busy = no_token 0 e;
        };
        is = λ more others.
            token_sought m more end others (place k 0 (unwanted_name 0 true e)) (place (suc k) 0 (unwanted_name 0 false e)) (l.busy.token m refl)
            (ap (λ (y : Expect). sought text edges m.kind m.at end (place k 0 (unwanted_name 0 true y))) after
            ∙ leaf k m.at end m.kind (l.busy.token m refl)
            ∙ ap (λ (y : Expect). place (suc k) 0 (unwanted_name 0 false y)) (sym after));
      }
      pick Value q = absurd (subst (InObject 0 true) q l.stands)
      pick ArrayFirst q = absurd (subst (InObject 0 true) q l.stands)
      pick ObjectFirst q = absurd (subst (InObject 0 true) q l.stands)
      pick Name q = absurd (subst (InObject 0 true) q l.stands)

  -- ---- all of them

  abbrev Unwanted : List (List ℕ) → Type 0
  Unwanted names = All (λ (units : List ℕ). child_at edges c.level units ≡ None) names

  -- the names so far are among those behind a mark, where it closes nothing below them
  before_mark : (k : MarkKind) (s : Sum) (names : List (List ℕ)) → (noted k s).closed ≡ s.closed → Unwanted (kept k s names) → Unwanted names
  before_mark k s names e all = let b : ((noted k s).closed == s.closed) ≡ true = grind (arith, nat_tests) in subst Unwanted (ap (λ (x : Bool). cond x names []) b) all

  before_end : (b : Bool) (names : List (List ℕ)) (units : List ℕ) → Unwanted (cond b (names ++ units ∷ []) names) → Unwanted names
  before_end true names units all = All-front (λ (u : List ℕ). child_at edges c.level u ≡ None) names (units ∷ []) all
  before_end false names units all = all

  at_end : (b : Bool) (names : List (List ℕ)) (units : List ℕ) → b ≡ true → Unwanted (cond b (names ++ units ∷ []) names) → child_at edges c.level units ≡ None
  at_end true names units h all = All-last (λ (u : List ℕ). child_at edges c.level u ≡ None) names units all
  at_end false names units h all = absurd cc

  module _ (before : Option Mark) (e0 : Expect) (hs0 : List Holder) (start : Level before nothing e0 hs0 first n) where
    pub record Passes (ms : List Mark) (es : List ℕ) (b : Option Mark) (e : Expect) (hs : List Holder) : Type 0 where
      pub count : ℕ
      pub skipped : ℕ
      pub level : Level b (sum_of ms) e hs count skipped
      pub is : (more : List Mark) (others : List ℕ) → seek_all text edges last (behind before (ms ++ more)) (es ++ others) (place first n (unwanted_name n (is_some before) e0))
          ≡ seek_all text edges last (behind b more) others (place count skipped (unwanted_name skipped (is_some b) e))

    pub passes : {ms : List Mark} {es : List ℕ} {b : Option Mark} {names : List (List ℕ)} → NamesOf known d (went e0 hs0) before ms es b names → (e : Expect) (hs : List Holder) → read d ms (went e0 hs0) ≡ went e hs
        → (sum_of ms).closed ≤ n → ((sum_of ms).closed ≡ n → Unwanted names) → Passes ms es b e hs
    passes none e hs reads low all =
        let stands : e0 ≡ e = cc in
        let holders : hs0 ≡ hs = cc in
        record {
          count = first;
          skipped = n;
          level = subst (λ (xs : List Holder). Level before nothing e xs first n) holders (subst (λ (x : Expect). Level before nothing x hs0 first n) stands start);
          is = λ more others. ap (λ (x : Expect). seek_all text edges last (behind before more) others (place first n (unwanted_name n (is_some before) x))) stands;
        }
    passes (plain {marks = ms} {ends = es} {names = names} m is h) e hs reads low all =
        let u = undone d m ms (went e0 hs0) e hs reads in
        let sum = sum_behind ms m in
        let most : (noted m.kind (sum_of ms)).closed ≤ n = subst (λ (x : Sum). x.closed ≤ n) sum low in
        let g = grows m.kind (sum_of ms) in
        let p = passes h u.expect u.holders u.is (omega (arith, most, g))
        (λ closed. let same : (noted m.kind (sum_of ms)).closed ≡ (sum_of ms).closed = omega (arith, closed, most, g) in
        before_mark m.kind (sum_of ms) names same (all (ap (λ (x : Sum). x.closed) sum ∙ same ∙ closed))) in
        let one = plain_step m (sum_of ms) u.expect e u.holders hs p.count p.skipped is p.level most u.steps in
        record {
          count = one.count;
          skipped = one.skipped;
          level = subst (λ (x : Sum). Level None x e hs one.count one.skipped) (sym sum) one.next;
          is = λ more others.
              ap (λ (xs : List Mark). seek_all text edges last (behind before xs) (es ++ others) (place first n (unwanted_name n (is_some before) e0))) (append_assoc ms (m ∷ []) more)
              ∙ p.is (m ∷ more) others
              ∙ one.is more others;
        }
    passes (token {marks = ms} {ends = es} {names = names} m is h) e hs reads low all =
        let u = undone d m ms (went e0 hs0) e hs reads in
        let sum : sum_of (ms ++ m ∷ []) ≡ sum_of ms = sum_behind ms m ∙ token_noted m.kind (sum_of ms) is in
        let most : (sum_of ms).closed ≤ n = subst (λ (x : Sum). x.closed ≤ n) sum low in
        let p = passes h u.expect u.holders u.is most (λ closed. all (ap (λ (x : Sum). x.closed) sum ∙ closed)) in
        let one = token_step m (sum_of ms) u.expect e u.holders hs p.count p.skipped is p.level u.steps in
        record {
          count = p.count;
          skipped = p.skipped;
          level = subst (λ (x : Sum). Level (Some m) x e hs p.count p.skipped) (sym sum) one.next;
          is = λ more others.
              ap (λ (xs : List Mark). seek_all text edges last (behind before xs) (es ++ others) (place first n (unwanted_name n (is_some before) e0))) (append_assoc ms (m ∷ []) more)
              ∙ p.is (m ∷ more) others
              ∙ ap (λ (w : Option (Option ℕ)). seek_all text edges last (m ∷ more) others (place p.count p.skipped w)) one.name_is;
        }
    passes (ended {marks = ms} {ends = es} {names = names} m end within h) e hs reads low all =
        let units = units_at known (span m.at end) in
        let p = passes h e hs reads low (λ closed. before_end (is_behind_name (read d ms (went e0 hs0)) && ((sum_of ms).opened == 0)) names units (all closed)) in
        let one = end_step m end (sum_of ms) e hs p.count p.skipped low p.level
        (λ closed shut colon.
        ap (child_at edges c.level) (units_same known future m.at end within)
        ∙ at_end (is_behind_name (read d ms (went e0 hs0)) && ((sum_of ms).opened == 0)) names units
        (ap (λ (r : Reading). is_behind_name r && ((sum_of ms).opened == 0)) reads
        ∙ ap (λ (x : Expect). is_colon x && ((sum_of ms).opened == 0)) colon
        ∙ (let z : ((sum_of ms).opened == 0) ≡ true = grind (arith, nat_tests) in z))
        (all closed)) in
        record {
          count = one.count;
          skipped = p.skipped;
          level = one.next;
          is = λ more others.
              ap (λ (xs : List ℕ). seek_all text edges last (behind before (ms ++ more)) xs (place first n (unwanted_name n (is_some before) e0))) (append_assoc es (end ∷ []) others)
              ∙ p.is more (end ∷ others)
              ∙ one.is more others;
        }

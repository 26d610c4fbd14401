-- A part of a text whose lowest marks stand in an array on the way, of elements that nobody wants.
use Rattle.std.proofs.Common.{◌≡◌, ℕ, zero, suc, ◌+◌, ◌<◌, ◌≤◌, List, [], ◌∷◌, ◌++◌, drop, refl, sym, ◌∙◌, ap, subst, arith, Bool, true, false, cond, Option, None, Some}
use Rattle.jx_lex.specs.declared.kind.Kind.{Kind}
use Rattle.jx_lex.specs.declared.kind.Kind.TheVariants as kind
use Rattle.jx_lex.specs.declared.alphabet.mark.Mark.{Mark}
use Rattle.jx_lex.specs.declared.alphabet.mark.MarkKind.{MarkKind}
use Rattle.jx_lex.specs.declared.alphabet.mark.MarkKind.TheVariants as mark
use Rattle.jx_run.specs.Tree.{span}
use Rattle.jx_reduce.specs.declared.table.expect.Expect.{Expect}
use Rattle.jx_reduce.specs.declared.table.expect.Expect.TheVariants.{Value, ArrayFirst, ObjectFirst, Name, Colon, After}
use Rattle.jx_reduce.specs.declared.table.holder.Holder.{Holder}
use Rattle.jx_reduce.specs.declared.table.holder.Holder.TheVariants.{Array, Object}
use Rattle.jx_reduce.specs.Read.{went, read, step, top, without_top}
use Rattle.jx_index.specs.declared.finder.Cursor.{Cursor}
use Rattle.jx_index.specs.declared.finder.Met.{Met}
use Rattle.jx_index.specs.declared.trie.Edge.{Edge}
use Rattle.jx_index.specs.inside.Building.{is_token, next_end}
use Rattle.jx_index.specs.inside.Finding.{Finding, begin_at, leaf_at, skip_over}
use Rattle.jx_index.specs.inside.InOrder.{behind}
use Rattle.jx_index.specs.inside.Trie.{element_at, seek_all, sought, string_among, target_node}
use Rattle.jx_file_index.specs.declared.sum.Sum.{Sum}
use Rattle.jx_file_index.specs.Sums.{at_comma, closing, noted, opening}
use Rattle.jx_file_index.proofs.Sums.{close_none, comma_none, on_from}
use Rattle.jx_file_query.specs.Passing.{InArray, room, slot}
use Rattle.jx_file_query.specs.Holding.{Holds, here, below, holder_of}
use Rattle.jx_file_query.proofs.Paired.{Paired, none, plain, token, ended}
use Rattle.jx_file_query.specs.Passed.{Waits, waits_none, waits_some, some_token, waiting}
use Rattle.jx_file_query.proofs.Moves.{array_ends, colon_stands, comma_stands, container_begins, goes, object_ends, string_holders, value_begins}
use Rattle.jx_file_query.proofs.WalkPassings.{plain_ends, plain_over, seek_one, token_ends, token_over}
use Rattle.jx_file_query.proofs.Sums.{Open, none as none_open, some as some_open, all_grow, close_some, comma_some, grows, open_or, token_noted}

-- ---- commas that count stay so

shut_commas : (s : Sum) → (closing s).closed ≡ s.closed → s.commas ≤ (closing s).commas
shut_commas s e = go (open_or s.opened)
  where
    go : Open s.opened → s.commas ≤ (closing s).commas
    go (none_open o) = let c : (closing s).closed ≡ suc s.closed = ap (λ (x : Sum). x.closed) (close_none s o) in absurd (omega (arith, e, c))
    go (some_open i o) = subst (λ (x : Sum). s.commas ≤ x.commas) (sym (close_some s i o)) (omega arith)

more_commas : (s : Sum) → s.commas ≤ (at_comma s).commas
more_commas s = go (open_or s.opened)
  where
    go : Open s.opened → s.commas ≤ (at_comma s).commas
    go (none_open o) = subst (λ (x : Sum). s.commas ≤ x.commas) (sym (comma_none s o)) (omega arith)
    go (some_open i o) = subst (λ (x : Sum). s.commas ≤ x.commas) (sym (comma_some s i o)) (omega arith)

commas_stay : (k : MarkKind) (s : Sum) → (noted k s).closed ≡ s.closed → s.commas ≤ (noted k s).commas
commas_stay mark.OpenArray s e = omega arith
commas_stay mark.OpenObject s e = omega arith
commas_stay mark.CloseArray s e = shut_commas s e
commas_stay mark.CloseObject s e = shut_commas s e
commas_stay mark.Comma s e = more_commas s
commas_stay mark.Colon s e = omega arith
commas_stay mark.String s e = omega arith
commas_stay mark.Number s e = omega arith
commas_stay mark.True s e = omega arith
commas_stay mark.False s e = omega arith
commas_stay mark.Null s e = omega arith

pub all_commas : (ms : List Mark) (s : Sum) → (on_from s ms).closed ≡ s.closed → s.commas ≤ (on_from s ms).commas
all_commas [] s e = omega arith
all_commas (m ∷ ms) s e =
    let a = grows m.kind s in
    let b = all_grow ms (noted m.kind s) in
    let c = commas_stay m.kind s (omega (arith, a, b, e)) in
    let r = all_commas ms (noted m.kind s) (omega (arith, a, b, e)) in
    omega (arith, c, r)

-- ---- the array on the way

module _ (text : List ℕ) (edges : List Edge) (last d : ℕ) (c : Cursor) (outer : List Cursor) (met : List Met) (array : c.is_object ≡ false) (n first slots : ℕ) (none_slots : 0 < n → slots ≡ 0)
    (final : Sum) (final_expect : Expect) (final_holders : List Holder) (lowest : final.closed ≡ n)
    (unwanted : (p : ℕ) → first ≤ p → p < first + final.commas + slots → element_at edges c.level p ≡ None) where
  -- so many elements were counted, and so many are open that are skipped
  abbrev pub place : ℕ → ℕ → Finding
  place k i = record { met = met; opened = record c { count = k } ∷ outer; skipped = i; name = None }

  pub record Level (b : Bool) (s : Sum) (e : Expect) (hs : List Holder) (k i : ℕ) : Type 0 where
    pub rel : i + s.closed ≡ n + s.opened
    pub holds : Holds i (record c { count = k } ∷ outer) hs
    pub low : first ≤ k
    pub above : s.closed < n → k ≡ first
    pub level : s.closed ≡ n → k + slot i b e ≡ first + s.commas + slots
    pub stands : i ≡ 0 → InArray e
    pub busy : b ≡ true → i ≡ 0 → e ≡ After

  pub record Passes (ms : List Mark) (es : List ℕ) (b : Bool) (begun : Option Mark) (k i : ℕ) : Type 0 where
    pub count : ℕ
    pub level : count + slot final.opened b final_expect ≡ first + final.commas + slots
    pub is : (more : List Mark) (others : List ℕ)
        → seek_all text edges last (behind begun (ms ++ more)) (es ++ others) (place k i) ≡ seek_all text edges last (behind (waiting b) more) others (place count final.opened)

  -- ---- the open containers

  recount : (k l i : ℕ) (hs : List Holder) → Holds i (record c { count = k } ∷ outer) hs → Holds i (record c { count = l } ∷ outer) hs
  recount k l i hs (here e rest) = here e rest
  recount k l i hs (below {k = j} {hs = gs} rest) = below (recount k l j gs rest)

  array_top : (k : ℕ) (hs : List Holder) → Holds 0 (record c { count = k } ∷ outer) hs → top hs ≡ Array
  array_top k hs (here e rest) = e ∙ ap holder_of array

  shallower : (k j : ℕ) (hs : List Holder) → Holds (suc j) (record c { count = k } ∷ outer) hs → Holds j (record c { count = k } ∷ outer) (without_top hs)
  shallower k j hs (below rest) = rest

  -- ---- a token that is an element

  target_is : (k : ℕ) → element_at edges c.level k ≡ None → target_node edges (place k 0) ≡ None
  target_is k e = ap (λ (b : Bool). cond b None (element_at edges c.level k)) array ∙ e

  leaf_is : (k at end : ℕ) (kd : Kind) → element_at edges c.level k ≡ None → leaf_at (target_node edges (place k 0)) kd (span at end) (place k 0) ≡ place (suc k) 0
  leaf_is k at end kd e = ap (λ (t : Option ℕ). leaf_at t kd (span at end) (place k 0)) (target_is k e)

  leaf : (k at end : ℕ) (kd : MarkKind) → is_token kd ≡ true → element_at edges c.level k ≡ None → sought text edges kd at end (place k 0) ≡ place (suc k) 0
  leaf k at end mark.OpenArray h e = absurd cc
  leaf k at end mark.OpenObject h e = absurd cc
  leaf k at end mark.CloseArray h e = absurd cc
  leaf k at end mark.CloseObject h e = absurd cc
  leaf k at end mark.Colon h e = absurd cc
  leaf k at end mark.Comma h e = absurd cc
  leaf k at end mark.String h e = ap (λ (b : Bool). string_among (cond b (Some c.level) None) text edges (span at end) (place k 0)) array ∙ leaf_is k at end kind.String e
  leaf k at end mark.Number h e = leaf_is k at end kind.Number e
  leaf k at end mark.True h e = leaf_is k at end kind.True e
  leaf k at end mark.False h e = leaf_is k at end kind.False e
  leaf k at end mark.Null h e = leaf_is k at end kind.Null e

  token_leaf : (m : Mark) (more : List Mark) (ends : List ℕ) (k : ℕ) → is_token m.kind ≡ true → element_at edges c.level k ≡ None
      → seek_all text edges last (m ∷ more) ends (place k 0) ≡ seek_all text edges last more (drop 1 ends) (place (suc k) 0)
  token_leaf m more ends k h e =
      seek_one text edges last m more ends (place k 0)
      ∙ ap (λ (xs : List ℕ). seek_all text edges last more xs (sought text edges m.kind m.at (next_end last ends) (place k 0))) (token_ends m.kind ends h)
      ∙ ap (seek_all text edges last more (drop 1 ends)) (leaf k m.at (next_end last ends) m.kind h e)

  -- ---- an element that may begin is in what is not wanted

  here_unwanted : (s : Sum) (k : ℕ) → first ≤ k → k + 1 ≡ first + s.commas + slots → s.commas ≤ final.commas → element_at edges c.level k ≡ None
  here_unwanted s k low is more = unwanted k low (omega (arith, is, more))

  -- ---- nothing changes where more is skipped

  deeper : (b x : Bool) (s t : Sum) (e f : Expect) (hs gs : List Holder) (k i j : ℕ) → Level b s e hs k (suc i) → suc j + t.closed ≡ n + t.opened → t.closed ≡ s.closed → t.commas ≡ s.commas
      → Holds (suc j) (record c { count = k } ∷ outer) gs → Level x t f gs k (suc j)
  deeper b x s t e f hs gs k i j l rel closed commas holds = record {
    rel = rel;
    holds = holds;
    low = l.low;
    above = λ h. l.above (omega (arith, h, closed));
    level = λ h. let was : k + 0 ≡ first + s.commas + slots = l.level (omega (arith, h, closed)) in omega (arith, was, commas);
    stands = λ h. absurd (omega (arith, h));
    busy = λ g h. absurd (omega (arith, h));
  }

  -- one container less is skipped
  out : (s : Sum) (e f : Expect) (hs : List Holder) (k j : ℕ) → Level false s e hs k (suc j) → (closing s).closed ≤ n → f ≡ After → Level false (closing s) f (without_top hs) k j
  out s e f hs k j l most after = go (open_or s.opened)
    where
      rel : suc j + s.closed ≡ n + s.opened
      rel = l.rel

      no_slot : (i : ℕ) → slot i false f ≡ 0
      no_slot zero = ap room after
      no_slot (suc i) = refl

      plainly : (i : ℕ) → i ≡ 0 → InArray f
      plainly i h = subst InArray (sym after) tt

      go : Open s.opened → Level false (closing s) f (without_top hs) k j
      go (some_open o is) =
          subst (λ (x : Sum). Level false x f (without_top hs) k j) (sym (close_some s o is))
          (record {
            rel = omega (arith, rel, is);
            holds = shallower k j hs l.holds;
            low = l.low;
            above = l.above;
            level = λ h. let was : k + 0 ≡ first + s.commas + slots = l.level h in let z = no_slot j in omega (arith, was, z);
            stands = plainly j;
            busy = λ g h. absurd cc;
          })
      go (none_open is) =
          let short : (closing s).closed ≡ suc s.closed = ap (λ (x : Sum). x.closed) (close_none s is) in
          let same : k ≡ first = l.above (omega (arith, short, most)) in
          let some : 0 < n = omega (arith, short, most) in
          let z = none_slots some in
          subst (λ (x : Sum). Level false x f (without_top hs) k j) (sym (close_none s is))
          (record {
            rel = omega (arith, rel, is);
            holds = shallower k j hs l.holds;
            low = l.low;
            above = λ h. same;
            level = λ h. let y = no_slot j in omega (arith, same, z, y);
            stands = plainly j;
            busy = λ g h. absurd cc;
          })

  -- ---- one mark, where something is skipped

  skips : (m : Mark) (s : Sum) (e f : Expect) (hs gs : List Holder) (k j : ℕ) → is_token m.kind ≡ false → Level false s e hs k (suc j) → (noted m.kind s).closed ≤ n
      → step d m (went e hs) ≡ went f gs → Level false (noted m.kind s) f gs k (skip_over m.kind j)
  skips m s e f hs gs k j h l most is = go m.kind refl
    where
      rel : suc j + s.closed ≡ n + s.opened
      rel = l.rel

      opened : (x : Holder) → gs ≡ x ∷ hs → Level false (opening s) f gs k (suc (suc j))
      opened x g = deeper false false s (opening s) e f hs gs k j (suc j) l (omega (arith, rel)) refl refl (subst (λ (xs : List Holder). Holds (suc (suc j)) (record c { count = k } ∷ outer) xs) (sym g) (below l.holds))

      shut : f ≡ After → gs ≡ without_top hs → (closing s).closed ≤ n → Level false (closing s) f gs k j
      shut after g low = subst (λ (xs : List Holder). Level false (closing s) f xs k j) (sym g) (out s e f hs k j l low after)

      same : gs ≡ hs → Level false s f gs k (suc j)
      same g = deeper false false s s e f hs gs k j j l rel refl refl (subst (λ (xs : List Holder). Holds (suc j) (record c { count = k } ∷ outer) xs) (sym g) l.holds)

      behind_comma : gs ≡ hs → Level false (at_comma s) f gs k (suc j)
      behind_comma g = pick (open_or s.opened)
        where
          pick : Open s.opened → Level false (at_comma s) f gs k (suc j)
          pick (some_open o q) = subst (λ (x : Sum). Level false x f gs k (suc j)) (sym (comma_some s o q)) (same g)
          pick (none_open q) =
              subst (λ (x : Sum). Level false x f gs k (suc j)) (sym (comma_none s q))
              (record {
                rel = rel;
                holds = subst (λ (xs : List Holder). Holds (suc j) (record c { count = k } ∷ outer) xs) (sym g) l.holds;
                low = l.low;
                above = l.above;
                level = λ x. absurd (omega (arith, x, rel, q));
                stands = λ x. absurd (omega (arith, x));
                busy = λ x y. absurd (omega (arith, y));
              })

      steps : (kd : MarkKind) → m.kind ≡ kd → step d (record m { kind = kd }) (went e hs) ≡ went f gs
      steps kd q = subst (λ (x : MarkKind). step d (record m { kind = x }) (went e hs) ≡ went f gs) q is

      go : (kd : MarkKind) → m.kind ≡ kd → Level false (noted m.kind s) f gs k (skip_over m.kind j)
      go kd q = subst (λ (x : MarkKind). Level false (noted x s) f gs k (skip_over x j)) (sym q) (by kd q)
        where
          by : (x : MarkKind) → m.kind ≡ x → Level false (noted x s) f gs k (skip_over x j)
          by mark.OpenArray r = opened Array (container_begins d m.at hs e f gs ArrayFirst Array (steps mark.OpenArray r)).1
          by mark.OpenObject r = opened Object (container_begins d m.at hs e f gs ObjectFirst Object (steps mark.OpenObject r)).1
          by mark.CloseArray r = let p = array_ends d m.at hs e f gs (steps mark.CloseArray r) in shut p.0 p.1 (subst (λ (x : MarkKind). (noted x s).closed ≤ n) r most)
          by mark.CloseObject r = let p = object_ends d m.at hs e f gs (steps mark.CloseObject r) in shut p.0 p.1 (subst (λ (x : MarkKind). (noted x s).closed ≤ n) r most)
          by mark.Colon r = same (colon_stands d m.at hs e f gs (steps mark.Colon r)).1
          by mark.Comma r = behind_comma (comma_stands d m.at hs e f gs (steps mark.Comma r)).holders
          by mark.String r = absurd (let z : is_token mark.String ≡ false = subst (λ (x : MarkKind). is_token x ≡ false) r h in cc)
          by mark.Number r = absurd (let z : is_token mark.Number ≡ false = subst (λ (x : MarkKind). is_token x ≡ false) r h in cc)
          by mark.True r = absurd (let z : is_token mark.True ≡ false = subst (λ (x : MarkKind). is_token x ≡ false) r h in cc)
          by mark.False r = absurd (let z : is_token mark.False ≡ false = subst (λ (x : MarkKind). is_token x ≡ false) r h in cc)
          by mark.Null r = absurd (let z : is_token mark.Null ≡ false = subst (λ (x : MarkKind). is_token x ≡ false) r h in cc)

  -- ---- one mark, where nothing is skipped

  -- what it leads to
  record Steps (m : Mark) (s : Sum) (f : Expect) (gs : List Holder) (k : ℕ) : Type 0 where
    count : ℕ
    skipped : ℕ
    next : Level false (noted m.kind s) f gs count skipped
    is : (more : List Mark) (ends : List ℕ) → seek_all text edges last (m ∷ more) ends (place k 0) ≡ seek_all text edges last more ends (place count skipped)

  plainly_sought : (m : Mark) (more : List Mark) (ends : List ℕ) (k l i : ℕ) → is_token m.kind ≡ false
      → sought text edges m.kind m.at (next_end last ends) (place k 0) ≡ place l i → seek_all text edges last (m ∷ more) ends (place k 0) ≡ seek_all text edges last more ends (place l i)
  plainly_sought m more ends k l i h is =
      seek_one text edges last m more ends (place k 0)
      ∙ ap (λ (xs : List ℕ). seek_all text edges last more xs (sought text edges m.kind m.at (next_end last ends) (place k 0))) (plain_ends m.kind ends h)
      ∙ ap (seek_all text edges last more ends) is

  lowest_step : (kd : MarkKind) (at : ℕ) (s : Sum) (e f : Expect) (hs gs : List Holder) (k : ℕ) → is_token kd ≡ false → Level false s e hs k 0 → s.closed ≡ n → s.opened ≡ 0 → (noted kd s).closed ≤ n
      → ((noted kd s).closed ≡ n → (noted kd s).commas ≤ final.commas) → s.commas ≤ final.commas
      → step d (record { kind = kd; at = at }) (went e hs) ≡ went f gs → Steps (record { kind = kd; at = at }) s f gs k
  lowest_step mark.OpenArray at s e f hs gs k h l closed shut most later fewer is =
      let p = container_begins d at hs e f gs ArrayFirst Array is in
      let was : k + room e ≡ first + s.commas + slots = l.level closed in
      let low = l.low in
      let r = p.0 in
      let e_none = here_unwanted s k low (omega (arith, was, r)) fewer in
      record {
        count = suc k;
        skipped = 1;
        next = record {
          rel = omega (arith, closed, shut);
          holds = subst (λ (xs : List Holder). Holds 1 (record c { count = suc k } ∷ outer) xs) (sym p.1) (below (recount k (suc k) 0 hs l.holds));
          low = omega (arith, low);
          above = λ x. absurd (omega (arith, x, closed));
          level = λ x. omega (arith, was, r);
          stands = λ x. absurd (omega (arith, x));
          busy = λ x y. absurd cc;
        };
        is = λ more ends. plainly_sought (record { kind = mark.OpenArray; at = at }) more ends k (suc k) 1 refl (ap (λ (t : Option ℕ). begin_at t kind.Array false at (place k 0)) (target_is k e_none));
      }
  lowest_step mark.OpenObject at s e f hs gs k h l closed shut most later fewer is =
      let p = container_begins d at hs e f gs ObjectFirst Object is in
      let was : k + room e ≡ first + s.commas + slots = l.level closed in
      let low = l.low in
      let r = p.0 in
      let e_none = here_unwanted s k low (omega (arith, was, r)) fewer in
      record {
        count = suc k;
        skipped = 1;
        next = record {
          rel = omega (arith, closed, shut);
          holds = subst (λ (xs : List Holder). Holds 1 (record c { count = suc k } ∷ outer) xs) (sym p.1) (below (recount k (suc k) 0 hs l.holds));
          low = omega (arith, low);
          above = λ x. absurd (omega (arith, x, closed));
          level = λ x. omega (arith, was, r);
          stands = λ x. absurd (omega (arith, x));
          busy = λ x y. absurd cc;
        };
        is = λ more ends. plainly_sought (record { kind = mark.OpenObject; at = at }) more ends k (suc k) 1 refl (ap (λ (t : Option ℕ). begin_at t kind.Object true at (place k 0)) (target_is k e_none));
      }
  lowest_step mark.CloseArray at s e f hs gs k h l closed shut most later fewer is =
      let q : (closing s).closed ≡ suc s.closed = ap (λ (x : Sum). x.closed) (close_none s shut) in absurd (omega (arith, q, most, closed))
  lowest_step mark.CloseObject at s e f hs gs k h l closed shut most later fewer is =
      let q : (closing s).closed ≡ suc s.closed = ap (λ (x : Sum). x.closed) (close_none s shut) in absurd (omega (arith, q, most, closed))
  lowest_step mark.Colon at s e f hs gs k h l closed shut most later fewer is =
      let p = colon_stands d at hs e f gs is in
      absurd (subst InArray p.0 (l.stands refl))
  lowest_step mark.Comma at s e f hs gs k h l closed shut most later fewer is =
      let p = comma_stands d at hs e f gs is in
      let value : f ≡ Value = p.array (array_top k hs l.holds) in
      let was : k + room After ≡ first + s.commas + slots = subst (λ (x : Expect). k + room x ≡ first + s.commas + slots) p.behind (l.level closed) in
      let one : room f ≡ 1 = ap room value in
      record {
        count = k;
        skipped = 0;
        next = subst (λ (x : Sum). Level false x f gs k 0) (sym (comma_none s shut))
            (record {
              rel = omega (arith, closed, shut);
              holds = subst (λ (xs : List Holder). Holds 0 (record c { count = k } ∷ outer) xs) (sym p.holders) l.holds;
              low = l.low;
              above = l.above;
              level = λ x. omega (arith, was, one);
              stands = λ x. subst InArray (sym value) tt;
              busy = λ x y. absurd cc;
            });
        is = λ more ends. plainly_sought (record { kind = mark.Comma; at = at }) more ends k k 0 refl refl;
      }
  lowest_step mark.String at s e f hs gs k h l closed shut most later fewer is = absurd cc
  lowest_step mark.Number at s e f hs gs k h l closed shut most later fewer is = absurd cc
  lowest_step mark.True at s e f hs gs k h l closed shut most later fewer is = absurd cc
  lowest_step mark.False at s e f hs gs k h l closed shut most later fewer is = absurd cc
  lowest_step mark.Null at s e f hs gs k h l closed shut most later fewer is = absurd cc

  -- ---- a token begins

  token_holders : (kd : MarkKind) (at : ℕ) (e f : Expect) (hs gs : List Holder) → is_token kd ≡ true → step d (record { kind = kd; at = at }) (went e hs) ≡ went f gs → gs ≡ hs
  token_holders mark.String at e f hs gs h is = string_holders d at hs e f gs is
  token_holders mark.Number at e f hs gs h is = (value_begins d at hs e f gs is).holders
  token_holders mark.True at e f hs gs h is = (value_begins d at hs e f gs is).holders
  token_holders mark.False at e f hs gs h is = (value_begins d at hs e f gs is).holders
  token_holders mark.Null at e f hs gs h is = (value_begins d at hs e f gs is).holders
  token_holders mark.OpenArray at e f hs gs h is = absurd cc
  token_holders mark.OpenObject at e f hs gs h is = absurd cc
  token_holders mark.CloseArray at e f hs gs h is = absurd cc
  token_holders mark.CloseObject at e f hs gs h is = absurd cc
  token_holders mark.Colon at e f hs gs h is = absurd cc
  token_holders mark.Comma at e f hs gs h is = absurd cc

  -- in an array a string is a value
  string_value : (at : ℕ) (e f : Expect) (hs gs : List Holder) → InArray e → step d (record { kind = mark.String; at = at }) (went e hs) ≡ went f gs → (room e ≡ 1) × (f ≡ After)
  string_value at Value f hs gs h is = (refl, (cc))
  string_value at ArrayFirst f hs gs h is = (refl, (cc))
  string_value at After f hs gs h is = absurd cc
  string_value at ObjectFirst f hs gs h is = absurd h
  string_value at Name f hs gs h is = absurd h
  string_value at Colon f hs gs h is = absurd h

  token_value : (kd : MarkKind) (at : ℕ) (e f : Expect) (hs gs : List Holder) → is_token kd ≡ true → InArray e → step d (record { kind = kd; at = at }) (went e hs) ≡ went f gs → (room e ≡ 1) × (f ≡ After)
  token_value mark.String at e f hs gs h a is = string_value at e f hs gs a is
  token_value mark.Number at e f hs gs h a is = let p = value_begins d at hs e f gs is in (p.room_is, p.next_is)
  token_value mark.True at e f hs gs h a is = let p = value_begins d at hs e f gs is in (p.room_is, p.next_is)
  token_value mark.False at e f hs gs h a is = let p = value_begins d at hs e f gs is in (p.room_is, p.next_is)
  token_value mark.Null at e f hs gs h a is = let p = value_begins d at hs e f gs is in (p.room_is, p.next_is)
  token_value mark.OpenArray at e f hs gs h a is = absurd cc
  token_value mark.OpenObject at e f hs gs h a is = absurd cc
  token_value mark.CloseArray at e f hs gs h a is = absurd cc
  token_value mark.CloseObject at e f hs gs h a is = absurd cc
  token_value mark.Colon at e f hs gs h a is = absurd cc
  token_value mark.Comma at e f hs gs h a is = absurd cc

  begun_in : (m : Mark) (s : Sum) (e f : Expect) (hs gs : List Holder) (k i : ℕ) → is_token m.kind ≡ true → Level false s e hs k i → step d m (went e hs) ≡ went f gs → Level true s f gs k i
  begun_in m s e f hs gs k (suc j) h l is =
      deeper false true s s e f hs gs k j j l l.rel refl refl
      (subst (λ (xs : List Holder). Holds (suc j) (record c { count = k } ∷ outer) xs) (sym (token_holders m.kind m.at e f hs gs h is)) l.holds)
  begun_in m s e f hs gs k zero h l is =
      let p = token_value m.kind m.at e f hs gs h (l.stands refl) is in
      let r = p.0 in
      record {
        rel = l.rel;
        holds = subst (λ (xs : List Holder). Holds 0 (record c { count = k } ∷ outer) xs) (sym (token_holders m.kind m.at e f hs gs h is)) l.holds;
        low = l.low;
        above = l.above;
        level = λ x. let was : k + room e ≡ first + s.commas + slots = l.level x in omega (arith, was, r);
        stands = λ x. subst InArray (sym p.1) tt;
        busy = λ x y. p.1;
      }

  -- ---- a token ends

  ended_in : (s : Sum) (e : Expect) (hs : List Holder) (k : ℕ) → Level true s e hs k 0 → s.closed ≡ n → Level false s e hs (suc k) 0
  ended_in s e hs k l closed =
      let after : e ≡ After = l.busy refl refl in
      let z : room e ≡ 0 = ap room after in
      let was : k + 1 ≡ first + s.commas + slots = l.level closed in
      let low = l.low in
      record {
        rel = l.rel;
        holds = recount k (suc k) 0 hs l.holds;
        low = omega (arith, low);
        above = λ x. absurd (omega (arith, x, closed));
        level = λ x. omega (arith, was, z);
        stands = λ x. subst InArray (sym after) tt;
        busy = λ x y. absurd cc;
      }

  deep_ended : (s : Sum) (e : Expect) (hs : List Holder) (k j : ℕ) → Level true s e hs k (suc j) → Level false s e hs k (suc j)
  deep_ended s e hs k j l = deeper true false s s e e hs hs k j j l l.rel refl refl l.holds

  -- ---- all of them

  kept_low : (s : Sum) (ms : List Mark) → on_from s ms ≡ final → s.closed ≤ n
  kept_low s ms sums = let g = all_grow ms s in let e : (on_from s ms).closed ≡ final.closed = ap (λ (x : Sum). x.closed) sums in omega (arith, g, e, lowest)

  kept_few : (s : Sum) (ms : List Mark) → on_from s ms ≡ final → s.closed ≡ n → s.commas ≤ final.commas
  kept_few s ms sums h =
      let e : (on_from s ms).closed ≡ final.closed = ap (λ (x : Sum). x.closed) sums in
      let f : (on_from s ms).commas ≡ final.commas = ap (λ (x : Sum). x.commas) sums in
      let c = all_commas ms s (omega (arith, e, h, lowest)) in
      omega (arith, c, f)

  no_more : (b : Bool) (s : Sum) (e : Expect) (hs : List Holder) (k i : ℕ) → Level b s e hs k i → went e hs ≡ went final_expect final_holders → s ≡ final
      → (i ≡ final.opened) × (k + slot final.opened b final_expect ≡ first + final.commas + slots)
  no_more b s e hs k i l reads sums =
      let closed : s.closed ≡ n = ap (λ (x : Sum). x.closed) sums ∙ lowest in
      let opened : s.opened ≡ final.opened = ap (λ (x : Sum). x.opened) sums in
      let r = l.rel in
      let is : i ≡ final.opened = omega (arith, r, closed, opened) in
      let stands : e ≡ final_expect = cc in
      let was = l.level closed in
      (is, ap (λ (j : ℕ). k + slot j b final_expect) (sym is) ∙ ap (λ (x : Expect). k + slot i b x) (sym stands) ∙ was ∙ ap (λ (x : Sum). first + x.commas + slots) sums)

  waiting_same : (m : Mark) (s : Sum) (e : Expect) (hs : List Holder) (k i : ℕ) → is_token m.kind ≡ true → Level true s e hs k i → s.closed ≡ n → s.commas ≤ final.commas → (more : List Mark) (others : List ℕ)
      → seek_all text edges last (m ∷ more) others (place k i) ≡ seek_all text edges last (some_token ∷ more) others (place k i)
  waiting_same m s e hs k zero is l closed few more others =
      let none_there = here_unwanted s k l.low (l.level closed) few in
      token_leaf m more others k is none_there ∙ sym (token_leaf some_token more others k refl none_there)
  waiting_same m s e hs k (suc j) is l closed few more others =
      token_over text edges last m more others j (place k (suc j)) refl is ∙ sym (token_over text edges last some_token more others j (place k (suc j)) refl refl)

  pub passes : {b x : Bool} {ms : List Mark} {es : List ℕ} → Paired b ms es x → {begun : Option Mark} → Waits b begun → (s : Sum) (e : Expect) (hs : List Holder) (k i : ℕ)
      → Level b s e hs k i → read d ms (went e hs) ≡ went final_expect final_holders → on_from s ms ≡ final → Passes ms es x begun k i
  passes none waits_none s e hs k i l reads sums =
      let p = no_more false s e hs k i l reads sums in
      record { count = k; level = p.1; is = λ more others. ap (λ (j : ℕ). seek_all text edges last more others (place k j)) p.0 }
  passes none (waits_some m is) s e hs k i l reads sums =
      let p = no_more true s e hs k i l reads sums in
      let closed : s.closed ≡ n = ap (λ (x : Sum). x.closed) sums ∙ lowest in
      let few = kept_few s [] sums closed in
      record {
        count = k;
        level = p.1;
        is = λ more others.
            waiting_same m s e hs k i is l closed few more others
            ∙ ap (λ (j : ℕ). seek_all text edges last (some_token ∷ more) others (place k j)) p.0;
      }
  passes (plain {m = m} {ms = ms} {es = es} is rest) waits_none s e hs k (suc j) l reads sums =
      let g = goes d m ms e hs final_expect final_holders reads in
      let next = skips m s e g.expect hs g.holders k j is l (kept_low (noted m.kind s) ms sums) g.is in
      let h = passes rest waits_none (noted m.kind s) g.expect g.holders k (skip_over m.kind j) next g.rest sums in
      record {
        count = h.count;
        level = h.level;
        is = λ more others. plain_over text edges last m (ms ++ more) (es ++ others) j (place k (suc j)) refl is ∙ h.is more others;
      }
  passes (plain {m = m} {ms = ms} {es = es} is rest) waits_none s e hs k zero l reads sums =
      let g = goes d m ms e hs final_expect final_holders reads in
      let r = l.rel in
      let most = kept_low s (m ∷ ms) sums in
      let closed : s.closed ≡ n = omega (arith, r, most) in
      let none_left : s.opened ≡ 0 = omega (arith, r, most) in
      let one = lowest_step m.kind m.at s e g.expect hs g.holders k is l closed none_left (kept_low (noted m.kind s) ms sums) (kept_few (noted m.kind s) ms sums) (kept_few s (m ∷ ms) sums closed) g.is in
      let h = passes rest waits_none (noted m.kind s) g.expect g.holders one.count one.skipped one.next g.rest sums in
      record { count = h.count; level = h.level; is = λ more others. one.is (ms ++ more) (es ++ others) ∙ h.is more others }
  passes (token {m = m} {ms = ms} is rest) waits_none s e hs k i l reads sums =
      let g = goes d m ms e hs final_expect final_holders reads in
      let next = subst (λ (y : Sum). Level true y g.expect g.holders k i) (sym (token_noted m.kind s is)) (begun_in m s e g.expect hs g.holders k i is l g.is) in
      let h = passes rest (waits_some m is) (noted m.kind s) g.expect g.holders k i next g.rest sums in
      record { count = h.count; level = h.level; is = λ more others. h.is more others }
  passes (ended {e = end} {ms = ms} {es = es} rest) (waits_some m is) s e hs k zero l reads sums =
      let r = l.rel in
      let most = kept_low s ms sums in
      let closed : s.closed ≡ n = omega (arith, r, most) in
      let none_there = here_unwanted s k l.low (l.level closed) (kept_few s ms sums closed) in
      let h = passes rest waits_none s e hs (suc k) zero (ended_in s e hs k l closed) reads sums in
      record {
        count = h.count;
        level = h.level;
        is = λ more others. token_leaf m (ms ++ more) (end ∷ (es ++ others)) k is none_there ∙ h.is more others;
      }
  passes (ended {e = end} {ms = ms} {es = es} rest) (waits_some m is) s e hs k (suc j) l reads sums =
      let h = passes rest waits_none s e hs k (suc j) (deep_ended s e hs k j l) reads sums in
      record {
        count = h.count;
        level = h.level;
        is = λ more others. token_over text edges last m (ms ++ more) (end ∷ (es ++ others)) j (place k (suc j)) refl is ∙ h.is more others;
      }

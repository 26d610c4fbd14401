-- What is sought of tokens of which only the counts are known.
use Rattle.std.proofs.Common.{◌≡◌, ◌⊎◌, inl, inr, ℕ, suc, ◌+◌, ◌-◌, ◌<◌, ◌≤◌, Bool, true, false, cond, List, [], ◌∷◌, ◌++◌, length, reverse, refl, sym, ap, subst, ◌∙◌, append_assoc, arith, Option, None, Some}
use Rattle.std.specs.Prelude.{◌^◌, ◌==◌, is_some}
use Rattle.std.proofs.lemmas.Bool.{cases_lt}
use Rattle.std.proofs.lemmas.Bool.Decides.{nat_tests}
use Rattle.jx_lex.specs.declared.alphabet.mark.Mark.{Mark}
use Rattle.jx_lex.specs.declared.alphabet.mark.MarkKind.{MarkKind}
use Rattle.jx_lex.specs.declared.alphabet.mark.MarkKind.TheVariants as mark
use Rattle.jx_lex.specs.declared.kind.Kind.{Kind}
use Rattle.jx_lex.specs.declared.kind.Kind.TheVariants as kind
use Rattle.jx_summary.specs.declared.span.Span.{Span}
use Rattle.jx_run.specs.Tree.{span}
use Rattle.jx_lex.specs.declared.scanner.counts.TokenCounts.{TokenCounts}
use Rattle.jx_lex.specs.Counts.{HasCounts, Levels, at_start, closes, closing, levels_of, number_of, on_level, opening, opens, seen_there}
use Rattle.jx_lex.specs.Seen.{has_end}
use Rattle.jx_lex.proofs.Counts.{number_of-more}
use Rattle.jx_lex.proofs.Levels.{closing_below, levels-go, levels_from, one_falls, one_goes, one_stays, opening_below, seen_below}
use Rattle.jx_run.specs.Telling.{moved_ends, moved_marks}
use Rattle.jx_index.specs.declared.finder.Cursor.{Cursor}
use Rattle.jx_index.specs.declared.finder.Met.{Met}
use Rattle.jx_index.specs.declared.seeker.Seeker.{Seeker}
use Rattle.jx_index.specs.declared.trie.Edge.{Edge}
use Rattle.jx_index.specs.inside.Building.{next_end}
use Rattle.jx_index.specs.inside.Finding.{Finding, begin_at, leaf_at, nothing_met, skip_over}
use Rattle.jx_index.specs.inside.Found.{finding}
use Rattle.jx_index.specs.inside.Seeking.{IsReady}
use Rattle.jx_index.specs.inside.Trie.{IsNextFrom, IsNextIn, IsTrie, element_at, first_open, seek_all, sought}
use Rattle.jx_index.proofs.CutNames.{ended_by, ends_all, marks_all, moved_counts}
use Rattle.jx_index.proofs.InOrders.{ends_kept, none_begun}
use Rattle.jx_index.proofs.Lookups.{element_later}
use Rattle.jx_find.specs.Held.{Comes}
use Rattle.jx_find.specs.OnSlice.{HasSought, Holds, IsSought}
use Rattle.jx_find.specs.inside.SeekCounts.{CountsOn, with_count}
use Rattle.jx_find.proofs.Soughts.{seek_one, skipped_in}

abbrev one_if : Bool → ℕ
one_if b = cond b 1 0

-- ---- one token start after another, each of which moves the level

module _ (text : List ℕ) (edges : List Edge) (last : ℕ) (here : Levels → Finding) (I : List Mark → Levels → Type 0)
    (step : (m : Mark) (ms : List Mark) (l : Levels) (end : ℕ) → I (m ∷ ms) l → (sought text edges m.kind m.at end (here l) ≡ here (on_level m.kind l)) × I ms (on_level m.kind l)) (more : List Mark) (others : List ℕ) where
  -- the rest of the reading
  abbrev Seeks : List Mark → List ℕ → Levels → Levels → Type 0
  Seeks ms es l end = seek_all text edges last (ms ++ more) (es ++ others) (here l) ≡ seek_all text edges last more others (here end)

  by_end : (m : Mark) (ms : List Mark) (l end : Levels) → I (m ∷ ms) l → (t : Bool) → has_end m.kind ≡ t → (es : List ℕ) → length es ≡ one_if (has_end m.kind) + number_of has_end ms
      → ((es : List ℕ) → length es ≡ number_of has_end ms → Seeks ms es (on_level m.kind l) end) → Seeks (m ∷ ms) es l end
  by_end m ms l end i true h [] e rest = let t : one_if (has_end m.kind) ≡ 1 = ap one_if h in absurd (omega (arith, e, t))
  by_end m ms l end i true h (x ∷ es) e rest =
      let t : one_if (has_end m.kind) ≡ 1 = ap one_if h in
      seek_one text edges last m (ms ++ more) ((x ∷ es) ++ others) (here l)
      ∙ ap (λ (ends : List ℕ). seek_all text edges last (ms ++ more) ends (sought text edges m.kind m.at (next_end last ((x ∷ es) ++ others)) (here l))) (ends_kept m.kind true ((x ∷ es) ++ others) h)
      ∙ ap (seek_all text edges last (ms ++ more) (es ++ others)) (step m ms l (next_end last ((x ∷ es) ++ others)) i).0
      ∙ rest es (omega (arith, e, t))
  by_end m ms l end i false h es e rest =
      let t : one_if (has_end m.kind) ≡ 0 = ap one_if h in
      seek_one text edges last m (ms ++ more) (es ++ others) (here l)
      ∙ ap (λ (ends : List ℕ). seek_all text edges last (ms ++ more) ends (sought text edges m.kind m.at (next_end last (es ++ others)) (here l))) (ends_kept m.kind false (es ++ others) h)
      ∙ ap (seek_all text edges last (ms ++ more) (es ++ others)) (step m ms l (next_end last (es ++ others)) i).0
      ∙ rest es (omega (arith, e, t))

  pub seek_many : (ms : List Mark) (es : List ℕ) (l : Levels) → I ms l → length es ≡ number_of has_end ms → Seeks ms es l (levels_from l ms)
  seek_many [] [] l i e = refl
  seek_many [] (x ∷ es) l i e = absurd (omega (arith, e))
  seek_many (m ∷ ms) es l i e =
      by_end m ms l (levels_from (on_level m.kind l) ms) i (has_end m.kind) refl es (e ∙ number_of-more has_end m ms)
      (λ es e. seek_many ms es (on_level m.kind l) (step m ms l 0 i).1 e)

-- ---- where something is skipped

abbrev skip_by : MarkKind → ℕ → ℕ
skip_by k n = n + one_if (opens k) - one_if (closes k)

skip_more : (k : MarkKind) (n : ℕ) → skip_over k n ≡ skip_by k (suc n)
skip_more mark.OpenArray n = omega arith
skip_more mark.OpenObject n = omega arith
skip_more mark.CloseArray n = omega arith
skip_more mark.CloseObject n = omega arith
skip_more mark.Colon n = omega arith
skip_more mark.Comma n = omega arith
skip_more mark.String n = omega arith
skip_more mark.Number n = omega arith
skip_more mark.True n = omega arith
skip_more mark.False n = omega arith
skip_more mark.Null n = omega arith

-- how many are skipped at a level, where so many are at the start
abbrev skipped_at : ℕ → Levels → ℕ
skipped_at s l = s + l.above - l.lowest

-- one token start more, where some are
skip_on : (k : MarkKind) (s : ℕ) (l : Levels) → 0 < skipped_at s l → (on_level k l).lowest ≤ s → skip_over k (skipped_at s l - 1) ≡ skipped_at s (on_level k l)
skip_on k s l some within =
    let g = one_goes k l in
    let moves = g.moves in
    let falls = g.falls in
    let next = skip_more k (skipped_at s l - 1) in
    next ∙ omega (arith, moves, falls, some, within)

module _ (text : List ℕ) (edges : List Edge) (f : Finding) (s : ℕ) where
  abbrev skipping : Levels → Finding
  skipping l = record f { skipped = skipped_at s l }

  skip_step : (m : Mark) (ms : List Mark) (l : Levels) (end : ℕ) → (levels_from l (m ∷ ms)).lowest < s
      → (sought text edges m.kind m.at end (skipping l) ≡ skipping (on_level m.kind l)) × ((levels_from (on_level m.kind l) ms).lowest < s)
  skip_step m ms l end few =
      let here = (one_goes m.kind l).falls in
      let rest = (levels-go (on_level m.kind l) ms).falls in
      let some : 0 < skipped_at s l = omega (arith, here, rest, few) in (
        skipped_in text edges m.kind m.at end (skipping l) (skipped_at s l - 1) (omega (arith, some))
            ∙ ap (λ (n : ℕ). record f { skipped = n }) (skip_on m.kind s l some (omega (arith, rest, few))),
        few,
      )

  pub seek_skipped : (last : ℕ) (ms more : List Mark) (es others : List ℕ) → (levels_of ms).lowest < s → length es ≡ number_of has_end ms
      → seek_all text edges last (ms ++ more) (es ++ others) (skipping at_start) ≡ seek_all text edges last more others (skipping (levels_of ms))
  seek_skipped last ms more es others few ended =
      seek_many text edges last skipping (λ ms l. (levels_from l ms).lowest < s) skip_step more others ms es at_start few ended

-- ---- in an array, and in what is skipped of it

-- how many children more it has at a level, where so many containers are skipped at the start
abbrev children_at : ℕ → Levels → ℕ
children_at s l = cond (l.lowest == s) l.values 0

children_there : (s : ℕ) (l : Levels) → l.lowest ≡ s → children_at s l ≡ l.values
children_there s l e = let there : (l.lowest == s) ≡ true = grind (arith, nat_tests) in ap (λ (b : Bool). cond b l.values 0) there

children_above : (s : ℕ) (l : Levels) → l.lowest < s → children_at s l ≡ 0
children_above s l lt = let above : (l.lowest == s) ≡ false = grind (arith, nat_tests) in ap (λ (b : Bool). cond b l.values 0) above

same_both : (b : Bool) (n : ℕ) → cond b n n ≡ n
same_both true n = refl
same_both false n = refl

-- what is skipped has no child of the array
children_kept : (k : MarkKind) (s : ℕ) (l : Levels) → 0 < skipped_at s l → (on_level k l).lowest ≤ s → children_at s l ≡ children_at s (on_level k l)
children_kept k s l some within = by_order (cases_lt l.lowest s) (cases_lt (on_level k l).lowest s)
  where
    falls : l.lowest ≤ (on_level k l).lowest
    falls = (one_goes k l).falls

    by_order : (l.lowest < s) ⊎ (s ≤ l.lowest) → ((on_level k l).lowest < s) ⊎ (s ≤ (on_level k l).lowest) → children_at s l ≡ children_at s (on_level k l)
    by_order (inl lt) (inl less) = children_above s l lt ∙ sym (children_above s (on_level k l) less)
    by_order (inl lt) (inr le) = children_above s l lt ∙ sym (children_there s (on_level k l) (omega (arith, le, within)) ∙ one_falls k l (omega (arith, lt, le)))
    by_order (inr le) o =
        let f = falls in
        children_there s l (omega (arith, le, f, within))
        ∙ sym (children_there s (on_level k l) (omega (arith, le, f, within)) ∙ (one_stays k l (omega (arith, some, le, f, within))).values)

-- the tokens that are left fall no lower than the array, and no child of it is at the limit
pub record IsWithin (s low limit : ℕ) (ms : List Mark) (l : Levels) : Type 0 where
  pub lowest : (levels_from l ms).lowest ≤ s
  pub values : (levels_from l ms).lowest ≡ s → low + (levels_from l ms).values ≤ limit

module _ (text : List ℕ) (edges : List Edge) (met : List Met) (level : ℕ) (outer : List Cursor) (s low limit : ℕ)
    (none : (place : ℕ) → low ≤ place → place < limit → element_at edges level place ≡ None) where
  -- so many children of the array were met, and so many containers are skipped in the last one
  abbrev met_so_far : ℕ → ℕ → Finding
  met_so_far n skipped = record { met = met; opened = record { level = level; is_object = false; count = n } ∷ outer; skipped = skipped; name = None }

  abbrev along : Levels → Finding
  along l = met_so_far (low + children_at s l) (skipped_at s l)

  leaf : (k : Kind) (sp : Span) (n : ℕ) → low ≤ n → n < limit → leaf_at (element_at edges level n) k sp (met_so_far n 0) ≡ met_so_far (n + 1) 0
  leaf k sp n from lt =
      let e : suc n ≡ n + 1 = omega arith in
      ap (λ (o : Option ℕ). leaf_at o k sp (met_so_far n 0)) (none n from lt) ∙ ap (λ (m : ℕ). met_so_far m 0) e

  begun : (k : Kind) (is_object : Bool) (at n : ℕ) → low ≤ n → n < limit → begin_at (element_at edges level n) k is_object at (met_so_far n 0) ≡ met_so_far (n + 1) 1
  begun k is_object at n from lt =
      let e : suc n ≡ n + 1 = omega arith in
      ap (λ (o : Option ℕ). begin_at o k is_object at (met_so_far n 0)) (none n from lt) ∙ ap (λ (m : ℕ). met_so_far m 1) e

  -- what is met at a level of the array
  arrives : (l : Levels) (n skipped : ℕ) → l.lowest ≡ s → n ≡ low + l.values → skipped ≡ l.above → met_so_far n skipped ≡ along l
  arrives l n skipped at_level n_is skipped_is =
      let c = children_there s l at_level in
      let e : n ≡ low + children_at s l = omega (arith, n_is, c) in
      let q : skipped ≡ skipped_at s l = omega (arith, skipped_is, at_level) in
      (λ i. met_so_far (e i) (q i))

  -- at the level of the array
  module _ (l : Levels) (at_level : l.lowest ≡ s) (flat : l.above ≡ 0) where
    abbrev Met_by : MarkKind → Type 0
    Met_by k = (at end : ℕ) → (on_level k l).lowest ≤ s → low + (on_level k l).values ≤ limit → sought text edges k at end (met_so_far (low + l.values) 0) ≡ along (on_level k l)

    more_seen : (c v : ℕ) (n : ℕ) → n ≡ low + l.values + v → met_so_far n 0 ≡ along (seen_there c v l)
    more_seen c v n is =
        let e = seen_below c v l flat in
        let w = ap (λ (x : Levels). x.lowest) e in
        let a = ap (λ (x : Levels). x.above) e in
        let u = ap (λ (x : Levels). x.values) e in
        arrives (seen_there c v l) n 0 (w ∙ at_level) (omega (arith, is, u)) (omega (arith, a, flat))

    value_met : (k : Kind) (sp : Span) → low + (seen_there 0 1 l).values ≤ limit → leaf_at (element_at edges level (low + l.values)) k sp (met_so_far (low + l.values) 0) ≡ along (seen_there 0 1 l)
    value_met k sp few =
        let u = ap (λ (x : Levels). x.values) (seen_below 0 1 l flat) in
        leaf k sp (low + l.values) (omega arith) (omega (arith, few, u)) ∙ more_seen 0 1 (low + l.values + 1) refl

    container_met : (k : Kind) (is_object : Bool) (at : ℕ) → low + (opening l).values ≤ limit
        → begin_at (element_at edges level (low + l.values)) k is_object at (met_so_far (low + l.values) 0) ≡ along (opening l)
    container_met k is_object at few =
        let e = opening_below l flat in
        let w = ap (λ (x : Levels). x.lowest) e in
        let a = ap (λ (x : Levels). x.above) e in
        let u = ap (λ (x : Levels). x.values) e in
        begun k is_object at (low + l.values) (omega arith) (omega (arith, few, u))
        ∙ arrives (opening l) (low + l.values + 1) 1 (w ∙ at_level) (omega (arith, u)) (omega (arith, a, flat))

    too_low : (closing l).lowest ≤ s → ⊥
    too_low within = let w = ap (λ (x : Levels). x.lowest) (closing_below l flat) in omega (arith, w, at_level, within)

    one_met : (k : MarkKind) → Met_by k
    one_met mark.OpenArray at end within few = container_met kind.Array false at few
    one_met mark.OpenObject at end within few = container_met kind.Object true at few
    one_met mark.CloseArray at end within few = absurd (too_low within)
    one_met mark.CloseObject at end within few = absurd (too_low within)
    one_met mark.Colon at end within few = arrives l (low + l.values) 0 at_level refl (sym flat)
    one_met mark.Comma at end within few = more_seen 1 0 (low + l.values) (omega arith)
    one_met mark.String at end within few = value_met kind.String (span at end) few
    one_met mark.Number at end within few = value_met kind.Number (span at end) few
    one_met mark.True at end within few = value_met kind.True (span at end) few
    one_met mark.False at end within few = value_met kind.False (span at end) few
    one_met mark.Null at end within few = value_met kind.Null (span at end) few

  one_along : (k : MarkKind) (at end : ℕ) (l : Levels) → (on_level k l).lowest ≤ s → ((on_level k l).lowest ≡ s → low + (on_level k l).values ≤ limit) → sought text edges k at end (along l) ≡ along (on_level k l)
  one_along k at end l within few = by_place (cases_lt 0 (skipped_at s l))
    where
      falls : l.lowest ≤ (on_level k l).lowest
      falls = (one_goes k l).falls

      by_place : (0 < skipped_at s l) ⊎ (skipped_at s l ≤ 0) → sought text edges k at end (along l) ≡ along (on_level k l)
      by_place (inl some) =
          let c = children_kept k s l some within in
          let q = skip_on k s l some within in
          skipped_in text edges k at end (along l) (skipped_at s l - 1) (omega (arith, some)) ∙ (λ i. met_so_far (low + c i) (q i))
      by_place (inr none) =
          let f = falls in
          let at_level : l.lowest ≡ s = omega (arith, none, f, within) in
          let flat : l.above ≡ 0 = omega (arith, none, f, within) in
          ap (λ (g : Finding). sought text edges k at end g) (sym (arrives l (low + l.values) 0 at_level refl (sym flat)))
          ∙ one_met l at_level flat k at end within (few (omega (arith, f, within, at_level)))

  along_step : (m : Mark) (ms : List Mark) (l : Levels) (end : ℕ) → IsWithin s low limit (m ∷ ms) l
      → (sought text edges m.kind m.at end (along l) ≡ along (on_level m.kind l)) × IsWithin s low limit ms (on_level m.kind l)
  along_step m ms l end i =
      let rest = levels-go (on_level m.kind l) ms in
      let falls = rest.falls in
      let lowest = i.lowest in (
        one_along m.kind m.at end l (omega (arith, falls, lowest))
            (λ e. let more = rest.more (omega (arith, e, falls, lowest)) in let values = i.values (omega (arith, e, falls, lowest)) in omega (arith, more, values)),
        record { lowest = i.lowest; values = i.values },
      )

  pub seek_along : (last : ℕ) (ms more : List Mark) (es others : List ℕ) → (levels_of ms).lowest ≡ s → low + (levels_of ms).values ≤ limit → length es ≡ number_of has_end ms
      → seek_all text edges last (ms ++ more) (es ++ others) (met_so_far low s) ≡ seek_all text edges last more others (met_so_far (low + (levels_of ms).values) (levels_of ms).above)
  seek_along last ms more es others at_level few ended =
      let zero = same_both (0 == s) 0 in
      let n : low ≡ low + children_at s at_start = omega (arith, zero) in
      let q : s ≡ skipped_at s at_start = omega arith in
      (λ i. seek_all text edges last (ms ++ more) (es ++ others) (met_so_far (n i) (q i)))
      ∙ seek_many text edges last along (IsWithin s low limit) along_step more others ms es at_start (record { lowest = omega (arith, at_level); values = λ e. few }) ended
      ∙ ap (seek_all text edges last more others) (sym (arrives (levels_of ms) (low + (levels_of ms).values) (levels_of ms).above at_level refl refl))

-- ---- a seeker

-- what a seeker comes to by tokens that have these counts
pub record Passes (edges : List Edge) (counts : TokenCounts) (k next : Seeker) : Type 0 where
  pub seeks : IsTrie edges → IsReady edges k → (text : List ℕ) (last : ℕ) (ms more : List Mark) (es others : List ℕ) → HasCounts ms es counts
      → seek_all text edges last (ms ++ more) (es ++ others) (finding k.state) ≡ seek_all text edges last more others (finding next.state)
  pub ready : IsTrie edges → IsReady edges k → IsReady edges next

-- how many are skipped after tokens that have these counts, where so many are before them
above_by : (counts : TokenCounts) (ms : List Mark) (es : List ℕ) → HasCounts ms es counts → (levels_of ms).above + counts.closing ≡ (levels_of ms).lowest + counts.opening
above_by counts ms es h =
    let moves = (levels-go at_start ms).moves in
    let o = h.opening in
    let c = h.closing in
    omega (arith, moves, o, c)

pub skips : (edges : List Edge) (counts : TokenCounts) (k : Seeker) (more : ℕ) → counts.lowest < k.state.skipped → more + counts.closing ≡ k.state.skipped + counts.opening
    → Passes edges counts k (record k { state = record k.state { skipped = more } })
skips edges counts k more few is = record {
  seeks = λ trie ready text last ms rest es others h.
      let above = above_by counts ms es h in
      let low = h.lowest in
      let s = k.state.skipped in
      let start : s ≡ skipped_at s at_start = omega arith in
      let n : skipped_at s (levels_of ms) ≡ more = omega (arith, above, low, is, few) in
      ap (λ (n : ℕ). seek_all text edges last (ms ++ rest) (es ++ others) (record (finding k.state) { skipped = n })) start
      ∙ seek_skipped text edges (finding k.state) s last ms rest es others (omega (arith, low, few)) (ended_by ms es counts h)
      ∙ ap (λ (n : ℕ). seek_all text edges last rest others (record (finding k.state) { skipped = n })) n;
  ready = λ trie ready. ready;
}

-- ---- the innermost open container

pub opened_as : (xs : List Cursor) (top : Cursor) → first_open xs ≡ Some top → (outer : List Cursor) × (xs ≡ top ∷ outer)
opened_as [] top e = absurd cc
opened_as (x ∷ xs) top e = let same : x ≡ top = cc in (xs, ap (λ (t : Cursor). t ∷ xs) same)

pub is_none : {A : Type 0} (o : Option A) → is_some o ≡ false → o ≡ None
is_none None e = refl
is_none (Some x) e = absurd cc

pub none_counted : (count : ℕ) (xs : List Cursor) → length xs ≡ 0 → reverse xs ≡ with_count count (reverse xs)
none_counted count [] e = refl
none_counted count (x ∷ xs) e = absurd (omega (arith, e))

-- ---- along an array

-- an array that has so many children
abbrev array_of : Cursor → ℕ → Cursor
array_of top n = record { level = top.level; is_object = false; count = n }

abbrev in_array : Seeker → Cursor → List Cursor → ℕ → ℕ → Finding
in_array k top outer n skipped = record { met = k.state.met.items; opened = array_of top n ∷ outer; skipped = skipped; name = None }

as_array : (top : Cursor) (n : ℕ) → top.is_object ≡ false → record top { count = n } ≡ array_of top n
as_array top n e = ap (λ (b : Bool). record { level = top.level; is_object = b; count = n }) e

-- no place that is passed is wanted
module _ (edges : List Edge) (trie : IsTrie edges) (top : Cursor) (next count : ℕ) (fits : count < 2 ^ 64) (within : count ≤ next) (fresh : IsNextFrom edges top.level top.count next) where
  fresh_from : (place : ℕ) → top.count ≤ place → IsNextFrom edges top.level place next
  fresh_from place from = λ i e is parent below. let was = fresh i e is parent below in omega (arith, was, from)

  pub unwanted : (place : ℕ) → top.count ≤ place → place < count → element_at edges top.level place ≡ None
  unwanted place from lt = sym (element_later edges trie top.level place (omega (arith, fits, lt)) next (fresh_from place from) (omega (arith, within, lt)))

module _ (edges : List Edge) (counts : TokenCounts) (k next : Seeker) (count : ℕ) (fits : count < 2 ^ 64) (on : CountsOn k counts count)
    (skipped : next.state.skipped + counts.closing ≡ k.state.skipped + counts.opening)
    (same_next : next.next ≡ k.next) (same_met : next.state.met ≡ k.state.met) (same_name : next.state.name ≡ k.state.name)
    (opened : reverse next.state.opened.items ≡ with_count count (reverse k.state.opened.items)) where
  opened_is : reverse next.state.opened.items ≡ record on.top { count = count } ∷ on.outer
  opened_is = opened ∙ ap (with_count count) on.opened

  was : finding k.state ≡ in_array k on.top on.outer on.top.count k.state.skipped
  was = let e : reverse k.state.opened.items ≡ array_of on.top on.top.count ∷ on.outer = on.opened ∙ ap (λ (t : Cursor). t ∷ on.outer) (as_array on.top on.top.count on.array) in
      λ i. record { met = k.state.met.items; opened = e i; skipped = k.state.skipped; name = on.name i }

  comes : (n above : ℕ) → n ≡ count → above ≡ next.state.skipped → in_array k on.top on.outer n above ≡ finding next.state
  comes n above is above_is =
      let e : array_of on.top count ∷ on.outer ≡ reverse next.state.opened.items = ap (λ (t : Cursor). t ∷ on.outer) (sym (as_array on.top count on.array)) ∙ sym opened_is in
      let m : None ≡ next.state.name = sym on.name ∙ sym same_name in
      ap (λ (n : ℕ). in_array k on.top on.outer n above) is ∙ (λ i. record { met = (sym same_met i).items; opened = e i; skipped = above_is i; name = m i })

  fresh : IsReady edges k → IsNextFrom edges on.top.level on.top.count k.next
  fresh ready = subst (λ (xs : List Cursor). IsNextIn edges xs k.next) on.opened ready

  more_fresh : IsReady edges k → IsNextFrom edges on.top.level count k.next
  more_fresh ready = λ i e is parent below. let was = fresh ready i e is parent below in let is = on.count_is in omega (arith, was, is)

  pub counts_on : Passes edges counts k next
  counts_on = record {
    seeks = λ trie ready text last ms more es others h.
        let above = above_by counts ms es h in
        let low = h.lowest in
        let at_level = on.lowest in
        let values = h.lowest_values in
        let is = on.count_is in
        ap (seek_all text edges last (ms ++ more) (es ++ others)) was
        ∙ seek_along text edges k.state.met.items on.top.level on.outer k.state.skipped on.top.count count (unwanted edges trie on.top k.next count fits on.unwanted (fresh ready)) last ms more es others
        (low ∙ at_level) (omega (arith, values, is)) (ended_by ms es counts h)
        ∙ ap (seek_all text edges last more others) (comes (on.top.count + (levels_of ms).values) (levels_of ms).above (omega (arith, values, is)) (omega (arith, above, low, at_level, skipped)));
    ready = λ trie ready. subst (λ (n : ℕ). IsNextIn edges (reverse next.state.opened.items) n) (sym same_next) (subst (λ (xs : List Cursor). IsNextIn edges xs k.next) (sym opened_is) (more_fresh ready));
  }

-- ---- what is sought of a slice

module _ (before slice : List ℕ) (edges : List Edge) (marks : List Mark) (ends : List ℕ) (k next : Seeker) (counts : TokenCounts) (ms : List Mark) (es : List ℕ) where
  comes_counted : (text : List ℕ) → Passes edges counts k next → IsTrie edges → IsReady edges k → HasCounts ms es counts → Comes text edges marks ends (finding k.state) None
      → Comes text edges (marks ++ ms) (ends ++ es) (finding next.state) None
  comes_counted text passes trie ready h c = λ last more others.
      ap (λ (xs : List Mark). seek_all text edges last xs ((ends ++ es) ++ others) (nothing_met (length edges))) (append_assoc marks ms more)
      ∙ ap (λ (xs : List ℕ). seek_all text edges last (marks ++ (ms ++ more)) xs (nothing_met (length edges))) (append_assoc ends es others)
      ∙ c last (ms ++ more) (es ++ others)
      ∙ passes.seeks trie ready text last ms more es others h

  sought_counted : (name : List ℕ) → Passes edges counts k next → HasCounts ms es counts → IsSought before slice edges marks ends k None name
      → IsSought before slice edges (marks ++ ms) (ends ++ es) next None name
  sought_counted name passes h s = record {
    trie = s.trie;
    ready = passes.ready s.trie s.ready;
    comes = λ future. comes_counted ((before ++ slice) ++ future) passes s.trie s.ready h (s.comes future);
    token = none_begun;
    name_is = λ n e f low. absurd cc;
  }

-- tokens that have these counts
pub has_counted : (held : Holds) (slice : List ℕ) (edges : List Edge) (marks : List Mark) (ends : List ℕ) (own : List ℕ) (base : ℕ) (own_edges : List Edge) (k next : Seeker) (begun : Option Mark) (name : List ℕ)
    (counts : TokenCounts) (ms : List Mark) (es : List ℕ) → begun ≡ None → Passes own_edges counts k next → HasCounts ms es counts → HasSought held slice edges marks ends own base own_edges k begun name
    → HasSought held slice edges (marks ++ ms) (ends ++ es) own base own_edges next begun name
has_counted held slice edges marks ends own base own_edges k next begun name counts ms es none passes h s = record {
  slice_is = s.slice_is;
  edges_are = s.edges_are;
  base_is = s.base_is;
  sought = λ before bs fs was.
      let is = subst (λ (o : Option Mark). IsSought before slice edges (bs ++ moved_marks base marks) (fs ++ moved_ends base ends) k o name) none (s.sought before bs fs was) in
      let more = sought_counted before slice edges (bs ++ moved_marks base marks) (fs ++ moved_ends base ends) k next counts (moved_marks base ms) (moved_ends base es) name
      (subst (λ (xs : List Edge). Passes xs counts k next) s.edges_are passes) (moved_counts base ms es counts h) is in
      subst (λ (o : Option Mark). IsSought before slice edges (bs ++ moved_marks base (marks ++ ms)) (fs ++ moved_ends base (ends ++ es)) next o name) (sym none)
      (subst (λ (xs : List Mark). IsSought before slice edges xs (fs ++ moved_ends base (ends ++ es)) next None name) (sym (marks_all base bs marks ms))
      (subst (λ (xs : List ℕ). IsSought before slice edges ((bs ++ moved_marks base marks) ++ moved_marks base ms) xs next None name) (sym (ends_all base fs ends es)) more));
}

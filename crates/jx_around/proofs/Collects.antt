-- What is collected of tokens follows the rows that are built of them.
use Rattle.std.proofs.Common.{◌≡◌, ℕ, zero, suc, ◌-◌, ◌^◌, ◌<◌, List, [], ◌∷◌, ◌++◌, length, take, drop, Option, None, Some, Bool, true, false, cond, refl, sym, ap, subst, ◌∙◌, arith, append_assoc, append-nil}
use Rattle.std.specs.Prelude.{min, if◌then◌else◌}
use Rattle.std.specs.List.{filter}
use Rattle.std.proofs.lemmas.List.{length-append}
use Rattle.std.proofs.lemmas.List.Elements.{filter-append}
use Rattle.jx_lex.specs.declared.kind.Kind.{Kind}
use Rattle.jx_lex.specs.declared.kind.Kind.TheVariants as kind
use Rattle.jx_lex.specs.declared.alphabet.mark.MarkKind.{MarkKind}
use Rattle.jx_lex.specs.declared.alphabet.mark.MarkKind.TheVariants as mark
use Rattle.jx_summary.specs.declared.span.Span.{Span}
use Rattle.jx_run.specs.Tree.{span}
use Rattle.jx_run.specs.declared.texts.settings.Settings.{Settings}
use Rattle.jx_index.specs.declared.row.Row.{Row}
use Rattle.jx_index.specs.Indexed.{IndexedValue}
use Rattle.jx_index.specs.Rows.{rows}
use Rattle.jx_index.specs.Settled.{IsIndexBy, IsIndexFrom}
use Rattle.jx_index.proofs.RowsAlone.{rows_behind}
use Rattle.jx_index.specs.declared.builder.Opened.{Opened}
use Rattle.jx_index.specs.inside.Building as built
use Rattle.jx_index.specs.inside.Building.{Building, add_leaf, begin_container, end_container, next_row, on_mark, set_end, with_end}
use Rattle.jx_around.specs.Around.{AreAround, AreAroundFrom, is_around}
use Rattle.jx_around.specs.declared.collector.Level.{Level}
use Rattle.jx_around.specs.inside.Collecting.{Collecting, Follows, Lie, none_open, one_open, end_level, inserted, is_name_next, level_next, more_in, on_token, parent_in, place_in, put_in, row_next, with_leaf, with_level, without_level}

-- ---- lists

take_front : {A : Type 0} (xs ys : List A) → take (length xs) (xs ++ ys) ≡ xs
take_front [] [] = refl
take_front [] (y ∷ ys) = refl
take_front (x ∷ xs) ys = ap (λ l. x ∷ l) (take_front xs ys)

drop_front : {A : Type 0} (xs ys : List A) → drop (length xs) (xs ++ ys) ≡ ys
drop_front [] [] = refl
drop_front [] (y ∷ ys) = refl
drop_front (x ∷ xs) ys = drop_front xs ys

set_end-append : (before : List Row) (row : Row) (after : List Row) (end : ℕ) → set_end (length before) end (before ++ (row ∷ after)) ≡ before ++ (with_end end row ∷ after)
set_end-append [] row after end = refl
set_end-append (r ∷ before) row after end = ap (λ x. r ∷ x) (set_end-append before row after end)

-- ---- the open containers

module _ (offset : ℕ) where
  -- more rows, none of an open container
  grow : {rows ended : List Row} {levels : List Level} {opened : List Opened} → Lie offset rows levels opened ended → (xs : List Row)
      → Lie offset (rows ++ xs) levels opened (ended ++ filter (is_around offset) xs)
  grow {rows = rows} (none_open e) xs =
      none_open (ap (λ l. l ++ filter (is_around offset) xs) e ∙ sym (filter-append (is_around offset) rows xs))
  grow (one_open {before = before} {front = front} {l = l} within outer same rows_are ended_are) xs =
      one_open (within ++ xs) outer same
      (ap (λ r. r ++ xs) rows_are ∙ append_assoc before (l.row ∷ within) xs)
      (ap (λ r. r ++ filter (is_around offset) xs) ended_are
      ∙ append_assoc front (filter (is_around offset) within) (filter (is_around offset) xs)
      ∙ ap (λ r. front ++ r) (sym (filter-append (is_around offset) within xs)))

  count_more : {rows ended : List Row} {levels : List Level} {opened : List Opened} → Lie offset rows levels opened ended → Lie offset rows (more_in levels) (built.counted opened) ended
  count_more (none_open e) = none_open e
  count_more (one_open within outer same rows_are ended_are) =
      one_open within outer (record { row_is = same.row_is; number_is = same.number_is; base_is = same.base_is; object_is = same.object_is; count_is = ap suc same.count_is }) rows_are ended_are

  parent_is : {rows ended : List Row} {levels : List Level} {opened : List Opened} → Lie offset rows levels opened ended → parent_in levels ≡ built.parent_in opened
  parent_is (none_open e) = refl
  parent_is (one_open within outer same rows_are ended_are) = ap Some (same.number_is ∙ sym same.row_is)

  place_is : {rows ended : List Row} {levels : List Level} {opened : List Opened} → Lie offset rows levels opened ended → place_in levels ≡ built.child_place opened
  place_is (none_open e) = refl
  place_is (one_open within outer same rows_are ended_are) = same.count_is

  name_next : {rows ended : List Row} {levels : List Level} {opened : List Opened} (name : Option Span) → Lie offset rows levels opened ended → is_name_next levels name ≡ built.is_name_next opened name
  name_next None (none_open e) = refl
  name_next (Some n) (none_open e) = refl
  name_next None (one_open within outer same rows_are ended_are) = same.object_is
  name_next (Some n) (one_open within outer same rows_are ended_are) = refl

  -- the whole text has no open container
  all_around : {rows ended : List Row} {levels : List Level} {opened : List Opened} → opened ≡ [] → Lie offset rows levels opened ended → ended ≡ filter (is_around offset) rows
  all_around e (none_open h) = h
  all_around e (one_open within outer same rows_are ended_are) = absurd cc

  -- a value that has ended stands before what is in it
  put_is : (row : Row) (base : ℕ) (within front ended : List Row) (c : Bool) → is_around offset row ≡ c → base ≡ length front → ended ≡ front ++ filter (is_around offset) within
      → put_in offset row base ended ≡ front ++ filter (is_around offset) (row ∷ within)
  put_is row base within front ended true a at e =
      let least : min base (length ended) ≡ length front = omega (arith, at, ap length e, length-append front (filter (is_around offset) within)) in
      ap (λ (b : Bool). if b then inserted (min base (length ended)) row ended else ended) a
      ∙ ap (λ n. inserted n row ended) least
      ∙ ap (λ (xs : List Row). inserted (length front) row xs) e
      ∙ ap (λ xs. xs ++ (row ∷ drop (length front) (front ++ filter (is_around offset) within))) (take_front front (filter (is_around offset) within))
      ∙ ap (λ xs. front ++ (row ∷ xs)) (drop_front front (filter (is_around offset) within))
      ∙ sym (ap (λ (b : Bool). front ++ (cond b (row ∷ filter (is_around offset) within) (filter (is_around offset) within))) a)
  put_is row base within front ended false a at e =
      ap (λ (b : Bool). if b then inserted (min base (length ended)) row ended else ended) a
      ∙ e
      ∙ sym (ap (λ (b : Bool). front ++ (cond b (row ∷ filter (is_around offset) within) (filter (is_around offset) within))) a)

-- ---- one token more

row_is : (offset : ℕ) (k : Kind) (s : Span) (c : Collecting) (b : Building) → Follows offset c b → row_next k s c ≡ next_row k s b
row_is offset k s c b h =
    ap (λ (p : Option ℕ). let r : Row = record { kind = k; span = s; parent = p; place = place_in c.levels; name = c.name } in r) (parent_is offset h.lie)
    ∙ ap (λ (n : ℕ). let r : Row = record { kind = k; span = s; parent = built.parent_in b.opened; place = n; name = c.name } in r) (place_is offset h.lie)
    ∙ ap (λ (n : Option Span). let r : Row = record { kind = k; span = s; parent = built.parent_in b.opened; place = built.child_place b.opened; name = n } in r) h.name_is

module _ (offset : ℕ) (c : Collecting) (b : Building) (h : Follows offset c b) where
  one_more : (row : Row) → suc c.number ≡ length (b.rows ++ (row ∷ []))
  one_more row = omega (arith, h.number_is, length-append b.rows (row ∷ []))

  leaf_follows : (k : Kind) (s : Span) → Follows offset (with_leaf k s c) (add_leaf k s b)
  leaf_follows k s =
      let row = next_row k s b in
      let same = row_is offset k s c b h in
      let lie = count_more offset (grow offset h.lie (row ∷ [])) in
      record {
        offset_is = h.offset_is;
        number_is = one_more row;
        name_is = refl;
        lie =
            subst (λ (x : ℕ). Lie offset (b.rows ++ (row ∷ [])) (more_in c.levels) (built.counted b.opened) (c.ended ++ filter (is_around x) (row_next k s c ∷ []))) (sym h.offset_is)
            (subst (λ (r : Row). Lie offset (b.rows ++ (row ∷ [])) (more_in c.levels) (built.counted b.opened) (c.ended ++ filter (is_around offset) (r ∷ []))) (sym same) lie);
      }

  begin_follows : (k : Kind) (is_object : Bool) (at : ℕ) → Follows offset (with_level k is_object at c) (begin_container k is_object at b)
  begin_follows k is_object at =
      let row = next_row k (span at (suc at)) b in
      let same = row_is offset k (span at (suc at)) c b h in
      record {
        offset_is = h.offset_is;
        number_is = one_more row;
        name_is = refl;
        lie =
            one_open {before = b.rows} {front = c.ended} {l = level_next k is_object at c} [] (count_more offset h.lie)
            (record { row_is = refl; number_is = h.number_is; base_is = refl; object_is = refl; count_is = refl })
            (ap (λ (r : Row). b.rows ++ (r ∷ [])) (sym same)) (sym (append-nil c.ended));
      }

  name_follows : (s : Span) → Follows offset (let x : Collecting = record c { name = Some s } in x) (let x : Building = record b { name = Some s } in x)
  name_follows s = record { offset_is = h.offset_is; number_is = h.number_is; name_is = refl; lie = h.lie }

  string_follows : (s : Span) (x y : Bool) → x ≡ y → Follows offset (cond x (record c { name = Some s }) (with_leaf kind.String s c)) (cond y (record b { name = Some s }) (add_leaf kind.String s b))
  string_follows s true true e = name_follows s
  string_follows s false false e = leaf_follows kind.String s
  string_follows s true false e = absurd cc
  string_follows s false true e = absurd cc

set_end-length : (rows : List Row) (n end : ℕ) → length (set_end n end rows) ≡ length rows
set_end-length [] n end = refl
set_end-length (r ∷ rows) zero end = refl
set_end-length (r ∷ rows) (suc n) end = ap suc (set_end-length rows n end)

-- the innermost open container ends
end_lies : (offset end : ℕ) (name : Option Span) (after : List ℕ) (c : Collecting) {rows ended : List Row} {levels : List Level} {opened : List Opened}
    → c.offset ≡ offset → c.levels ≡ levels → c.ended ≡ ended → Lie offset rows levels opened ended
    → Lie offset (end_container end rows after opened name).rows (end_level end c levels).levels (end_container end rows after opened name).opened (end_level end c levels).ended
end_lies offset end name after c {rows = rows} {ended = ended} o l e (none_open h) =
    subst (λ (ls : List Level). Lie offset rows ls [] c.ended) (sym l) (none_open (e ∙ h))
end_lies offset end name after c {rows = rows} {ended = ended} o l e (one_open {before = before} {front = front} {l = top} {o = opened_top} {levels = outer_levels} {opened = outer_opened} within outer same rows_are ended_are) =
    let row = with_end end top.row in
    let at : set_end opened_top.row end rows ≡ before ++ (row ∷ within) =
    ap (λ (n : ℕ). set_end n end rows) same.row_is ∙ ap (λ (xs : List Row). set_end (length before) end xs) rows_are ∙ set_end-append before top.row within end in
    let put : put_in c.offset row top.base c.ended ≡ front ++ filter (is_around offset) (row ∷ within) =
    ap (λ (x : ℕ). put_in x row top.base c.ended) o ∙ put_is offset row top.base within front c.ended (is_around offset row) refl same.base_is (e ∙ ended_are) in
    subst (λ (xs : List Row). Lie offset xs outer_levels outer_opened (put_in c.offset row top.base c.ended)) (sym at)
    (subst (λ (xs : List Row). Lie offset (before ++ (row ∷ within)) outer_levels outer_opened xs) (sym put) (grow offset outer (row ∷ within)))

end_number : (end : ℕ) (c : Collecting) (levels : List Level) → (end_level end c levels).number ≡ c.number
end_number end c [] = refl
end_number end c (l ∷ ls) = refl

end_offset : (end : ℕ) (c : Collecting) (levels : List Level) → (end_level end c levels).offset ≡ c.offset
end_offset end c [] = refl
end_offset end c (l ∷ ls) = refl

end_name : (end : ℕ) (c : Collecting) (levels : List Level) → (end_level end c levels).name ≡ c.name
end_name end c [] = refl
end_name end c (l ∷ ls) = refl

ended_length : (end : ℕ) (rows : List Row) (after : List ℕ) (opened : List Opened) (name : Option Span) → length (end_container end rows after opened name).rows ≡ length rows
ended_length end rows after [] name = refl
ended_length end rows after (o ∷ os) name = set_end-length rows o.row end

ended_name : (end : ℕ) (rows : List Row) (after : List ℕ) (opened : List Opened) (name : Option Span) → (end_container end rows after opened name).name ≡ name
ended_name end rows after [] name = refl
ended_name end rows after (o ∷ os) name = refl

end_follows : (offset : ℕ) (c : Collecting) (b : Building) → Follows offset c b → (end : ℕ) → Follows offset (without_level end c) (built.ended b end)
end_follows offset c b h end = record {
  offset_is = end_offset end c c.levels ∙ h.offset_is;
  number_is = end_number end c c.levels ∙ h.number_is ∙ sym (ended_length end b.rows b.after b.opened b.name);
  name_is = end_name end c c.levels ∙ h.name_is ∙ sym (ended_name end b.rows b.after b.opened b.name);
  lie = end_lies offset end b.name b.after c h.offset_is refl refl h.lie;
}

string_token : (offset : ℕ) (c : Collecting) (b : Building) → Follows offset c b → (s : Span) → is_name_next c.levels c.name ≡ built.is_name_next b.opened b.name
string_token offset c b h s = name_next offset c.name h.lie ∙ ap (λ (n : Option Span). built.is_name_next b.opened n) h.name_is

pub token_follows : (offset : ℕ) (c : Collecting) (b : Building) → Follows offset c b → (k : MarkKind) (at end : ℕ) → Follows offset (on_token k at end c) (on_mark k at end b)
token_follows offset c b h mark.OpenArray at end = begin_follows offset c b h kind.Array false at
token_follows offset c b h mark.OpenObject at end = begin_follows offset c b h kind.Object true at
token_follows offset c b h mark.CloseArray at end = end_follows offset c b h (suc at)
token_follows offset c b h mark.CloseObject at end = end_follows offset c b h (suc at)
token_follows offset c b h mark.Colon at end = h
token_follows offset c b h mark.Comma at end = h
token_follows offset c b h mark.String at end =
    string_follows offset c b h (span at end) (is_name_next c.levels c.name) (built.is_name_next b.opened b.name) (string_token offset c b h (span at end))
token_follows offset c b h mark.Number at end = leaf_follows offset c b h kind.Number (span at end)
token_follows offset c b h mark.True at end = leaf_follows offset c b h kind.True (span at end)
token_follows offset c b h mark.False at end = leaf_follows offset c b h kind.False (span at end)
token_follows offset c b h mark.Null at end = leaf_follows offset c b h kind.Null (span at end)

pub nothing_follows : (offset : ℕ) → Follows offset (record { offset = offset; number = 0; name = None; levels = []; ended = [] }) built.nothing_built
nothing_follows offset = record { offset_is = refl; number_is = refl; name_is = refl; lie = none_open refl }

pub collected_all : (offset : ℕ) (c : Collecting) (b : Building) → Follows offset c b → b.opened ≡ [] → c.ended ≡ filter (is_around offset) b.rows
collected_all offset c b h e = all_around offset e h.lie

pub taken : (offset : ℕ) (c d : Collecting) (k : MarkKind) (at end : ℕ) (b : Building) → (at < 2 ^ 64 - 1 → d ≡ on_token k at end c) → at < 2 ^ 64 - 1 → Follows offset c b
    → Follows offset d (on_mark k at end b)
taken offset c d k at end b e low h = subst (λ (x : Collecting). Follows offset x (on_mark k at end b)) (sym (e low)) (token_follows offset c b h k at end)

-- ---- behind a front

pub around_behind : (settings : Settings) (text : List ℕ) (n offset : ℕ) (table : List Row) → ((i : IndexedValue) → IsIndexFrom n text settings.depth i → IsIndexBy settings text i)
    → AreAroundFrom n text settings.depth offset table → AreAround settings text offset table
around_behind settings text n offset table indexes h =
    let x = rows_behind settings text n indexes (rows h.tree) (record { tree = h.tree; is_text = h.is_text; rows_are = refl }) in
    record { tree = x.tree; is_text = x.is_text; around_are = h.around_are ∙ ap (filter (is_around offset)) x.rows_are }

-- The names that are held follow what is built, mark by mark.
use Rattle.std.proofs.Common.{◌≡◌, ℕ, zero, suc, ◌<◌, ◌≤◌, ◌⊎◌, List, [], ◌∷◌, ◌++◌, length, take, drop, append_assoc, append-nil, Bool, true, false, cond, Option, None, Some, refl, sym, ap, subst, ◌∙◌, inl, inr, arith}
use Rattle.std.specs.Prelude.{◌==◌, option_to_list}
use Rattle.std.proofs.lemmas.Bool.Decides.{nat_tests}
use Rattle.std.proofs.lemmas.List.{length-append}
use Rattle.std.proofs.Math.Seq.{drop-append_seam, take-append_seam}
use Rattle.jx_lex.specs.declared.kind.Kind.{Kind}
use Rattle.jx_lex.specs.declared.kind.Kind.TheVariants as kind
use Rattle.jx_lex.specs.declared.alphabet.mark.MarkKind.{MarkKind}
use Rattle.jx_lex.specs.declared.alphabet.mark.MarkKind.TheVariants as mark
use Rattle.jx_summary.specs.declared.span.Span.{Span}
use Rattle.jx_run.specs.Tree.{span}
use Rattle.jx_index.specs.declared.builder.Opened.{Opened}
use Rattle.jx_index.specs.declared.open_names.Holder.{Holder}
use Rattle.jx_index.specs.declared.row.Row.{Row}
use Rattle.jx_index.specs.Nodes.{is_parent, kind_at}
use Rattle.jx_index.specs.Repeats.{IsLeast}
use Rattle.jx_index.specs.inside.Building.{Building, nothing_built, parent_in, counted, next_row, add_leaf, begin_container, set_end, end_container, ended, is_name_next, add_string, on_mark}
use Rattle.jx_index.specs.inside.NameLists.{IsRepeatedName}
use Rattle.jx_index.specs.inside.OpenNames.{is_name_next as is_held_name, Held, with_value, with_container, Ends, names_below, is_object, Holds, none_open, one_open, IsNotOpen, IsEndedRepeat, IsHeldOf}
use Rattle.jx_index.specs.inside.Ties.{earlier_of}
use Rattle.jx_index.proofs.Bridge.{object_row}
use Rattle.jx_index.proofs.Leasts.{least_same, least_either, least_none}

-- ---- one row more

abbrev one_more : List Row → Row → List Row
one_more rows row = rows ++ (row ∷ [])

longer : (rows : List Row) (row : Row) → length (one_more rows row) ≡ suc (length rows)
longer rows row = omega (arith, length-append rows (row ∷ []))

below_more : (rows : List Row) (row : Row) (n : ℕ) → names_below (one_more rows row) n ≡ names_below rows n ++ cond (is_parent n row.parent) (option_to_list row.name) []
below_more [] row n = append-nil (cond (is_parent n row.parent) (option_to_list row.name) [])
below_more (r ∷ rows) row n =
    let here = cond (is_parent n r.parent) (option_to_list r.name) [] in
    ap (λ (names : List Span). here ++ names) (below_more rows row n) ∙ sym (append_assoc here (names_below rows n) (cond (is_parent n row.parent) (option_to_list row.name) []))

-- the names below others stay
below_others : (rows : List Row) (row : Row) (n : ℕ) → is_parent n row.parent ≡ false → names_below (one_more rows row) n ≡ names_below rows n
below_others rows row n h =
    below_more rows row n
    ∙ ap (λ (c : Bool). names_below rows n ++ cond c (option_to_list row.name) []) h
    ∙ append-nil (names_below rows n)

below_parent : (rows : List Row) (row : Row) (n : ℕ) → is_parent n row.parent ≡ true → names_below (one_more rows row) n ≡ names_below rows n ++ option_to_list row.name
below_parent rows row n h = below_more rows row n ∙ ap (λ (c : Bool). names_below rows n ++ cond c (option_to_list row.name) []) h

kind_more : (rows : List Row) (row : Row) (n : ℕ) → n < length rows → kind_at (one_more rows row) n ≡ kind_at rows n
kind_more [] row n h = absurd (omega (arith, h))
kind_more (r ∷ rows) row zero h = refl
kind_more (r ∷ rows) row (suc n) h = kind_more rows row n (omega (arith, h))

kind_last : (rows : List Row) (row : Row) → kind_at (one_more rows row) (length rows) ≡ row.kind
kind_last [] row = refl
kind_last (r ∷ rows) row = kind_last rows row

-- ---- an end that is set

below_end : (rows : List Row) (k end n : ℕ) → names_below (set_end k end rows) n ≡ names_below rows n
below_end [] k end n = refl
below_end (r ∷ rows) zero end n = refl
below_end (r ∷ rows) (suc k) end n = ap (λ (names : List Span). cond (is_parent n r.parent) (option_to_list r.name) [] ++ names) (below_end rows k end n)

kind_end : (rows : List Row) (k end n : ℕ) → kind_at (set_end k end rows) n ≡ kind_at rows n
kind_end [] k end n = refl
kind_end (r ∷ rows) zero end zero = refl
kind_end (r ∷ rows) zero end (suc n) = refl
kind_end (r ∷ rows) (suc k) end zero = refl
kind_end (r ∷ rows) (suc k) end (suc n) = kind_end rows k end n

length_end : (rows : List Row) (k end : ℕ) → length (set_end k end rows) ≡ length rows
length_end [] k end = refl
length_end (r ∷ rows) zero end = refl
length_end (r ∷ rows) (suc k) end = ap suc (length_end rows k end)

-- ---- parents

equal_no : (a b : ℕ) → (a ≡ b → ⊥) → (a == b) ≡ false
equal_no a b h = pick (a == b) refl
  where
    pick : (c : Bool) → (a == b) ≡ c → (a == b) ≡ false
    pick true q = absurd (h (grind (arith, nat_tests)))
    pick false q = q

equal_yes : (a : ℕ) → (a == a) ≡ true
equal_yes a = grind (arith, nat_tests)

no_parent : (n : ℕ) (opened : List Opened) → IsNotOpen n opened → is_parent n (parent_in opened) ≡ false
no_parent n [] h = refl
no_parent n (top ∷ outer) h = equal_no top.row n h.0

past_all : {below : ℕ → List Span} {kinds : ℕ → Kind} {n : ℕ} {holders : List Holder} {opened : List Opened} {names : List Span} → Holds below kinds n holders opened names
    → (m : ℕ) → n ≤ m → IsNotOpen m opened
past_all none_open m le = tt
past_all (one_open {o = o} low _ _ _ _ rest) m le = (λ e. omega (arith, low, le, e), past_all rest m (omega (arith, low, le)))

-- ---- what is held is the same where the names and the kinds are

same_holds : {below : ℕ → List Span} {kinds : ℕ → Kind} {n : ℕ} {holders : List Holder} {opened : List Opened} {names : List Span} (below' : ℕ → List Span) (kinds' : ℕ → Kind)
    → ((k : ℕ) → k < n → below' k ≡ below k) → ((k : ℕ) → k < n → kinds' k ≡ kinds k) → Holds below kinds n holders opened names → Holds below' kinds' n holders opened names
same_holds below' kinds' b k none_open = none_open
same_holds below' kinds' b k (one_open {o = o} {before = before} low from same is e rest) =
    one_open low from same (is ∙ ap is_object (sym (k o.row low))) (e ∙ ap (λ (x : List Span). before ++ x) (sym (b o.row low)))
    (same_holds below' kinds' (λ j h. b j (omega (arith, h, low))) (λ j h. k j (omega (arith, h, low))) rest)

higher : {below : ℕ → List Span} {kinds : ℕ → Kind} {n : ℕ} {holders : List Holder} {opened : List Opened} {names : List Span} (m : ℕ) → n ≤ m
    → Holds below kinds n holders opened names → Holds below kinds m holders opened names
higher m le none_open = none_open
higher m le (one_open low from same is e rest) = one_open (omega (arith, low, le)) from same is e rest

not_counted : (n : ℕ) (opened : List Opened) → IsNotOpen n opened → IsNotOpen n (counted opened)
not_counted n [] h = tt
not_counted n (top ∷ outer) h = h

counted_not : (n : ℕ) (opened : List Opened) → IsNotOpen n (counted opened) → IsNotOpen n opened
counted_not n [] h = tt
counted_not n (top ∷ outer) h = h

-- ---- a value begins

value_holds : (rows : List Row) (row : Row) (opened : List Opened) (holders : List Holder) (names : List Span) → row.parent ≡ parent_in opened
    → Holds (names_below rows) (kind_at rows) (length rows) holders opened names
    → Holds (names_below (one_more rows row)) (kind_at (one_more rows row)) (length rows) holders (counted opened) (names ++ option_to_list row.name)
value_holds rows row [] [] names p none_open = none_open
value_holds rows row (top ∷ outer) (h ∷ holders) names p (one_open {before = before} low from same is e rest) =
    one_open low from same (is ∙ ap is_object (sym (kind_more rows row top.row low)))
    (ap (λ (x : List Span). x ++ option_to_list row.name) e
    ∙ append_assoc before (names_below rows top.row) (option_to_list row.name)
    ∙ ap (λ (x : List Span). before ++ x) (sym (below_parent rows row top.row (ap (is_parent top.row) p ∙ equal_yes top.row))))
    (same_holds (names_below (one_more rows row)) (kind_at (one_more rows row))
    (λ k lt. below_others rows row k (ap (is_parent k) p ∙ equal_no top.row k (λ q. omega (arith, lt, q))))
    (λ k lt. kind_more rows row k (omega (arith, lt, low))) rest)
value_holds rows row [] (h ∷ holders) names p x = elim x [ ]
value_holds rows row (top ∷ outer) [] names p x = elim x [ ]

module _ (rows : List Row) (row : Row) (opened : List Opened) (parent : row.parent ≡ parent_in opened) where
  others : (n : ℕ) → IsNotOpen n opened → names_below (one_more rows row) n ≡ names_below rows n
  others n h = below_others rows row n (ap (is_parent n) parent ∙ no_parent n opened h)

  none_more : (holders : List Holder) (names : List Span) → Holds (names_below rows) (kind_at rows) (length rows) holders opened names
      → ((n : ℕ) → length rows ≤ n → names_below rows n ≡ []) → (n : ℕ) → length rows ≤ n → names_below (one_more rows row) n ≡ []
  none_more holders names h none n le = others n (past_all h n le) ∙ none n le

  -- the objects that have ended are the same, where the new row is none of them
  ended_same : (text : List ℕ) (now : List Opened) (first : Option ℕ) → ((n : ℕ) → n < length rows → IsNotOpen n opened → IsNotOpen n now) → ((n : ℕ) → IsNotOpen n now → IsNotOpen n opened)
      → (row.kind ≡ kind.Object → IsNotOpen (length rows) now → ⊥)
      → IsLeast (IsEndedRepeat text (names_below rows) (kind_at rows) opened) first → IsLeast (IsEndedRepeat text (names_below (one_more rows row)) (kind_at (one_more rows row)) now) first
  ended_same text now first to of fresh h =
      least_same (IsEndedRepeat text (names_below rows) (kind_at rows) opened) (IsEndedRepeat text (names_below (one_more rows row)) (kind_at (one_more rows row)) now)
      (λ at x.
      let low = object_row rows x.object x.is_object in
      record {
        object = x.object;
        is_object = kind_more rows row x.object low ∙ x.is_object;
        ended = to x.object low x.ended;
        repeats = subst (λ (names : List Span). IsRepeatedName text names at) (sym (others x.object x.ended)) x.repeats;
      })
      (λ at x. back at x (split x.object (length rows)))
      first h
    where
      split : (a b : ℕ) → (a < b) ⊎ (b ≤ a)
      split zero zero = inr (omega arith)
      split zero (suc b) = inl (omega arith)
      split (suc a) zero = inr (omega arith)
      split (suc a) (suc b) = elim (split a b) [ inl h ↦ inl (omega (arith, h)) | inr h ↦ inr (omega (arith, h)) ]

      back : (at : ℕ) (x : IsEndedRepeat text (names_below (one_more rows row)) (kind_at (one_more rows row)) now at) → (x.object < length rows) ⊎ (length rows ≤ x.object)
          → IsEndedRepeat text (names_below rows) (kind_at rows) opened at
      back at x (inl low) = record {
        object = x.object;
        is_object = sym (kind_more rows row x.object low) ∙ x.is_object;
        ended = of x.object x.ended;
        repeats = subst (λ (names : List Span). IsRepeatedName text names at) (others x.object (of x.object x.ended)) x.repeats;
      }
      back at x (inr le) =
          let within = object_row (one_more rows row) x.object x.is_object in
          let long = longer rows row in
          let last : x.object ≡ length rows = omega (arith, le, within, long) in
          absurd (fresh (sym (kind_last rows row) ∙ ap (kind_at (one_more rows row)) (sym last) ∙ x.is_object) (subst (λ (n : ℕ). IsNotOpen n now) last x.ended))

-- ---- marks

module _ (text : List ℕ) (b : Building) (h : Held) (x : IsHeldOf text b h) where
  names_are : h.names ++ option_to_list h.name ≡ h.names ++ option_to_list b.name
  names_are = ap (λ (o : Option Span). h.names ++ option_to_list o) x.name_is

  pub leaf_held : (k : Kind) (s : Span) → (k ≡ kind.Object → ⊥) → IsHeldOf text (add_leaf k s b) (with_value h)
  leaf_held k s scalar =
      let row = next_row k s b in
      let long = longer b.rows row in
      record {
        text_is = x.text_is;
        name_is = refl;
        holds =
            subst (λ (names : List Span). Holds (names_below (one_more b.rows row)) (kind_at (one_more b.rows row)) (length (one_more b.rows row)) h.opened (counted b.opened) names) (sym names_are)
            (higher (length (one_more b.rows row)) (omega (arith, long)) (value_holds b.rows row b.opened h.opened h.names refl x.holds));
        none_later = λ n le. none_more b.rows row b.opened refl h.opened h.names x.holds x.none_later n (omega (arith, le, long));
        least = ended_same b.rows row b.opened refl text (counted b.opened) h.first (λ n lt. not_counted n b.opened) (λ n. counted_not n b.opened) (λ is _. scalar is) x.least;
      }

  pub container_held : (k : Kind) (o : Bool) (at : ℕ) → o ≡ is_object k → IsHeldOf text (begin_container k o at b) (with_container o h)
  container_held k o at is =
      let row = next_row k (span at (suc at)) b in
      let long = longer b.rows row in
      let n = length b.rows in
      let names = h.names ++ option_to_list b.name in
      let none = none_more b.rows row b.opened refl h.opened h.names x.holds x.none_later in
      record {
        text_is = x.text_is;
        name_is = refl;
        holds =
            one_open {before = names} (omega (arith, long)) (ap length names_are) refl (is ∙ ap is_object (sym (kind_last b.rows row)))
            (names_are ∙ sym (append-nil names) ∙ ap (λ (y : List Span). names ++ y) (sym (none n (omega arith))))
            (value_holds b.rows row b.opened h.opened h.names refl x.holds);
        none_later = λ m le. none m (omega (arith, le, long));
        least =
            ended_same b.rows row b.opened refl text (record { row = n; is_object = o; count = 0 } ∷ counted b.opened) h.first
            (λ m lt not. (λ e. omega (arith, lt, e), not_counted m b.opened not)) (λ m not. counted_not m b.opened not.1) (λ _ not. not.0 refl) x.least;
      }

  pub name_held : (s : Span) → IsHeldOf text (record b { name = Some s }) (record h { name = Some s })
  name_held s = record { text_is = x.text_is; name_is = refl; holds = x.holds; none_later = x.none_later; least = x.least }

-- ---- a container ends

object_kind : (k : Kind) → is_object k ≡ true → k ≡ kind.Object
object_kind kind.Object h = refl
object_kind kind.Array h = absurd (cc)
object_kind kind.String h = absurd (cc)
object_kind kind.Number h = absurd (cc)
object_kind kind.True h = absurd (cc)
object_kind kind.False h = absurd (cc)
object_kind kind.Null h = absurd (cc)

module _ (text : List ℕ) (rows : List Row) (o : Opened) (outer : List Opened) (end : ℕ) where
  abbrev closed : List Row
  closed = set_end o.row end rows

  -- what is repeated in the container itself
  abbrev IsOwn : ℕ → Type 0
  IsOwn at = (kind_at rows o.row ≡ kind.Object) × IsRepeatedName text (names_below rows o.row) at

  own_least : (before names : List Span) (top : Holder) (repeated : Option ℕ) → names ≡ before ++ names_below rows o.row → top.before ≡ length before → top.is_object ≡ is_object (kind_at rows o.row)
      → (top.is_object ≡ true → IsLeast (IsRepeatedName text (drop top.before names)) repeated) → (top.is_object ≡ false → repeated ≡ None) → IsLeast IsOwn repeated
  own_least before names top repeated e from is object array = pick top.is_object refl
    where
      behind : drop top.before names ≡ names_below rows o.row
      behind = ap (λ (n : ℕ). drop n names) from ∙ ap (drop (length before)) e ∙ drop-append_seam before (names_below rows o.row)

      pick : (c : Bool) → top.is_object ≡ c → IsLeast IsOwn repeated
      pick true q =
          let own = object_kind (kind_at rows o.row) (sym is ∙ q) in
          least_same (IsRepeatedName text (drop top.before names)) IsOwn
          (λ at y. (own, subst (λ (l : List Span). IsRepeatedName text l at) behind y))
          (λ at y. subst (λ (l : List Span). IsRepeatedName text l at) (sym behind) y.1) repeated (object q)
      pick false q =
          subst (IsLeast IsOwn) (sym (array q))
          (least_none IsOwn (λ at y. let yes : is_object (kind_at rows o.row) ≡ true = ap is_object y.0 in absurd (cc (is, q, yes))))

  ended_least : (first repeated : Option ℕ) → IsNotOpen o.row outer → IsLeast (IsEndedRepeat text (names_below rows) (kind_at rows) (o ∷ outer)) first → IsLeast IsOwn repeated
      → IsLeast (IsEndedRepeat text (names_below closed) (kind_at closed) outer) (earlier_of first repeated)
  ended_least first repeated apart all own =
      least_same (λ at. IsEndedRepeat text (names_below rows) (kind_at rows) (o ∷ outer) at ⊎ IsOwn at) (IsEndedRepeat text (names_below closed) (kind_at closed) outer)
      (λ at auto. elim auto [
        | inl x ↦ record {
          object = x.object;
          is_object = kind_end rows o.row end x.object ∙ x.is_object;
          ended = x.ended.1;
          repeats = subst (λ (names : List Span). IsRepeatedName text names at) (sym (below_end rows o.row end x.object)) x.repeats;
        }
        | inr x ↦ record {
          object = o.row;
          is_object = kind_end rows o.row end o.row ∙ x.0;
          ended = apart;
          repeats = subst (λ (names : List Span). IsRepeatedName text names at) (sym (below_end rows o.row end o.row)) x.1;
        }
      ])
      (λ at x. back at x (o.row == x.object) refl)
      (earlier_of first repeated) (least_either (IsEndedRepeat text (names_below rows) (kind_at rows) (o ∷ outer)) IsOwn first repeated all own)
    where
      back : (at : ℕ) (x : IsEndedRepeat text (names_below closed) (kind_at closed) outer at) (c : Bool) → (o.row == x.object) ≡ c
          → IsEndedRepeat text (names_below rows) (kind_at rows) (o ∷ outer) at ⊎ IsOwn at
      back at x true q =
          let same : x.object ≡ o.row = grind (arith, nat_tests) in
          inr (
            sym (kind_end rows o.row end o.row) ∙ ap (kind_at closed) (sym same) ∙ x.is_object,
            subst (λ (names : List Span). IsRepeatedName text names at) (ap (names_below closed) same ∙ below_end rows o.row end o.row) x.repeats,
          )
      back at x false q =
          inl (record {
            object = x.object;
            is_object = sym (kind_end rows o.row end x.object) ∙ x.is_object;
            ended = (λ e. absurd (cc (q, ap (λ (n : ℕ). n == x.object) e, equal_yes x.object)), x.ended);
            repeats = subst (λ (names : List Span). IsRepeatedName text names at) (below_end rows o.row end x.object) x.repeats;
          })

module _ (text : List ℕ) (b : Building) (h : Held) (x : IsHeldOf text b h) (end : ℕ) where
  pub end_held : (new : Held) → Ends h.opened h new → IsHeldOf text (ended b end) new
  end_held new e = go h.opened b.opened refl x.holds x.least e
    where
      go : (holders : List Holder) (opened : List Opened) → h.opened ≡ holders → Holds (names_below b.rows) (kind_at b.rows) (length b.rows) holders opened h.names
          → IsLeast (IsEndedRepeat text (names_below b.rows) (kind_at b.rows) opened) h.first → Ends holders h new → IsHeldOf text (end_container end b.rows b.after opened b.name) new
      go [] [] is none_open least e =
          subst (λ (k : Held). IsHeldOf text (end_container end b.rows b.after [] b.name) k) (sym e)
          (record {
            text_is = x.text_is;
            name_is = x.name_is;
            holds = subst (λ (hs : List Holder). Holds (names_below b.rows) (kind_at b.rows) (length b.rows) hs [] h.names) (sym is) none_open;
            none_later = x.none_later;
            least = least;
          })
      go (top ∷ holders) (o ∷ outer) is (one_open {before = before} low from same kind_is own_names rest) least e =
          let rows = set_end o.row end b.rows in
          let long = length_end b.rows o.row end in
          let left : before ≡ take top.before h.names = sym (ap (λ (n : ℕ). take n h.names) from ∙ ap (take (length before)) own_names ∙ take-append_seam before (names_below b.rows o.row)) in
          let own = own_least text b.rows o outer end before h.names top e.repeated own_names from (same ∙ kind_is)
          (λ q. subst (λ (t : List ℕ). IsLeast (IsRepeatedName t (drop top.before h.names)) e.repeated) x.text_is (e.in_object q)) e.in_array in
          subst (λ (k : Held). IsHeldOf text (end_container end b.rows b.after (o ∷ outer) b.name) k) (sym e.is)
          (record {
            text_is = x.text_is;
            name_is = x.name_is;
            holds =
                subst (λ (names : List Span). Holds (names_below rows) (kind_at rows) (length rows) holders outer names) left
                (higher (length rows) (omega (arith, low, long))
                (same_holds (names_below rows) (kind_at rows) (λ k _. below_end b.rows o.row end k) (λ k _. kind_end b.rows o.row end k) rest));
            none_later = λ n le. below_end b.rows o.row end n ∙ x.none_later n (omega (arith, le, long));
            least = ended_least text b.rows o outer end h.first e.repeated (past_all rest o.row (omega arith)) least own;
          })
      go [] (o ∷ outer) is y least e = elim y [ ]
      go (top ∷ holders) [] is y least e = elim y [ ]

pub none_held : (text : List ℕ) (holders : List Holder) (names : List Span) → holders ≡ [] → names ≡ []
    → IsHeldOf text nothing_built (record { text = text; opened = holders; names = names; name = None; first = None })
none_held text holders names none empty =
    subst (λ (hs : List Holder). IsHeldOf text nothing_built (record { text = text; opened = hs; names = names; name = None; first = None })) (sym none)
    (record {
      text_is = refl;
      name_is = refl;
      holds = none_open;
      none_later = λ n le. refl;
      least = λ at x. absurd (cc (x.is_object));
    })

pub closes : (k : MarkKind) (at end : ℕ) (b : Building) → (k ≡ mark.CloseArray) ⊎ (k ≡ mark.CloseObject) → on_mark k at end b ≡ ended b (suc at)
closes k at end b (inl e) = ap (λ (x : MarkKind). on_mark x at end b) e
closes k at end b (inr e) = ap (λ (x : MarkKind). on_mark x at end b) e

-- ---- a string

-- a name is next by what is held where it is by what is built
same_next : {below : ℕ → List Span} {kinds : ℕ → Kind} {n : ℕ} (holders : List Holder) (opened : List Opened) {names : List Span} (name other : Option Span) → name ≡ other
    → Holds below kinds n holders opened names → is_held_name holders name ≡ is_name_next opened other
same_next [] [] name other e x = refl
same_next (h ∷ holders) (o ∷ outer) None other e (one_open low from same is names rest) = same ∙ ap (λ (y : Option Span). is_name_next (o ∷ outer) y) e
same_next (h ∷ holders) (o ∷ outer) (Some s) other e x = ap (λ (y : Option Span). is_name_next (o ∷ outer) y) e
same_next [] (o ∷ outer) name other e x = elim x [ ]
same_next (h ∷ holders) [] name other e x = elim x [ ]

module _ (text : List ℕ) (b : Building) (h : Held) (x : IsHeldOf text b h) (s : Span) where
  by_next : (c : Bool) → is_held_name h.opened h.name ≡ c → add_string s b ≡ cond c (record b { name = Some s }) (add_leaf kind.String s b)
  by_next c e = ap (λ (d : Bool). cond d (record b { name = Some s }) (add_leaf kind.String s b)) (sym (same_next h.opened b.opened h.name b.name x.name_is x.holds) ∙ e)

  pub named_held : is_held_name h.opened h.name ≡ true → IsHeldOf text (add_string s b) (record h { name = Some s })
  named_held e = subst (λ (y : Building). IsHeldOf text y (record h { name = Some s })) (sym (by_next true e)) (name_held text b h x s)

  pub string_held : is_held_name h.opened h.name ≡ false → IsHeldOf text (add_string s b) (with_value h)
  string_held e = subst (λ (y : Building). IsHeldOf text y (with_value h)) (sym (by_next false e)) (leaf_held text b h x kind.String s (λ q. absurd (cc)))

-- ---- another scalar

pub scalar_held : (text : List ℕ) (b : Building) (h : Held) (k : MarkKind) (at end : ℕ) → (k ≡ mark.Number) ⊎ (k ≡ mark.True) ⊎ (k ≡ mark.False) ⊎ (k ≡ mark.Null)
    → IsHeldOf text b h → IsHeldOf text (on_mark k at end b) (with_value h)
scalar_held text b h k at end (inl e) x = subst (λ (y : MarkKind). IsHeldOf text (on_mark y at end b) (with_value h)) (sym e) (leaf_held text b h x kind.Number (span at end) (λ q. absurd (cc)))
scalar_held text b h k at end (inr (inl e)) x = subst (λ (y : MarkKind). IsHeldOf text (on_mark y at end b) (with_value h)) (sym e) (leaf_held text b h x kind.True (span at end) (λ q. absurd (cc)))
scalar_held text b h k at end (inr (inr (inl e))) x = subst (λ (y : MarkKind). IsHeldOf text (on_mark y at end b) (with_value h)) (sym e) (leaf_held text b h x kind.False (span at end) (λ q. absurd (cc)))
scalar_held text b h k at end (inr (inr (inr e))) x = subst (λ (y : MarkKind). IsHeldOf text (on_mark y at end b) (with_value h)) (sym e) (leaf_held text b h x kind.Null (span at end) (λ q. absurd (cc)))

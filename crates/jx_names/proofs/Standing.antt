-- What is kept by bytes follows what is built, mark by mark.
use Rattle.std.proofs.Common.{◌≡◌, ℕ, ◌-◌, ◌⊎◌, List, [], ◌∷◌, ◌++◌, length, take, drop, map, Bool, true, false, Option, None, Some, refl, sym, ap, subst, ◌∙◌, arith, inl, inr, append-nil}
use Rattle.std.specs.Prelude.{option_to_list, slice_range}
use Rattle.std.proofs.lemmas.List.{length-append, take_all}
use Rattle.std.proofs.Math.Seq.{drop-append_seam}
use Rattle.jx_lex.specs.declared.kind.Kind.{Kind}
use Rattle.jx_lex.specs.declared.alphabet.mark.MarkKind.{MarkKind}
use Rattle.jx_lex.specs.declared.alphabet.mark.MarkKind.TheVariants as mark
use Rattle.jx_summary.specs.declared.span.Span.{Span}
use Rattle.jx_run.specs.Tree.{span}
use Rattle.jx_index.specs.declared.open_names.Holder.{Holder}
use Rattle.jx_index.specs.declared.units.Spelling.TheVariants.{InText}
use Rattle.jx_index.specs.Repeats.{IsLeast}
use Rattle.jx_index.specs.Units.{between_marks, chars_units, units_at}
use Rattle.jx_index.specs.inside.Building.{Building, add_string, begin_container, ended, is_token, nothing_built, on_mark}
use Rattle.jx_index.specs.inside.NameLists.{start_at, IsRepeatedName}
use Rattle.jx_index.specs.inside.OpenNames as index
use Rattle.jx_index.specs.inside.OpenNames.{Held, is_object}
use Rattle.jx_index.specs.inside.Ties.{earlier_of}
use Rattle.jx_index.proofs.OpenNames.{container_held, end_held, named_held, none_held, scalar_held, string_held}
use Rattle.jx_string.specs.Texts.{string_units}
use Rattle.jx_names.specs.declared.name_bytes.Name.{Name}
use Rattle.jx_names.specs.declared.open_names.Container.{Container}
use Rattle.jx_names.specs.inside.KeptNames.{AreKept, Ends, EndsIn, IsKept, IsKeptToo, Kept, Stands, cut_back, end_from, holder, is_name_next, keyed, keyed_in, names_next, start_of, with_container, with_name, with_value}
use Rattle.jx_names.specs.inside.NameBytes.{key_of_bytes, name_bytes}
use Rattle.jx_names.proofs.Alike.{alike_drop, least_alike, least_spelt}
use Rattle.jx_names.proofs.Keeping.{all_stay, are_alike, cut_kept, cut_too, ends_within, first_kept, one_more, same_long}
use Rattle.jx_names.proofs.Spellings.{same_keyed}

-- ---- what is kept of what is held

module _ (text : List ℕ) (h : Held) (k : Kept) (x : IsKept text h k) where
  value_names : AreKept text k.bytes 0 (h.names ++ option_to_list h.name) (k.names ++ option_to_list k.name)
  value_names = one_more text k.bytes 0 h.names k.names h.name k.name x.names x.name

  value_kept : IsKept text (index.with_value h) (with_value k)
  value_kept = record { opened = x.opened; names = value_names; name = tt; first = x.first }

  container_kept : (o : Bool) → IsKept text (index.with_container o h) (with_container o k)
  container_kept o =
      let n = same_long text k.bytes 0 _ _ value_names in
      record {
        opened =
            ap (λ (i : ℕ). record { is_object = o; before = i } ∷ h.opened) n
            ∙ ap (λ (hs : List Holder). record { is_object = o; before = length (k.names ++ option_to_list k.name) } ∷ hs) x.opened;
        names = value_names;
        name = tt;
        first = x.first;
      }

  new_bytes : (bs : List ℕ) → slice_range (k.bytes ++ bs) (length k.bytes) (length (k.bytes ++ bs)) ≡ bs
  new_bytes bs =
      let long = length-append k.bytes bs in
      ap (take (length (k.bytes ++ bs) - length k.bytes)) (drop-append_seam k.bytes bs) ∙ take_all (length (k.bytes ++ bs) - length k.bytes) bs (omega (arith, long))

  name_kept : (at end : ℕ) (us : List ℕ) → us ≡ units_at text (span at end) → IsKept text (record h { name = Some (span at end) }) (with_name at us k)
  name_kept at end us is =
      let bs = name_bytes us in
      let long = length-append k.bytes bs in
      let within = ends_within text k.bytes 0 h.names k.names (omega arith) x.names in
      record {
        opened = x.opened;
        names = all_stay text k.bytes bs 0 h.names k.names x.names;
        name = record {
          at = refl;
          above = omega (arith, long, within);
          order = omega (arith, long);
          within = omega arith;
          is_keyed = ap (λ (ns : List ℕ). key_of_bytes bs ∷ ns) (new_bytes bs) ∙ ap keyed is;
        };
        first = x.first;
      }

-- ---- a container ends

module _ (text : List ℕ) (h : Held) (k : Kept) (text_is : h.text ≡ text) (x : IsKept text h k) (new : Kept) where
  record HasEnded : Type 0 where
    held : Held
    ends : index.Ends h.opened h held
    kept : IsKept text held new

  ended_in : (c : Container) (outer : List Container) → h.opened ≡ map holder (c ∷ outer) → EndsIn k c outer new → HasEnded
  ended_in c outer opened e =
      let other : Held = record h { opened = map holder outer; names = take c.before h.names; first = earlier_of h.first e.repeated } in
      let is : index.EndsIn h (holder c) (map holder outer) other =
      record {
        repeated = e.repeated;
        in_object = λ q.
            subst (λ (t : List ℕ). IsLeast (IsRepeatedName t (drop c.before h.names)) e.repeated) (sym text_is)
            (least_spelt keyed same_keyed (units_at text) start_at (drop c.before h.names) e.repeated
            (least_alike (λ (s : Span). keyed (units_at text s)) (keyed_in k.bytes) start_at start_of (drop c.before h.names) (drop c.before k.names) e.repeated
            (alike_drop (λ (s : Span). keyed (units_at text s)) (keyed_in k.bytes) start_at start_of c.before h.names k.names (are_alike text k.bytes 0 h.names k.names x.names))
            (e.in_object q)));
        in_array = e.in_array;
        is = refl;
      } in
      let after : Kept = record k { opened = outer; names = take c.before k.names; bytes = cut_back k.bytes (take c.before k.names) k.name; first = earlier_of k.first e.repeated } in
      let still : IsKept text other after =
      record {
        opened = refl;
        names = cut_kept text k.bytes (take c.before h.names) (take c.before k.names) k.name (first_kept text k.bytes c.before 0 h.names k.names x.names);
        name = cut_too text k.bytes c.before h.names k.names h.name k.name x.names x.name;
        first = ap (λ (o : Option ℕ). earlier_of o e.repeated) x.first;
      } in
      record { held = other; ends = subst (λ (hs : List Holder). index.Ends hs h other) (sym opened) is; kept = subst (IsKept text other) (sym e.is) still }

  has_ended : (opened : List Container) → h.opened ≡ map holder opened → Ends opened k new → HasEnded
  has_ended [] is e = record { held = h; ends = subst (λ (hs : List Holder). index.Ends hs h h) (sym is) refl; kept = subst (IsKept text h) (sym e) x }
  has_ended (c ∷ outer) is e = ended_in c outer is e

-- a name is next by what is held where it is by what is kept
same_next : (text bytes : List ℕ) (low : ℕ) (opened : List Container) (s : Option Span) (n : Option Name) → IsKeptToo text bytes low s n → index.is_name_next (map holder opened) s ≡ names_next opened n
same_next text bytes low [] s n w = refl
same_next text bytes low (c ∷ outer) None None w = refl
same_next text bytes low (c ∷ outer) (Some s) (Some n) w = refl
same_next text bytes low (c ∷ outer) None (Some n) w = absurd w
same_next text bytes low (c ∷ outer) (Some s) None w = absurd w

-- ---- marks

pub stands_first : (text : List ℕ) (opened : List Container) (names : List Name) (bytes : List ℕ) → opened ≡ [] → names ≡ [] → bytes ≡ []
    → Stands text nothing_built (record { opened = opened; names = names; bytes = bytes; name = None; first = None })
stands_first text opened names bytes o n u =
    subst (λ (os : List Container). Stands text nothing_built (record { opened = os; names = names; bytes = bytes; name = None; first = None })) (sym o)
    (subst (λ (ns : List Name). Stands text nothing_built (record { opened = []; names = ns; bytes = bytes; name = None; first = None })) (sym n)
    (subst (λ (us : List ℕ). Stands text nothing_built (record { opened = []; names = []; bytes = us; name = None; first = None })) (sym u)
    (record {
      held = record { text = text; opened = []; names = []; name = None; first = None };
      holds = none_held text [] [] refl refl;
      kept = record { opened = refl; names = tt; name = tt; first = refl };
    })))

module _ (text : List ℕ) (b : Building) (k : Kept) (x : Stands text b k) where
  pub stands_container : (kd : Kind) (o : Bool) (at : ℕ) → o ≡ is_object kd → Stands text (begin_container kd o at b) (with_container o k)
  stands_container kd o at is = record { held = index.with_container o x.held; holds = container_held text b x.held x.holds kd o at is; kept = container_kept text x.held k x.kept o }

  pub stands_ended : (end : ℕ) (new : Kept) → Ends k.opened k new → Stands text (ended b end) new
  stands_ended end new e =
      let after = has_ended text x.held k x.holds.text_is x.kept new k.opened x.kept.opened e in
      record { held = after.held; holds = end_held text b x.held x.holds end after.held after.ends; kept = after.kept }

  next_is : (c : Bool) → names_next k.opened k.name ≡ c → index.is_name_next x.held.opened x.held.name ≡ c
  next_is c e =
      ap (λ (hs : List Holder). index.is_name_next hs x.held.name) x.kept.opened ∙ same_next text k.bytes (end_from 0 k.names) k.opened x.held.name k.name x.kept.name ∙ e

  named : (at end : ℕ) (name : List ℕ) → slice_range text at end ≡ name → string_units name ≡ units_at text (span at end)
  unfolding units_at
  named at end name e = ap (λ (w : List ℕ). chars_units InText 0 (between_marks w)) (sym e)

  pub stands_named : (at end : ℕ) (name : List ℕ) → names_next k.opened k.name ≡ true → slice_range text at end ≡ name → Stands text (add_string (span at end) b) (with_name at (string_units name) k)
  stands_named at end name next e = record {
    held = record x.held { name = Some (span at end) };
    holds = named_held text b x.held x.holds (span at end) (next_is true next);
    kept = name_kept text x.held k x.kept at end (string_units name) (named at end name e);
  }

  -- a name, whichever mark begins it
  pub stands_name : (kd : MarkKind) (at end : ℕ) (name : List ℕ) → is_name_next kd k ≡ true → slice_range text at end ≡ name → Stands text (on_mark kd at end b) (with_name at (string_units name) k)
  stands_name mark.String at end name next e = stands_named at end name next e
  stands_name mark.Number at end name next e = absurd cc
  stands_name mark.True at end name next e = absurd cc
  stands_name mark.False at end name next e = absurd cc
  stands_name mark.Null at end name next e = absurd cc
  stands_name mark.OpenArray at end name next e = absurd cc
  stands_name mark.OpenObject at end name next e = absurd cc
  stands_name mark.CloseArray at end name next e = absurd cc
  stands_name mark.CloseObject at end name next e = absurd cc
  stands_name mark.Colon at end name next e = absurd cc
  stands_name mark.Comma at end name next e = absurd cc

  pub stands_string : (at end : ℕ) → names_next k.opened k.name ≡ false → Stands text (add_string (span at end) b) (with_value k)
  stands_string at end next = record { held = index.with_value x.held; holds = string_held text b x.held x.holds (span at end) (next_is false next); kept = value_kept text x.held k x.kept }

  pub stands_scalar : (kd : MarkKind) (at end : ℕ) → (kd ≡ mark.Number) ⊎ (kd ≡ mark.True) ⊎ (kd ≡ mark.False) ⊎ (kd ≡ mark.Null) → Stands text (on_mark kd at end b) (with_value k)
  stands_scalar kd at end is = record { held = index.with_value x.held; holds = scalar_held text b x.held kd at end is x.holds; kept = value_kept text x.held k x.kept }

  -- a value of one token, whichever it is
  pub stands_value : (kd : MarkKind) (at end : ℕ) → is_token kd ≡ true → is_name_next kd k ≡ false → Stands text (on_mark kd at end b) (with_value k)
  stands_value mark.String at end token other = stands_string at end other
  stands_value mark.Number at end token other = stands_scalar mark.Number at end (inl refl)
  stands_value mark.True at end token other = stands_scalar mark.True at end (inr (inl refl))
  stands_value mark.False at end token other = stands_scalar mark.False at end (inr (inr (inl refl)))
  stands_value mark.Null at end token other = stands_scalar mark.Null at end (inr (inr (inr refl)))
  stands_value mark.OpenArray at end token other = absurd cc
  stands_value mark.OpenObject at end token other = absurd cc
  stands_value mark.CloseArray at end token other = absurd cc
  stands_value mark.CloseObject at end token other = absurd cc
  stands_value mark.Colon at end token other = absurd cc
  stands_value mark.Comma at end token other = absurd cc

-- where no name waits, a value changes nothing
pub value_alone : (k : Kept) → k.name ≡ None → with_value k ≡ k
value_alone k none =
    ap (λ (o : Option Name). record k { names = k.names ++ option_to_list o; name = None }) none
    ∙ ap (λ (ns : List Name). record k { names = ns; name = None }) (append-nil k.names)
    ∙ ap (λ (o : Option Name). record k { name = o }) (sym none)

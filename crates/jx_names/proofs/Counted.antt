-- What is told of tokens of which only the counts are known.
use Rattle.std.proofs.Common.{◌≡◌, ℕ, suc, ◌+◌, ◌-◌, List, [], ◌∷◌, ◌++◌, length, take, replicate, reverse, Bool, true, false, refl, sym, ap, subst, ◌∙◌, append-nil, append_assoc, arith, Option, None, Some}
use Rattle.std.specs.Prelude.{not, option_to_list}
use Rattle.std.proofs.lemmas.List.{length-take-le, take-append-drop, take_all}
use Rattle.jx_lex.specs.declared.alphabet.mark.Mark.{Mark}
use Rattle.jx_lex.specs.declared.alphabet.mark.MarkKind.{MarkKind}
use Rattle.jx_lex.specs.declared.alphabet.mark.MarkKind.TheVariants as mark
use Rattle.jx_lex.specs.declared.kind.Kind.TheVariants as kind
use Rattle.jx_lex.specs.declared.scanner.counts.TokenCounts.{TokenCounts}
use Rattle.jx_lex.specs.Counts.{HasCounts, is_brace}
use Rattle.jx_lex.specs.Seen.{has_end}
use Rattle.jx_lex.proofs.InArrays.{after, counted_in_arrays, levels_fit, resized_end, reverse_end}
use Rattle.jx_index.specs.inside.Building.{begin_container, is_token, on_mark}
use Rattle.jx_index.specs.inside.Ties.{earlier_of}
use Rattle.jx_names.specs.declared.name_bytes.Name.{Name}
use Rattle.jx_names.specs.declared.open_names.Container.{Container}
use Rattle.jx_names.specs.declared.open_names.OpenNames.{OpenNames}
use Rattle.jx_names.specs.inside.InArrays.{IsInArrays, array_behind, resized}
use Rattle.jx_names.specs.inside.KeptNames.{Kept, Stands, cut_back, end_from, is_child_next, is_name_next, kept, names_next, with_container}
use Rattle.jx_names.specs.inside.SliceNames.{HasTold, Holds}
use Rattle.jx_names.proofs.Standing.{stands_container, stands_ended, stands_value, value_alone}
use Rattle.jx_names.proofs.Telling.{Tells, has_plain, has_whole}

-- ---- a child of an array

no_object : (b : Bool) → not b ≡ true → b ≡ false
no_object true h = absurd cc
no_object false h = refl

no_name : (opened : List Container) (name : Option Name) → is_child_next opened name ≡ true → names_next opened name ≡ false
no_name [] name h = absurd cc
no_name (top ∷ outer) None h = no_object top.is_object h
no_name (top ∷ outer) (Some name) h = absurd cc

none_waits : (opened : List Container) (name : Option Name) → is_child_next opened name ≡ true → name ≡ None
none_waits [] name h = absurd cc
none_waits (top ∷ outer) None h = refl
none_waits (top ∷ outer) (Some name) h = absurd cc

module _ (names : Kept) (child : is_child_next names.opened names.name ≡ true) where
  no_name_next : (k : MarkKind) → is_name_next k names ≡ false
  no_name_next mark.String = no_name names.opened names.name child
  no_name_next mark.OpenArray = refl
  no_name_next mark.OpenObject = refl
  no_name_next mark.CloseArray = refl
  no_name_next mark.CloseObject = refl
  no_name_next mark.Colon = refl
  no_name_next mark.Comma = refl
  no_name_next mark.Number = refl
  no_name_next mark.True = refl
  no_name_next mark.False = refl
  no_name_next mark.Null = refl

  tells_value : (k : MarkKind) (at : ℕ) (name : List ℕ) → is_token k ≡ true → Tells k at name names names
  tells_value k at name token = λ text b end is s.
      subst (Stands text (on_mark k at end b)) (value_alone names (none_waits names.opened names.name child)) (stands_value text b names s k at end token (no_name_next k))

-- ---- arrays in one another

none_earlier : (o : Option ℕ) → o ≡ earlier_of o None
none_earlier None = refl
none_earlier (Some n) = refl

-- what is kept, with so many arrays open
module _ (k : Kept) (unnamed : k.name ≡ None) (tight : end_from 0 k.names ≡ length k.bytes) (outer : List Container) where
  abbrev array : Container
  array = array_behind (length k.names)

  abbrev pub in_arrays : ℕ → Kept
  in_arrays n = record k { opened = replicate n array ++ outer }

  opened_more : (n : ℕ) → with_container false (in_arrays n) ≡ in_arrays (suc n)
  opened_more n =
      let e : k.names ++ option_to_list k.name ≡ k.names = ap (λ (o : Option Name). k.names ++ option_to_list o) unnamed ∙ append-nil k.names in
      ap (λ (ns : List Name). record k { opened = array_behind (length ns) ∷ (replicate n array ++ outer); names = ns; name = None }) e
      ∙ ap (λ (o : Option Name). record k { opened = array ∷ (replicate n array ++ outer); name = o }) (sym unnamed)

  all_names : k.names ≡ take (length k.names) k.names
  all_names = sym (take_all (length k.names) k.names (omega arith))

  all_bytes : k.bytes ≡ cut_back k.bytes (take (length k.names) k.names) k.name
  all_bytes =
      sym (take_all (end_from 0 k.names) k.bytes (omega (arith, tight)))
      ∙ ap (λ (ns : List Name). take (end_from 0 ns) k.bytes) all_names
      ∙ ap (cut_back k.bytes (take (length k.names) k.names)) (sym unnamed)

  tells_open : (n at : ℕ) (name : List ℕ) → Tells mark.OpenArray at name (in_arrays n) (in_arrays (suc n))
  tells_open n at name = λ text b end is s. subst (Stands text (begin_container kind.Array false at b)) (opened_more n) (stands_container text b (in_arrays n) s kind.Array false at refl)

  tells_close : (n at : ℕ) (name : List ℕ) → Tells mark.CloseArray at name (in_arrays (suc n)) (in_arrays n)
  tells_close n at name = λ text b end is s.
      stands_ended text b (in_arrays (suc n)) s (suc at) (in_arrays n)
      (record { repeated = None; in_object = λ e. absurd cc; in_array = λ e. refl; is = λ i. record (in_arrays n) { names = all_names i; bytes = all_bytes i; first = none_earlier k.first i } })

  child : (n : ℕ) → is_child_next (in_arrays (suc n)).opened (in_arrays (suc n)).name ≡ true
  child n = ap (is_child_next (array ∷ (replicate n array ++ outer))) unnamed

  tells_plain : (kd : MarkKind) (n at : ℕ) (name : List ℕ) → is_brace kd ≡ false → has_end kd ≡ false → Tells kd at name (in_arrays (suc n)) (in_arrays (after kd n))
  tells_plain mark.OpenArray n at name b h = tells_open (suc n) at name
  tells_plain mark.CloseArray n at name b h = tells_close n at name
  tells_plain mark.OpenObject n at name b h = absurd cc
  tells_plain mark.CloseObject n at name b h = absurd cc
  tells_plain mark.Colon n at name b h = λ text b end is s. s
  tells_plain mark.Comma n at name b h = λ text b end is s. s
  tells_plain mark.String n at name b h = absurd cc
  tells_plain mark.Number n at name b h = absurd cc
  tells_plain mark.True n at name b h = absurd cc
  tells_plain mark.False n at name b h = absurd cc
  tells_plain mark.Null n at name b h = absurd cc

  -- ---- tokens of which none is a bracket of an object

  module _ (held : Holds) (slice own : List ℕ) (base : ℕ) (begun : Option Mark) (name : List ℕ) (none : begun ≡ None) (before : List Mark) (others : List ℕ) where
    abbrev pub Has : ℕ → List Mark → List ℕ → Type 0
    Has n marks ends = HasTold held slice (before ++ marks) (others ++ ends) own base (in_arrays n) begun name

    pub plain : (n : ℕ) (m : Mark) (marks : List Mark) (ends : List ℕ) → is_brace m.kind ≡ false → has_end m.kind ≡ false → Has (suc n) marks ends → Has (after m.kind n) (marks ++ m ∷ []) ends
    plain n m marks ends b h s =
        subst (λ (ms : List Mark). HasTold held slice ms (others ++ ends) own base (in_arrays (after m.kind n)) begun name) (append_assoc before marks (m ∷ []))
        (has_plain held slice (before ++ marks) (others ++ ends) own base (in_arrays (suc n)) m (base + m.at) (in_arrays (after m.kind n)) begun name refl h none
        (tells_plain m.kind n (base + m.at) [] b h) s)

    pub whole : (n : ℕ) (m : Mark) (to : ℕ) (marks : List Mark) (ends : List ℕ) → has_end m.kind ≡ true → Has (suc n) marks ends → Has (suc n) (marks ++ m ∷ []) (ends ++ to ∷ [])
    whole n m to marks ends h s =
        let more : (before ++ marks) ++ m ∷ [] ≡ before ++ (marks ++ m ∷ []) = append_assoc before marks (m ∷ []) in
        let then : (others ++ ends) ++ to ∷ [] ≡ others ++ (ends ++ to ∷ []) = append_assoc others ends (to ∷ []) in
        subst (λ (ms : List Mark). HasTold held slice ms (others ++ (ends ++ to ∷ [])) own base (in_arrays (suc n)) begun name) more
        (subst (λ (es : List ℕ). HasTold held slice ((before ++ marks) ++ m ∷ []) es own base (in_arrays (suc n)) begun name) then
        (has_whole held slice (before ++ marks) (others ++ ends) own base (in_arrays (suc n)) m (base + m.at) to (in_arrays (suc n)) begun name name [] refl h none
        (tells_value (in_arrays (suc n)) (child n) m.kind (base + m.at) [] h)
        (λ next before future is name_is. let other = no_name_next (in_arrays (suc n)) (child n) m.kind in absurd cc) s))

-- ---- tokens that have these counts

module _ (held : Holds) (slice own : List ℕ) (base : ℕ) (names : OpenNames) (begun : Option Mark) (name : List ℕ) (none : begun ≡ None) (counts : TokenCounts) (depth : ℕ)
    (c : IsInArrays names (counts.lowest + 1)) (braces : counts.braces ≡ 0) (deep : depth + counts.closing ≡ length names.opened.items + counts.opening) where
  abbrev outer : List Container
  outer = take (length names.opened.items - (counts.lowest + 1)) names.opened.items

  abbrev then_open : ℕ → Kept
  then_open = in_arrays (kept names) c.name c.bytes (reverse outer)

  pub has_counted : (after : Kept) → after ≡ record (kept names) { opened = reverse (resized depth (array_behind (length names.names.items)) names.opened.items) }
      → (marks ms : List Mark) (ends es : List ℕ) → HasCounts ms es counts → HasTold held slice marks ends own base (kept names) begun name
      → HasTold held slice (marks ++ ms) (ends ++ es) own base after begun name
  has_counted after is marks ms ends es h s =
      let items = names.opened.items in
      let a = array_behind (length names.names.items) in
      let opened : items ≡ outer ++ replicate (counts.lowest + 1) a =
      sym (take-append-drop (length items - (counts.lowest + 1)) items) ∙ ap (λ (xs : List Container). outer ++ xs) c.arrays.last in
      let fit = levels_fit counts ms es h in
      let fits = c.arrays.fits in
      let long : length outer ≡ length items - (counts.lowest + 1) = length-take-le (length items - (counts.lowest + 1)) items (omega arith) in
      let last = depth - length outer in
      let there : length outer + last ≡ depth = omega (arith, fit, fits, deep, long) in
      let first : kept names ≡ then_open (counts.lowest + 1) = ap (λ (os : List Container). record (kept names) { opened = os }) (ap reverse opened ∙ reverse_end a outer (counts.lowest + 1)) in
      let then : then_open last ≡ after =
      ap (λ (os : List Container). record (kept names) { opened = os })
      (sym (reverse_end a outer last)
      ∙ ap reverse (sym (resized_end a outer (counts.lowest + 1) last) ∙ ap (λ (n : ℕ). resized n a (outer ++ replicate (counts.lowest + 1) a)) there ∙ ap (resized depth a) (sym opened)))
      ∙ sym is in
      subst (λ (k : Kept). HasTold held slice (marks ++ ms) (ends ++ es) own base k begun name) then
      (counted_in_arrays (Has (kept names) c.name c.bytes (reverse outer) held slice own base begun name none marks ends)
      (plain (kept names) c.name c.bytes (reverse outer) held slice own base begun name none marks ends)
      (whole (kept names) c.name c.bytes (reverse outer) held slice own base begun name none marks ends)
      counts last ms es h braces (omega (arith, fit, fits, deep, long, there))
      (subst (λ (xs : List Mark). HasTold held slice xs (ends ++ []) own base (then_open (counts.lowest + 1)) begun name) (sym (append-nil marks))
      (subst (λ (xs : List ℕ). HasTold held slice marks xs own base (then_open (counts.lowest + 1)) begun name) (sym (append-nil ends))
      (subst (λ (k : Kept). HasTold held slice marks ends own base k begun name) first s))))

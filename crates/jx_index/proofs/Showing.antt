-- What is noted for all pointers of a trie shows, along the path of one, what the tokens of that one alone come to.
use Rattle.std.proofs.Common.{◌≡◌, ℕ, zero, suc, ◌+◌, ◌<◌, ◌≤◌, List, [], ◌∷◌, length, map, Bool, true, false, cond, Option, None, Some, refl, sym, ap, subst, ◌∙◌, arith}
use Rattle.std.specs.Prelude.{slice_get, replicate}
use Rattle.std.specs.Ordering.{nat_cmp, is_eq}
use Rattle.std.specs.Cmp.Lexicographic.{slice_cmp}
use Rattle.jx_lex.specs.declared.kind.Kind.{Kind}
use Rattle.jx_lex.specs.declared.kind.Kind.TheVariants as kind
use Rattle.jx_lex.specs.declared.alphabet.mark.Mark.{Mark}
use Rattle.jx_lex.specs.declared.alphabet.mark.MarkKind.{MarkKind}
use Rattle.jx_lex.specs.declared.alphabet.mark.MarkKind.TheVariants as mark
use Rattle.jx_run.specs.Tree.{span}
use Rattle.jx_summary.specs.declared.span.Span.{Span}
use Rattle.jx_index.specs.Units.{units_at}
use Rattle.jx_index.specs.declared.finder.Cursor.{Cursor}
use Rattle.jx_index.specs.declared.finder.Met.{Met}
use Rattle.jx_index.specs.declared.finder.Met.TheVariants as met
use Rattle.jx_index.specs.declared.trie.Edge.{Edge}
use Rattle.jx_index.specs.inside.Building.{next_end, ends_after}
use Rattle.jx_index.specs.inside.Finding.{Finding, begin_at, behind_name, change, counted, end_in, is_element, is_member, is_place, leaf_at, met_at, met_ended, met_more, names_member, names_place, naming, never, noted, noted_in, nothing_met, on_path, one_deeper, seek, skip_over, string_at, target}
use Rattle.jx_index.specs.inside.Trie.{among, element_at, level_of, level_on, member_at, name_on, seek_all, sought, sought_in, string_among, target_node, IsTrie, IsWay, Opens, none_open, on_it, off_it, stops, goes, Shows, ShowsName}
use Rattle.jx_index.proofs.Digits.{same_digits}
use Rattle.jx_index.proofs.Lookups.{there}
use Rattle.jx_index.proofs.NameKeys.{same_units}
use Rattle.jx_index.proofs.Ways.{along, by_token, change_off, change_on, level_here, none_below}

module _ (text : List ℕ) (edges : List Edge) (trie : IsTrie edges) (ts : List (List ℕ)) (path : List ℕ) (way : IsWay edges 0 ts path) where
  pub record Shown (all one : Finding) : Type 0 where
    pub below : ℕ
    pub shows : Shows path below all one

  -- ---- where the next value leads

  root : level_on path 0 ≡ Some 0
  root = at way
    where
      at : {n : ℕ} {us : List (List ℕ)} {rest : List ℕ} → IsWay edges n us rest → level_on rest n ≡ Some 0
      at {n = n} stops = level_here n []
      at {n = n} (goes {path = rest} _ _ _ _ _ _) = level_here n rest

  element_on : (node place level : ℕ) → level_on path node ≡ Some level → level_of path (element_at edges node place) ≡ one_deeper (is_element ts level place) level
  element_on node place level h =
      along edges trie ts path way (λ u. is_place u place) (λ u v. same_digits u v place) node level h
      ∙ ap (λ (b : Bool). one_deeper b level) (tokens_agree (slice_get ts level))
    where
      tokens_agree : (o : Option (List ℕ)) → by_token (λ u. is_place u place) o ≡ names_place o place
      tokens_agree None = refl
      tokens_agree (Some t) = refl

  element_off : (node place : ℕ) → level_on path node ≡ None → level_of path (element_at edges node place) ≡ None
  element_off node place h = none_below edges trie ts path way (λ u. is_place u place) node h

  member_on : (node : ℕ) (name : Span) (level : ℕ) → level_on path node ≡ Some level → level_of path (member_at text edges node (Some name)) ≡ one_deeper (is_member text ts level (Some name)) level
  member_on node name level h =
      along edges trie ts path way (λ u. is_eq (slice_cmp nat_cmp (units_at text name) u)) (λ u v a b. sym (same_units (units_at text name) u a) ∙ same_units (units_at text name) v b) node level h
      ∙ ap (λ (b : Bool). one_deeper b level) (tokens_agree (slice_get ts level))
    where
      tokens_agree : (o : Option (List ℕ)) → by_token (λ u. is_eq (slice_cmp nat_cmp (units_at text name) u)) o
          ≡ names_member text o (Some name)
      tokens_agree None = refl
      tokens_agree (Some t) = refl

  member_off : (node : ℕ) (name : Span) → level_on path node ≡ None → level_of path (member_at text edges node (Some name)) ≡ None
  member_off node name h = none_below edges trie ts path way (λ u. is_eq (slice_cmp nat_cmp (units_at text name) u)) node h

  name_seen : (name : Option (Option ℕ)) → behind_name (name_on path name) ≡ level_of path (behind_name name)
  name_seen None = refl
  name_seen (Some target) = refl

  -- where nothing is open below the path
  target_on : (all one : Finding) → Shows path 0 all one → target ts one ≡ level_of path (target_node edges all)
  target_on all one h = by all.opened one.opened h.opened refl refl
    where
      by : (xs ys : List Cursor) → Opens path xs ys 0 → all.opened ≡ xs → one.opened ≡ ys → target ts one ≡ level_of path (target_node edges all)
      by xs ys none_open a o =
          ap (λ (cs : List Cursor). target ts (record one { opened = cs })) o
          ∙ sym root
          ∙ sym (ap (λ (cs : List Cursor). level_of path (target_node edges (record all { opened = cs }))) a)
      by xs ys (on_it {outer = outer} {seen = seen} {level = level} c e rest) a o =
          ap (λ (cs : List Cursor). target ts (record one { opened = cs })) o
          ∙ kinds c.is_object
          ∙ sym (ap (λ (cs : List Cursor). level_of path (target_node edges (record all { opened = cs }))) a)
        where
          kinds : (b : Bool) → cond b (behind_name one.name) (one_deeper (is_element ts level c.count) level)
              ≡ level_of path (cond b (behind_name all.name) (element_at edges c.level c.count))
          kinds true = ap behind_name h.name ∙ name_seen all.name
          kinds false = sym (element_on c.level c.count level e)

  -- where something is
  target_off : (below : ℕ) (all one : Finding) → Shows path (suc below) all one → level_of path (target_node edges all) ≡ None
  target_off below all one h = by (suc below) all.opened one.opened h.opened refl refl
    where
      by : (n : ℕ) (xs ys : List Cursor) → Opens path xs ys n → n ≡ suc below → all.opened ≡ xs → level_of path (target_node edges all) ≡ None
      by n xs ys none_open e a = absurd (omega (arith, e))
      by n xs ys (on_it c l rest) e a = absurd (omega (arith, e))
      by n xs ys (off_it {outer = outer} c l rest) e a =
          ap (λ (cs : List Cursor). level_of path (target_node edges (record all { opened = cs }))) a ∙ kinds c.is_object
        where
          kinds : (b : Bool) → level_of path (cond b (behind_name all.name) (element_at edges c.level c.count)) ≡ None
          kinds true = h.name.1
          kinds false = element_off c.level c.count l

  -- ---- open containers

  counted_on : {xs ys : List Cursor} {n : ℕ} → Opens path xs ys n → n ≡ 0 → Opens path (counted xs) (counted ys) 0
  counted_on none_open e = none_open
  counted_on (on_it c l rest) e = on_it (record c { count = suc c.count }) l rest
  counted_on (off_it c l rest) e = absurd (omega (arith, e))

  counted_off : {xs ys : List Cursor} {n : ℕ} (below : ℕ) → Opens path xs ys n → n ≡ suc below → Opens path (counted xs) ys (suc below)
  counted_off below none_open e = absurd (omega (arith, e))
  counted_off below (on_it c l rest) e = absurd (omega (arith, e))
  counted_off {xs = xs} {ys = ys} {n = n} below (off_it {outer = outer} {below = m} c l rest) e =
      subst (λ (k : ℕ). Opens path (counted (c ∷ outer)) ys k) e (off_it (record c { count = suc c.count }) l rest)

  -- ---- values

  module _ (all one : Finding) (h : Shows path 0 all one) where
    leaf_on : (x : Option ℕ) (k : Kind) (s : Span) → Shows path 0 (leaf_at x k s all) (leaf_at (level_of path x) k s one)
    leaf_on None k s = record { met = h.met; opened = counted_on h.opened refl; skipped = h.skipped; name = refl }
    leaf_on (Some t) k s = pick (level_on path t) refl
      where
        pick : (o : Option ℕ) → level_on path t ≡ o → Shows path 0 (leaf_at (Some t) k s all) (leaf_at o k s one)
        pick None e = record {
          met = h.met ∙ sym (change_off (met_more (record { kind = k; span = s })) refl path t all.met e);
          opened = counted_on h.opened refl;
          skipped = h.skipped;
          name = refl;
        }
        pick (Some j) e = record {
          met = ap (change (met_more (record { kind = k; span = s })) j) h.met ∙ change_on (met_more (record { kind = k; span = s })) refl edges way t j all.met e;
          opened = counted_on h.opened refl;
          skipped = h.skipped;
          name = refl;
        }

    begin_on : all.skipped ≡ 0 → (x : Option ℕ) (k : Kind) (b : Bool) (at : ℕ) → Shown (begin_at x k b at all) (begin_at (level_of path x) k b at one)
    begin_on z None k b at = record { below = 0; shows = record { met = h.met; opened = counted_on h.opened refl; skipped = refl; name = refl } }
    begin_on z (Some t) k b at = pick (level_on path t) refl
      where
        pick : (o : Option ℕ) → level_on path t ≡ o → Shown (begin_at (Some t) k b at all) (begin_at o k b at one)
        pick None e = record {
          below = 1;
          shows = record {
            met = h.met ∙ sym (change_off (met_more (record { kind = k; span = span at (suc at) })) refl path t all.met e);
            opened = off_it (record { level = t; is_object = b; count = 0 }) e (counted_on h.opened refl);
            skipped = omega (arith, z);
            name = (refl, refl);
          };
        }
        pick (Some j) e = record {
          below = 0;
          shows = record {
            met =
                ap (change (met_more (record { kind = k; span = span at (suc at) })) j) h.met
                ∙ change_on (met_more (record { kind = k; span = span at (suc at) })) refl edges way t j all.met e;
            opened = on_it (record { level = t; is_object = b; count = 0 }) e (counted_on h.opened refl);
            skipped = h.skipped;
            name = refl;
          };
        }

    end_on : (at : ℕ) → Shows path 0 (end_in at all.opened all) (end_in at one.opened one)
    end_on at = by all.opened one.opened h.opened refl refl
      where
        by : (xs ys : List Cursor) → Opens path xs ys 0 → all.opened ≡ xs → one.opened ≡ ys → Shows path 0 (end_in at xs all) (end_in at ys one)
        by xs ys none_open a o = h
        by xs ys (on_it {level = level} c e rest) a o = record {
          met = ap (change (met_ended at) level) h.met ∙ change_on (met_ended at) refl edges way c.level level all.met e;
          opened = rest;
          skipped = h.skipped;
          name = refl;
        }

    string_on : (s : Span) → Shows path 0 (string_among (naming all.opened all.name) text edges s all) (string_at (naming one.opened one.name) text ts s one)
    string_on s =
        subst (λ (n : Option (Option ℕ)). Shows path 0 (string_among (naming all.opened all.name) text edges s all) (string_at (naming one.opened n) text ts s one)) (sym h.name)
        (by all.opened one.opened h.opened all.name)
      where
        value : Shows path 0 (string_among None text edges s all) (string_at None text ts s one)
        value = subst (λ (x : Option ℕ). Shows path 0 (leaf_at (target_node edges all) kind.String s all) (leaf_at x kind.String s one)) (sym (target_on all one h)) (leaf_on (target_node edges all) kind.String s)

        by : (xs ys : List Cursor) → Opens path xs ys 0 → (name : Option (Option ℕ))
            → Shows path 0 (string_among (naming xs name) text edges s all) (string_at (naming ys (name_on path name)) text ts s one)
        by xs ys none_open None = value
        by xs ys none_open (Some target) = value
        by xs ys (on_it c e rest) (Some target) = value
        by xs ys (on_it {level = level} c e rest) None = kinds c.is_object
          where
            kinds : (b : Bool) → Shows path 0 (string_among (cond b (Some c.level) None) text edges s all) (string_at (cond b (Some level) None) text ts s one)
            kinds true = record {
              met = h.met;
              opened = h.opened;
              skipped = h.skipped;
              name = ap (λ (x : Option ℕ). Some x) (sym (member_on c.level s level e));
            }
            kinds false = value

    leaf_as : (k : Kind) (at end : ℕ) → Shows path 0 (leaf_at (target_node edges all) k (span at end) all) (leaf_at (target ts one) k (span at end) one)
    leaf_as k at end =
        subst (λ (x : Option ℕ). Shows path 0 (leaf_at (target_node edges all) k (span at end) all) (leaf_at x k (span at end) one)) (sym (target_on all one h))
        (leaf_on (target_node edges all) k (span at end))

    shows_on : all.skipped ≡ 0 → (k : MarkKind) (at end : ℕ) → Shown (among text edges k at end all) (on_path text ts k at end one)
    shows_on z mark.OpenArray at end =
        subst (λ (x : Option ℕ). Shown (begin_at (target_node edges all) kind.Array false at all) (begin_at x kind.Array false at one)) (sym (target_on all one h))
        (begin_on z (target_node edges all) kind.Array false at)
    shows_on z mark.OpenObject at end =
        subst (λ (x : Option ℕ). Shown (begin_at (target_node edges all) kind.Object true at all) (begin_at x kind.Object true at one)) (sym (target_on all one h))
        (begin_on z (target_node edges all) kind.Object true at)
    shows_on z mark.CloseArray at end = record { below = 0; shows = end_on (suc at) }
    shows_on z mark.CloseObject at end = record { below = 0; shows = end_on (suc at) }
    shows_on z mark.Colon at end = record { below = 0; shows = h }
    shows_on z mark.Comma at end = record { below = 0; shows = h }
    shows_on z mark.String at end = record { below = 0; shows = string_on (span at end) }
    shows_on z mark.Number at end = record { below = 0; shows = leaf_as kind.Number at end }
    shows_on z mark.True at end = record { below = 0; shows = leaf_as kind.True at end }
    shows_on z mark.False at end = record { below = 0; shows = leaf_as kind.False at end }
    shows_on z mark.Null at end = record { below = 0; shows = leaf_as kind.Null at end }

  -- ---- below the path

  module _ (below : ℕ) (all one : Finding) (h : Shows path (suc below) all one) where
    abbrev passes : ℕ → Finding
    passes n = record one { skipped = n }

    leaf_off : (x : Option ℕ) → level_of path x ≡ None → (k : Kind) (s : Span) → Shows path (suc below) (leaf_at x k s all) one
    leaf_off None e k s = record { met = h.met; opened = counted_off below h.opened refl; skipped = h.skipped; name = (h.name.0, refl) }
    leaf_off (Some t) e k s = record {
      met = h.met ∙ sym (change_off (met_more (record { kind = k; span = s })) refl path t all.met e);
      opened = counted_off below h.opened refl;
      skipped = h.skipped;
      name = (h.name.0, refl);
    }

    begin_off : all.skipped ≡ 0 → (x : Option ℕ) → level_of path x ≡ None → (k : Kind) (b : Bool) (at : ℕ) → Shown (begin_at x k b at all) (passes (suc (suc below)))
    begin_off z None e k b at = record { below = suc below; shows = record { met = h.met; opened = counted_off below h.opened refl; skipped = omega arith; name = (h.name.0, refl) } }
    begin_off z (Some t) e k b at = record {
      below = suc (suc below);
      shows = record {
        met = h.met ∙ sym (change_off (met_more (record { kind = k; span = span at (suc at) })) refl path t all.met e);
        opened = off_it (record { level = t; is_object = b; count = 0 }) e (counted_off below h.opened refl);
        skipped = omega (arith, z);
        name = (h.name.0, refl);
      };
    }

    end_off : all.skipped ≡ 0 → (at : ℕ) → Shows path below (end_in at all.opened all) (passes below)
    end_off z at = by (suc below) all.opened one.opened h.opened refl refl
      where
        hidden : (n : ℕ) → ShowsName path n None one.name
        hidden zero = h.name.0
        hidden (suc n) = (h.name.0, refl)

        by : (n : ℕ) (xs ys : List Cursor) → Opens path xs ys n → n ≡ suc below → ys ≡ one.opened → Shows path below (end_in at xs all) (passes below)
        by n xs ys none_open e o = absurd (omega (arith, e))
        by n xs ys (on_it c l rest) e o = absurd (omega (arith, e))
        by n xs ys (off_it {outer = outer} {below = m} c l rest) e o =
            let mb : m ≡ below = omega (arith, e) in
            record {
              met = h.met ∙ sym (change_off (met_ended at) refl path c.level all.met l);
              opened = subst (λ (zs : List Cursor). Opens path outer zs below) o (subst (λ (i : ℕ). Opens path outer ys i) mb rest);
              skipped = omega (arith, z);
              name = hidden below;
            }

    string_off : (s : Span) → Shows path (suc below) (string_among (naming all.opened all.name) text edges s all) one
    string_off s = by (suc below) all.opened one.opened h.opened refl all.name
      where
        value : Shows path (suc below) (string_among None text edges s all) one
        value = leaf_off (target_node edges all) (target_off below all one h) kind.String s

        by : (n : ℕ) (xs ys : List Cursor) → Opens path xs ys n → n ≡ suc below → (name : Option (Option ℕ)) → Shows path (suc below) (string_among (naming xs name) text edges s all) one
        by n xs ys none_open e name = absurd (omega (arith, e))
        by n xs ys (on_it c l rest) e name = absurd (omega (arith, e))
        by n xs ys (off_it c l rest) e (Some target) = value
        by n xs ys (off_it c l rest) e None = kinds c.is_object
          where
            kinds : (b : Bool) → Shows path (suc below) (string_among (cond b (Some c.level) None) text edges s all) one
            kinds true = record { met = h.met; opened = h.opened; skipped = h.skipped; name = (h.name.0, member_off c.level s l) }
            kinds false = value

    kept : {all_now : Finding} → all.skipped ≡ 0 → Shows path (suc below) all_now one → Shown all_now (passes (suc below))
    kept {all_now} z shows =
        let n : one.skipped ≡ suc below = omega (arith, h.skipped, z) in
        record { below = suc below; shows = subst (λ (f : Finding). Shows path (suc below) all_now f) (ap (λ (m : ℕ). record one { skipped = m }) n) shows }

    value_off : all.skipped ≡ 0 → (k : Kind) (at end : ℕ) → Shown (leaf_at (target_node edges all) k (span at end) all) (passes (suc below))
    value_off z k at end = kept z (leaf_off (target_node edges all) (target_off below all one h) k (span at end))

    shows_off : all.skipped ≡ 0 → (k : MarkKind) (at end : ℕ) → Shown (among text edges k at end all) (passes (skip_over k below))
    shows_off z mark.OpenArray at end = begin_off z (target_node edges all) (target_off below all one h) kind.Array false at
    shows_off z mark.OpenObject at end = begin_off z (target_node edges all) (target_off below all one h) kind.Object true at
    shows_off z mark.CloseArray at end = record { below = below; shows = end_off z (suc at) }
    shows_off z mark.CloseObject at end = record { below = below; shows = end_off z (suc at) }
    shows_off z mark.Colon at end = kept z h
    shows_off z mark.Comma at end = kept z h
    shows_off z mark.String at end = kept z (string_off (span at end))
    shows_off z mark.Number at end = value_off z kind.Number at end
    shows_off z mark.True at end = value_off z kind.True at end
    shows_off z mark.False at end = value_off z kind.False at end
    shows_off z mark.Null at end = value_off z kind.Null at end

  -- ---- one mark, and all

  over : (k : MarkKind) (s below : ℕ) → skip_over k (s + below) ≡ skip_over k s + below
  over mark.OpenArray s below = omega arith
  over mark.OpenObject s below = omega arith
  over mark.CloseArray s below = refl
  over mark.CloseObject s below = refl
  over mark.Colon s below = omega arith
  over mark.Comma s below = omega arith
  over mark.String s below = omega arith
  over mark.Number s below = omega arith
  over mark.True s below = omega arith
  over mark.False s below = omega arith
  over mark.Null s below = omega arith

  in_path : (below : ℕ) (all one : Finding) → Shows path below all one → all.skipped ≡ 0 → (k : MarkKind) (at end : ℕ)
      → Shown (among text edges k at end all) (noted_in below text ts k at end one)
  in_path zero all one h z k at end = shows_on all one h z k at end
  in_path (suc below) all one h z k at end = shows_off below all one h z k at end

  pub shows_mark : (below : ℕ) (all one : Finding) → Shows path below all one → (k : MarkKind) (at end : ℕ) → Shown (sought text edges k at end all) (noted text ts k at end one)
  shows_mark below all one h k at end = pick all.skipped refl
    where
      pick : (n : ℕ) → all.skipped ≡ n → Shown (sought text edges k at end all) (noted text ts k at end one)
      pick zero z =
          let n : one.skipped ≡ below = omega (arith, h.skipped, z) in
          subst (λ (f : Finding). Shown f (noted text ts k at end one)) (sym (ap (λ (m : ℕ). sought_in m text edges k at end all) z))
          (subst (λ (f : Finding). Shown (among text edges k at end all) f) (sym (ap (λ (m : ℕ). noted_in m text ts k at end one) n)) (in_path below all one h z k at end))
      pick (suc s) z =
          let n : one.skipped ≡ suc (s + below) = omega (arith, h.skipped, z) in
          subst (λ (f : Finding). Shown f (noted text ts k at end one)) (sym (ap (λ (m : ℕ). sought_in m text edges k at end all) z))
          (subst (λ (f : Finding). Shown (record all { skipped = skip_over k s }) f) (sym (ap (λ (m : ℕ). noted_in m text ts k at end one) n))
          (record { below = below; shows = record { met = h.met; opened = h.opened; skipped = over k s below; name = h.name } }))

  pub shows_all : (last : ℕ) (marks : List Mark) (ends : List ℕ) (below : ℕ) (all one : Finding) → Shows path below all one
      → Shown (seek_all text edges last marks ends all) (seek text ts last marks ends one)
  unfolding seek seek_all
  shows_all last [] ends below all one h = record { below = below; shows = h }
  shows_all last (m ∷ marks) ends below all one h =
      let s = shows_mark below all one h m.kind m.at (next_end last ends) in
      shows_all last marks (ends_after m.kind ends) s.below (sought text edges m.kind m.at (next_end last ends) all) (noted text ts m.kind m.at (next_end last ends) one) s.shows

  -- ---- at the start

  never_at : (n i : ℕ) → i < n → met_at (replicate n met.Never) i ≡ met.Never
  never_at zero i h = absurd (omega (arith, h))
  never_at (suc n) zero h = refl
  never_at (suc n) (suc i) h = never_at n i (omega (arith, h))

  none_met : {n : ℕ} {us : List (List ℕ)} {rest : List ℕ} → IsWay edges n us rest → n ≤ length edges → never (length us) ≡ map (met_at (never (length edges))) rest
  none_met {n = n} stops l = ap (λ (m : Met). m ∷ []) (sym (never_at (suc (length edges)) n (omega (arith, l))))
  none_met {n = n} (goes {c = c} {more = us} {path = rest} e is _ _ _ on) l =
      ap (λ (m : Met). m ∷ never (length us)) (sym (never_at (suc (length edges)) n (omega (arith, l))))
      ∙ ap (λ (ms : List Met). met_at (never (length edges)) n ∷ ms) (let w = there edges c e is in none_met on (omega (arith, w)))

  pub shows_nothing : Shows path 0 (nothing_met (length edges)) (nothing_met (length ts))
  shows_nothing = record { met = none_met way (omega arith); opened = none_open; skipped = refl; name = refl }

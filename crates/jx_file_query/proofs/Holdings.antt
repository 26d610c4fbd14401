-- What a seeker holds of the open containers follows them, mark by mark.
use Rattle.std.proofs.Common.{◌≡◌, ℕ, zero, suc, List, [], ◌∷◌, refl, sym, subst, Bool, true, false, Option, None, Some}
use Rattle.jx_lex.specs.declared.alphabet.mark.Mark.{Mark}
use Rattle.jx_lex.specs.declared.alphabet.mark.MarkKind.{MarkKind}
use Rattle.jx_lex.specs.declared.alphabet.mark.MarkKind.TheVariants as mark
use Rattle.jx_lex.specs.declared.kind.Kind.{Kind}
use Rattle.jx_lex.specs.declared.kind.Kind.TheVariants as kind
use Rattle.jx_summary.specs.declared.span.Span.{Span}
use Rattle.jx_run.specs.Tree.{span}
use Rattle.jx_reduce.specs.declared.table.expect.Expect.{Expect}
use Rattle.jx_reduce.specs.declared.table.expect.Expect.TheVariants.{ArrayFirst, ObjectFirst}
use Rattle.jx_reduce.specs.declared.table.holder.Holder.{Holder}
use Rattle.jx_reduce.specs.declared.table.holder.Holder.TheVariants.{Array, Object}
use Rattle.jx_reduce.specs.Read.{went, read, step, without_top}
use Rattle.jx_index.specs.declared.finder.Cursor.{Cursor}
use Rattle.jx_index.specs.declared.trie.Edge.{Edge}
use Rattle.jx_index.specs.inside.Building.{next_end, ends_after}
use Rattle.jx_index.specs.inside.Finding.{Finding, begin_at, counted, end_in, leaf_at, naming, skip_over}
use Rattle.jx_index.specs.inside.Trie.{among, seek_all, sought, string_among, target_node}
use Rattle.jx_file_query.specs.Holding.{Holds, outermost, here, below, holder_of}
use Rattle.jx_file_query.proofs.Moves.{array_ends, colon_stands, comma_stands, container_begins, goes, object_ends, string_holders, value_begins}
use Rattle.jx_file_query.proofs.WalkPassings.{over, same_skipped}

abbrev HoldsIn : Finding → List Holder → Type 0
HoldsIn f hs = Holds f.skipped f.opened hs

counted_holds : {i : ℕ} {os : List Cursor} {hs : List Holder} → Holds i os hs → Holds i (counted os) hs
counted_holds outermost = outermost
counted_holds (here e rest) = here e rest
counted_holds (below rest) = below (counted_holds rest)

without : {j : ℕ} {os : List Cursor} {hs : List Holder} → Holds (suc j) os hs → Holds j os (without_top hs)
without (below rest) = rest

module _ (text : List ℕ) (edges : List Edge) (last d : ℕ) where
  -- ---- where nothing is skipped

  abbrev low : Finding → Finding
  low f = record f { skipped = 0 }

  leaf_holds : (x : Option ℕ) (k : Kind) (s : Span) (f : Finding) (hs : List Holder) → HoldsIn (low f) hs → HoldsIn (leaf_at x k s (low f)) hs
  leaf_holds None k s f hs h = counted_holds h
  leaf_holds (Some t) k s f hs h = counted_holds h

  begin_holds : (x : Option ℕ) (k : Kind) (b : Bool) (at : ℕ) (f : Finding) (hs : List Holder) → HoldsIn (low f) hs → HoldsIn (begin_at x k b at (low f)) (holder_of b ∷ hs)
  begin_holds None k b at f hs h = below (counted_holds h)
  begin_holds (Some t) k b at f hs h = here refl (counted_holds h)

  end_holds : (end : ℕ) (os : List Cursor) (f : Finding) (hs : List Holder) → Holds 0 os hs → os ≡ f.opened → HoldsIn (end_in end os (low f)) (without_top hs)
  end_holds end os f hs outermost e = subst (λ (xs : List Cursor). Holds 0 xs []) e outermost
  end_holds end os f hs (here q rest) e = rest

  string_holds : (x : Option ℕ) (s : Span) (f : Finding) (hs : List Holder) → HoldsIn (low f) hs → HoldsIn (string_among x text edges s (low f)) hs
  string_holds None s f hs h = leaf_holds (target_node edges (low f)) kind.String s f hs h
  string_holds (Some t) s f hs h = h

  low_holds : (kd : MarkKind) (at end : ℕ) (f : Finding) (e x : Expect) (hs gs : List Holder) → HoldsIn (low f) hs → step d (record { kind = kd; at = at }) (went e hs) ≡ went x gs
      → HoldsIn (among text edges kd at end (low f)) gs
  low_holds mark.OpenArray at end f e x hs gs h is =
      subst (HoldsIn (among text edges mark.OpenArray at end (low f))) (sym (container_begins d at hs e x gs ArrayFirst Array is).1) (begin_holds (target_node edges (low f)) kind.Array false at f hs h)
  low_holds mark.OpenObject at end f e x hs gs h is =
      subst (HoldsIn (among text edges mark.OpenObject at end (low f))) (sym (container_begins d at hs e x gs ObjectFirst Object is).1) (begin_holds (target_node edges (low f)) kind.Object true at f hs h)
  low_holds mark.CloseArray at end f e x hs gs h is =
      subst (HoldsIn (among text edges mark.CloseArray at end (low f))) (sym (array_ends d at hs e x gs is).1) (end_holds (suc at) f.opened f hs h refl)
  low_holds mark.CloseObject at end f e x hs gs h is =
      subst (HoldsIn (among text edges mark.CloseObject at end (low f))) (sym (object_ends d at hs e x gs is).1) (end_holds (suc at) f.opened f hs h refl)
  low_holds mark.Colon at end f e x hs gs h is = subst (HoldsIn (low f)) (sym (colon_stands d at hs e x gs is).1) h
  low_holds mark.Comma at end f e x hs gs h is = subst (HoldsIn (low f)) (sym (comma_stands d at hs e x gs is).holders) h
  low_holds mark.String at end f e x hs gs h is =
      subst (HoldsIn (among text edges mark.String at end (low f))) (sym (string_holders d at hs e x gs is)) (string_holds (naming f.opened f.name) (span at end) f hs h)
  low_holds mark.Number at end f e x hs gs h is =
      subst (HoldsIn (among text edges mark.Number at end (low f))) (sym (value_begins d at hs e x gs is).holders) (leaf_holds (target_node edges (low f)) kind.Number (span at end) f hs h)
  low_holds mark.True at end f e x hs gs h is =
      subst (HoldsIn (among text edges mark.True at end (low f))) (sym (value_begins d at hs e x gs is).holders) (leaf_holds (target_node edges (low f)) kind.True (span at end) f hs h)
  low_holds mark.False at end f e x hs gs h is =
      subst (HoldsIn (among text edges mark.False at end (low f))) (sym (value_begins d at hs e x gs is).holders) (leaf_holds (target_node edges (low f)) kind.False (span at end) f hs h)
  low_holds mark.Null at end f e x hs gs h is =
      subst (HoldsIn (among text edges mark.Null at end (low f))) (sym (value_begins d at hs e x gs is).holders) (leaf_holds (target_node edges (low f)) kind.Null (span at end) f hs h)

  -- ---- where something is skipped

  deep_holds : (kd : MarkKind) (at j : ℕ) (os : List Cursor) (e x : Expect) (hs gs : List Holder) → Holds (suc j) os hs → step d (record { kind = kd; at = at }) (went e hs) ≡ went x gs
      → Holds (skip_over kd j) os gs
  deep_holds mark.OpenArray at j os e x hs gs h is = subst (Holds (suc (suc j)) os) (sym (container_begins d at hs e x gs ArrayFirst Array is).1) (below h)
  deep_holds mark.OpenObject at j os e x hs gs h is = subst (Holds (suc (suc j)) os) (sym (container_begins d at hs e x gs ObjectFirst Object is).1) (below h)
  deep_holds mark.CloseArray at j os e x hs gs h is = subst (Holds j os) (sym (array_ends d at hs e x gs is).1) (without h)
  deep_holds mark.CloseObject at j os e x hs gs h is = subst (Holds j os) (sym (object_ends d at hs e x gs is).1) (without h)
  deep_holds mark.Colon at j os e x hs gs h is = subst (Holds (suc j) os) (sym (colon_stands d at hs e x gs is).1) h
  deep_holds mark.Comma at j os e x hs gs h is = subst (Holds (suc j) os) (sym (comma_stands d at hs e x gs is).holders) h
  deep_holds mark.String at j os e x hs gs h is = subst (Holds (suc j) os) (sym (string_holders d at hs e x gs is)) h
  deep_holds mark.Number at j os e x hs gs h is = subst (Holds (suc j) os) (sym (value_begins d at hs e x gs is).holders) h
  deep_holds mark.True at j os e x hs gs h is = subst (Holds (suc j) os) (sym (value_begins d at hs e x gs is).holders) h
  deep_holds mark.False at j os e x hs gs h is = subst (Holds (suc j) os) (sym (value_begins d at hs e x gs is).holders) h
  deep_holds mark.Null at j os e x hs gs h is = subst (Holds (suc j) os) (sym (value_begins d at hs e x gs is).holders) h

  -- ---- each mark

  one_holds : (m : Mark) (end i : ℕ) (f : Finding) → f.skipped ≡ i → (e x : Expect) (hs gs : List Holder) → HoldsIn f hs → step d m (went e hs) ≡ went x gs → HoldsIn (sought text edges m.kind m.at end f) gs
  one_holds m end zero f q e x hs gs h is =
      let f_low : f ≡ low f = same_skipped f zero q in
      subst (λ (g : Finding). HoldsIn (sought text edges m.kind m.at end g) gs) (sym f_low)
      (low_holds m.kind m.at end f e x hs gs (subst (λ (g : Finding). HoldsIn g hs) f_low h) is)
  one_holds m end (suc j) f q e x hs gs h is =
      subst (λ (g : Finding). HoldsIn g gs) (sym (over text edges m.kind m.at end j f q))
      (deep_holds m.kind m.at j f.opened e x hs gs (subst (λ (i : ℕ). Holds i f.opened hs) q h) is)

  pub all_hold : (ms : List Mark) (ends : List ℕ) (f : Finding) (e x : Expect) (hs gs : List Holder) → read d ms (went e hs) ≡ went x gs → HoldsIn f hs → HoldsIn (seek_all text edges last ms ends f) gs
  unfolding seek_all
  all_hold [] ends f e x hs gs reads h = let same : hs ≡ gs = cc in subst (HoldsIn f) same h
  all_hold (m ∷ ms) ends f e x hs gs reads h =
      let g = goes d m ms e hs x gs reads in
      all_hold ms (ends_after m.kind ends) (sought text edges m.kind m.at (next_end last ends) f) g.expect x g.holders gs g.rest
      (one_holds m (next_end last ends) f.skipped f refl e g.expect hs g.holders h g.is)

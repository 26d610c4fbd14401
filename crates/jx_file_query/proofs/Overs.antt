-- Pieces of a text that are passed over, behind what is held.
use Rattle.std.proofs.Common.{◌≡◌, ℕ, zero, suc, ◌+◌, ◌-◌, ◌^◌, ◌<◌, ◌≤◌, List, [], ◌∷◌, ◌++◌, length, reverse, refl, sym, ap, subst, ◌∙◌, append_assoc, append-nil, arith, Bool, true, false, cond, Option, None, Some}
use Rattle.std.specs.Prelude.{◌==◌, ◌&&◌, is_some, slice_get}
use Rattle.std.proofs.lemmas.Bool.{and_left, and_right}
use Rattle.std.proofs.lemmas.Bool.Decides.{nat_tests}
use Rattle.jx_lex.specs.declared.alphabet.mark.Mark.{Mark}
use Rattle.jx_lex.specs.declared.alphabet.mark.MarkKind.{MarkKind}
use Rattle.jx_lex.specs.declared.alphabet.mark.MarkKind.TheVariants as mark
use Rattle.jx_lex.specs.declared.kind.Kind.{Kind}
use Rattle.jx_lex.specs.declared.kind.Kind.TheVariants as kind
use Rattle.jx_lex.specs.Lex.{lex, Track}
use Rattle.jx_lex.specs.TokenStates.{in_token}
use Rattle.jx_summary.specs.declared.span.Span.{Span}
use Rattle.jx_run.specs.Tree.{span}
use Rattle.jx_reduce.specs.declared.table.expect.Expect.{Expect}
use Rattle.jx_reduce.specs.declared.table.expect.Expect.TheVariants.{Value, After}
use Rattle.jx_reduce.specs.declared.table.holder.Holder.{Holder}
use Rattle.jx_reduce.specs.Read.{went, read}
use Rattle.jx_index.specs.declared.finder.Cursor.{Cursor}
use Rattle.jx_index.specs.declared.finder.State.{State}
use Rattle.jx_index.specs.declared.trie.Edge.{Edge}
use Rattle.jx_index.specs.inside.Building.{is_token, next_end, ends_after}
use Rattle.jx_index.specs.inside.Finding.{Finding, counted, leaf_at, naming, nothing_met}
use Rattle.jx_index.specs.inside.Found.{finding}
use Rattle.jx_index.specs.inside.InOrder.{behind}
use Rattle.jx_index.specs.inside.Trie.{IsNextFrom, IsNextIn, among, element_at, first_open, is_name_next, place_at, place_from, seek_all, sought, string_among, target_node}
use Rattle.jx_index.proofs.Lookups.{element_later}
use Rattle.jx_find.specs.declared.held.Sought.{Sought}
use Rattle.jx_find.specs.Held.{IsHeld}
use Rattle.jx_file_index.specs.declared.entry.Entry.{Entry}
use Rattle.jx_file_index.specs.declared.sum.Sum.{Sum}
use Rattle.jx_file_index.specs.Sums.{sum_of}
use Rattle.jx_file_query.specs.declared.walk_passing.Over.{Over}
use Rattle.jx_file_query.specs.Holding.{Holds, outermost, here, below}
use Rattle.jx_file_query.specs.Passed.{Waits, waits_none, waits_some, some_token, waiting}
use Rattle.jx_file_query.specs.Passing.{InArray, IsHeldOn, IsPassedInArray, IsPassedInside, slot}
use Rattle.jx_file_query.specs.inside.Over.{IsPiece, LeadsOver, finding_over, recounted}
use Rattle.jx_file_query.proofs.WalkPassings.{over_token, same_skipped, seek_one}

-- ---- what a token that has begun leaves

back : (i : ℕ) (c : Cursor) (outer : List Cursor) (hs : List Holder) → Holds i (record c { count = suc c.count } ∷ outer) hs → Holds i (c ∷ outer) hs
back i c outer hs (here e rest) = here e rest
back i c outer hs (below {k = j} {hs = gs} rest) = below (back j c outer gs rest)

uncounted : (i : ℕ) (os : List Cursor) (hs : List Holder) → Holds i (counted os) hs → Holds i os hs
uncounted i [] hs h = h
uncounted i (c ∷ outer) hs h = back i c outer hs h

abbrev HoldsIn : Finding → List Holder → Type 0
HoldsIn f hs = Holds f.skipped f.opened hs

module _ (text : List ℕ) (edges : List Edge) where
  abbrev low : Finding → Finding
  low f = record f { skipped = 0 }

  leaf_back : (x : Option ℕ) (k : Kind) (s : Span) (f : Finding) (hs : List Holder) → HoldsIn (leaf_at x k s (low f)) hs → HoldsIn (low f) hs
  leaf_back None k s f hs h = uncounted 0 f.opened hs h
  leaf_back (Some t) k s f hs h = uncounted 0 f.opened hs h

  string_back : (x : Option ℕ) (s : Span) (f : Finding) (hs : List Holder) → HoldsIn (string_among x text edges s (low f)) hs → HoldsIn (low f) hs
  string_back None s f hs h = leaf_back (target_node edges (low f)) kind.String s f hs h
  string_back (Some t) s f hs h = h

  low_back : (k : MarkKind) (at end : ℕ) (f : Finding) (hs : List Holder) → is_token k ≡ true → HoldsIn (among text edges k at end (low f)) hs → HoldsIn (low f) hs
  low_back mark.OpenArray at end f hs t h = absurd cc
  low_back mark.OpenObject at end f hs t h = absurd cc
  low_back mark.CloseArray at end f hs t h = absurd cc
  low_back mark.CloseObject at end f hs t h = absurd cc
  low_back mark.Colon at end f hs t h = absurd cc
  low_back mark.Comma at end f hs t h = absurd cc
  low_back mark.String at end f hs t h = string_back (naming f.opened f.name) (span at end) f hs h
  low_back mark.Number at end f hs t h = leaf_back (target_node edges (low f)) kind.Number (span at end) f hs h
  low_back mark.True at end f hs t h = leaf_back (target_node edges (low f)) kind.True (span at end) f hs h
  low_back mark.False at end f hs t h = leaf_back (target_node edges (low f)) kind.False (span at end) f hs h
  low_back mark.Null at end f hs t h = leaf_back (target_node edges (low f)) kind.Null (span at end) f hs h

  token_back : (k : MarkKind) (at end i : ℕ) (f : Finding) (hs : List Holder) → f.skipped ≡ i → is_token k ≡ true → HoldsIn (sought text edges k at end f) hs → HoldsIn f hs
  token_back k at end zero f hs e t h =
      let f_low : f ≡ low f = same_skipped f zero e in
      subst (λ (g : Finding). HoldsIn g hs) (sym f_low) (low_back k at end f hs t (subst (λ (g : Finding). HoldsIn (sought text edges k at end g) hs) f_low h))
  token_back k at end (suc j) f hs e t h = subst (λ (g : Finding). HoldsIn g hs) (over_token text edges k at end j f e t) h

  seek_none : (last : ℕ) (ends : List ℕ) (f : Finding) → seek_all text edges last [] ends f ≡ f
  unfolding seek_all
  seek_none last ends f = refl

  last_back : (last : ℕ) (begun : Option Mark) (f : Finding) (hs : List Holder) → ((m : Mark) → begun ≡ Some m → is_token m.kind ≡ true) → HoldsIn (seek_all text edges last (behind begun []) [] f) hs → HoldsIn f hs
  last_back last None f hs token h = subst (λ (g : Finding). HoldsIn g hs) (seek_none last [] f) h
  last_back last (Some m) f hs token h =
      token_back m.kind m.at (next_end last []) f.skipped f hs refl (token m refl)
      (subst (λ (g : Finding). HoldsIn g hs) (seek_one text edges last m [] [] f ∙ seek_none last (ends_after m.kind []) (sought text edges m.kind m.at (next_end last []) f)) h)

-- what is held of the open containers are those of the bytes
pub held_holds : IsHeldOn → (limit : ℕ) (bytes : List ℕ) (edges : List Edge) (marks : List Mark) (ends : List ℕ) (s : State) (next : ℕ) (begun : Option Mark) (name : List ℕ) (e : Expect) (hs : List Holder)
    → IsHeld bytes edges marks ends s next begun name → read limit marks (went Value []) ≡ went e hs → Holds s.skipped (reverse s.opened.items) hs
held_holds law limit bytes edges marks ends s next begun name e hs h reads =
    let text = bytes ++ [] in
    let none = nothing_met (length edges) in
    let all : HoldsIn (seek_all text edges 0 marks ends none) hs = law text edges 0 limit marks ends none Value e [] hs reads outermost in
    let same : seek_all text edges 0 marks ends none ≡ seek_all text edges 0 (behind begun []) [] (finding s) =
    ap (λ (xs : List Mark). seek_all text edges 0 xs ends none) (sym (append-nil marks))
    ∙ ap (λ (xs : List ℕ). seek_all text edges 0 (marks ++ []) xs none) (sym (append-nil ends))
    ∙ h.comes [] 0 [] [] in
    last_back text edges 0 begun (finding s) hs h.token (subst (λ (f : Finding). HoldsIn f hs) same all)

-- ---- no name waits

other_unnamed : (k : MarkKind) (f : Finding) → ((f.skipped == 0) && is_some (naming f.opened f.name)) ≡ false → is_name_next k f ≡ false
other_unnamed mark.OpenArray f e = refl
other_unnamed mark.OpenObject f e = refl
other_unnamed mark.CloseArray f e = refl
other_unnamed mark.CloseObject f e = refl
other_unnamed mark.Colon f e = refl
other_unnamed mark.Comma f e = refl
other_unnamed mark.String f e = e
other_unnamed mark.Number f e = refl
other_unnamed mark.True f e = refl
other_unnamed mark.False f e = refl
other_unnamed mark.Null f e = refl

pub deep_unnamed : (k : MarkKind) (f : Finding) → 0 < f.skipped → is_name_next k f ≡ false
deep_unnamed k f h = let t : (f.skipped == 0) ≡ false = grind (arith, nat_tests) in other_unnamed k f (and_left (f.skipped == 0) (is_some (naming f.opened f.name)) t)

naming_array : (os : List Cursor) (name : Option (Option ℕ)) (c : Cursor) (outer : List Cursor) → os ≡ c ∷ outer → c.is_object ≡ false → naming os name ≡ None
naming_array os None c outer e array = ap (λ (xs : List Cursor). naming xs None) e ∙ ap (λ (b : Bool). cond b (Some c.level) None) array
naming_array os (Some x) c outer e array = ap (λ (xs : List Cursor). naming xs (Some x)) e

pub none_unnamed : (k : MarkKind) (f : Finding) → naming f.opened f.name ≡ None → is_name_next k f ≡ false
none_unnamed k f e = other_unnamed k f (and_right (f.skipped == 0) (is_some (naming f.opened f.name)) (ap is_some e))

pub array_unnamed : (k : MarkKind) (f : Finding) (c : Cursor) (outer : List Cursor) → f.opened ≡ c ∷ outer → c.is_object ≡ false → is_name_next k f ≡ false
array_unnamed k f c outer e array = none_unnamed k f (naming_array f.opened f.name c outer e array)

-- the place that an edge from a node names
pub place_named : (edges : List Edge) (i node : ℕ) (e : Edge) → slice_get edges i ≡ Some e → e.parent ≡ node → place_from edges i node ≡ e.place
place_named edges i node e is p =
    let t : (e.parent == node) ≡ true = grind (arith, nat_tests) in
    ap (λ (o : Option Edge). place_at o node) is ∙ ap (λ (b : Bool). cond b e.place (2 ^ 64 - 1)) t

pub record Top (os : List Cursor) (c : Cursor) : Type 0 where
  pub outer : List Cursor
  pub is : os ≡ c ∷ outer

pub top_of : (os : List Cursor) (c : Cursor) → Some c ≡ first_open os → Top os c
top_of [] c e = absurd cc
top_of (x ∷ xs) c e = record { outer = xs; is = (let same : c ≡ x = cc in ap (λ (y : Cursor). y ∷ xs) (sym same)) }

-- ---- tokens that have begun

waits_as : (b : Bool) (begun : Option Mark) → b ≡ is_some begun → ((m : Mark) → begun ≡ Some m → is_token m.kind ≡ true) → Waits b begun
waits_as true (Some m) e token = waits_some m (token m refl)
waits_as false None e token = waits_none
waits_as true None e token = absurd cc
waits_as false (Some m) e token = absurd cc

pub waiting_token : (b : Bool) (m : Mark) → waiting b ≡ Some m → is_token m.kind ≡ true
waiting_token true m e = let same : some_token ≡ m = cc in subst (λ (x : Mark). is_token x.kind ≡ true) same refl
waiting_token false m e = absurd cc

-- ---- a piece that is passed over

module _ (bytes piece : List ℕ) (edges : List Edge) (marks : List Mark) (ends : List ℕ) (held : Sought) (entry : Entry) (h : IsHeld bytes edges marks ends held.state held.next held.begun held.name.items) where
  abbrev pub t : Track
  t = lex entry.state (length bytes) piece

  abbrev pub f : Finding
  f = finding held.state

  comes_over : (over : Over) (s : State) (name : List ℕ) → finding s ≡ finding_over over f
      → ((text : List ℕ) (last : ℕ) (more : List Mark) (others : List ℕ) → seek_all text edges last (behind held.begun (t.marks ++ more)) (t.ends ++ others) f ≡ seek_all text edges last (behind over.begun more) others (finding_over over f))
      → IsNextIn edges (recounted over.count f.opened) over.next → ((m : Mark) → over.begun ≡ Some m → is_token m.kind ≡ true) → ((k : MarkKind) → is_name_next k (finding_over over f) ≡ false)
      → IsHeld (bytes ++ piece) edges (marks ++ t.marks) (ends ++ t.ends) s over.next over.begun name
  comes_over over s name is seeks ready token unnamed = record {
    trie = h.trie;
    ready = subst (λ (xs : List Cursor). IsNextIn edges xs over.next) (sym (ap (λ (g : Finding). g.opened) is)) ready;
    comes = λ future last more others.
        ap (λ (xs : List Mark). seek_all ((bytes ++ piece) ++ future) edges last xs ((ends ++ t.ends) ++ others) (nothing_met (length edges))) (append_assoc marks t.marks more)
        ∙ ap (λ (xs : List ℕ). seek_all ((bytes ++ piece) ++ future) edges last (marks ++ (t.marks ++ more)) xs (nothing_met (length edges))) (append_assoc ends t.ends others)
        ∙ ap (λ (xs : List ℕ). seek_all xs edges last (marks ++ (t.marks ++ more)) (ends ++ (t.ends ++ others)) (nothing_met (length edges))) (append_assoc bytes piece future)
        ∙ h.comes (piece ++ future) last (t.marks ++ more) (t.ends ++ others)
        ∙ seeks (bytes ++ (piece ++ future)) last more others
        ∙ ap (λ (xs : List ℕ). seek_all xs edges last (behind over.begun more) others (finding_over over f)) (sym (append_assoc bytes piece future))
        ∙ ap (seek_all ((bytes ++ piece) ++ future) edges last (behind over.begun more) others) (sym is);
    token = token;
    name_is = λ m e next. absurd (let no : is_name_next m.kind (finding s) ≡ false = ap (is_name_next m.kind) is ∙ unnamed m.kind in cc);
  }

  -- fewer containers are closed than are skipped
  pub inside_over : IsPassedInside → (limit n : ℕ) (later : Entry) → IsPiece limit bytes piece marks entry later → entry.sum.closed < held.state.skipped → in_token entry.state ≡ is_some held.begun
      → n + entry.sum.closed ≡ held.state.skipped + entry.sum.opened → LeadsOver bytes piece edges marks ends held entry (record { count = None; next = held.next; skipped = n; begun = waiting (in_token later.state) })
  inside_over law limit n later p less agrees is s name same =
      let total = sum_of t.marks in
      let closed : entry.sum.closed ≡ total.closed = ap (λ (x : Sum). x.closed) p.sum in
      let opened : entry.sum.opened ≡ total.opened = ap (λ (x : Sum). x.opened) p.sum in
      let low : total.closed < held.state.skipped = omega (arith, closed, less) in
      let left : (held.state.skipped + total.opened) - total.closed ≡ n = omega (arith, is, closed, opened, less) in
      let some : 0 < n = omega (arith, is, less) in
      comes_over (record { count = None; next = held.next; skipped = n; begun = waiting (in_token later.state) }) s name same
      (λ text last more others.
      law text edges last (length bytes) piece entry.state later.state held.begun f p.exit (waits_as (in_token entry.state) held.begun agrees h.token) low more others
      ∙ ap (λ (k : ℕ). seek_all text edges last (behind (waiting (in_token later.state)) more) others (record f { skipped = k })) left)
      h.ready (waiting_token (in_token later.state))
      (λ k. deep_unnamed k (record f { skipped = n }) some)

  -- as many are closed, in an array of which no element that begins is wanted
  pub elements_over : IsPassedInArray → IsHeldOn → (limit n next end left : ℕ) (later : Entry) (c : Cursor) (outer : List Cursor) → IsPiece limit bytes piece marks entry later → f.opened ≡ c ∷ outer → c.is_object ≡ false → held.state.name ≡ None
      → entry.sum.closed ≡ held.state.skipped → in_token entry.state ≡ is_some held.begun → (held.state.skipped ≡ 0 → InArray entry.expect) → (in_token entry.state ≡ true → held.state.skipped ≡ 0 → entry.expect ≡ After)
      → IsNextFrom edges c.level c.count next → end ≡ (c.count + entry.sum.commas) + slot held.state.skipped (in_token entry.state) entry.expect → end ≤ next → end < 2 ^ 64
      → left ≡ slot entry.sum.opened (in_token later.state) later.expect → n + left ≡ end → c.count ≤ n
      → LeadsOver bytes piece edges marks ends held entry (record { count = Some n; next = next; skipped = entry.sum.opened; begun = waiting (in_token later.state) })
  elements_over law holds_law limit n next end left later c outer p opened array unnamed lowest agrees in_array busy least end_is under fits left_is count_is grows s name same =
      let total = sum_of t.marks in
      let closed : total.closed ≡ held.state.skipped = ap (λ (x : Sum). x.closed) (sym p.sum) ∙ lowest in
      let commas : total.commas ≡ entry.sum.commas = ap (λ (x : Sum). x.commas) (sym p.sum) in
      let rest : total.opened ≡ entry.sum.opened = ap (λ (x : Sum). x.opened) (sym p.sum) in
      let holds : Holds held.state.skipped f.opened p.holders = held_holds holds_law limit bytes edges marks ends held.state held.next held.begun held.name.items entry.expect p.holders h p.stands in
      let waits = waits_as (in_token entry.state) held.begun agrees h.token in
      let first = slot held.state.skipped (in_token entry.state) entry.expect in
      let unwanted : (place : ℕ) → c.count ≤ place → place < c.count + total.commas + first → element_at edges c.level place ≡ None =
      λ place low high. sym (element_later edges h.trie c.level place (omega (arith, high, commas, end_is, fits)) next (λ i e is q l. let b = least i e is q l in omega (arith, b, low)) (omega (arith, high, commas, end_is, under))) in
      let over : Over = record { count = Some n; next = next; skipped = entry.sum.opened; begun = waiting (in_token later.state) } in
      let recounts : recounted (Some n) f.opened ≡ record c { count = n } ∷ outer = ap (recounted (Some n)) opened in
      comes_over over s name same
      (λ text last more others.
      let q = law text edges last (length bytes) limit piece entry.state later.state held.begun entry.expect later.expect p.holders p.later f c outer p.exit p.reads waits holds opened array unnamed closed in_array busy unwanted in
      let counts = q.counted in
      let slots : slot total.opened (in_token later.state) later.expect ≡ left = ap (λ (k : ℕ). slot k (in_token later.state) later.expect) rest ∙ sym left_is in
      let same_count : q.count ≡ n = omega (arith, counts, slots, commas, end_is, count_is) in
      q.comes more others
      ∙ ap (λ (k : ℕ). seek_all text edges last (behind (waiting (in_token later.state)) more) others (record f { opened = record c { count = k } ∷ outer; skipped = total.opened })) same_count
      ∙ ap (λ (k : ℕ). seek_all text edges last (behind (waiting (in_token later.state)) more) others (record f { opened = record c { count = n } ∷ outer; skipped = k })) rest
      ∙ ap (λ (xs : List Cursor). seek_all text edges last (behind (waiting (in_token later.state)) more) others (record f { opened = xs; skipped = entry.sum.opened })) (sym recounts))
      (subst (λ (xs : List Cursor). IsNextIn edges xs next) (sym recounts) (λ i e is q l. let b = least i e is q l in omega (arith, b, grows)))
      (waiting_token (in_token later.state))
      (λ k. array_unnamed k (finding_over over f) (record c { count = n }) outer recounts array)

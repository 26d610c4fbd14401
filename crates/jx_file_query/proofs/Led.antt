-- Chunks of an object on the way, one after another, that have no member that is wanted.
use Rattle.std.proofs.Common.{◌≡◌, ℕ, zero, suc, ◌+◌, ◌*◌, ◌<◌, ◌≤◌, List, [], ◌∷◌, ◌++◌, length, take, reverse, refl, sym, ap, subst, ◌∙◌, append_assoc, arith, Bool, true, false, Option, None, Some, inl, inr}
use Rattle.std.specs.Prelude.{All, is_some, slice_get}
use Rattle.std.proofs.lemmas.Bool.{cases_lt}
use Rattle.std.proofs.lemmas.List.{length-take-le}
use Rattle.std.proofs.lemmas.List.Sums.{fold-append}
use Rattle.jx_lex.specs.declared.alphabet.mark.Mark.{Mark}
use Rattle.jx_lex.specs.declared.alphabet.mark.MarkKind.{MarkKind}
use Rattle.jx_lex.specs.TokenStates.{in_token}
use Rattle.jx_reduce.specs.declared.table.expect.Expect.{Expect}
use Rattle.jx_reduce.specs.declared.table.expect.Expect.TheVariants.{Value, ArrayFirst, ObjectFirst, Name, Colon, After}
use Rattle.jx_reduce.specs.declared.table.holder.Holder.{Holder}
use Rattle.jx_reduce.specs.Read.{Reading, read, step}
use Rattle.jx_run.specs.declared.texts.settings.FrontMark.{FrontMark}
use Rattle.jx_run.specs.declared.texts.settings.Settings.{Settings}
use Rattle.jx_run.specs.Telling.{moved_ends, moved_marks, tokens_by}
use Rattle.jx_run.proofs.InTurn.{InPieces, in_turn}
use Rattle.jx_index.specs.declared.finder.Cursor.{Cursor}
use Rattle.jx_index.specs.declared.finder.Met.{Met}
use Rattle.jx_index.specs.declared.trie.Edge.{Edge}
use Rattle.jx_index.specs.inside.Building.{is_token}
use Rattle.jx_index.specs.inside.Finding.{Finding, naming, nothing_met}
use Rattle.jx_index.specs.inside.Found.{finding}
use Rattle.jx_index.specs.inside.InOrder.{behind}
use Rattle.jx_index.specs.inside.Trie.{IsNextIn, child_at, is_name_next, seek_all}
use Rattle.jx_find.specs.declared.held.Sought.{Sought}
use Rattle.jx_file_index.specs.declared.entry.Entry.{Entry}
use Rattle.jx_file_index.specs.declared.sum.Sum.{Sum}
use Rattle.jx_run.specs.Reader.{expect_behind, state_behind}
use Rattle.jx_file_index.specs.Chunks.{before, part}
use Rattle.jx_file_index.specs.Sums.{nothing, sum_of}
use Rattle.jx_file_index.specs.Named.{AreNamed, reading_before, track_at}
use Rattle.jx_file_index.specs.Names.{NamesOf, none, plain, token, ended}
use Rattle.jx_file_query.specs.HeldAt.{IsHeldAt}
use Rattle.jx_file_query.specs.Holding.{Holds}
use Rattle.jx_file_query.specs.Members.{HasNoWanted, InObject, IsAmong, IsPassedAmong, IsPassedInObject, lacks, unwanted_name}
use Rattle.jx_file_query.specs.Passed.{waiting}
use Rattle.jx_file_query.specs.Passing.{IsHeldOn}
use Rattle.jx_file_index.specs.declared.index.Index.{Index}
use Rattle.jx_file_query.specs.declared.members.Among.{Among}
use Rattle.jx_file_query.specs.declared.members.TextNames.{TextNames}
use Rattle.jx_file_query.specs.Known.{IsKnown}
use Rattle.jx_file_query.specs.Walk.{HasNamesOf}
use Rattle.jx_file_query.specs.inside.Members.{begun_at, IsCounted, IsCut, IsHeldAmong, IsLedTo, IsStarted, LeadsPast, found_among}
use Rattle.jx_file_query.proofs.Chains.{begun_first, begun_stands, own_names}
use Rattle.jx_file_query.proofs.Chunkings.{part_taken}
use Rattle.jx_file_query.proofs.Unwanted.{same_wait}
use Rattle.jx_file_query.proofs.Moved.{same_sum}
use Rattle.jx_file_query.proofs.Overs.{deep_unnamed, held_holds, none_unnamed, waiting_token}
use Rattle.jx_file_query.proofs.Pairings.{waiting_some}
use Rattle.jx_file_query.proofs.TextParts.{goes_at}
use Rattle.jx_file_query.proofs.Standing.{Goes, Stands, marks_stand}

-- ---- what has begun is a token

names_token : {text : List ℕ} {depth : ℕ} {r : Reading} {before after : Option Mark} {ms : List Mark} {es : List ℕ} {names : List (List ℕ)} → NamesOf text depth r before ms es after names
    → ((m : Mark) → before ≡ Some m → is_token m.kind ≡ true) → (m : Mark) → after ≡ Some m → is_token m.kind ≡ true
names_token none was m e = was m e
names_token (plain x is h) was m e = absurd cc
names_token (token x is h) was m e = let same : x ≡ m = cc in subst (λ (y : Mark). is_token y.kind ≡ true) same is
names_token (ended x end within h) was m e = absurd cc

-- ---- in an object a name waits at most

module _ (settings : Settings) (size : ℕ) (text : List ℕ) (goes : Goes settings.mark settings.depth text) (two : InPieces) (wide : 64 ≤ size) where
  abbrev m : FrontMark
  m = settings.mark

  abbrev limit : ℕ
  limit = settings.depth

  abbrev bytes : ℕ → List ℕ
  bytes n = take (n * size) text

  begun_token : {count : ℕ} {last : Option Mark} {names : List (List (List ℕ))} (h : AreNamed settings size text count last names) (n : ℕ) → n ≤ count → (x : Mark) → begun_at h n ≡ Some x → is_token x.kind ≡ true
  begun_token h zero low x e = absurd (let z : None ≡ Some x = sym (begun_first settings size text h) ∙ e in cc)
  begun_token h (suc n) low x e = names_token (own_names settings size text h n (omega (arith, low))).of (begun_token h n (omega (arith, low))) x e

  -- where the reading stands
  reading_is : (n : ℕ) → Stands m limit (bytes n) → (e : Entry) → e.expect ≡ expect_behind (before settings text (n * size)) → (x : Expect) (hs : List Holder) → reading_before settings text (n * size) ≡ Reading.went x hs → x ≡ e.expect
  reading_is n st e is x hs stands =
      let same : Reading.went st.expect st.holders ≡ Reading.went x hs = sym (marks_stand m limit (bytes n) st.state st.expect st.holders st.is) ∙ stands in
      let expects : st.expect ≡ x = cc in
      sym expects ∙ sym (is ∙ ap expect_behind st.is)

  -- ---- before the first of them

  abbrev HeldAt : List Edge → ℕ → Sought → Type 0
  HeldAt edges n held = IsHeldAt settings size text edges n held

  uncut_after : (i : ℕ) (e : Entry) → InObject i (in_token e.state) e.expect → (IsCut i e → ⊥) → in_token e.state ≡ true → i ≡ 0 → e.expect ≡ After
  uncut_after zero e stands uncut begun z = pick e.expect refl
    where
      here : InObject 0 true e.expect
      here = subst (λ (b : Bool). InObject 0 b e.expect) begun stands

      pick : (x : Expect) → e.expect ≡ x → e.expect ≡ After
      pick After q = q
      pick Colon q = absurd (uncut (record { none = refl; begun = begun; name = q }))
      pick Value q = absurd (subst (InObject 0 true) q here)
      pick ArrayFirst q = absurd (subst (InObject 0 true) q here)
      pick ObjectFirst q = absurd (subst (InObject 0 true) q here)
      pick Name q = absurd (subst (InObject 0 true) q here)
  uncut_after (suc i) e stands uncut begun z = absurd (omega (arith, z))

  pub started : IsHeldOn → {count : ℕ} {last : Option Mark} {names : List (List (List ℕ))} (h : AreNamed settings size text count last names) (edges : List Edge) (held : Sought) (c : Cursor) (outer : List Cursor) (n : ℕ) (entry : Entry)
      → n ≤ count → Stands m limit (bytes n) → n * size ≤ length text → entry.state ≡ state_behind (before settings text (n * size)) → entry.expect ≡ expect_behind (before settings text (n * size))
      → reverse held.state.opened.items ≡ c ∷ outer → c.is_object ≡ true → IsStarted held entry → HeldAt edges n held
      → IsLedTo settings size text edges held c (begun_at h n) n c.count held.state.skipped
  started law h edges held c outer n entry low st within state_is expect_is opened object s was =
      let b = begun_at h n in
      let f = finding held.state in
      let stands = marks_stand m limit (bytes n) st.state st.expect st.holders st.is in
      let x_is : st.expect ≡ entry.expect = reading_is n st entry expect_is st.expect st.holders stands in
      let real : is_some b ≡ in_token entry.state = begun_stands settings size text goes two wide h n low within ∙ ap in_token (sym state_is) in
      let name : held.state.name ≡ unwanted_name held.state.skipped (is_some b) st.expect = s.named ∙ ap (λ (y : Bool). unwanted_name held.state.skipped y entry.expect) (sym real) ∙ ap (unwanted_name held.state.skipped (is_some b)) (sym x_is) in
      let found = found_among held.state.met.items c outer c.count held.state.skipped (unwanted_name held.state.skipped (is_some b) st.expect) in
      let same : f ≡ found = ap (λ (xs : List Cursor). record f { opened = xs }) opened ∙ ap (λ (w : Option (Option ℕ)). record { met = f.met; opened = c ∷ outer; skipped = f.skipped; name = w }) name in
      record {
        outer = outer;
        opened = opened;
        grows = omega arith;
        expect = st.expect;
        holders = st.holders;
        stands = stands;
        among = record {
          opened = refl;
          object = object;
          holds = subst (λ (xs : List Cursor). Holds held.state.skipped xs st.holders) opened
              (held_holds law limit (bytes n) edges (tokens_by m (bytes n)).marks (tokens_by m (bytes n)).ends held.state held.next held.begun held.name.items st.expect st.holders was.held stands);
          stands = subst (InObject held.state.skipped (is_some b)) (sym x_is) (subst (λ (y : Bool). InObject held.state.skipped y entry.expect) (sym real) s.stands);
          named = refl;
          token = record {
            token = begun_token h n low;
            string = λ x e z colon. absurd (s.uncut (record { none = z; begun = sym real ∙ ap is_some e; name = sym x_is ∙ colon }));
          };
        };
        comes = λ future last more others.
            was.held.comes future last more others
            ∙ ap (λ (y : Finding). seek_all (bytes n ++ future) edges last (behind held.begun more) others y) same
            ∙ waits future last more others held.begun b (sym s.agrees ∙ sym real) was.held.token (begun_token h n low)
            (λ e z. x_is ∙ uncut_after held.state.skipped entry s.stands s.uncut (sym real ∙ e) z);
      }
    where
      waits : (future : List ℕ) (last : ℕ) (more : List Mark) (others : List ℕ) (o p : Option Mark) → is_some o ≡ is_some p → ((x : Mark) → o ≡ Some x → is_token x.kind ≡ true) → ((x : Mark) → p ≡ Some x → is_token x.kind ≡ true)
          → (is_some p ≡ true → held.state.skipped ≡ 0 → st.expect ≡ After)
          → seek_all (bytes n ++ future) edges last (behind o more) others (found_among held.state.met.items c outer c.count held.state.skipped (unwanted_name held.state.skipped (is_some p) st.expect))
          ≡ seek_all (bytes n ++ future) edges last (behind p more) others (found_among held.state.met.items c outer c.count held.state.skipped (unwanted_name held.state.skipped (is_some p) st.expect))
      waits future last more others None None same ot pt after = refl
      waits future last more others (Some x) (Some y) same ot pt after =
          same_wait (bytes n) future edges last limit c outer held.state.met.items object held.state.skipped c.count 0 (λ z. refl) x y c.count held.state.skipped st.expect (ot x refl) (pt y refl) (after refl) more others
      waits future last more others None (Some y) same ot pt after = absurd cc
      waits future last more others (Some x) None same ot pt after = absurd cc

  -- ---- one chunk more

  pub led_on : IsPassedInObject → {count : ℕ} {last : Option Mark} {names : List (List (List ℕ))} (h : AreNamed settings size text count last names) (edges : List Edge) (held : Sought) (c : Cursor) (n k i l j : ℕ) (here later : Entry)
      → n < count → Stands m limit (bytes n) → Stands m limit (bytes (suc n)) → n * size ≤ length text → suc n * size ≤ length text
      → here.sum ≡ sum_of (track_at settings size text n).marks
      → here.state ≡ state_behind (before settings text (n * size)) → here.expect ≡ expect_behind (before settings text (n * size))
      → later.state ≡ state_behind (before settings text (suc n * size)) → later.expect ≡ expect_behind (before settings text (suc n * size))
      → IsCounted here later k i l j → (here.sum.closed ≡ i → (own : List (List ℕ)) → slice_get names n ≡ Some own → All (λ (units : List ℕ). child_at edges c.level units ≡ None) own)
      → IsLedTo settings size text edges held c (begun_at h n) n k i
      → IsLedTo settings size text edges held c (begun_at h (suc n)) (suc n) l j
  led_on law h edges held c n k i l j here later low st next within further sum_is state_is expect_is later_state later_expect counted unwanted led =
      let b = begun_at h n in
      let a = begun_at h (suc n) in
      let o = own_names settings size text h n low in
      let t = track_at settings size text n in
      let base = n * size in
      let ms = moved_marks base t.marks in
      let es = moved_ends base t.ends in
      let known = bytes (suc n) in
      let f = found_among held.state.met.items c led.outer k i (unwanted_name i (is_some b) led.expect) in
      let of : NamesOf known limit (Reading.went led.expect led.holders) b ms es a o.own = subst (λ (r : Reading). NamesOf known limit r b ms es a o.own) led.stands o.of in
      let long : length (bytes n) ≡ base = length-take-le base text within in
      let turn = in_turn two m limit (bytes n) (part size text n) (goes_at settings size text goes two n) in
      let taken = part_taken size text n in
      let marks_are : (tokens_by m known).marks ≡ (tokens_by m (bytes n)).marks ++ ms =
      ap (λ (xs : List ℕ). (tokens_by m xs).marks) (sym taken) ∙ turn.marks ∙ ap (λ (z : ℕ). (tokens_by m (bytes n)).marks ++ moved_marks z t.marks) long in
      let ends_are : (tokens_by m known).ends ≡ (tokens_by m (bytes n)).ends ++ es =
      ap (λ (xs : List ℕ). (tokens_by m xs).ends) (sym taken) ∙ turn.ends ∙ ap (λ (z : ℕ). (tokens_by m (bytes n)).ends ++ moved_ends z t.ends) long in
      let stands = marks_stand m limit known next.state next.expect next.holders next.is in
      let reads : read limit ms (Reading.went led.expect led.holders) ≡ Reading.went next.expect next.holders =
      ap (read limit ms) (sym led.stands)
      ∙ sym (fold-append (λ reading mark. step limit mark reading) (Reading.went Value []) (tokens_by m (bytes n)).marks ms)
      ∙ ap (λ (xs : List Mark). read limit xs (Reading.went Value [])) (sym marks_are) ∙ stands in
      let total : sum_of ms ≡ here.sum = same_sum base t.marks nothing ∙ sym sum_is in
      let closed : (sum_of ms).closed ≡ here.sum.closed = ap (λ (s : Sum). s.closed) total in
      let opened : (sum_of ms).opened ≡ here.sum.opened = ap (λ (s : Sum). s.opened) total in
      let commas : (sum_of ms).commas ≡ here.sum.commas = ap (λ (s : Sum). s.commas) total in
      let lowest = counted.low in
      let free : HasNoWanted edges c.level i (sum_of ms) o.own = record { low = omega (arith, closed, lowest); unwanted = λ e. unwanted (sym closed ∙ e) o.own o.is } in
      let x_is : next.expect ≡ later.expect = reading_is (suc n) next later later_expect next.expect next.holders stands in
      let e_is : led.expect ≡ here.expect = reading_is n st here expect_is led.expect led.holders led.stands in
      let begun_here : is_some b ≡ in_token here.state = begun_stands settings size text goes two wide h n (omega (arith, low)) within ∙ ap in_token (sym state_is) in
      let begun_later : is_some a ≡ in_token later.state = begun_stands settings size text goes two wide h (suc n) (omega (arith, low)) further ∙ ap in_token (sym later_state) in
      let passed : (future : List ℕ) (last_end : ℕ) → IsPassedAmong (known ++ future) edges last_end ms es (sum_of ms) b a led.expect next.expect next.holders f (record c { count = k }) led.outer =
      λ future last_end. law known future edges last_end limit ms es b a o.own led.expect next.expect led.holders next.holders f (record c { count = k }) led.outer of reads led.among free in
      let lacking : lacks i (is_some b) led.expect ≡ lacks i (in_token here.state) here.expect = ap (λ (y : Bool). lacks i y led.expect) begun_here ∙ ap (lacks i (in_token here.state)) e_is in
      let lacking_later : lacks j (is_some a) next.expect ≡ lacks j (in_token later.state) later.expect = ap (λ (y : Bool). lacks j y next.expect) begun_later ∙ ap (lacks j (in_token later.state)) x_is in
      let deeper : (future : List ℕ) (last_end : ℕ) → (passed future last_end).skipped ≡ j =
      λ future last_end. let q = (passed future last_end).skipped_is in let d = counted.deeper_is in omega (arith, q, d, closed, opened) in
      let same_count : (future : List ℕ) (last_end : ℕ) → (passed future last_end).count ≡ l =
      λ future last_end. pick_count (sum_of ms) (is_some b) (is_some a) led.expect next.expect (passed future last_end).count (passed future last_end).skipped (deeper future last_end) lowest closed commas lacking lacking_later (passed future last_end).same (passed future last_end).counted counted.same counted.counted in
      let found = found_among held.state.met.items c led.outer l j (unwanted_name j (is_some a) next.expect) in
      let q = passed [] 0 in
      let further_on = q.grows in
      let so_far = led.grows in
      let first_count = same_count [] 0 in
      let at_last : IsAmong (record c { count = q.count }) led.outer a next.expect next.holders (found_among held.state.met.items c led.outer q.count q.skipped (unwanted_name q.skipped (is_some a) next.expect)) = q.among in
      record {
        outer = led.outer;
        opened = led.opened;
        grows = omega (arith, further_on, so_far, first_count);
        expect = next.expect;
        holders = next.holders;
        stands = stands;
        among = subst (λ (z : ℕ). IsAmong (record c { count = z }) led.outer a next.expect next.holders (found_among held.state.met.items c led.outer z j (unwanted_name j (is_some a) next.expect))) first_count
            (subst (λ (z : ℕ). IsAmong (record c { count = q.count }) led.outer a next.expect next.holders (found_among held.state.met.items c led.outer q.count z (unwanted_name z (is_some a) next.expect))) (deeper [] 0) at_last);
        comes = λ future last_end more others.
            let piece = part size text n in
            let whole : known ++ future ≡ bytes n ++ (piece ++ future) = ap (λ (xs : List ℕ). xs ++ future) (sym taken) ∙ append_assoc (bytes n) piece future in
            let r = passed future last_end in
            let none_met = nothing_met (length edges) in
            ap (λ (xs : List Mark). seek_all (known ++ future) edges last_end (xs ++ more) ((tokens_by m known).ends ++ others) none_met) marks_are
            ∙ ap (λ (xs : List ℕ). seek_all (known ++ future) edges last_end (((tokens_by m (bytes n)).marks ++ ms) ++ more) (xs ++ others) none_met) ends_are
            ∙ ap (λ (xs : List Mark). seek_all (known ++ future) edges last_end xs (((tokens_by m (bytes n)).ends ++ es) ++ others) none_met) (append_assoc (tokens_by m (bytes n)).marks ms more)
            ∙ ap (λ (xs : List ℕ). seek_all (known ++ future) edges last_end ((tokens_by m (bytes n)).marks ++ (ms ++ more)) xs none_met) (append_assoc (tokens_by m (bytes n)).ends es others)
            ∙ ap (λ (xs : List ℕ). seek_all xs edges last_end ((tokens_by m (bytes n)).marks ++ (ms ++ more)) ((tokens_by m (bytes n)).ends ++ (es ++ others)) none_met) whole
            ∙ led.comes (piece ++ future) last_end (ms ++ more) (es ++ others)
            ∙ ap (λ (xs : List ℕ). seek_all xs edges last_end (behind b (ms ++ more)) (es ++ others) f) (sym whole)
            ∙ r.comes more others
            ∙ ap (λ (z : ℕ). seek_all (known ++ future) edges last_end (behind a more) others (found_among held.state.met.items c led.outer z r.skipped (unwanted_name r.skipped (is_some a) next.expect))) (same_count future last_end)
            ∙ ap (λ (z : ℕ). seek_all (known ++ future) edges last_end (behind a more) others (found_among held.state.met.items c led.outer l z (unwanted_name z (is_some a) next.expect))) (deeper future last_end);
      }
    where
      pick_count : (s : Sum) (b a : Bool) (e x : Expect) (found deep : ℕ) → deep ≡ j → here.sum.closed ≤ i → s.closed ≡ here.sum.closed → s.commas ≡ here.sum.commas → lacks i b e ≡ lacks i (in_token here.state) here.expect
          → lacks j a x ≡ lacks j (in_token later.state) later.expect
          → (s.closed < i → found ≡ k) → (s.closed ≡ i → found + lacks deep a x ≡ k + s.commas + lacks i b e) → (here.sum.closed < i → l ≡ k)
          → (here.sum.closed ≡ i → l + lacks j (in_token later.state) later.expect ≡ k + here.sum.commas + lacks i (in_token here.state) here.expect) → found ≡ l
      pick_count s b a e x found deep deep_is lowest closed commas lacking lacking_later same_found counted_found same_l counted_l = elim (cases_lt here.sum.closed i) [
        | inl lt ↦ same_found (omega (arith, lt, closed)) ∙ sym (same_l lt)
        | inr ge ↦
            let level : here.sum.closed ≡ i = omega (arith, ge, lowest) in
            let one = counted_found (omega (arith, level, closed)) in
            let other = counted_l level in
            let z : lacks deep a x ≡ lacks j a x = ap (λ (y : ℕ). lacks y a x) deep_is in
            omega (arith, one, other, z, commas, lacking, lacking_later)
      ]

  -- ---- behind the last of them

  unnamed_at : (i : ℕ) (o : Option Mark) (met : List Met) (c : Cursor) (outer : List Cursor) (k : ℕ) (x : Expect) → (is_some o ≡ true → i ≡ 0 → x ≡ After) → (kd : MarkKind) → is_some o ≡ true
      → is_name_next kd (found_among met c outer k i (unwanted_name i (is_some o) x)) ≡ false
  unnamed_at zero (Some y) met c outer k x after kd e =
      none_unnamed kd (found_among met c outer k 0 (unwanted_name 0 true x)) (ap (λ (z : Expect). naming (record c { count = k } ∷ outer) (unwanted_name 0 true z)) (after refl refl))
  unnamed_at zero None met c outer k x after kd e = absurd cc
  unnamed_at (suc i) o met c outer k x after kd e = deep_unnamed kd (found_among met c outer k (suc i) None) (omega arith)

  pub held_among : {count : ℕ} {last : Option Mark} {names : List (List (List ℕ))} (h : AreNamed settings size text count last names) (edges : List Edge) (held next : Sought) (c : Cursor) (from n k i : ℕ) (entry : Entry)
      → n ≤ count → Stands m limit (bytes n) → n * size ≤ length text → entry.state ≡ state_behind (before settings text (n * size)) → entry.expect ≡ expect_behind (before settings text (n * size))
      → (IsCut i entry → ⊥) → IsLedTo settings size text edges held c (begun_at h n) n k i → HeldAt edges from held
      → ((outer : List Cursor) → (finding held.state).opened ≡ c ∷ outer → finding next.state ≡ found_among held.state.met.items c outer k i (unwanted_name i (in_token entry.state) entry.expect)) → next.next ≡ held.next → next.begun ≡ waiting (in_token entry.state)
      → HeldAt edges n next
  held_among h edges held next c from n k i entry low st within state_is expect_is uncut led was found next_is begun_is =
      let b = begun_at h n in
      let x_is : led.expect ≡ entry.expect = reading_is n st entry expect_is led.expect led.holders led.stands in
      let real : is_some b ≡ in_token entry.state = begun_stands settings size text goes two wide h n low within ∙ ap in_token (sym state_is) in
      let a = found_among held.state.met.items c led.outer k i (unwanted_name i (is_some b) led.expect) in
      let stands : InObject i (in_token entry.state) entry.expect = subst (InObject i (in_token entry.state)) x_is (subst (λ (y : Bool). InObject i y led.expect) real led.among.stands) in
      let after : is_some b ≡ true → i ≡ 0 → led.expect ≡ After = λ e z. x_is ∙ uncut_after i entry stands uncut (sym real ∙ e) z in
      let name : unwanted_name i (in_token entry.state) entry.expect ≡ unwanted_name i (is_some b) led.expect = ap (λ (y : Bool). unwanted_name i y entry.expect) (sym real) ∙ ap (unwanted_name i (is_some b)) (sym x_is) in
      let same : finding next.state ≡ a = found led.outer led.opened ∙ ap (found_among held.state.met.items c led.outer k i) name in
      let grows = led.grows in
      record {
        turn = ap is_some begun_is ∙ waiting_some (in_token entry.state) ∙ ap in_token state_is;
        held = record {
          trie = was.held.trie;
          ready = subst (λ (z : ℕ). IsNextIn edges (reverse next.state.opened.items) z) (sym next_is)
              (subst (λ (xs : List Cursor). IsNextIn edges xs held.next) (sym (ap (λ (y : Finding). y.opened) same))
              (λ t e is q lt. let y = (subst (λ (xs : List Cursor). IsNextIn edges xs held.next) led.opened was.held.ready) t e is q lt in omega (arith, y, grows)));
          comes = λ future last more others.
              led.comes future last more others
              ∙ waits future last more others b next.begun (real ∙ sym (waiting_some (in_token entry.state)) ∙ ap is_some (sym begun_is)) (begun_token h n low) (λ x e. waiting_token (in_token entry.state) x (sym begun_is ∙ e)) led after
              ∙ ap (λ (y : Finding). seek_all (bytes n ++ future) edges last (behind next.begun more) others y) (sym same);
          token = λ x e. waiting_token (in_token entry.state) x (sym begun_is ∙ e);
          name_is = λ x e q. absurd
              (let some : is_some b ≡ true = real ∙ sym (waiting_some (in_token entry.state)) ∙ ap is_some (sym begun_is ∙ e) in
              let no : is_name_next x.kind (finding next.state) ≡ false = ap (is_name_next x.kind) same ∙ unnamed_at i b held.state.met.items c led.outer k led.expect after x.kind some in
              cc);
        };
      }
    where
      waits : (future : List ℕ) (last_end : ℕ) (more : List Mark) (others : List ℕ) (o p : Option Mark) → is_some o ≡ is_some p → ((x : Mark) → o ≡ Some x → is_token x.kind ≡ true) → ((x : Mark) → p ≡ Some x → is_token x.kind ≡ true)
          → (led : IsLedTo settings size text edges held c (begun_at h n) n k i) → (is_some o ≡ true → i ≡ 0 → led.expect ≡ After)
          → seek_all (bytes n ++ future) edges last_end (behind o more) others (found_among held.state.met.items c led.outer k i (unwanted_name i (is_some o) led.expect))
          ≡ seek_all (bytes n ++ future) edges last_end (behind p more) others (found_among held.state.met.items c led.outer k i (unwanted_name i (is_some o) led.expect))
      waits future last_end more others None None same ot pt led after = refl
      waits future last_end more others (Some x) (Some y) same ot pt led after =
          same_wait (bytes n) future edges last_end limit c led.outer held.state.met.items led.among.object i k 0 (λ z. refl) x y k i led.expect (ot x refl) (pt y refl) (after refl) more others
      waits future last_end more others None (Some y) same ot pt led after = absurd cc
      waits future last_end more others (Some x) None same ot pt led after = absurd cc

-- ---- by the names of a text, if they are known

pub past_held : (index : Index) (names : Option TextNames) (edges : List Edge) (held : Sought) (at : ℕ) (among : Among) (entry : Entry) (end : ℕ) → LeadsPast index names edges held at among entry end
    → (settings : Settings) (chunk : ℕ) (text : List ℕ) → IsKnown settings chunk text index → HasNamesOf settings chunk text edges names → IsHeldAt settings chunk text edges at held
    → (next : Sought) → IsHeldAmong held among entry next → IsHeldAt settings chunk text edges end next
past_held index None edges held at among entry end leads settings chunk text known own was next is = absurd leads
past_held index (Some names) edges held at among entry end leads settings chunk text known own was next is = leads.leads settings chunk text known own.tables own.hashes was next is

-- The tokens that have begun between the chunks of a text whose names are known.
use Rattle.std.proofs.Common.{◌≡◌, ℕ, zero, suc, ◌+◌, ◌*◌, ◌<◌, ◌≤◌, List, [], ◌∷◌, ◌++◌, length, take, drop, refl, sym, ap, subst, ◌∙◌, arith, Bool, true, false, cond, Option, None, Some, inl, inr, ◌⊎◌}
use Rattle.std.specs.Prelude.{◌==◌, is_some, slice_get}
use Rattle.std.proofs.lemmas.Bool.{cases_lt}
use Rattle.std.proofs.lemmas.Bool.Decides.{nat_tests}
use Rattle.std.proofs.lemmas.List.{length-append}
use Rattle.jx_lex.specs.declared.alphabet.mark.Mark.{Mark}
use Rattle.jx_lex.specs.declared.alphabet.state.LexState.{LexState}
use Rattle.jx_lex.specs.declared.alphabet.state.LexState.TheVariants.{Gap}
use Rattle.jx_lex.specs.Lex.{lex, Track}
use Rattle.jx_lex.specs.TokenStates.{in_token}
use Rattle.jx_reduce.specs.declared.table.expect.Expect.{Expect}
use Rattle.jx_reduce.specs.declared.table.expect.Expect.TheVariants.{Value}
use Rattle.jx_reduce.specs.declared.table.holder.Holder.{Holder}
use Rattle.jx_reduce.specs.Read.{Reading}
use Rattle.jx_run.specs.declared.texts.settings.FrontMark.{FrontMark}
use Rattle.jx_run.specs.declared.texts.settings.FrontMark.TheVariants as on_mark
use Rattle.jx_run.specs.declared.texts.settings.Settings.{Settings}
use Rattle.jx_run.specs.Front.{agreed}
use Rattle.jx_run.specs.Reader.{Outcome, in_front, reads, read_by, state_behind}
use Rattle.jx_run.specs.Reading.{went, stopped, read_text}
use Rattle.jx_run.specs.Settings.{byte_order_mark}
use Rattle.std.proofs.Math.Nat.{suc-mul}
use Rattle.jx_run.specs.Telling.{at_start, moved_ends, moved_marks, tokens_by}
use Rattle.jx_run.proofs.Fronts.{agreed_short}
use Rattle.jx_run.proofs.InTurn.{InPieces}
use Rattle.jx_run.proofs.ReaderFeeds.{Case, cases, whole, part as part_of_mark, none as no_mark, cut, by_cut, by_none, by_part, by_whole}
use Rattle.jx_index.specs.inside.Building.{is_token}
use Rattle.jx_file_index.specs.Chunks.{before, part}
use Rattle.jx_file_index.specs.Named.{AreNamed, none as none_named, more, reading_before, track_at}
use Rattle.jx_file_index.specs.Names.{NamesOf, none, plain, token, ended}
use Rattle.jx_file_query.specs.inside.Members.{begun_at}
use Rattle.jx_file_query.proofs.Moved.{state_on}
use Rattle.jx_file_query.proofs.Paired.{Paired, none as none_paired, plain as plain_paired, token as token_paired, ended as ended_paired}
use Rattle.jx_file_query.proofs.Pairings.{lex_paired}
use Rattle.jx_file_query.proofs.TextParts.{first_track, later_track, none_before, stands_behind, stands_here}
use Rattle.jx_file_query.proofs.Chunkings.{part_taken}
use Rattle.jx_file_query.proofs.Standing.{Goes, leads, none_read, read_came, tokens_bare, tokens_whole}

-- ---- how many tokens have begun, and how many have ended

abbrev bit : Bool → ℕ
bit true = 1
bit false = 0

abbrev tokens_in : List Mark → ℕ
tokens_in [] = 0
tokens_in (m ∷ ms) = bit (is_token m.kind) + tokens_in ms

tokens_more : (ms : List Mark) (m : Mark) → tokens_in (ms ++ m ∷ []) ≡ tokens_in ms + bit (is_token m.kind)
tokens_more [] m = omega arith
tokens_more (x ∷ ms) m = let h = tokens_more ms m in omega (arith, h)

tokens_moved : (base : ℕ) (ms : List Mark) → tokens_in (moved_marks base ms) ≡ tokens_in ms
tokens_moved base [] = refl
tokens_moved base (m ∷ ms) = ap (λ (n : ℕ). bit (is_token m.kind) + n) (tokens_moved base ms)

ends_moved : (base : ℕ) (es : List ℕ) → length (moved_ends base es) ≡ length es
ends_moved base [] = refl
ends_moved base (e ∷ es) = ap suc (ends_moved base es)

paired_count : {b x : Bool} {ms : List Mark} {es : List ℕ} → Paired b ms es x → bit b + tokens_in ms ≡ length es + bit x
paired_count {b = b} none_paired = omega arith
paired_count (plain_paired {m = m} is rest) = let h = paired_count rest in let z : bit (is_token m.kind) ≡ 0 = ap bit is in omega (arith, h, z)
paired_count (token_paired {m = m} is rest) = let h = paired_count rest in let z : bit (is_token m.kind) ≡ 1 = ap bit is in omega (arith, h, z)
paired_count (ended_paired rest) = let h = paired_count rest in omega (arith, h)

names_count : {text : List ℕ} {depth : ℕ} {r : Reading} {before after : Option Mark} {ms : List Mark} {es : List ℕ} {names : List (List ℕ)} → NamesOf text depth r before ms es after names
    → bit (is_some before) + tokens_in ms ≡ length es + bit (is_some after)
names_count none = omega arith
names_count (plain {marks = ms} m is h) = let n = names_count h in let z : bit (is_token m.kind) ≡ 0 = ap bit is in let t = tokens_more ms m in omega (arith, n, z, t)
names_count (token {marks = ms} m is h) = let n = names_count h in let z : bit (is_token m.kind) ≡ 1 = ap bit is in let t = tokens_more ms m in omega (arith, n, z, t)
names_count (ended {ends = es} m end within h) = let n = names_count h in let l : length (es ++ end ∷ []) ≡ length es + length (end ∷ []) = length-append es (end ∷ []) in omega (arith, n, l)

same_bit : (b c : Bool) → bit b ≡ bit c → b ≡ c
same_bit true true h = refl
same_bit false false h = refl
same_bit true false h = absurd (omega (arith, h))
same_bit false true h = absurd (omega (arith, h))

-- ---- the tokens of the first bytes of a text

abbrev IsPaired : LexState → Track → Type 0
IsPaired s t = Paired false t.marks t.ends (in_token s)

pub tokens_paired : (m : FrontMark) (limit : ℕ) (bytes : List ℕ) (s : LexState) (e : Expect) (o : List Holder) → read_by m limit 0 bytes ≡ reads (went s e o)
    → Paired false (tokens_by m bytes).marks (tokens_by m bytes).ends (in_token s)
tokens_paired on_mark.Refused limit bytes s e o is =
    let same : read_text limit 0 bytes ≡ went s e o = cc in
    lex_paired Gap s 0 bytes (read_came limit Gap Value [] 0 bytes s e o same).exit
tokens_paired on_mark.Ignored limit bytes s e o is = go (cases (agreed bytes byte_order_mark) (length bytes) (agreed_short bytes byte_order_mark))
  where
    n : ℕ
    n = agreed bytes byte_order_mark

    go : Case (agreed bytes byte_order_mark) (length bytes) → IsPaired s (tokens_by on_mark.Ignored bytes)
    go (whole q) =
        let here : reads (read_text limit (0 + 3) (drop 3 bytes)) ≡ reads (went s e o) = sym (by_whole n limit 0 bytes q) ∙ is in
        let same : read_text limit 3 (drop 3 bytes) ≡ went s e o = cc in
        subst (IsPaired s) (sym (tokens_whole bytes q)) (lex_paired Gap s 3 (drop 3 bytes) (read_came limit Gap Value [] 3 (drop 3 bytes) s e o same).exit)
    go (part_of_mark other q) = let here : in_front n ≡ reads (went s e o) = sym (by_part n limit 0 bytes other q) ∙ is in absurd cc
    go (no_mark q some) =
        let here : reads (read_text limit 0 bytes) ≡ reads (went s e o) = sym (by_none n limit 0 bytes q some) ∙ is in
        let same : read_text limit 0 bytes ≡ went s e o = cc in
        subst (IsPaired s) (sym (tokens_bare bytes q)) (lex_paired Gap s 0 bytes (read_came limit Gap Value [] 0 bytes s e o same).exit)
    go (cut other some less) = let here : reads (stopped (0 + n)) ≡ reads (went s e o) = sym (by_cut n limit 0 bytes other some less) ∙ is in absurd cc

-- no token has begun before the first byte
in_first : (f : FrontMark) (z : Outcome) → z ≡ at_start f → in_token (state_behind z) ≡ false
in_first on_mark.Refused z e = ap (λ (y : Outcome). in_token (state_behind y)) e
in_first on_mark.Ignored z e = ap (λ (y : Outcome). in_token (state_behind y)) e

-- ---- the chunks of a text

module _ (settings : Settings) (size : ℕ) (text : List ℕ) where
  begun_last : {count : ℕ} {last : Option Mark} {names : List (List (List ℕ))} (h : AreNamed settings size text count last names) → begun_at h count ≡ last
  begun_last none_named = refl
  begun_last (more {n = k} {later = later} h own) = let b : (suc k == suc k) ≡ true = grind (arith, nat_tests) in ap (λ (x : Bool). cond x later (begun_at h (suc k))) b

  pub begun_first : {count : ℕ} {last : Option Mark} {names : List (List (List ℕ))} (h : AreNamed settings size text count last names) → begun_at h 0 ≡ None
  begun_first none_named = refl
  begun_first (more {n = k} {later = later} h own) = let b : (0 == suc k) ≡ false = grind (arith, nat_tests) in ap (λ (x : Bool). cond x later (begun_at h 0)) b ∙ begun_first h

  names_long : {count : ℕ} {last : Option Mark} {names : List (List (List ℕ))} → AreNamed settings size text count last names → length names ≡ count
  names_long none_named = refl
  names_long (more {names = names} {own = own} h is) = let l : length (names ++ own ∷ []) ≡ length names + length (own ∷ []) = length-append names (own ∷ []) in let n = names_long h in omega (arith, l, n)

  pub record Own (n : ℕ) (begun later : Option Mark) (names : List (List (List ℕ))) : Type 0 where
    pub own : List (List ℕ)
    pub is : slice_get names n ≡ Some own
    pub of : NamesOf (take (suc n * size) text) settings.depth (reading_before settings text (n * size)) begun (moved_marks (n * size) (track_at settings size text n).marks) (moved_ends (n * size) (track_at settings size text n).ends) later own

  got_left : (xs ys : List (List (List ℕ))) (i : ℕ) → i < length xs → slice_get (xs ++ ys) i ≡ slice_get xs i
  got_left [] ys i low = absurd (omega (arith, low))
  got_left (x ∷ xs) ys zero low = refl
  got_left (x ∷ xs) ys (suc i) low = got_left xs ys i (omega (arith, low))

  got_last : (xs : List (List (List ℕ))) (y : List (List ℕ)) (i : ℕ) → i ≡ length xs → slice_get (xs ++ y ∷ []) i ≡ Some y
  got_last [] y zero e = refl
  got_last [] y (suc i) e = absurd (omega (arith, e))
  got_last (x ∷ xs) y zero e = absurd (omega (arith, e))
  got_last (x ∷ xs) y (suc i) e = got_last xs y i (omega (arith, e))

  -- the names of a chunk, by the tokens that have begun before it and behind it
  pub own_names : {count : ℕ} {last : Option Mark} {names : List (List (List ℕ))} (h : AreNamed settings size text count last names) (n : ℕ) → n < count → Own n (begun_at h n) (begun_at h (suc n)) names
  own_names none_named n low = absurd (omega (arith, low))
  own_names (more {n = k} {begun = begun} {later = later} {names = names} {own = own} h of) n low = pick (cases_lt n k) (λ lt. own_names h n lt)
    where
      long : length names ≡ k
      long = names_long h

      pick : ((n < k) ⊎ (k ≤ n)) → (n < k → Own n (begun_at h n) (begun_at h (suc n)) names) → Own n (cond (n == suc k) later (begun_at h n)) (cond (suc n == suc k) later (begun_at h (suc n))) (names ++ own ∷ [])
      pick (inl lt) before =
          let o = before lt in
          let b : (n == suc k) ≡ false = grind (arith, nat_tests) in
          let c : (suc n == suc k) ≡ false = grind (arith, nat_tests) in
          subst (λ (x : Bool). Own n (cond x later (begun_at h n)) (cond (suc n == suc k) later (begun_at h (suc n))) (names ++ own ∷ [])) (sym b)
          (subst (λ (x : Bool). Own n (begun_at h n) (cond x later (begun_at h (suc n))) (names ++ own ∷ [])) (sym c)
          (record { own = o.own; is = got_left names (own ∷ []) n (omega (arith, lt, long)) ∙ o.is; of = o.of }))
      pick (inr ge) before =
          let same : k ≡ n = omega (arith, low, ge) in
          let b : (n == suc k) ≡ false = grind (arith, nat_tests) in
          let c : (suc n == suc k) ≡ true = grind (arith, nat_tests) in
          let is_last : begun ≡ begun_at h n = sym (begun_last h) ∙ ap (begun_at h) same in
          subst (λ (x : Bool). Own n (cond x later (begun_at h n)) (cond (suc n == suc k) later (begun_at h (suc n))) (names ++ own ∷ [])) (sym b)
          (subst (λ (x : Bool). Own n (begun_at h n) (cond x later (begun_at h (suc n))) (names ++ own ∷ [])) (sym c)
          (subst (λ (x : Option Mark). Own n x later (names ++ own ∷ [])) is_last
          (subst (λ (i : ℕ). Own i begun later (names ++ own ∷ [])) same
          (record { own = own; is = got_last names own k (sym long); of = of }))))

  -- ---- a token has begun where the reading stands in one

  module _ (goes : Goes settings.mark settings.depth text) (two : InPieces) (wide : 64 ≤ size) where
    abbrev m : FrontMark
    m = settings.mark

    abbrev limit : ℕ
    limit = settings.depth

    chunk_paired : (n : ℕ) → suc n * size ≤ length text → Paired (in_token (state_behind (before settings text (n * size)))) (track_at settings size text n).marks (track_at settings size text n).ends (in_token (state_behind (before settings text (suc n * size))))
    chunk_paired zero within =
        let next = stands_here settings size text goes two 1 wide (λ e. absurd (omega (arith, e))) within in
        let one : take (0 * size) text ≡ [] = none_before settings size text goes two 0 refl in
        let bytes : part size text 0 ≡ take (1 * size) text = ap (λ (xs : List ℕ). xs ++ part size text 0) (sym one) ∙ part_taken size text 0 in
        let reading : read_by m limit 0 (part size text 0) ≡ reads (went next.state next.expect next.holders) = ap (read_by m limit 0) bytes ∙ next.is in
        let paired = tokens_paired m limit (part size text 0) next.state next.expect next.holders reading in
        let track : tokens_by m (part size text 0) ≡ track_at settings size text 0 = first_track settings size text goes two 0 (part size text 0) refl refl in
        let from : false ≡ in_token (state_behind (before settings text (0 * size))) = sym (in_first m (before settings text (0 * size)) (ap (read_by m limit 0) one ∙ none_read m limit)) in
        let to : in_token next.state ≡ in_token (state_behind (before settings text (1 * size))) = ap (λ (z : Outcome). in_token (state_behind z)) (sym next.is) in
        subst (λ (b : Bool). Paired b (track_at settings size text 0).marks (track_at settings size text 0).ends (in_token (state_behind (before settings text (1 * size))))) from
        (subst (λ (b : Bool). Paired false (track_at settings size text 0).marks (track_at settings size text 0).ends b) to
        (subst (λ (t : Track). Paired false t.marks t.ends (in_token next.state)) track paired))
    chunk_paired (suc k) within =
        let n = suc k in
        let grown : suc n * size ≡ n * size + size = suc-mul n size in
        let low : n * size ≤ length text = omega (arith, grown, within) in
        let other : n ≡ 0 → ⊥ = λ e. absurd (omega (arith, e)) in
        let here = stands_here settings size text goes two n wide other low in
        let next = stands_behind settings size text goes two n wide other low in
        let bytes = take (n * size) text in
        let l = leads m limit (length bytes) bytes (part size text n) here.state next.state here.expect next.expect here.holders next.holders refl here.is next.is in
        let paired = lex_paired here.state next.state 0 (part size text n) (state_on (length bytes) here.state next.state (part size text n) l.exit) in
        let track : lex here.state 0 (part size text n) ≡ track_at settings size text n = later_track settings size text goes two n here.state (part size text n) wide other low (ap state_behind (sym here.is)) refl in
        let from : in_token here.state ≡ in_token (state_behind (before settings text (n * size))) = ap (λ (z : Outcome). in_token (state_behind z)) (sym here.is) in
        let to : in_token next.state ≡ in_token (state_behind (before settings text (suc n * size))) =
        ap (λ (z : Outcome). in_token (state_behind z)) (sym next.is) ∙ ap (λ (xs : List ℕ). in_token (state_behind (read_by m limit 0 xs))) (part_taken size text n) in
        subst (λ (b : Bool). Paired b (track_at settings size text n).marks (track_at settings size text n).ends (in_token (state_behind (before settings text (suc n * size))))) from
        (subst (λ (b : Bool). Paired (in_token here.state) (track_at settings size text n).marks (track_at settings size text n).ends b) to
        (subst (λ (t : Track). Paired (in_token here.state) t.marks t.ends (in_token next.state)) track paired))

    pub begun_stands : {count : ℕ} {last : Option Mark} {names : List (List (List ℕ))} (h : AreNamed settings size text count last names) (n : ℕ) → n ≤ count → n * size ≤ length text
        → is_some (begun_at h n) ≡ in_token (state_behind (before settings text (n * size)))
    begun_stands h zero low within =
        ap is_some (begun_first h) ∙ sym (in_first m (before settings text (0 * size)) (ap (read_by m limit 0) (none_before settings size text goes two 0 refl) ∙ none_read m limit))
    begun_stands h (suc n) low within =
        let grown : suc n * size ≡ n * size + size = suc-mul n size in
        let was = begun_stands h n (omega (arith, low)) (omega (arith, grown, within)) in
        let o = own_names h n (omega (arith, low)) in
        let t = track_at settings size text n in
        let c = names_count o.of in
        let p = paired_count (chunk_paired n within) in
        let marks = tokens_moved (n * size) t.marks in
        let ends = ends_moved (n * size) t.ends in
        let first : bit (is_some (begun_at h n)) ≡ bit (in_token (state_behind (before settings text (n * size)))) = ap bit was in
        same_bit (is_some (begun_at h (suc n))) (in_token (state_behind (before settings text (suc n * size)))) (omega (arith, c, p, marks, ends, first))

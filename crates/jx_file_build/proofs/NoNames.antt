-- What is gathered of tokens of which only the counts are known, where arrays are open around them: no name.
use Rattle.std.proofs.Common.{◌≡◌, ℕ, suc, ◌+◌, ◌-◌, ◌≤◌, List, [], ◌∷◌, ◌++◌, length, take, replicate, reverse, Bool, true, false, refl, sym, ap, subst, ◌∙◌, append-nil, append_assoc, arith, Option, None}
use Rattle.std.specs.Prelude.{◌==◌, fold, if◌then◌else◌}
use Rattle.std.proofs.lemmas.Bool.Decides.{nat_tests}
use Rattle.std.proofs.lemmas.List.{length-take-le, take-append-drop}
use Rattle.std.proofs.lemmas.List.Sums.{fold-append}
use Rattle.jx_lex.specs.declared.alphabet.mark.Mark.{Mark}
use Rattle.jx_lex.specs.declared.alphabet.mark.MarkKind.{MarkKind}
use Rattle.jx_lex.specs.declared.alphabet.mark.MarkKind.TheVariants as mark
use Rattle.jx_lex.specs.declared.scanner.counts.TokenCounts.{TokenCounts}
use Rattle.jx_lex.specs.Counts.{HasCounts, is_brace}
use Rattle.jx_lex.specs.Seen.{has_end}
use Rattle.jx_lex.proofs.InArrays.{counted_in_arrays, levels_fit, resized_end, reverse_end}
use Rattle.jx_lex.proofs.InArrays as arrays
use Rattle.jx_file_index.specs.declared.sum.Sum.{Sum}
use Rattle.jx_file_index.specs.Sums.{at_comma, closing, noted}
use Rattle.jx_file_build.specs.declared.open_kinds.NamePlace.{NamePlace}
use Rattle.jx_file_build.specs.declared.open_kinds.NamePlace.TheVariants.{Elsewhere}
use Rattle.jx_file_build.specs.declared.open_kinds.OpenKinds.{OpenKinds}
use Rattle.jx_file_build.specs.inside.ChunkNames.{HasGathered, Start}
use Rattle.jx_file_build.specs.inside.OpenKinds.{IsInArrays, Kinds, after, kinds, resized}
use Rattle.jx_file_build.proofs.Gathering.{has_plain, whole_other}
use Rattle.jx_file_build.proofs.Tallies.{token_stays}

-- ---- how many containers that were open before are closed

abbrev on_from : Sum → List Mark → Sum
on_from s marks = fold (λ s mark. noted mark.kind s) s marks

one_closes_more : (s : Sum) → s.closed ≤ (closing s).closed
one_closes_more s = by_open (s.opened == 0)
  where
    by_open : (b : Bool) → s.closed ≤ (if b then record { closed = suc s.closed; opened = 0; commas = 0 } else record s { opened = s.opened - 1 }).closed
    by_open true = omega arith
    by_open false = omega arith

comma_closes_none : (s : Sum) → s.closed ≤ (at_comma s).closed
comma_closes_none s = by_open (s.opened == 0)
  where
    by_open : (b : Bool) → s.closed ≤ (if b then record s { commas = suc s.commas } else s).closed
    by_open true = omega arith
    by_open false = omega arith

closes_more : (k : MarkKind) (s : Sum) → s.closed ≤ (noted k s).closed
closes_more mark.OpenArray s = omega arith
closes_more mark.OpenObject s = omega arith
closes_more mark.CloseArray s = one_closes_more s
closes_more mark.CloseObject s = one_closes_more s
closes_more mark.Comma s = comma_closes_none s
closes_more mark.Colon s = omega arith
closes_more mark.String s = omega arith
closes_more mark.Number s = omega arith
closes_more mark.True s = omega arith
closes_more mark.False s = omega arith
closes_more mark.Null s = omega arith

all_close_more : (s : Sum) (marks : List Mark) → s.closed ≤ (on_from s marks).closed
all_close_more s [] = omega arith
all_close_more s (m ∷ marks) =
    let here = closes_more m.kind s in
    let rest = all_close_more (noted m.kind s) marks in
    omega (arith, here, rest)

-- what is kept of hashes
abbrev kept_of : Sum → Sum → List ℕ → List ℕ
kept_of behind before hashes = if behind.closed == before.closed then hashes else []

kept_twice : (a b c : ℕ) (hashes : List ℕ) → a ≤ b → b ≤ c → (if c == a then hashes else []) ≡ (if c == b then (if b == a then hashes else []) else [])
kept_twice a b c hashes low high = by_tests (c == a) (c == b) (b == a) refl refl refl
  where
    by_tests : (x y z : Bool) → (c == a) ≡ x → (c == b) ≡ y → (b == a) ≡ z → (if x then hashes else []) ≡ (if y then (if z then hashes else []) else [])
    by_tests true true true e f g = refl
    by_tests true true false e f g = absurd (grind (arith, nat_tests))
    by_tests true false z e f g = absurd (grind (arith, nat_tests))
    by_tests false true true e f g = absurd (grind (arith, nat_tests))
    by_tests false true false e f g = refl
    by_tests false false z e f g = refl

-- ---- arrays in one another

module _ (start : Start) (own : List ℕ) (base : ℕ) (begun : Option Mark) (name : List ℕ) (none : begun ≡ None) (before : List Mark) (others : List ℕ) (outer : List Bool) (sum : Sum) (hashes : List ℕ) where
  abbrev pub in_arrays : ℕ → Kinds
  in_arrays n = record { opened = replicate n false ++ outer; name = Elsewhere }

  plain_after : (k : MarkKind) (n : ℕ) → is_brace k ≡ false → has_end k ≡ false → in_arrays (arrays.after k n) ≡ after k (in_arrays (suc n))
  plain_after mark.OpenArray n b h = refl
  plain_after mark.CloseArray n b h = refl
  plain_after mark.OpenObject n b h = absurd cc
  plain_after mark.CloseObject n b h = absurd cc
  plain_after mark.Colon n b h = refl
  plain_after mark.Comma n b h = refl
  plain_after mark.String n b h = absurd cc
  plain_after mark.Number n b h = absurd cc
  plain_after mark.True n b h = absurd cc
  plain_after mark.False n b h = absurd cc
  plain_after mark.Null n b h = absurd cc

  whole_after : (k : MarkKind) (n : ℕ) → has_end k ≡ true → in_arrays (suc n) ≡ after k (in_arrays (suc n))
  whole_after mark.OpenArray n h = absurd cc
  whole_after mark.CloseArray n h = absurd cc
  whole_after mark.OpenObject n h = absurd cc
  whole_after mark.CloseObject n h = absurd cc
  whole_after mark.Colon n h = absurd cc
  whole_after mark.Comma n h = absurd cc
  whole_after mark.String n h = refl
  whole_after mark.Number n h = refl
  whole_after mark.True n h = refl
  whole_after mark.False n h = refl
  whole_after mark.Null n h = refl

  abbrev pub Has : ℕ → List Mark → List ℕ → Type 0
  Has n marks ends = HasGathered start (before ++ marks) (others ++ ends) own base (in_arrays n) (on_from sum marks) begun name (kept_of (on_from sum marks) sum hashes)

  one_more : (marks : List Mark) (m : Mark) → on_from sum (marks ++ m ∷ []) ≡ noted m.kind (on_from sum marks)
  one_more marks m = fold-append (λ s mark. noted mark.kind s) sum marks (m ∷ [])

  pub plain : (n : ℕ) (m : Mark) (marks : List Mark) (ends : List ℕ) → is_brace m.kind ≡ false → has_end m.kind ≡ false → Has (suc n) marks ends → Has (arrays.after m.kind n) (marks ++ m ∷ []) ends
  plain n m marks ends b h s =
      let next : Sum = noted m.kind (on_from sum marks) in
      let more = one_more marks m in
      let left = kept_twice sum.closed (on_from sum marks).closed next.closed hashes (all_close_more sum marks) (closes_more m.kind (on_from sum marks)) in
      subst (λ (t : Sum). HasGathered start (before ++ (marks ++ m ∷ [])) (others ++ ends) own base (in_arrays (arrays.after m.kind n)) t begun name (kept_of t sum hashes)) (sym more)
      (subst (λ (ms : List Mark). HasGathered start ms (others ++ ends) own base (in_arrays (arrays.after m.kind n)) next begun name (kept_of next sum hashes)) (append_assoc before marks (m ∷ []))
      (has_plain start (before ++ marks) (others ++ ends) own base (in_arrays (suc n)) (on_from sum marks) begun name (kept_of (on_from sum marks) sum hashes) s m (base + m.at)
      (in_arrays (arrays.after m.kind n)) next refl none (plain_after m.kind n b h) refl (kept_of next sum hashes) h left))

  pub whole : (n : ℕ) (m : Mark) (to : ℕ) (marks : List Mark) (ends : List ℕ) → has_end m.kind ≡ true → Has (suc n) marks ends → Has (suc n) (marks ++ m ∷ []) (ends ++ to ∷ [])
  whole n m to marks ends h s =
      let same : on_from sum marks ≡ on_from sum (marks ++ m ∷ []) = token_stays m.kind (on_from sum marks) h ∙ sym (one_more marks m) in
      let more : (before ++ marks) ++ m ∷ [] ≡ before ++ (marks ++ m ∷ []) = append_assoc before marks (m ∷ []) in
      let further : (others ++ ends) ++ to ∷ [] ≡ others ++ (ends ++ to ∷ []) = append_assoc others ends (to ∷ []) in
      subst (λ (t : Sum). HasGathered start (before ++ (marks ++ m ∷ [])) (others ++ (ends ++ to ∷ [])) own base (in_arrays (suc n)) t begun name (kept_of t sum hashes)) same
      (subst (λ (ms : List Mark). HasGathered start ms (others ++ (ends ++ to ∷ [])) own base (in_arrays (suc n)) (on_from sum marks) begun name (kept_of (on_from sum marks) sum hashes)) more
      (subst (λ (es : List ℕ). HasGathered start ((before ++ marks) ++ m ∷ []) es own base (in_arrays (suc n)) (on_from sum marks) begun name (kept_of (on_from sum marks) sum hashes)) further
      (whole_other start (before ++ marks) (others ++ ends) own base (in_arrays (suc n)) (on_from sum marks) begun name (kept_of (on_from sum marks) sum hashes) s m (base + m.at) to
      (in_arrays (suc n)) refl none (whole_after m.kind n h) h name refl)))

-- ---- tokens that have these counts

kept_all : (n : ℕ) (hashes : List ℕ) → hashes ≡ (if n == n then hashes else [])
kept_all n hashes = by_test (n == n) refl
  where
    by_test : (b : Bool) → (n == n) ≡ b → hashes ≡ (if b then hashes else [])
    by_test true e = refl
    by_test false e = absurd (grind (arith, nat_tests))

module _ (start : Start) (own : List ℕ) (base : ℕ) (was : OpenKinds) (sum : Sum) (begun : Option Mark) (name hashes : List ℕ) (none : begun ≡ None) (counts : TokenCounts) (depth : ℕ)
    (c : IsInArrays was (counts.lowest + 1)) (braces : counts.braces ≡ 0) (deep : depth + counts.closing ≡ length was.are_objects.items + counts.opening) where
  abbrev outer : List Bool
  outer = take (length was.are_objects.items - (counts.lowest + 1)) was.are_objects.items

  abbrev then_open : ℕ → Kinds
  then_open n = record { opened = replicate n false ++ reverse outer; name = Elsewhere }

  pub has_counted : (next : Kinds) (behind : Sum) (left : List ℕ) → next ≡ record (kinds was) { opened = reverse (resized depth was.are_objects.items) }
      → (marks ms : List Mark) (ends es : List ℕ) → HasCounts ms es counts → behind ≡ on_from sum ms → left ≡ kept_of behind sum hashes
      → HasGathered start marks ends own base (kinds was) sum begun name hashes → HasGathered start (marks ++ ms) (ends ++ es) own base next behind begun name left
  has_counted next behind left is marks ms ends es h sum_is left_is s =
      let items = was.are_objects.items in
      let opened : items ≡ outer ++ replicate (counts.lowest + 1) false =
      sym (take-append-drop (length items - (counts.lowest + 1)) items) ∙ ap (λ (xs : List Bool). outer ++ xs) c.arrays.last in
      let fit = levels_fit counts ms es h in
      let fits = c.arrays.fits in
      let long : length outer ≡ length items - (counts.lowest + 1) = length-take-le (length items - (counts.lowest + 1)) items (omega arith) in
      let last = depth - length outer in
      let there : length outer + last ≡ depth = omega (arith, fit, fits, deep, long) in
      let ends_there : (n : ℕ) → reverse (outer ++ replicate n false) ≡ replicate n false ++ reverse outer = reverse_end false outer in
      let name_is = c.name in
      let first : kinds was ≡ then_open (counts.lowest + 1) =
      ap (λ (os : List Bool). record { opened = os; name = was.name }) (ap reverse opened ∙ ends_there (counts.lowest + 1))
      ∙ ap (λ (p : NamePlace). record { opened = replicate (counts.lowest + 1) false ++ reverse outer; name = p }) name_is in
      let at_end : then_open last ≡ next =
      ap (λ (os : List Bool). record { opened = os; name = Elsewhere })
      (sym (ends_there last)
      ∙ ap reverse (sym (resized_end false outer (counts.lowest + 1) last) ∙ ap (λ (n : ℕ). resized n (outer ++ replicate (counts.lowest + 1) false)) there ∙ ap (resized depth) (sym opened)))
      ∙ ap (λ (p : NamePlace). record { opened = reverse (resized depth items); name = p }) (sym name_is)
      ∙ sym is in
      subst (λ (xs : List ℕ). HasGathered start (marks ++ ms) (ends ++ es) own base next behind begun name xs) (sym left_is)
      (subst (λ (t : Sum). HasGathered start (marks ++ ms) (ends ++ es) own base next t begun name (kept_of t sum hashes)) (sym sum_is)
      (subst (λ (k : Kinds). HasGathered start (marks ++ ms) (ends ++ es) own base k (on_from sum ms) begun name (kept_of (on_from sum ms) sum hashes)) at_end
      (counted_in_arrays (Has start own base begun name none marks ends (reverse outer) sum hashes)
      (plain start own base begun name none marks ends (reverse outer) sum hashes)
      (whole start own base begun name none marks ends (reverse outer) sum hashes)
      counts last ms es h braces (omega (arith, fit, fits, deep, long, there))
      (subst (λ (xs : List Mark). HasGathered start xs (ends ++ []) own base (then_open (counts.lowest + 1)) sum begun name (kept_of sum sum hashes)) (sym (append-nil marks))
      (subst (λ (xs : List ℕ). HasGathered start marks xs own base (then_open (counts.lowest + 1)) sum begun name (kept_of sum sum hashes)) (sym (append-nil ends))
      (subst (λ (xs : List ℕ). HasGathered start marks ends own base (then_open (counts.lowest + 1)) sum begun name xs) (kept_all sum.closed hashes)
      (subst (λ (k : Kinds). HasGathered start marks ends own base k sum begun name hashes) first s)))))))

-- What the entries of a text tell of its line feeds.
use Rattle.std.proofs.Common.{◌≡◌, ℕ, zero, suc, ◌+◌, ◌-◌, ◌*◌, ◌<◌, ◌≤◌, inl, inr, List, [], ◌∷◌, ◌++◌, length, take, drop, get_or, refl, sym, ◌∙◌, ap, subst, arith}
use Rattle.std.proofs.lemmas.Bool.{cases_lt}
use Rattle.std.proofs.lemmas.List.{get_or_append_left, get_or_push, get_or_read, length-take-le, take-append-drop, take_all}
use Rattle.std.proofs.Math.Nat.{mul-le-mul_right, suc-mul}
use Rattle.std.proofs.Math.Seq.{take-add}
use Rattle.jx_file_index.specs.Chunks.{part}
use Rattle.jx_file_index.specs.Digest.{xxh64}
use Rattle.jx_file_lines.specs.declared.line_index.LineEntry.{LineEntry}
use Rattle.jx_file_lines.specs.declared.line_index.LineIndex.{LineIndex}
use Rattle.jx_file_lines.specs.Lines.{feeds_in, line_start}
use Rattle.jx_file_lines.specs.Places.{BeginsIn}
use Rattle.jx_file_lines.specs.TextLines.{IsLineIndexOf, entries_of, entry_at, feeds_before}
use Rattle.jx_file_lines.proofs.Entries.{entries_long, feeds_append, feeds_told, no_entry}
use Rattle.jx_file_lines.proofs.Starts.{start_behind, start_past, start_within}

push_same : (es : List LineEntry) (e : LineEntry) (m : ℕ) → m ≤ length es → feeds_before (es ++ e ∷ []) m ≡ feeds_before es m
push_same es e zero low = refl
push_same es e (suc m) low = ap (λ (x : LineEntry). x.feeds) (get_or_append_left es (e ∷ []) no_entry m (omega (arith, low)))

-- at each place
pub told_at : (size : ℕ) (text : List ℕ) (n m : ℕ) → m ≤ n → feeds_before (entries_of size text n) m ≡ feeds_in (take (m * size) text)
unfolding entries_of
told_at size text zero m low = subst (λ (k : ℕ). feeds_before (entries_of size text 0) k ≡ feeds_in (take (k * size) text)) (let e : 0 ≡ m = omega (arith, low) in e) (feeds_told size text 0)
told_at size text (suc n) m low =
    elim (cases_lt n m) [
      | inl past ↦ subst (λ (k : ℕ). feeds_before (entries_of size text (suc n)) k ≡ feeds_in (take (k * size) text)) (let e : suc n ≡ m = omega (arith, low, past) in e) (feeds_told size text (suc n))
      | inr le ↦ push_same (entries_of size text n) (entry_at size text n) m (let l = entries_long size text n in omega (arith, l, le)) ∙ told_at size text n m le
    ]

-- the entry at a place
pub entry_told : (size : ℕ) (text : List ℕ) (n m : ℕ) → m < n → get_or (entries_of size text n) m no_entry ≡ entry_at size text m
unfolding entries_of
entry_told size text zero m low = absurd (omega (arith, low))
entry_told size text (suc n) m low =
    elim (cases_lt m n) [
      | inl lt ↦ get_or_append_left (entries_of size text n) (entry_at size text n ∷ []) no_entry m (let l = entries_long size text n in omega (arith, l, lt)) ∙ entry_told size text n m lt
      | inr le ↦
          let e : m ≡ n = omega (arith, low, le) in
          get_or_push (entries_of size text n) (entry_at size text n) no_entry m (entries_long size text n ∙ sym e) ∙ ap (λ (k : ℕ). entry_at size text k) (sym e)
    ]

module _ (size : ℕ) (text : List ℕ) (index : LineIndex) (is : IsLineIndexOf size text index) where
  abbrev es : List LineEntry
  es = index.entries.items

  abbrev count : ℕ
  count = length index.entries.items

  told : (m : ℕ) → m ≤ count → feeds_before es m ≡ feeds_in (take (m * size) text)
  told m low = ap (λ (xs : List LineEntry). feeds_before xs m) is.entries_are ∙ told_at size text count m low

  -- all of them
  pub told_all : feeds_before es count ≡ feeds_in text
  told_all = told count (omega arith) ∙ ap feeds_in (take_all (count * size) text is.counted.enough)

  -- the digest of a chunk
  pub digest_told : (m : ℕ) (e : LineEntry) → m < count → e ≡ get_or es m e → e.digest ≡ xxh64 (part size text m)
  digest_told m e low read =
      ap (λ (x : LineEntry). x.digest) (get_or_read es m e low read no_entry ∙ ap (λ (xs : List LineEntry). get_or xs m no_entry) is.entries_are ∙ entry_told size text count m low)

  -- the text ends before so many
  pub ends_before : (feeds : ℕ) → feeds_before es count < feeds → line_start feeds text ≡ index.size
  ends_before feeds few = start_past feeds text (let t = told_all in omega (arith, t, few)) ∙ sym is.size_is

  -- the chunk at a place has the last of so many
  pub begins_in : (feeds m : ℕ) → m < count → feeds_before es m < feeds → feeds ≤ feeds_before es (suc m) → BeginsIn size text feeds m (feeds - feeds_before es m)
  begins_in feeds m low few has =
      let front = take (m * size) text in
      let chunk = part size text m in
      let rest = drop size (drop (m * size) text) in
      let f : feeds_before es m ≡ feeds_in front = told m (omega (arith, low)) in
      let g : feeds_before es (suc m) ≡ feeds_in (take (suc m * size) text) = told (suc m) (omega (arith, low)) in
      let s : suc m * size ≡ m * size + size = suc-mul m size in
      let joined : feeds_in (take (suc m * size) text) ≡ feeds_in front + feeds_in chunk =
      ap (λ (k : ℕ). feeds_in (take k text)) s ∙ ap feeds_in (take-add (m * size) size text) ∙ feeds_append front chunk in
      let b : suc m * size ≤ count * size = mul-le-mul_right size low in
      let c = is.counted.fewest in
      let long : length front ≡ m * size = length-take-le (m * size) text (omega (arith, s, b, c)) in
      let own = feeds - feeds_before es m in
      let split : text ≡ front ++ (chunk ++ rest) =
      sym (ap (λ (xs : List ℕ). front ++ xs) (take-append-drop size (drop (m * size) text)) ∙ take-append-drop (m * size) text) in
      let behind : line_start feeds (front ++ (chunk ++ rest)) ≡ length front + line_start (suc (own - 1)) (chunk ++ rest) = start_behind feeds (own - 1) front (chunk ++ rest) (omega (arith, f, few)) in
      let same : line_start (suc (own - 1)) (chunk ++ rest) ≡ line_start own (chunk ++ rest) = ap (λ (k : ℕ). line_start k (chunk ++ rest)) (let e : suc (own - 1) ≡ own = omega (arith, few) in e) in
      let has_own : own ≤ feeds_in chunk = omega (arith, f, g, joined, has, few) in
      let within : line_start own (chunk ++ rest) ≡ line_start own chunk = start_within own chunk rest has_own in
      record {
        start = ap (λ (xs : List ℕ). line_start feeds xs) split ∙ (let e : line_start feeds (front ++ (chunk ++ rest)) ≡ m * size + line_start own chunk = omega (arith, behind, same, within, long) in e);
        has = has_own;
      }

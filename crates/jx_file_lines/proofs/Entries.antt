-- The entries of chunks that are read one behind another.
use Rattle.std.proofs.Common.{◌≡◌, ℕ, zero, suc, ◌+◌, ◌-◌, ◌*◌, ◌<◌, ◌≤◌, List, [], ◌∷◌, ◌++◌, length, take, drop, refl, sym, ◌∙◌, ap, subst, append_assoc, append-nil, arith}
use Rattle.std.proofs.lemmas.List.{drop-append-le, drop_all, drop_at, get_or_push, length-append, length-drop, length-take-le, length_push, nil_from_length, take-append-drop, take-append-le, take_all}
use Rattle.std.proofs.lemmas.List.Sums.{sum_by-append}
use Rattle.std.proofs.Math.Nat.{suc-mul}
use Rattle.jx_file_index.specs.Chunks.{IsCount, part}
use Rattle.jx_file_index.specs.Digest.{xxh64}
use Rattle.jx_file_lines.specs.declared.line_index.LineEntry.{LineEntry}
use Rattle.jx_file_lines.specs.Feeding.{AreEntered}
use Rattle.jx_file_lines.specs.Lines.{feeds_in, is_line_feed}
use Rattle.jx_file_lines.specs.TextLines.{entries_of, entry_at, feeds_before}
use Rattle.std.specs.Prelude.{◌==◌, Bool, cond, false, true}
use Rattle.std.proofs.lemmas.Bool.Decides.{nat_tests}

abbrev pub no_entry : LineEntry
no_entry = record { feeds = 0; digest = 0 }

pub feeds_append : (xs ys : List ℕ) → feeds_in (xs ++ ys) ≡ feeds_in xs + feeds_in ys
feeds_append xs ys = sum_by-append (λ (x : ℕ). cond (is_line_feed x) 1 0) xs ys

-- as many as are asked for
pub entries_long : (size : ℕ) (text : List ℕ) (n : ℕ) → length (entries_of size text n) ≡ n
unfolding entries_of
entries_long size text zero = refl
entries_long size text (suc n) =
    let l = length_push (entries_of size text n) (entry_at size text n) in
    let h = entries_long size text n in
    omega (arith, l, h)

-- those before a place tell the line feeds before its chunk
pub feeds_told : (size : ℕ) (text : List ℕ) (n : ℕ) → feeds_before (entries_of size text n) n ≡ feeds_in (take (n * size) text)
unfolding entries_of
feeds_told size text zero = ap (λ (k : ℕ). feeds_in (take k text)) (let e : 0 ≡ 0 * size = omega arith in e)
feeds_told size text (suc n) =
    ap (λ (e : LineEntry). e.feeds) (get_or_push (entries_of size text n) (entry_at size text n) no_entry n (entries_long size text n))

-- what stands behind the chunks changes nothing of them
pub entries_kept : (size : ℕ) (xs ys : List ℕ) (n : ℕ) → n * size ≤ length xs → entries_of size (xs ++ ys) n ≡ entries_of size xs n
unfolding entries_of
entries_kept size xs ys zero fits = refl
entries_kept size xs ys (suc n) fits =
    let m : suc n * size ≡ n * size + size = suc-mul n size in
    let d : length (drop (n * size) xs) ≡ length xs - n * size = length-drop (n * size) xs in
    let same : part size (xs ++ ys) n ≡ part size xs n =
    ap (take size) (drop-append-le (n * size) xs ys (omega (arith, m, fits))) ∙ take-append-le size (drop (n * size) xs) ys (omega (arith, m, d, fits)) in
    let entry : entry_at size (xs ++ ys) n ≡ entry_at size xs n =
    ap (λ (zs : List ℕ). record { feeds = feeds_in zs; digest = xxh64 (part size (xs ++ ys) n) }) (take-append-le (suc n * size) xs ys fits)
    ∙ ap (λ (zs : List ℕ). record { feeds = feeds_in (take (suc n * size) xs); digest = xxh64 zs }) same in
    ap (λ (es : List LineEntry). es ++ entry_at size (xs ++ ys) n ∷ []) (entries_kept size xs ys n (omega (arith, m, fits)))
    ∙ ap (λ (e : LineEntry). entries_of size xs n ++ e ∷ []) entry

abbrev pub next_entry : List LineEntry → List ℕ → LineEntry
next_entry entries chunk = record { feeds = feeds_before entries (length entries) + feeds_in chunk; digest = xxh64 chunk }

-- one chunk more, whole or not
pub entries_more : (size : ℕ) (before chunk : List ℕ) (n : ℕ) → length before ≡ n * size → length chunk ≤ size
    → entries_of size (before ++ chunk) (suc n) ≡ entries_of size before n ++ next_entry (entries_of size before n) chunk ∷ []
unfolding entries_of
entries_more size before chunk n long fits =
    let m : suc n * size ≡ n * size + size = suc-mul n size in
    let l : length (before ++ chunk) ≡ length before + length chunk = length-append before chunk in
    let count : feeds_in (take (suc n * size) (before ++ chunk)) ≡ feeds_before (entries_of size before n) (length (entries_of size before n)) + feeds_in chunk =
    ap feeds_in (take_all (suc n * size) (before ++ chunk) (omega (arith, m, l, long, fits)))
    ∙ feeds_append before chunk
    ∙ ap (λ (xs : List ℕ). feeds_in xs + feeds_in chunk) (sym (take_all (n * size) before (omega (arith, long))))
    ∙ ap (λ (k : ℕ). k + feeds_in chunk) (sym (feeds_told size before n))
    ∙ ap (λ (k : ℕ). feeds_before (entries_of size before n) k + feeds_in chunk) (sym (entries_long size before n)) in
    let bytes : part size (before ++ chunk) n ≡ chunk = ap (take size) (drop_at before chunk (n * size) long) ∙ take_all size chunk fits in
    ap (λ (es : List LineEntry). es ++ entry_at size (before ++ chunk) n ∷ []) (entries_kept size before chunk n (omega (arith, long)))
    ∙ ap (λ (k : ℕ). entries_of size before n ++ record { feeds = k; digest = xxh64 (part size (before ++ chunk) n) } ∷ []) count
    ∙ ap (λ (xs : List ℕ). entries_of size before n ++ record { feeds = feeds_before (entries_of size before n) (length (entries_of size before n)) + feeds_in chunk; digest = xxh64 xs } ∷ []) bytes

-- the entries of all chunks
pub record AreAll (size : ℕ) (bytes : List ℕ) (entries : List LineEntry) : Type 0 where
  pub counted : IsCount size (length bytes) (length entries)
  pub entries_are : entries ≡ entries_of size bytes (length entries)

-- ---- a part of a chunk is held

module _ (size : ℕ) (bytes : List ℕ) (entries : List LineEntry) (part : List ℕ) (was : AreEntered size bytes entries part) where
  abbrev whole : List ℕ
  whole = take (length entries * size) bytes

  whole_long : length whole ≡ length entries * size
  whole_long = let l = was.long in length-take-le (length entries * size) bytes (omega (arith, l))

  both : whole ++ part ≡ bytes
  both = ap (λ (xs : List ℕ). whole ++ xs) was.part_is ∙ take-append-drop (length entries * size) bytes

  same : entries ≡ entries_of size whole (length entries)
  same =
      was.entries_are
      ∙ ap (λ (xs : List ℕ). entries_of size xs (length entries)) (sym both)
      ∙ entries_kept size whole part (length entries) (let l = whole_long in omega (arith, l))

  -- the entry of the part, with these bytes behind it, is the next
  pub entries_then : (more : List ℕ) (now : List LineEntry) → length (part ++ more) ≤ size → now ≡ entries ++ next_entry entries (part ++ more) ∷ [] → now ≡ entries_of size (bytes ++ more) (suc (length entries))
  entries_then more now fits is =
      is
      ∙ ap (λ (es : List LineEntry). es ++ next_entry es (part ++ more) ∷ []) same
      ∙ sym (entries_more size whole (part ++ more) (length entries) whole_long fits)
      ∙ ap (λ (xs : List ℕ). entries_of size xs (suc (length entries))) (sym (append_assoc whole part more) ∙ ap (λ (xs : List ℕ). xs ++ more) both)

  pub count_then : (more : List ℕ) (now : List LineEntry) → now ≡ entries ++ next_entry entries (part ++ more) ∷ [] → length now ≡ suc (length entries)
  count_then more now is =
      let l : length now ≡ length (entries ++ next_entry entries (part ++ more) ∷ []) = ap (λ (es : List LineEntry). length es) is in
      let p = length_push entries (next_entry entries (part ++ more)) in
      omega (arith, l, p)

  -- the chunk is whole now
  pub entered_whole : (more : List ℕ) (now : List LineEntry) → length (part ++ more) ≡ size → now ≡ entries ++ next_entry entries (part ++ more) ∷ [] → AreEntered size (bytes ++ more) now []
  entered_whole more now long is =
      let count : length now ≡ suc (length entries) = count_then more now is in
      let m : suc (length entries) * size ≡ length entries * size + size = suc-mul (length entries) size in
      let c : length now * size ≡ suc (length entries) * size = ap (λ (k : ℕ). k * size) count in
      let l : length (bytes ++ more) ≡ length bytes + length more = length-append bytes more in
      let p : length (part ++ more) ≡ length part + length more = length-append part more in
      let w = was.long in
      let s = was.short in
      record {
        entries_are = entries_then more now (omega (arith, long)) is ∙ ap (λ (k : ℕ). entries_of size (bytes ++ more) k) (sym count);
        long = omega (arith, m, c, l, p, w, long);
        part_is = sym (drop_all (length now * size) (bytes ++ more) (omega (arith, m, c, l, p, w, long)));
        short = omega (arith, s);
      }

  -- it is not whole yet
  pub entered_more : (more now : List ℕ) → now ≡ part ++ more → length now < size → AreEntered size (bytes ++ more) entries now
  entered_more more now is short =
      let l : length (bytes ++ more) ≡ length bytes + length more = length-append bytes more in
      let n : length now ≡ length (part ++ more) = ap (λ (xs : List ℕ). length xs) is in
      let p : length (part ++ more) ≡ length part + length more = length-append part more in
      let w = was.long in
      record {
        entries_are = was.entries_are ∙ sym (entries_kept size bytes more (length entries) (omega (arith, w)));
        long = omega (arith, l, n, p, w);
        part_is = is ∙ ap (λ (xs : List ℕ). xs ++ more) was.part_is ∙ sym (drop-append-le (length entries * size) bytes more (omega (arith, w)));
        short = short;
      }

  -- all is read, and no part is left
  pub all_none : part ≡ [] → AreAll size bytes entries
  all_none none =
      let w = was.long in
      let s = was.short in
      let z : length part ≡ 0 = ap (λ (xs : List ℕ). length xs) none in
      record { counted = record { enough = omega (arith, w, z); fewest = omega (arith, w, z, s) }; entries_are = was.entries_are }

  -- all is read, and the part is the last chunk
  pub all_last : (now : List LineEntry) → 0 < length part → now ≡ entries ++ next_entry entries part ∷ [] → AreAll size bytes now
  all_last now some is =
      let nil : part ≡ part ++ [] = sym (append-nil part) in
      let taken : now ≡ entries ++ next_entry entries (part ++ []) ∷ [] = is ∙ ap (λ (xs : List ℕ). entries ++ next_entry entries xs ∷ []) nil in
      let count : length now ≡ suc (length entries) = count_then [] now taken in
      let m : suc (length entries) * size ≡ length entries * size + size = suc-mul (length entries) size in
      let c : length now * size ≡ suc (length entries) * size = ap (λ (k : ℕ). k * size) count in
      let w = was.long in
      let s = was.short in
      let fits : length (part ++ []) ≤ size = let l : length (part ++ []) ≡ length part = ap (λ (xs : List ℕ). length xs) (append-nil part) in omega (arith, l, s) in
      record {
        counted = record { enough = omega (arith, m, c, w, s); fewest = omega (arith, m, c, w, s, some) };
        entries_are =
            entries_then [] now fits taken
            ∙ ap (λ (xs : List ℕ). entries_of size xs (suc (length entries))) (append-nil bytes)
            ∙ ap (λ (k : ℕ). entries_of size bytes k) (sym count);
      }

pub none_entered : (size : ℕ) (entries : List LineEntry) (part : List ℕ) → entries ≡ [] → part ≡ [] → 0 < size → AreEntered size [] entries part
unfolding entries_of
none_entered size entries part no_entries no_part some =
    subst (λ (es : List LineEntry). AreEntered size [] es part) (sym no_entries)
    (subst (λ (xs : List ℕ). AreEntered size [] [] xs) (sym no_part)
    (record { entries_are = refl; long = omega arith; part_is = sym (drop_all (0 * size) [] (omega arith)); short = some }))

pub list_none : (xs : List ℕ) (n : ℕ) (b : Bool) → n ≡ length xs → b ≡ (n == 0) → b ≡ true → xs ≡ []
list_none xs n b long is e = nil_from_length xs (let t : (n == 0) ≡ true = sym is ∙ e in grind (arith, nat_tests))

pub list_some : (xs : List ℕ) (n : ℕ) (b : Bool) → n ≡ length xs → b ≡ (n == 0) → b ≡ false → 0 < length xs
list_some xs n b long is e = let t : (n == 0) ≡ false = sym is ∙ e in grind (arith, nat_tests)

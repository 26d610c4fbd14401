-- The chunks of a text, and what its index keeps of each.
use Rattle.std.proofs.Common.{◌≡◌, ℕ, zero, suc, ◌+◌, ◌*◌, ◌-◌, ◌<◌, ◌≤◌, min, List, [], ◌∷◌, ◌++◌, length, take, drop, refl, sym, ap, ◌∙◌, arith, Bool, true, false, Option, None, Some, inl, inr, ◌⊎◌}
use Rattle.std.specs.Prelude.{nat_lt, slice_get, slice_range, if◌then◌else◌}
use Rattle.std.proofs.lemmas.Bool.{cases_lt, le-ltb, ltb-true, ltb-false}
use Rattle.std.proofs.lemmas.List.{length-append, length-drop, take_all}
use Rattle.std.proofs.Math.Nat.{mul-le-mul_right, suc-mul}
use Rattle.std.proofs.Math.Seq.{take-add}
use Rattle.jx_summary.specs.declared.span.Span.{Span}
use Rattle.jx_run.specs.Tree.{span}
use Rattle.jx_run.specs.declared.texts.settings.Settings.{Settings}
use Rattle.jx_file_index.specs.declared.entry.Entry.{Entry}
use Rattle.jx_file_index.specs.declared.index.Index.{Index}
use Rattle.jx_file_index.specs.Chunks.{before, entries_of, entry_behind, part}
use Rattle.jx_file_index.specs.Digest.{xxh64}
use Rattle.jx_file_index.specs.Index.{AreLevels, IsIndexOf}
use Rattle.jx_file_query.specs.Chunks.{chunk_at}

-- ---- entries

pub get_left : (xs ys : List Entry) (i : ℕ) → i < length xs → slice_get (xs ++ ys) i ≡ slice_get xs i
get_left [] ys i low = absurd (omega (arith, low))
get_left (x ∷ xs) ys zero low = refl
get_left (x ∷ xs) ys (suc i) low = get_left xs ys i (omega (arith, low))

pub get_seam : (xs : List Entry) (y : Entry) (i : ℕ) → i ≡ length xs → slice_get (xs ++ y ∷ []) i ≡ Some y
get_seam [] y zero e = refl
get_seam [] y (suc i) e = absurd (omega (arith, e))
get_seam (x ∷ xs) y zero e = absurd (omega (arith, e))
get_seam (x ∷ xs) y (suc i) e = get_seam xs y i (omega (arith, e))

pub one_more : (es : List Entry) (e : Entry) (n : ℕ) → length es ≡ n → length (es ++ e ∷ []) ≡ suc n
one_more es e n h = let l : length (es ++ e ∷ []) ≡ length es + length (e ∷ []) = length-append es (e ∷ []) in omega (arith, l, h)

module _ (settings : Settings) (size : ℕ) (text : List ℕ) where
  pub entries_long : (n : ℕ) → length (entries_of settings size text n) ≡ n
  unfolding entries_of
  entries_long zero = refl
  entries_long (suc n) = one_more (entries_of settings size text n) (entry_behind (before settings text (n * size)) (part size text n)) n (entries_long n)

  abbrev pub entry : ℕ → Entry
  entry k = entry_behind (before settings text (k * size)) (part size text k)

  pub entry_got : (n k : ℕ) → k < n → slice_get (entries_of settings size text n) k ≡ Some (entry k)
  unfolding entries_of
  entry_got zero k low = absurd (omega (arith, low))
  entry_got (suc n) k low = pick (cases_lt k n) (λ lt. entry_got n k lt)
    where
      pick : ((k < n) ⊎ (n ≤ k)) → (k < n → slice_get (entries_of settings size text n) k ≡ Some (entry k)) → slice_get (entries_of settings size text n ++ entry n ∷ []) k ≡ Some (entry k)
      pick (inl lt) got = get_left (entries_of settings size text n) (entry n ∷ []) k (let l = entries_long n in omega (arith, l, lt)) ∙ got lt
      pick (inr ge) got =
          let same : n ≡ k = omega (arith, low, ge) in
          let l = entries_long n in
          get_seam (entries_of settings size text n) (entry n) k (omega (arith, l, same)) ∙ ap (λ (i : ℕ). Some (entry i)) same

-- ---- where a chunk stands

pub record IsAt (index : Index) (at : ℕ) (s : Span) : Type 0 where
  pub inside : at * index.chunk < index.size
  pub start_is : s.start ≡ at * index.chunk
  pub end_is : s.end ≡ min (at * index.chunk + index.chunk) index.size

picked : (b : Bool) (x s : Span) → (if b then Some x else None) ≡ Some s → (b ≡ true) × (x ≡ s)
picked true x s e = (refl, (cc))
picked false x s e = absurd cc

pub stands_at : (index : Index) (at : ℕ) (s : Span) → chunk_at index at ≡ Some s → IsAt index at s
stands_at index at s e =
    let p = picked (nat_lt (at * index.chunk) index.size) (span (at * index.chunk) (min (at * index.chunk + index.chunk) index.size)) s e in
    record {
      inside = ltb-true (at * index.chunk) index.size p.0;
      start_is = ap (λ (x : Span). x.start) (sym p.1);
      end_is = ap (λ (x : Span). x.end) (sym p.1);
    }

pub none_at : (index : Index) (at : ℕ) → index.size ≤ at * index.chunk → chunk_at index at ≡ None
none_at index at far =
    ap (λ (b : Bool). if b then Some (span (at * index.chunk) (min (at * index.chunk + index.chunk) index.size)) else None) (le-ltb (at * index.chunk) index.size far)

none_not : (b : Bool) (x : Span) → (if b then Some x else None) ≡ None → b ≡ false
none_not true x e = absurd cc
none_not false x e = refl

pub past_all : (index : Index) (at : ℕ) → chunk_at index at ≡ None → index.size ≤ at * index.chunk
past_all index at e = ltb-false (at * index.chunk) index.size (none_not (nat_lt (at * index.chunk) index.size) (span (at * index.chunk) (min (at * index.chunk + index.chunk) index.size)) e)

pub part_taken : (chunk : ℕ) (text : List ℕ) (at : ℕ) → take (at * chunk) text ++ part chunk text at ≡ take (suc at * chunk) text
part_taken chunk text at = sym (take-add (at * chunk) chunk text) ∙ ap (λ (n : ℕ). take n text) (let m = suc-mul at chunk in omega (arith, m))

-- ---- in a text of which it is the index

module _ (settings : Settings) (chunk : ℕ) (text : List ℕ) (index : Index) (h : IsIndexOf settings chunk text index) where
  pub within_count : (at : ℕ) → at * index.chunk < index.size → at < h.count
  within_count at low = pick (cases_lt at h.count)
    where
      pick : ((at < h.count) ⊎ (h.count ≤ at)) → at < h.count
      pick (inl lt) = lt
      pick (inr ge) =
          let m : h.count * chunk ≤ at * chunk = mul-le-mul_right chunk ge in
          let e = h.counted.enough in
          let c : at * index.chunk ≡ at * chunk = ap (λ (n : ℕ). at * n) h.chunk_is in
          let s = h.size_is in
          absurd (omega (arith, low, m, e, c, s))

  abbrev es : List Entry
  es = entries_of settings chunk text h.count

  -- what is kept of the chunk at a place
  pub entry_kept : (at : ℕ) (e : Option Entry) → at * index.chunk < index.size → ((xs : List Entry) → AreLevels xs index.entries.items index.top → at < length xs → e ≡ slice_get xs at)
      → e ≡ Some (entry settings chunk text at)
  entry_kept at e low told =
      let lt = within_count at low in
      let l = entries_long settings chunk text h.count in
      told es h.levels (omega (arith, l, lt)) ∙ entry_got settings chunk text h.count at lt

  pub chunk_is : (at : ℕ) (s : Span) → IsAt index at s → slice_range text s.start s.end ≡ part chunk text at
  chunk_is at s i =
      let c : at * index.chunk ≡ at * chunk = ap (λ (n : ℕ). at * n) h.chunk_is in
      let b : s.start ≡ at * chunk = i.start_is ∙ c in
      let e : s.end ≡ min (at * chunk + chunk) (length text) =
      i.end_is ∙ ap (λ (n : ℕ). min (n + index.chunk) index.size) c ∙ ap (λ (n : ℕ). min (at * chunk + n) index.size) h.chunk_is ∙ ap (λ (n : ℕ). min (at * chunk + chunk) n) h.size_is in
      ap (λ (n : ℕ). take (s.end - n) (drop n text)) b
      ∙ ap (λ (n : ℕ). take (n - at * chunk) (drop (at * chunk) text)) e
      ∙ cut (drop (at * chunk) text) (min (at * chunk + chunk) (length text) - at * chunk) (let l : length (drop (at * chunk) text) ≡ length text - at * chunk = length-drop (at * chunk) text in omega (arith, l))
    where
      cut : (xs : List ℕ) (n : ℕ) → n ≡ min chunk (length xs) → take n xs ≡ take chunk xs
      cut xs n e = pick (cases_lt (length xs) chunk)
        where
          pick : ((length xs < chunk) ⊎ (chunk ≤ length xs)) → take n xs ≡ take chunk xs
          pick (inl lt) = take_all n xs (omega (arith, e, lt)) ∙ sym (take_all chunk xs (omega (arith, lt)))
          pick (inr ge) = ap (λ (i : ℕ). take i xs) (omega (arith, e, ge))

  -- the digest of a chunk is that of its bytes in the text
  pub digest_kept : (at : ℕ) (s : Span) (e : Entry) → chunk_at index at ≡ Some s → ((xs : List Entry) → AreLevels xs index.entries.items index.top → at < length xs → Some e ≡ slice_get xs at)
      → e.digest ≡ xxh64 (slice_range text s.start s.end)
  digest_kept at s e is told =
      let i = stands_at index at s is in
      let same : Some e ≡ Some (entry settings chunk text at) = entry_kept at (Some e) i.inside told in
      let is_it : e ≡ entry settings chunk text at = cc in
      ap (λ (x : Entry). x.digest) is_it ∙ ap xxh64 (sym (chunk_is at s i))

  pub entry_is : (at : ℕ) (s : Span) (e : Entry) → chunk_at index at ≡ Some s → ((xs : List Entry) → AreLevels xs index.entries.items index.top → at < length xs → Some e ≡ slice_get xs at) → e ≡ entry settings chunk text at
  entry_is at s e is told = let same : Some e ≡ Some (entry settings chunk text at) = entry_kept at (Some e) (stands_at index at s is).inside told in cc

  pub kept_some : (at : ℕ) (s : Span) → chunk_at index at ≡ Some s → ((xs : List Entry) → AreLevels xs index.entries.items index.top → at < length xs → None ≡ slice_get xs at) → ⊥
  kept_some at s is told =
      let i = stands_at index at s is in
      let same : None ≡ Some (entry settings chunk text at) = entry_kept at None i.inside told in
      cc

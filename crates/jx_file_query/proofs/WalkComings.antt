-- What is known of the chunks of a text of which an index is known, and of a reader of the first.
use Rattle.std.proofs.Common.{◌≡◌, ℕ, suc, ◌*◌, ◌<◌, ◌≤◌, List, [], length, take, refl, sym, ap, subst, ◌∙◌, arith, Option, None, Some}
use Rattle.std.specs.Prelude.{IfNone, IfSome, slice_range}
use Rattle.std.proofs.lemmas.List.{length-take-le}
use Rattle.jx_lex.specs.declared.alphabet.state.LexState.{LexState}
use Rattle.jx_lex.specs.Lex as lexical
use Rattle.jx_lex.specs.Lex.{lex}
use Rattle.jx_summary.specs.declared.span.Span.{Span}
use Rattle.jx_run.specs.declared.texts.settings.Settings.{Settings}
use Rattle.jx_run.specs.Reader.{HasRead, Outcome, ReaderValue, read_by, state_behind}
use Rattle.jx_run.specs.Telling.{at_start}
use Rattle.jx_run.proofs.InTurn.{InPieces}
use Rattle.jx_file_index.specs.declared.entry.Entry.{Entry}
use Rattle.jx_file_index.specs.declared.index.Index.{Index}
use Rattle.jx_file_index.specs.Chunks.{before, part}
use Rattle.jx_file_query.specs.Chunks.{chunk_at}
use Rattle.jx_file_query.specs.Known.{IsKnown}
use Rattle.jx_file_query.proofs.Chunkings.{chunk_is, entry, part_taken, stands_at}
use Rattle.jx_file_query.proofs.Moved.{state_on}
use Rattle.jx_file_query.proofs.TextParts.{stands_behind, stands_here}
use Rattle.jx_file_query.proofs.Standing.{leads, none_read}

-- ---- what holds of a value, if there is one

pub some_weaker : {A : Type 0} (o : Option A) (P Q : A → Type 0) → ((x : A) → P x → Q x) → IfSome o P → IfSome o Q
some_weaker None P Q on h = tt
some_weaker (Some x) P Q on h = on x h

pub some_both : {A : Type 0} (o : Option A) (P Q R : A → Type 0) → ((x : A) → P x → Q x → R x) → IfSome o P → IfSome o Q → IfSome o R
some_both None P Q R on p q = tt
some_both (Some x) P Q R on p q = on x p q

pub none_weaker : {A : Type 0} (o : Option A) (P Q : Type 0) → (P → Q) → IfNone o P → IfNone o Q
none_weaker None P Q on h = on h
none_weaker (Some x) P Q on h = tt

pub some_got : {A : Type 0} (o : Option A) (P : A → Type 0) (x : A) → o ≡ Some x → IfSome o P → P x
some_got None P x e h = absurd cc
some_got (Some y) P x e h = let same : y ≡ x = cc in subst P same h

pub none_got : {A : Type 0} (o : Option A) (P : Type 0) → o ≡ None → IfNone o P → P
none_got None P e h = h
none_got (Some x) P e h = absurd cc

-- ---- a reader

-- what a reader of a text from 0 on has read
pub all_read : (v : ReaderValue) (settings : Settings) (xs : List ℕ) → v.settings ≡ settings → v.start ≡ 0 → HasRead xs v → v.outcome ≡ Some (read_by settings.mark settings.depth 0 xs)
all_read v settings xs same first h =
    h.outcome ∙ ap (λ (s : Settings). Some (read_by s.mark s.depth v.start xs)) same ∙ ap (λ (i : ℕ). Some (read_by settings.mark settings.depth i xs)) first

pub none_yet : (v : ReaderValue) (settings : Settings) → v.settings ≡ settings → v.start ≡ 0 → HasRead [] v → v.outcome ≡ Some (at_start settings.mark)
none_yet v settings same first h = all_read v settings [] same first h ∙ ap (λ (z : Outcome). Some z) (none_read settings.mark settings.depth)

-- ---- the chunks of a text of which an index is known

module _ (settings : Settings) (chunk : ℕ) (text : List ℕ) (index : Index) (known : IsKnown settings chunk text index) where
  pub inside : (at : ℕ) (s : Span) → chunk_at index at ≡ Some s → at * chunk < length text
  inside at s is =
      let i = (stands_at index at s is).inside in
      let c : at * index.chunk ≡ at * chunk = ap (λ (n : ℕ). at * n) known.indexed.chunk_is in
      let z = known.indexed.size_is in
      omega (arith, i, c, z)

  pub base_is : (at : ℕ) (s : Span) → chunk_at index at ≡ Some s → s.start ≡ length (take (at * chunk) text)
  base_is at s is =
      let b = (stands_at index at s is).start_is in
      let c : at * index.chunk ≡ at * chunk = ap (λ (n : ℕ). at * n) known.indexed.chunk_is in
      let l : length (take (at * chunk) text) ≡ at * chunk = length-take-le (at * chunk) text (let i = inside at s is in omega (arith, i)) in
      omega (arith, b, c, l)

  -- bytes of a chunk are the piece there
  pub piece_is : (at : ℕ) (s : Span) (bs : List ℕ) → chunk_at index at ≡ Some s → bs ≡ slice_range text s.start s.end → bs ≡ part chunk text at
  piece_is at s bs is are = are ∙ chunk_is settings chunk text index known.indexed at s (stands_at index at s is)

  -- a later chunk is read from its state to that of the next
  pub later_exit : InPieces → (at : ℕ) (s : Span) (e : Entry) (bs : List ℕ) → (at ≡ 0 → ⊥) → chunk_at index at ≡ Some s → e ≡ entry settings chunk text at → bs ≡ part chunk text at
      → (lex e.state 0 bs).exit ≡ lexical.state (state_behind (before settings text (suc at * chunk)))
  later_exit two at s e bs other is same bs_are =
      let m = settings.mark in
      let limit = settings.depth in
      let bytes = take (at * chunk) text in
      let piece = part chunk text at in
      let within : at * chunk ≤ length text = (let i = inside at s is in omega (arith, i)) in
      let st = stands_here settings chunk text known.goes two at known.size other within in
      let next = stands_behind settings chunk text known.goes two at known.size other within in
      let l = leads m limit (length bytes) bytes piece st.state next.state st.expect next.expect st.holders next.holders refl st.is next.is in
      let state_is : e.state ≡ st.state = ap (λ (x : Entry). x.state) same ∙ ap state_behind st.is in
      let behind_is : state_behind (before settings text (suc at * chunk)) ≡ next.state = ap (λ (xs : List ℕ). state_behind (read_by m limit 0 xs)) (sym (part_taken chunk text at)) ∙ ap state_behind next.is in
      ap (λ (x : LexState). (lex x 0 bs).exit) state_is
      ∙ ap (λ (xs : List ℕ). (lex st.state 0 xs).exit) bs_are
      ∙ state_on (length bytes) st.state next.state piece l.exit
      ∙ ap lexical.state (sym behind_is)

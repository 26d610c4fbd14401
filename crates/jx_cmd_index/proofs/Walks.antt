-- Chunks that a walk needs, as a file has them.
use Rattle.std.specs.Prelude.{◌≢◌, Option, None, Some, slice_range, nat_lt, if◌then◌else◌}
use Rattle.std.proofs.Common.{◌≡◌, ℕ, ◌+◌, ◌*◌, ◌-◌, ◌<◌, ◌≤◌, Bool, true, false, List, length, min, refl, sym, ap, subst, ◌∙◌, arith}
use Rattle.std.proofs.lemmas.Option.{same_Some}
use Rattle.jx_summary.specs.declared.span.Span.{Span}
use Rattle.jx_run.specs.declared.texts.settings.Settings.{Settings}
use Rattle.jx_run.specs.Tree.{span}
use Rattle.jx_file_index.specs.declared.index.Index.{Index}
use Rattle.jx_file_index.specs.Chunks.{part}
use Rattle.jx_file_index.specs.Digest.{xxh64}
use Rattle.jx_file_index.specs.Index.{IsIndexOf}
use Rattle.jx_file_query.specs.Chunks.{chunk_at}
use Rattle.jx_file_query.specs.Walk.{IsToldApart}
use Rattle.jx_file_query.specs.declared.walk.WalkFault.{WalkFault}
use Rattle.jx_file_query.specs.declared.walk.WalkFault.TheVariants.{Changed, Damaged}
use Rattle.jx_cmd_index.specs.declared.look_fault.LookFault.{LookFault}
use Rattle.jx_cmd_index.specs.inside.Faults.{IsChange, walk_fault}
use Rattle.jx_cmd_index.specs.Offsets.{EndsBefore, HasSize, StandThere}
use Rattle.jx_cmd_index.specs.SavedBytes.{TellsApart}
use Rattle.jx_cmd_index.proofs.NeededChunks.{all_read, chunk_there}

span_is : (b : Bool) (x s : Span) → (if b then Some x else None) ≡ Some s → s ≡ x
span_is true x s e = cc
span_is false x s e = absurd (cc)

-- the part of a list where the chunk at a place stands
chunk_part : (index : Index) (at : ℕ) (s : Span) (xs : List ℕ) → chunk_at index at ≡ Some s → length xs ≡ index.size → slice_range xs s.start s.end ≡ part index.chunk xs at
chunk_part index at s xs e long =
    let there : Span = span (at * index.chunk) (min (at * index.chunk + index.chunk) index.size) in
    let is : s ≡ there = span_is (nat_lt (at * index.chunk) index.size) there s e in
    ap (λ (x : Span). slice_range xs x.start x.end) is ∙ chunk_there at index.chunk index.size xs long

-- a file whose chunks are told apart has them of the text where their digests are the same
pub told_apart : (index : Index) (at : ℕ) (s : Span) (settings : Settings) (chunk : ℕ) (text all bytes : List ℕ) → chunk_at index at ≡ Some s → IsIndexOf settings chunk text index
    → length all ≡ index.size → bytes ≡ slice_range all s.start s.end → TellsApart chunk text all → IsToldApart text s bytes
told_apart index at s settings chunk text all bytes e is_index long is tells =
    let of_text : slice_range text s.start s.end ≡ part chunk text at = chunk_part index at s text e (sym is_index.size_is) ∙ ap (λ (n : ℕ). part n text at) is_index.chunk_is in
    let of_file : slice_range all s.start s.end ≡ part chunk all at = chunk_part index at s all e long ∙ ap (λ (n : ℕ). part n all at) is_index.chunk_is in
    λ same. is ∙ of_file ∙ tells at (ap xxh64 (sym of_file) ∙ ap xxh64 (sym is) ∙ same ∙ ap xxh64 of_text) ∙ sym of_text

-- ---- what a walk is given

-- the bytes of the file in the part that it needs
pub given_is : (known now_known : Option (List ℕ)) (all : List ℕ) (s : Span) (size : ℕ) (bytes given : List ℕ) → known ≡ Some all → HasSize known size → now_known ≡ known → s.start < s.end → s.end ≤ size
    → StandThere now_known s.start bytes → length bytes ≤ s.end - s.start → (length bytes < s.end - s.start → EndsBefore now_known (s.start + length bytes)) → given ≡ bytes → given ≡ slice_range all s.start s.end
given_is known now_known all s size bytes given is sized kept some within there short ended same =
    same ∙ all_read now_known all s.start s.end size bytes (kept ∙ is) (subst (λ (o : Option (List ℕ)). HasSize o size) (sym kept) sized) (omega (arith, some)) within there short ended

-- whatever part is needed, it is told apart
pub all_told : (index : Index) (at : ℕ) (s : Span) (settings : Settings) (chunk : ℕ) (text all given : List ℕ) → Some s ≡ chunk_at index at → IsIndexOf settings chunk text index
    → length all ≡ index.size → given ≡ slice_range all s.start s.end → TellsApart chunk text all → (x : Span) → chunk_at index at ≡ Some x → IsToldApart text x given
all_told index at s settings chunk text all given here is_index long is tells x e =
    let same : s ≡ x = same_Some s x (here ∙ e) in
    subst (λ (y : Span). IsToldApart text y given) same (told_apart index at s settings chunk text all given (sym here) is_index long is tells)

-- ---- faults

-- what a walk says of the bytes that it was given is so of the file
pub changes : (f : WalkFault) (r : LookFault) (needs : Option Span) (s : Span) (text all given : List ℕ) → r ≡ walk_fault f → Some s ≡ needs → given ≡ slice_range all s.start s.end
    → ((x : Span) → f ≡ Changed x → (needs ≡ Some x) × (given ≢ slice_range text x.start x.end)) → (f ≡ Damaged → ⊥) → IsChange text all r
changes (Changed x) r needs s text all given e here is differs whole =
    let told = differs x refl in
    let same : s ≡ x = same_Some s x (here ∙ told.0) in
    let there : given ≡ slice_range all x.start x.end = is ∙ ap (λ (y : Span). slice_range all y.start y.end) same in
    subst (λ (q : LookFault). IsChange text all q) (sym e) (λ h. told.1 (there ∙ h))
changes Damaged r needs s text all given e here is differs whole = absurd (whole refl)

-- an answer that is none
pub no_change : (f : WalkFault) (r : LookFault) (text all : List ℕ) → ⊥ → IsChange text all r
no_change f r text all h = absurd h

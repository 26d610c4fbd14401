-- What was read of a chunk.
use Rattle.std.specs.Prelude.{◌≢◌, Option, Some, slice_range}
use Rattle.std.proofs.Common.{◌≡◌, ℕ, ◌+◌, ◌-◌, ◌<◌, ◌≤◌, List, length, refl, sym, ◌∙◌, arith}
use Rattle.jx_summary.specs.declared.span.Span.{Span}
use Rattle.jx_run.specs.declared.texts.settings.Settings.{Settings}
use Rattle.jx_file_index.specs.declared.index.Index.{Index}
use Rattle.jx_file_index.specs.Digest.{xxh64}
use Rattle.jx_file_index.specs.Index.{IsIndexOf}
use Rattle.jx_file_query.specs.Chunks.{chunk_at}
use Rattle.jx_file_query.proofs.Chunkings.{stands_at}
use Rattle.jx_cmd_index.specs.declared.look_fault.LookFault.TheVariants.{Changed}
use Rattle.jx_cmd_index.specs.Offsets.{EndsBefore, HasSize, StandThere}
use Rattle.jx_cmd_index.proofs.NeededChunks.{known_size}
use Rattle.jx_cmd_index.proofs.Walks.{all_told, given_is}
use Rattle.jx_cmd_index.specs.inside.Texts.{AreBytesIn, IsChangeIn}

module _ (known : Option (List ℕ)) (index : Index) (number : ℕ) (s : Span) (bytes given : List ℕ) (sized : HasSize known index.size) (here : chunk_at index number ≡ Some s) (order : s.start < s.end)
    (there_is : StandThere known s.start bytes) (within : length bytes ≤ s.end - s.start) (all : length bytes < s.end - s.start → EndsBefore known (s.start + length bytes)) (same : given ≡ bytes) where
  inside_size : s.end ≤ index.size
  inside_size = let b = (stands_at index number s here).end_is in omega (arith, b)

  of_file : (file : List ℕ) → known ≡ Some file → given ≡ slice_range file s.start s.end
  of_file file is = given_is known known file s index.size bytes given is sized refl order inside_size there_is within all same

  -- bytes with the digest of the chunk are those of the text
  pub kept_bytes : ((settings : Settings) (chunk : ℕ) (text : List ℕ) → IsIndexOf settings chunk text index → chunk_at index number ≡ Some s → xxh64 given ≡ xxh64 (slice_range text s.start s.end))
      → AreBytesIn known index s.start s.end bytes
  kept_bytes digests = λ settings chunk text file is_index is tells.
      sym same ∙ all_told index number s settings chunk text file given (sym here) is_index (known_size known file index.size is sized) (of_file file is) tells s here (digests settings chunk text is_index here)

  -- others are not
  pub other_bytes : ((settings : Settings) (chunk : ℕ) (text : List ℕ) → IsIndexOf settings chunk text index → chunk_at index number ≡ Some s → given ≢ slice_range text s.start s.end)
      → IsChangeIn known index (Changed s)
  other_bytes differs = λ settings chunk text file is_index is tells. λ e. differs settings chunk text is_index here (of_file file is ∙ e)

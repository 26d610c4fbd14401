use Rattle.std.proofs.Common.{List, ℕ, ◌++◌, ◌∙◌, append_assoc}
use Rattle.std.specs.Int.{w64, to_le_bytes}
use Rattle.std.specs.List.{flat_map}
use Rattle.jx_file_index.specs.Digest.{xxh64}
use Rattle.jx_file_index.specs.declared.index.Index.{Index}
use Rattle.jx_file_index.specs.Spelling.{spelt_entry, spelt_front}
use Rattle.jx_file_index.proofs.index_decoding.head_from.Goals as goal

-- the digest of a head, and what stands behind it
abbrev seal : Index → List ℕ
seal i = to_le_bytes w64 (xxh64 (spelt_front i))

abbrev others : Index → List ℕ
others i = flat_map spelt_entry i.entries.items

pub returns-in-Some-clause-reads : goal.returns-in-Some-clause-reads
returns-in-Some-clause-reads c = λ i savable is. c.in-Some.ensures.reads i (seal i ++ others i) savable (is ∙ append_assoc (spelt_front i) (seal i) (others i))

pub returns-in-None-clause-only : goal.returns-in-None-clause-only
returns-in-None-clause-only c = λ i savable is. c.in-None.ensures.reads i (seal i ++ others i) savable (is ∙ append_assoc (spelt_front i) (seal i) (others i))

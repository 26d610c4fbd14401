use Rattle.std.proofs.Common.{List, ℕ, ◌∷◌, [], ◌++◌, drop, refl}
use Rattle.std.specs.Fmt.{decimal}
use Rattle.jx_words.specs.Words.{kind_words}
use Rattle.jx_report.proofs.LineEnds.{pieces_join}
use Rattle.jx_report.proofs.row_words.RowColumns.put_node.Goals as goal

pub returns-clause-words : goal.returns-clause-words
returns-clause-words c =
    let number : List ℕ = decimal c.args.number in
    let kind : List ℕ = kind_words c.args.row.now.kind in
    let behind : List ℕ = drop c.put-span.result c.put-span.new.line in
    let first = pieces_join number (32 ∷ []) (kind ++ (32 ∷ behind)) _ _ c.put_kind-kind.ensures.words c.put.ensures.words in
    let second = pieces_join (number ++ 32 ∷ []) kind (32 ∷ behind) _ _ refl first in
    let third = pieces_join (number ++ 32 ∷ [] ++ kind) (32 ∷ []) behind _ _ refl second in
    pieces_join _ _ _ _ _ c.put-span.ensures.words third

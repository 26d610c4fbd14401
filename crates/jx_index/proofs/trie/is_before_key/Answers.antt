use Rattle.std.proofs.Common.{◌∙◌, arith}
use Rattle.std.proofs.lemmas.Bool.Decides.{nat_tests}
use Rattle.jx_index.specs.Units.{chars_units}
use Rattle.jx_index.specs.inside.Trie.{edge_units}
use Rattle.jx_index.proofs.Lookups.{before_none, before_spelt}
use Rattle.jx_index.proofs.SameFront.{no_units}
use Rattle.jx_index.proofs.trie.is_before_key.Goals as goal

pub returns-then-is_empty : goal.returns-then-is_empty
returns-then-is_empty c =
    let e = c.args.edge.now in
    let k = c.args.key.now in
    before_none e.parent e.place k.node k.place (edge_units e) (chars_units k.spelling 0 k.bytes.now) (omega arith) (omega arith)
    (no_units k.spelling k.bytes.now (grind (arith, nat_tests, c.is_empty.ensures, c.if-is_empty.true)))

pub returns : goal.returns
returns c =
    let e = c.args.edge.now in
    let k = c.args.key.now in
    c.is_gt.ensures
    ∙ before_spelt e.parent e.place k.node k.place (edge_units e) (chars_units k.spelling 0 k.bytes.now) c.compare_spelt.result (omega arith) (omega arith) c.compare_spelt.ensures

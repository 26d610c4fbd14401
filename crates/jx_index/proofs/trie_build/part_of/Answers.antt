use Rattle.std.proofs.Common.{ℕ, List, ◌∷◌, sym, ap, subst, ◌∙◌}
use Rattle.jx_index.specs.Pointers.{HasSlash, tokens}
use Rattle.jx_index.proofs.Climbs.{token_first}
use Rattle.jx_index.proofs.Levels.{shorter_by}
use Rattle.jx_index.proofs.trie_build.part_of.Goals as goal

pub returns : goal.returns
returns c =
    let rest = c.args.rest.now in
    let bytes = c.skip-bytes.result.now in
    let later = c.skip.result.now in
    let n = c.token_len-len.result in
    record {
      parent = c.edge_of.ensures.parent;
      placed = c.edge_of.ensures.place;
      tokens_are =
          token_first rest bytes later c.keep.result.now n c.requires.some c.requires.slash c.skip-bytes.ensures c.token_len-len.ensures.slashless c.token_len-len.ensures.next c.keep.ensures c.skip.ensures
          ∙ ap (λ (us : List ℕ). us ∷ tokens later) (sym c.edge_of.ensures.units);
      slash = subst HasSlash (sym c.skip.ensures) c.token_len-len.ensures.next;
      shorter = shorter_by rest bytes later n c.requires.some c.skip-bytes.ensures c.skip.ensures;
    }

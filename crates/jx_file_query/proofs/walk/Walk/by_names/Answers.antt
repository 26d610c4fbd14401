use Rattle.std.proofs.Common.{◌≡◌, ap, map, ◌∙◌}
use Rattle.jx_index.specs.declared.trie.Edge.{Edge}
use Rattle.jx_index.specs.inside.Trie.{edge_units}
use Rattle.jx_file_index.specs.NameHash.{name_hash}
use Rattle.jx_file_query.proofs.Wants.{have_hashes}
use Rattle.jx_file_query.proofs.walk.Walk.by_names.Goals as goal

pub returns-clause-come : goal.returns-clause-come
returns-clause-come c = λ settings chunk text pointers come tables.
    let w = c.args.self in
    let hashes = c.in_ok-hashes.hashes.items in
    let are : hashes ≡ map (λ (e : Edge). name_hash (edge_units e)) w.edges.items = c.in_ok-hashes.ensures ∙ ap (map (λ (e : Edge). name_hash (edge_units e))) c.deref.ensures.value in
    record {
      known = come.known;
      pointers_are = come.pointers_are;
      trie = come.trie;
      ways = come.ways;
      names = record { tables = tables; hashes = have_hashes w.edges.items hashes are };
      kept = come.kept;
      kept_is = come.kept_is;
      held = come.held;
    }

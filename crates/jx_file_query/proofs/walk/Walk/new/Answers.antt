use Rattle.std.proofs.Common.{◌≤◌, ℕ, List, [], arith, refl, subst}
use Rattle.std.specs.Prelude.{All}
use Rattle.jx_index.specs.declared.trie.Edge.{Edge}
use Rattle.jx_index.specs.inside.Trie.{HasWay, IsTrie}
use Rattle.jx_find.specs.Held.{IsHeld}
use Rattle.jx_file_query.proofs.Walks.{held_first, known_of}
use Rattle.jx_file_query.proofs.walk.Walk.new.Goals as goal

pub returns-clause-come : goal.returns-clause-come
returns-clause-come c = λ settings chunk text h.
    let index = c.args.index.now in
    let edges = c.in_ok-edges.edges.items in
    let held = c.in_ok-held.held in
    let trie = c.in_ok-edges.ensures.trie in
    let value = c.bytes.ensures.value in
    let within = c.bytes.ensures.within.0 in
    let first : IsHeld [] edges [] [] held.state held.next held.begun held.name.items =
    (subst (λ (es : List Edge). IsTrie es → IsHeld [] es [] [] held.state held.next held.begun held.name.items) c.deref-3.ensures.value c.in_ok-held.ensures.held) trie in
    record {
      known = known_of c.reader_and_grammar.ensures.by_settings c.unique_verdict_by_settings.ensures.one_verdict settings chunk text index (let l : 64 ≤ index.chunk = omega (arith, value, within) in l) h;
      pointers_are = refl;
      trie = trie;
      ways = subst (λ (ps : List (List ℕ)). All (λ (p : List ℕ). HasWay edges p) ps) c.deref.ensures.value c.in_ok-edges.ensures.ways;
      names = tt;
      kept = held;
      kept_is = refl;
      held = held_first settings chunk text edges held first c.in_ok-held.ensures.begun;
    }

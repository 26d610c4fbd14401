use Rattle.std.proofs.Common.{ℕ, List, length, map, ap, sym, subst, refl, ◌∙◌}
use Rattle.std.specs.Prelude.{All}
use Rattle.std.specs.List.{AllZip}
use Rattle.std.proofs.lemmas.List.{length-map}
use Rattle.std.proofs.lemmas.Result.{on_ok_weaker}
use Rattle.jx_run.specs.declared.texts.verdict.Verdict.TheVariants.{Accepted}
use Rattle.jx_index.specs.declared.pointer_ways.Way.{Way}
use Rattle.jx_index.specs.Found.{AreFoundIn}
use Rattle.jx_index.specs.inside.PointerWays.{IsWayOf, nodes_of}
use Rattle.jx_index.specs.inside.Trie.{HasWay}
use Rattle.jx_index.proofs.Along.{as_many}
use Rattle.jx_find.specs.PointerTrie.{alone}
use Rattle.jx_find.proofs.texts.find_by.Goals as goal

pub answers_along-requires : goal.answers_along-requires
answers_along-requires c =
    let t = c.args.trie.now in
    ap (λ (ps : List (List ℕ)). length ps) c.deref-2.ensures.value
    ∙ as_many (IsWayOf t.edges.items) t.pointers.items (map nodes_of t.ways.items) c.requires.ways_are
    ∙ length-map t.ways.items nodes_of
    ∙ sym (ap (λ (ws : List Way). length ws) c.deref.ensures.value)

pub returns : goal.returns
returns c =
    let t = c.args.trie.now in
    let edges = t.edges.items in
    on_ok_weaker c.answers_along.result
    (λ finds depth bytes judged met_is.
    subst (λ (ps : List (List ℕ)). AreFoundIn (alone depth) bytes ps c.answers_along.new.found.items) c.deref-2.ensures.value
    (finds (alone depth) bytes edges c.requires.trie (subst (λ (ps : List (List ℕ)). All (HasWay edges) ps) (sym c.deref-2.ensures.value) c.requires.has_ways)
    (subst (λ (ps : List (List ℕ)). AllZip (IsWayOf edges) ps (map nodes_of c.deref.result.now)) (sym c.deref-2.ensures.value)
    (subst (λ (ws : List Way). AllZip (IsWayOf edges) t.pointers.items (map nodes_of ws)) (sym c.deref.ensures.value) c.requires.ways_are))
    ((c.verdicts_with_a_refused_mark.ensures.verdict (alone depth) 0 bytes Accepted refl).1 judged) met_is))
    c.answers_along.ensures

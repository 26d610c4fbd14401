use Rattle.std.proofs.Common.{List, ℕ, [], refl, subst}
use Rattle.std.specs.Prelude.{All}
use Rattle.jx_index.specs.declared.trie.Edge.{Edge}
use Rattle.jx_index.specs.inside.Trie.{HasWay, IsTrie}
use Rattle.jx_run.specs.Telling.{no_tokens}
use Rattle.jx_index.proofs.InTurns.{all_first}
use Rattle.jx_find.specs.declared.held.Sought.{Sought}
use Rattle.jx_find.proofs.Finders.{HeldOf, held_first}
use Rattle.jx_find.proofs.finder.Finder.new.Goals as goal

pub invariant_of-result : goal.invariant_of-result
invariant_of-result c = record { turn = all_first (λ (h : Sought). h.begun) c.new-2.result c.in_ok-held.held c.new-2.ensures.reads c.in_ok-held.ensures.begun }

pub returns : goal.returns
returns c =
    let settings = c.args.settings.now in
    let edges = c.in_ok-edges.edges.items in
    let trie = c.in_ok-edges.ensures.trie in
    let held = (subst (λ (es : List Edge). IsTrie es → HeldOf [] es no_tokens c.in_ok-held.held) c.deref-3.ensures.value c.in_ok-held.ensures.held) trie in
    record {
      fed = record {
        pointers_are = refl;
        trie = trie;
        ways = subst (λ (ps : List (List ℕ)). All (λ (p : List ℕ). HasWay edges p) ps) c.deref.ensures.value c.in_ok-edges.ensures.ways;
        kept = c.in_ok-held.held;
        kept_is = refl;
        reading =
            held_first settings edges c.new-2.result c.in_ok-held.held c.requires.any c.new-2.ensures.settings c.new-2.ensures.start c.new-2.ensures.reads
            (c.slices_are_told_in_turn.ensures.none settings.mark) held;
      };
    }

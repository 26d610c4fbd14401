use Rattle.std.proofs.Common.{◌+◌, ℕ, List, length, sym, ap, subst, ◌∙◌, arith}
use Rattle.std.proofs.lemmas.Bool.Decides.{nat_tests}
use Rattle.jx_index.specs.declared.trie.Edge.{Edge}
use Rattle.jx_index.specs.inside.Growing.{IsPartFrom}
use Rattle.jx_index.proofs.Levels.{fewer_more, fewer_same, grow_end, grow_push, grow_start, grow_stop, put, total_none, Growing}
use Rattle.jx_index.proofs.trie_build.add_level.Goals as goal
use Rattle.jx_index.proofs.trie_build.add_level.Goals.{then-not-is_empty+in_ok-push, else-not-is_empty}

pub loop-part-init : goal.loop-part-init
loop-part-init c = record {
  level = λ ptrs h. grow_start ptrs c.args.edges.now.items c.args.parts.now c.new-later.result.items c.new-later.ensures.items h;
  fewer = let e = total_none c.new-later.result.items c.new-later.ensures.items in omega (arith, e);
}

pub loop-part-preserved : goal.loop-part-preserved
loop-part-preserved c =
    let old = c.args.edges.now.items in
    let parts = c.args.parts.now in
    let l = c.loop-part in
    let edges = l.edges.items in
    let i = l.part-index in
    let low = c.loop-part-test.true in
    let now = c.add_edge.new.edges.items in
    record {
      level = λ ptrs h.
          let g = l.invariant.level ptrs h in
          let p = put ptrs old edges parts i l.later.items g _ low (h.nexts i _ low) now c.in_ok-add_edge.ensures in
          elim c.if-not-is_empty.branch [
            | then-not-is_empty+in_ok-push w ↦
                grow_push ptrs old edges parts i l.later.items g _ low (h.nexts i _ low) now p c.requires.rising w.part_of.result c.if-not-is_empty.later.items (ap (λ v. v.items) w.later-is ∙ w.in_ok-push.ensures.items)
                (subst (λ (n : ℕ). IsPartFrom n _ w.part_of.result) (w.last_node.ensures ∙ ap (λ (es : List Edge). length es) w.deref.ensures.value) w.part_of.ensures)
            | else-not-is_empty w ↦
                subst (λ v. Growing ptrs old now parts (i + 1) v.items) (sym w.later-is)
                (grow_stop ptrs old edges parts i l.later.items g _ low (h.nexts i _ low) now p c.requires.rising (grind (arith, nat_tests, c.is_empty.ensures, w.if-not-is_empty.false)))
          ];
      fewer =
          elim c.if-not-is_empty.branch [
            | then-not-is_empty+in_ok-push w ↦
                fewer_more parts i w.last_node.result _ l.later.items c.if-not-is_empty.later.items w.part_of.result low w.part_of.ensures (ap (λ v. v.items) w.later-is ∙ w.in_ok-push.ensures.items) l.invariant.fewer
            | else-not-is_empty w ↦ fewer_same parts i l.later.items c.if-not-is_empty.later.items low (ap (λ v. v.items) w.later-is) l.invariant.fewer
          ];
    }

pub returns-clause-level : goal.returns-clause-level
returns-clause-level c = λ ptrs h.
    let l = c.loop-part in
    grow_end ptrs c.args.edges.now.items c.args.parts.now l.edges.items l.part-index l.later.items c.loop-part-test.false (l.invariant.level ptrs h)

use Rattle.std.proofs.Common.{◌≡◌, ◌<◌, ◌≤◌, List, length, sym, ap, subst, ◌∙◌, arith}
use Rattle.std.specs.Prelude.{All}
use Rattle.std.proofs.lemmas.Bool.Decides.{nat_tests}
use Rattle.std.proofs.lemmas.List.Sorted.{length_permutation, sum_by-IsPermutation}
use Rattle.jx_index.specs.Pointers.{HasSlash}
use Rattle.jx_index.specs.declared.trie_build.Part.{Part}
use Rattle.jx_index.specs.inside.Growing.{total, weight, IsLevel}
use Rattle.jx_index.proofs.Levels.{level_done, level_moved}
use Rattle.jx_index.proofs.trie_build.trie_of.Goals as goal

pub add_level-requires-clause-slashes : goal.add_level-requires-clause-slashes
add_level-requires-clause-slashes c =
    let l = c.loop-alloc in
    let moved = level_moved c.args.pointers.now l.edges.items l.parts.items c.sort_parts.new.parts.items c.sort_parts.ensures.each_once l.invariant in
    subst (All (λ (p : Part). HasSlash p.rest.now)) (sym c.deref.ensures.value) (λ k d low. (moved.nexts k d low).slash)

pub loop-alloc-smaller : goal.loop-alloc-smaller
loop-alloc-smaller c =
    let l = c.loop-alloc in
    let some : 0 < length l.parts.items = grind (arith, nat_tests, c.is_empty.ensures, c.loop-alloc-test.true) in
    let fewer = c.in_ok-later.ensures.fewer in
    let value = c.deref.ensures.value in
    let long : length c.deref.result.now ≡ length l.parts.items = ap (λ (ps : List Part). length ps) value ∙ length_permutation l.parts.items c.sort_parts.new.parts.items c.sort_parts.ensures.each_once in
    let same : total c.deref.result.now ≡ total l.parts.items = ap total value ∙ sum_by-IsPermutation weight l.parts.items c.sort_parts.new.parts.items c.sort_parts.ensures.each_once in
    let less : total c.in_ok-later.later.items < total l.parts.items = omega (arith, some, fewer, long, same) in
    less

pub loop-alloc-preserved : goal.loop-alloc-preserved
loop-alloc-preserved c =
    let l = c.loop-alloc in
    let moved = level_moved c.args.pointers.now l.edges.items l.parts.items c.sort_parts.new.parts.items c.sort_parts.ensures.each_once l.invariant in
    c.in_ok-later.ensures.level c.args.pointers.now (subst (λ (ps : List Part). IsLevel c.args.pointers.now l.edges.items ps) (sym c.deref.ensures.value) moved)

pub returns-clause-ways : goal.returns-clause-ways
returns-clause-ways c =
    let l = c.loop-alloc in
    level_done c.args.pointers.now l.edges.items l.parts.items (let none : length l.parts.items ≤ 0 = grind (arith, nat_tests, c.is_empty.ensures, c.loop-alloc-test.false) in none) l.invariant

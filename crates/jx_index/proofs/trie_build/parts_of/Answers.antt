use Rattle.std.proofs.Common.{◌≡◌, ◌≤◌, ℕ, List, [], ◌∷◌, ◌++◌, length, take, get_or, sym, ap, subst, ◌∙◌, arith}
use Rattle.std.proofs.lemmas.Bool.Decides.{nat_tests}
use Rattle.std.proofs.lemmas.List.{take_all, take_more}
use Rattle.jx_index.specs.inside.Growing.{IsLevel, IsPartFrom}
use Rattle.jx_index.proofs.Levels.{level_more, level_none, level_root}
use Rattle.jx_index.proofs.trie_build.parts_of.Goals as goal
use Rattle.jx_index.proofs.trie_build.parts_of.Goals.{then-not-is_empty+in_ok-push, else-not-is_empty}

pub loop-pointer-init : goal.loop-pointer-init
loop-pointer-init c = level_none c.in_ok-parts.parts.items c.in_ok-parts.ensures.items

pub loop-pointer-preserved : goal.loop-pointer-preserved
loop-pointer-preserved c =
    let l = c.loop-pointer in
    let ps = c.args.pointers.now in
    let i = l.pointer-index in
    let ptr : List ℕ = get_or ps i c.pointer-item.result in
    let spelt : c.bytes-bytes.result.now ≡ ptr = c.bytes-bytes.ensures.spelt ∙ c.pointer-item.is in
    subst (λ (xs : List (List ℕ)). IsLevel xs [] c.if-not-is_empty.parts.items) (sym (take_more ps i c.pointer-item.result c.loop-pointer-test.true))
    (elim c.if-not-is_empty.branch [
      | then-not-is_empty+in_ok-push w ↦
          level_more (take i ps) l.parts.items l.invariant ptr w.part_of.result c.if-not-is_empty.parts.items (ap (λ v. v.items) w.parts-is ∙ w.in_ok-push.ensures.items)
          (subst (λ (b : List ℕ). IsPartFrom 0 b w.part_of.result) spelt w.part_of.ensures)
      | else-not-is_empty w ↦
          subst (λ v. IsLevel (take i ps ++ ptr ∷ []) [] v.items) (sym w.parts-is)
          (level_root (take i ps) l.parts.items l.invariant ptr
          (subst (λ (b : List ℕ). length b ≤ 0) spelt (let n : length c.bytes-bytes.result.now ≤ 0 = grind (arith, nat_tests, c.is_empty.ensures, w.if-not-is_empty.false) in n)))
    ])

pub returns : goal.returns
returns c = subst (λ (xs : List (List ℕ)). IsLevel xs [] c.loop-pointer.parts.items) (take_all c.loop-pointer.pointer-index c.args.pointers.now c.loop-pointer-test.false) c.loop-pointer.invariant

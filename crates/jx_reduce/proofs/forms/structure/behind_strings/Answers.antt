use Rattle.std.proofs.Common.{◌++◌, sym, subst, ap, ◌∙◌, inl}
use Rattle.jx_reduce.specs.Structure.{StructureValue}
use Rattle.jx_reduce.specs.inside.Structures.{rest_head, string_head, KnowsDepth}
use Rattle.jx_reduce.proofs.forms.structure.behind_strings.Goals as goal

pub returns-in_ok-copy_of-in-Some-None : goal.returns-in_ok-copy_of-in-Some-None
returns-in_ok-copy_of-in-Some-None c =
    let r = c.right.inside in
    let e = c.in_ok-copy_of-in-Some-None.ensures in
    inl (record {
      head = ap (λ ms. string_head c.args.string ++ ms) (e.head ∙ sym (ap (λ s. string_head s ++ rest_head r.rest) c.in-Some-None.is-1) ∙ ap (λ (f : StructureValue). f.head) c.right.view_is);
      tail = e.tail ∙ ap (λ (f : StructureValue). f.tail) c.right.view_is;
      depth = e.depth c.args.right.now.depth (subst (λ (f : StructureValue). KnowsDepth f.depth r.rest) c.right.view_is c.right.invariant.1);
    })

pub returns-in_ok-copy_of-in-None-default : goal.returns-in_ok-copy_of-in-None-default
returns-in_ok-copy_of-in-None-default c =
    let r = c.right.inside in
    let e = c.in_ok-copy_of-in-None-default.ensures in
    inl (record {
      head = ap (λ ms. string_head r.string ++ ms) e.head ∙ ap (λ (f : StructureValue). f.head) c.right.view_is ∙ sym (ap (λ s. string_head s ++ c.args.right.now.head) c.in-None-default.is-0);
      tail = e.tail ∙ ap (λ (f : StructureValue). f.tail) c.right.view_is;
      depth = e.depth c.args.right.now.depth (subst (λ (f : StructureValue). KnowsDepth f.depth r.rest) c.right.view_is c.right.invariant.1);
    })

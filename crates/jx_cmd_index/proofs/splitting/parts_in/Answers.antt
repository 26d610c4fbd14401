use Rattle.std.specs.Prelude.{Some}
use Rattle.std.proofs.Common.{◌≡◌, slice_range, refl, sym, ap, subst, ◌∙◌, rules}
use Rattle.jx_summary.specs.declared.span.Span.{Span}
use Rattle.jx_file_index.specs.declared.index.Index.{Index}
use Rattle.jx_file_index.specs.Index.{IsIndexOf}
use Rattle.jx_file_query.specs.Walk.{IsToldApart}
use Rattle.jx_file_query.specs.declared.cutting.Aim.{Aim}
use Rattle.jx_file_query.specs.Split.{HasCome, needed}
use Rattle.jx_file_query.specs.Parts.{parts_of}
use Rattle.jx_file_query.proofs.Needs.{needs_chunk}
use Rattle.jx_cmd_index.specs.Offsets.{HasSize}
use Rattle.jx_cmd_index.proofs.NeededChunks.{known_size}
use Rattle.jx_cmd_index.proofs.Walks.{all_told, changes, given_is, no_change}
use Rattle.jx_cmd_index.proofs.splitting.parts_in.Goals as goal

pub chunks-init : goal.chunks-init
chunks-init g c = record {
  unfailed = c.requires.unfailed;
  kept = refl;
  index = c.new-split.ensures.index;
  aim = c.new-split.ensures.aim;
  come = λ settings chunk text all is_index is tells. c.new-split.ensures.come settings chunk text is_index;
}

pub chunks-preserved : goal.chunks-preserved
chunks-preserved g c =
    let known = g.F.ReadAt.content c.args.file.now in
    let s : Span = c.in-Some.span in
    let split = c.chunks.split in
    let index : Index = split.index.now in
    let sized : HasSize known index.size = subst (λ (i : Index). HasSize known i.size) (sym c.chunks.invariant.index) c.requires.size in
    let read = c.in_ok-read_part.ensures in
    let there = needs_chunk split s (sym c.in-Some.ensures.needed) in
    record {
      unfailed = search rules;
      kept = search rules;
      index = search rules;
      aim = search rules;
      come = λ settings chunk text all is_index is tells.
          let here : IsIndexOf settings chunk text index = subst (λ (i : Index). IsIndexOf settings chunk text i) (sym c.chunks.invariant.index) is_index in
          let given : c.deref.result.now ≡ slice_range all s.start s.end =
          given_is known (g.F.ReadAt.content c.chunks.file) all s index.size c.read_part.new.buffer.items c.deref.result.now is sized c.chunks.invariant.kept c.in-Some.ensures.some c.in-Some.ensures.within
          read.there read.within read.all c.deref.ensures.value in
          (rw c.in_default-2.is at c.in_ok-fault.ensures.come) settings chunk text (c.chunks.invariant.come settings chunk text all is_index is tells)
          (λ x e. all_told index split.at s settings chunk text all c.deref.result.now (sym there) here (known_size known all index.size is sized) given tells x (needs_chunk split x e));
    }

pub returns-in-Err-clause-changed : goal.returns-in-Err-clause-changed
returns-in-Err-clause-changed g c = λ settings chunk text all container is_index is tells x spans.
    let known = g.F.ReadAt.content c.args.file.now in
    let s : Span = c.in-Some.span in
    let split = c.chunks.split in
    let index : Index = split.index.now in
    let sized : HasSize known index.size = subst (λ (i : Index). HasSize known i.size) (sym c.chunks.invariant.index) c.requires.size in
    let read = c.in_ok-read_part.ensures in
    let there = needs_chunk split s (sym c.in-Some.ensures.needed) in
    let here : IsIndexOf settings chunk text index = subst (λ (i : Index). IsIndexOf settings chunk text i) (sym c.chunks.invariant.index) is_index in
    let given : c.deref.result.now ≡ slice_range all s.start s.end =
    given_is known (g.F.ReadAt.content c.chunks.file) all s index.size c.read_part.new.buffer.items c.deref.result.now is sized c.chunks.invariant.kept c.in-Some.ensures.some c.in-Some.ensures.within
    read.there read.within read.all c.deref.ensures.value in
    let come : HasCome settings chunk text split = c.chunks.invariant.come settings chunk text all is_index is tells in
    let told : (y : Span) → needed split ≡ Some y → IsToldApart text y c.deref.result.now =
    λ y e. all_told index split.at s settings chunk text all c.deref.result.now (sym there) here (known_size known all index.size is sized) given tells y (needs_chunk split y e) in
    changes c.in-Err.fault c.walk_fault.result (needed split) s text all c.deref.result.now c.walk_fault.ensures c.in-Some.ensures.needed given
    (λ y e. let h = (rw c.in-Err.is at c.in_ok-fault.ensures.changed) y e in (h.1, h.2 settings chunk text come))
    (λ e. let h = (rw c.in-Err.is at c.in_ok-fault.ensures.damaged) e in h.1 settings chunk text come told)

pub returns-in-Ok-clause-parts : goal.returns-in-Ok-clause-parts
returns-in-Ok-clause-parts g c = λ settings chunk text all container is_index is tells x spans.
    (rw c.in-Ok.is at c.in_ok-parts.ensures.found) settings chunk text container (c.chunks.invariant.come settings chunk text all is_index is tells) x (spans ∙ ap (λ (a : Aim). a.whole) (sym c.chunks.invariant.aim))
    ∙ ap (λ (a : Aim). parts_of a.parts text container) c.chunks.invariant.aim

pub returns-clause-changed : goal.returns-clause-changed
returns-clause-changed g c = λ settings chunk text all container is_index is tells x spans.
    no_change c.in-Err-2.fault c.walk_fault-in-Err-2.result text all
    ((rw c.in-Err-2.is at c.in_ok-parts.ensures.damaged) settings chunk text container (c.chunks.invariant.come settings chunk text all is_index is tells) x (spans ∙ ap (λ (a : Aim). a.whole) (sym c.chunks.invariant.aim)))

use Rattle.std.specs.Prelude.{Some}
use Rattle.std.proofs.Common.{◌≡◌, slice_range, refl, sym, subst, rules}
use Rattle.jx_summary.specs.declared.span.Span.{Span}
use Rattle.jx_file_index.specs.declared.index.Index.{Index}
use Rattle.jx_file_index.specs.Index.{IsIndexOf}
use Rattle.jx_file_query.specs.Walk.{HasCome, IsToldApart, needed}
use Rattle.jx_cmd_index.specs.Offsets.{HasSize}
use Rattle.jx_cmd_index.proofs.NeededChunks.{known_size}
use Rattle.jx_cmd_index.proofs.Walks.{all_told, changes, given_is, no_change}
use Rattle.jx_cmd_index.proofs.walking.found_in.Goals as goal

pub chunks-init : goal.chunks-init
chunks-init g c = record {
  unfailed = c.requires.unfailed;
  kept = refl;
  index = c.in_ok-walk.ensures.index;
  come = λ settings chunk text all is_kept is tells. c.in_ok-walk.ensures.come settings chunk text is_kept;
}

pub chunks-preserved : goal.chunks-preserved
chunks-preserved g c =
    let known = g.F.ReadAt.content c.args.file.now in
    let s : Span = c.in-Some.span in
    let index : Index = c.chunks.walk.index.now in
    let sized : HasSize known index.size = subst (λ (i : Index). HasSize known i.size) (sym c.chunks.invariant.index) c.requires.size in
    let read = c.in_ok-read_part.ensures in
    record {
      unfailed = search rules;
      kept = search rules;
      index = search rules;
      come = λ settings chunk text all is_kept is tells.
          let here : IsIndexOf settings chunk text index = subst (λ (i : Index). IsIndexOf settings chunk text i) (sym c.chunks.invariant.index) is_kept.index in
          let given : c.deref.result.now ≡ slice_range all s.start s.end =
          given_is known (g.F.ReadAt.content c.chunks.file) all s index.size c.read_part.new.buffer.items c.deref.result.now is sized c.chunks.invariant.kept c.in-Some.ensures.some c.in-Some.ensures.within
          read.there read.within read.all c.deref.ensures.value in
          (rw c.in_default-2.is at c.in_ok-fault.ensures.come) settings chunk text c.args.pointers.items (c.chunks.invariant.come settings chunk text all is_kept is tells)
          (all_told index c.chunks.walk.at s settings chunk text all c.deref.result.now c.in-Some.ensures.needed here (known_size known all index.size is sized) given tells);
    }

pub returns-in-Err-clause-changed : goal.returns-in-Err-clause-changed
returns-in-Err-clause-changed g c = λ settings chunk text all is_kept is tells.
    let known = g.F.ReadAt.content c.args.file.now in
    let s : Span = c.in-Some.span in
    let index : Index = c.chunks.walk.index.now in
    let sized : HasSize known index.size = subst (λ (i : Index). HasSize known i.size) (sym c.chunks.invariant.index) c.requires.size in
    let read = c.in_ok-read_part.ensures in
    let here : IsIndexOf settings chunk text index = subst (λ (i : Index). IsIndexOf settings chunk text i) (sym c.chunks.invariant.index) is_kept.index in
    let given : c.deref.result.now ≡ slice_range all s.start s.end =
    given_is known (g.F.ReadAt.content c.chunks.file) all s index.size c.read_part.new.buffer.items c.deref.result.now is sized c.chunks.invariant.kept c.in-Some.ensures.some c.in-Some.ensures.within
    read.there read.within read.all c.deref.ensures.value in
    let come : HasCome settings chunk text c.args.pointers.items c.chunks.walk = c.chunks.invariant.come settings chunk text all is_kept is tells in
    let told : (x : Span) → needed c.chunks.walk ≡ Some x → IsToldApart text x c.deref.result.now =
    all_told index c.chunks.walk.at s settings chunk text all c.deref.result.now c.in-Some.ensures.needed here (known_size known all index.size is sized) given tells in
    changes c.in-Err.fault c.walk_fault.result (needed c.chunks.walk) s text all c.deref.result.now c.walk_fault.ensures c.in-Some.ensures.needed given
    (λ x e. let h = (rw c.in-Err.is at c.in_ok-fault.ensures.changed) x e in (h.1, h.2 settings chunk text c.args.pointers.items come))
    (λ e. let h = (rw c.in-Err.is at c.in_ok-fault.ensures.damaged) e in h.1 settings chunk text c.args.pointers.items come told)

pub returns-in-Ok-clause-found : goal.returns-in-Ok-clause-found
returns-in-Ok-clause-found g c = λ settings chunk text all is_kept is tells.
    (rw c.in-Ok.is at c.in_ok-found.ensures.found) settings chunk text c.args.pointers.items (c.chunks.invariant.come settings chunk text all is_kept is tells)

pub returns-clause-changed : goal.returns-clause-changed
returns-clause-changed g c = λ settings chunk text all is_kept is tells.
    no_change c.in-Err-2.fault c.walk_fault-in-Err-2.result text all
    ((rw c.in-Err-2.is at c.in_ok-found.ensures.damaged) settings chunk text c.args.pointers.items (c.chunks.invariant.come settings chunk text all is_kept is tells))

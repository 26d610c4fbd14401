use Rattle.std.proofs.Common.{rules, ◌≡◌, ℕ, ◌<◌, [], get_or, map}
use Rattle.jx_reduce.specs.Marks.{of_nothing}
use Rattle.jx_reduce.specs.Reduced.{depth_of, form_in}
use Rattle.jx_reduce.specs.declared.forms.entry.Entry.{Entry}
use Rattle.jx_reduce.specs.declared.reducing.reduced.Reduced.{Reduced}
use Rattle.jx_reduce.proofs.EachInPlace.{maps_at, made_each}
use Rattle.jx_reduce.proofs.Places.{all_entries, each_made}
use Rattle.jx_reduce.proofs.Sound.{sound_marks}
use Rattle.jx_reduce.proofs.reducing.reductions.Reductions.new.Goals as goal

record IsEmpty (d i : ℕ) (r : Reduced) : Type 0 where
  pub depth : depth_of r ≡ d
  pub form : (x : Entry) → form_in r ≡ of_nothing (get_or all_entries i x)

pub invariant_of-result : goal.invariant_of-result
invariant_of-result c =
    let empty : (i : ℕ) (e : Reduced) → i < 8 → IsEmpty c.args.depth i (get_or c.from_fn.result i e) =
    made_each _ (IsEmpty c.args.depth) _ 8 (λ i r q low call. (record { depth = search rules; form = λ x. search rules }, search rules)) c.from_fn.result c.from_fn.ensures.items in (
      sound_marks [] _
          (record {
            rising = tt;
            each = each_made c.args.depth of_nothing (map form_in c.from_fn.result) (maps_at form_in of_nothing all_entries c.from_fn.result c.from_fn.ensures.items.long (λ i d e low. (empty i e low).form d));
          }),
      maps_at depth_of (λ (x : Entry). c.args.depth) all_entries c.from_fn.result c.from_fn.ensures.items.long (λ i d e low. (empty i e low).depth),
    )

use Rattle.std.proofs.Common.{◌≡◌, ◌-◌, ◌<◌, [], ◌∷◌, length, All, Some, ap, sym, subst, ◌∙◌, arith}
use Rattle.std.proofs.lemmas.List.{length-append, length-set, with_items_is}
use Rattle.jx_maps.specs.Map.{track}
use Rattle.jx_run.specs.inside.Joins.{IsAbove}
use Rattle.jx_run.specs.OutcomeRun.{IsFormWithin}
use Rattle.jx_run.specs.inside.Reduced.{AreReduced, IsAt}
use Rattle.jx_run.proofs.Reducing.{all_push, push_above, pushed_at, reduced_within, set_numbered}
use Rattle.jx_run.proofs.runs.reduce.Paths.add.Goals as goal

pub structure_from-requires-clause-slots : goal.structure_from-requires-clause-slots
structure_from-requires-clause-slots c = subst (AreReduced c.args.depth c.args.map.now.segments) (sym c.deref_mut.ensures.value) c.requires.made.slots_are

pub returns-clause-above : goal.returns-clause-above
returns-clause-above c =
    subst (IsAbove c.args.self.now.structures.items) (sym c.in_ok-push.ensures.items) (push_above c.args.self.now.structures.items c.in_ok-marks.marks)

pub returns-clause-number : goal.returns-clause-number
returns-clause-number c =
    let marks = (track c.args.map.now c.args.state).marks in
    let olds = c.args.self.now.structures.items in
    let all = ap length c.in_ok-push.ensures.items ∙ length-append olds (c.in_ok-marks.marks ∷ []) in
    let count = c.len-number.ensures in
    let last : length olds ≡ c.len-number.result - 1 = omega (arith, all, count) in
    subst (IsAt c.args.depth marks c.push.new.self.items) last
    (subst (λ fs. IsAt c.args.depth marks fs (length olds)) (sym c.in_ok-push.ensures.items) (pushed_at c.args.depth marks olds c.in_ok-marks.marks c.in_ok-marks.ensures.marks))

pub returns-clause-made : goal.returns-clause-made
returns-clause-made c =
    let m = c.args.map.now in
    let old = c.args.self.now in
    let first = c.args.first in
    let marks = (track m c.args.state).marks in
    let news = c.push.new.self.items in
    let slots = with_items_is old.slots c.structure_from.new.slots (c.structure_from.auto.slots ∙ c.deref_mut.ensures.len) in
    let all = ap length c.in_ok-push.ensures.items ∙ length-append old.structures.items (c.in_ok-marks.marks ∷ []) in
    let count = c.len-number.ensures in
    let last : length old.structures.items ≡ c.len-number.result - 1 = omega (arith, all, count) in
    let here : IsAt c.args.depth marks news (c.len-number.result - 1) = subst (IsAt c.args.depth marks news) last
    (subst (λ fs. IsAt c.args.depth marks fs (length old.structures.items)) (sym c.in_ok-push.ensures.items)
    (pushed_at c.args.depth marks old.structures.items c.in_ok-marks.marks c.in_ok-marks.ensures.marks)) in
    let up : IsAbove old.structures.items news = subst (IsAbove old.structures.items) (sym c.in_ok-push.ensures.items) (push_above old.structures.items c.in_ok-marks.marks) in
    let numbers = c.requires.made.numbers_all in
    let low = c.requires.first in
    let within : first < length old.numbers.items = omega (arith, numbers, low) in
    let P = IsFormWithin c.args.depth m.start m.end in
    record {
      slots_all = ap length slots ∙ c.structure_from.auto.slots ∙ ap length c.deref_mut.ensures.value ∙ c.requires.made.slots_all;
      numbers_all = length-set old.numbers.items first (Some (c.len-number.result - 1)) ∙ numbers;
      slots_are = subst (AreReduced c.args.depth m.segments) (sym slots) c.in_ok-marks.ensures.slots;
      numbers_are = set_numbered c.args.depth m.segments old.numbers.items old.structures.items news first (c.len-number.result - 1) within c.requires.made.numbers_are up
          (subst (λ ms. IsAt c.args.depth ms news (c.len-number.result - 1)) (sym c.requires.path) here);
      within = subst (All P) (sym c.in_ok-push.ensures.items)
          (all_push P old.structures.items c.in_ok-marks.marks c.requires.made.within
          (reduced_within c.args.depth m.start m.end marks c.in_ok-marks.marks c.in_ok-marks.ensures.marks c.requires.inside));
    }

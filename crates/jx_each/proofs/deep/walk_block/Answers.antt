use Rattle.std.proofs.Common.{◌≡◌, ℕ, ◌+◌, ◌<◌, ◌≤◌, ◌∙◌, true, false, ap, get_or, sym, subst, arith}
use Rattle.std.specs.Prelude.{slice_range}
use Rattle.jx_compact.specs.declared.place.Place.{Place}
use Rattle.jx_compact.specs.declared.place.Place.TheVariants.{Between}
use Rattle.jx_compact.specs.Compact.{is_kept}
use Rattle.jx_each.specs.inside.Blocks.{place_at, placed}
use Rattle.jx_each.specs.inside.Stretches.{IsStretch, IsWalked}
use Rattle.jx_each.specs.Turns.{height_next}
use Rattle.jx_lex.specs.inside.Bits.{bit}
use Rattle.jx_each.specs.inside.Runs.{is_bracket}
use Rattle.jx_each.proofs.Keeping.{bracket_solid, other_kept}
use Rattle.jx_each.proofs.Walked.{walked_blanks, walked_none, walked_stretch}
use Rattle.jx_each.proofs.Walking.{blanks_lead, blanks_pass, first_of, is_outside, set_at, walk_end, walk_over, walk_stop}
use Rattle.jx_each.proofs.deep.walk_block.Goals as goal

pub loop-at-init : goal.loop-at-init
loop-at-init c =
    let same : c.args.walk.end ≡ c.args.walk.end + 0 = omega arith in
    record {
      within = omega arith;
      order = omega (arith, c.requires.order);
      first = λ _. c.requires.high;
      outside = λ l. absurd (omega (arith, l));
      high = omega arith;
      walked =
          subst (λ (j : ℕ). IsWalked c.args.takes c.args.bytes.now c.args.walk c.args.part.now.items (record { start = c.args.walk.start; end = j; place = placed c.args.inside; height = c.args.walk.height }) c.args.part.now.items) same
          (subst (λ (q : Place). IsWalked c.args.takes c.args.bytes.now c.args.walk c.args.part.now.items (record { start = c.args.walk.start; end = c.args.walk.end; place = q; height = c.args.walk.height }) c.args.part.now.items) c.requires.place
          (walked_none c.args.takes c.args.bytes.now c.args.walk c.args.part.now.items));
    }

pub returns-then-stop-eq-BLOCK-clause-walked : goal.returns-then-stop-eq-BLOCK-clause-walked
returns-then-stop-eq-BLOCK-clause-walked c =
    let n = c.next_set-stop.ensures in
    let i = c.loop-at.invariant in
    let xs = c.args.bytes.now in
    let base = c.args.walk.end in
    walked_stretch xs (base + 64) (omega arith) i.order (omega (arith, i.within))
    (subst (λ (q : Place). IsStretch (place_at c.args.inside c.args.words c.loop-at.at) c.loop-at.height (slice_range xs (base + c.loop-at.at) (base + 64)) q c.loop-at.height)
    (sym (c.place_of-place.ensures ∙ ap placed c.is_set.ensures))
    (walk_end xs base c.args.inside c.args.words c.requires.within c.requires.told
    c.loop-at.height c.loop-at.at c.next_set-stop.result c.if-height-gt1.true n.bounds.0 n.none c.if-stop-eq-BLOCK.true c.requires.whole))
    i.walked

pub loop-at-preserved-then-is_set : goal.loop-at-preserved-then-is_set
loop-at-preserved-then-is_set c =
    let n = c.next_set-stop.ensures in
    let m = c.next_clear-at.ensures in
    let i = c.loop-at.invariant in
    let xs = c.args.bytes.now in
    let base = c.args.walk.end in
    let stop = c.next_set-stop.result in
    let past = c.next_clear-at.result in
    let le : stop ≤ 64 = n.bounds.1 in
    let lt : stop < 64 = omega (arith, le, c.if-stop-eq-BLOCK.false) in
    let low : c.loop-at.at ≤ stop = n.bounds.0 in
    let gap : bit c.args.words.gaps stop ≡ true = sym c.is_set-in-loop-at.ensures ∙ c.if-is_set.true in
    let on : stop < past = m.past gap in
    let far : past ≤ 64 = m.bounds.1 in
    let out : place_at c.args.inside c.args.words past ≡ Between = blanks_lead xs base c.args.inside c.args.words c.requires.within c.requires.told stop past on far m.all in
    record {
      within = far;
      order = omega arith;
      first = λ e. absurd (omega (arith, e, on));
      outside = λ _. out;
      high = omega (arith, i.high, low, on);
      walked =
          subst (λ (q : Place). IsWalked c.args.takes xs c.args.walk c.args.part.now.items (record { start = base + past; end = base + past; place = q; height = c.loop-at.height }) c.push_stretch.new.part.items) (sym out)
          (walked_blanks xs c.push_stretch.new.part.items (base + past) (omega arith) (omega (arith, on)) c.in_ok-push_stretch.ensures
          (blanks_pass xs base c.args.inside c.args.words c.requires.within c.requires.told stop past far m.all)
          (walked_stretch xs (base + stop) (omega arith) i.order (omega (arith, low))
          (walk_stop xs base c.args.inside c.args.words c.requires.within c.requires.told
          c.loop-at.height c.loop-at.at stop c.if-height-gt1.true low n.none lt (c.requires.told.gaps.outside stop lt gap).0)
          i.walked));
    }

pub loop-at-preserved : goal.loop-at-preserved
loop-at-preserved c =
    let n = c.next_set-stop.ensures in
    let i = c.loop-at.invariant in
    let told = c.requires.told in
    let xs = c.args.bytes.now in
    let base = c.args.walk.end in
    let stop = c.next_set-stop.result in
    let le : stop ≤ 64 = n.bounds.1 in
    let lt : stop < 64 = omega (arith, le, c.if-stop-eq-BLOCK.false) in
    let low : c.loop-at.at ≤ stop = n.bounds.0 in
    let solid : bit c.args.words.gaps stop ≡ false = sym c.is_set-in-loop-at.ensures ∙ c.if-is_set.false in
    let bracket : bit c.args.words.brackets stop ≡ true = first_of c.args.words.brackets c.args.words.gaps stop (n.set lt) solid in
    let keeps : is_kept Between (get_or xs (base + stop) 0) ≡ true = other_kept (get_or xs (base + stop) 0) (bracket_solid (get_or xs (base + stop) 0)
    (set_at xs base c.args.inside c.args.words c.requires.within told is_bracket c.args.words.brackets stop told.brackets lt bracket)) in
    let out = is_outside xs base c.args.inside c.args.words c.requires.within told is_bracket c.args.words.brackets stop told.brackets lt bracket in
    record {
      within = omega (arith, lt);
      order = omega (arith, i.order, low);
      first = λ e. absurd (omega (arith, e));
      outside = λ _. out;
      high = omega (arith, i.high, low, c.height_next-height.ensures.most);
      walked =
          subst (λ (k : ℕ). IsWalked c.args.takes xs c.args.walk c.args.part.now.items
          (record { start = c.loop-at.start; end = base + (stop + 1); place = place_at c.args.inside c.args.words (stop + 1); height = k }) c.loop-at.part.items) (sym c.height_next-height.ensures.value)
          (subst (λ (q : Place). IsWalked c.args.takes xs c.args.walk c.args.part.now.items
          (record { start = c.loop-at.start; end = base + (stop + 1); place = q; height = height_next Between c.loop-at.height (get_or xs (base + stop) 0) }) c.loop-at.part.items) (sym out)
          (walked_stretch xs (base + (stop + 1)) (omega arith) i.order (omega (arith, low))
          (walk_over xs base c.args.inside c.args.words c.requires.within told
          c.loop-at.height c.loop-at.at stop c.if-height-gt1.true low n.none lt bracket keeps)
          i.walked));
    }

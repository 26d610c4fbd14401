use Rattle.std.proofs.Common.{arith, ◌∙◌, ◌+◌, ◌*◌, ap, sym, subst, refl, List, ℕ}
use Rattle.std.specs.Prelude.{IfSome, IsNone, Option}
use Rattle.std.proofs.lemmas.List.{take_all}
use Rattle.jx_run.specs.declared.texts.verdict.Refusal.{Refusal}
use Rattle.jx_run.specs.declared.texts.verdict.Verdict.TheVariants.{Refused}
use Rattle.jx_run.specs.Verdict.{Judged}
use Rattle.jx_edit.specs.inside.Chunks.{text_of}
use Rattle.jx_edit.specs.inside.Links.{place_behind}
use Rattle.jx_edit.specs.inside.Places.{origin}
use Rattle.jx_edit.specs.inside.Sums.{size_before}
use Rattle.jx_edit.proofs.Groups.{border_fits, border_more, no_sum, size_same}
use Rattle.jx_edit.proofs.Links.{walked_none, offset_none, still_fits, judged_end, text_map}
use Rattle.jx_edit.proofs.reading.walk.walk.Goals as goal

pub loop-group-init : goal.loop-group-init
loop-group-init c = record {
  walked = walked_none c.args.depth c.args.start c.args.chunks.now c.requires.linked;
  same = refl;
  offset_is = offset_none c.args.start c.args.chunks.now;
  sums_are = c.requires.sums;
  count = refl;
}

pub overflow_add-next : goal.overflow_add-next
overflow_add-next c =
    let cs = c.loop-group.chunks in
    let i = c.loop-group.invariant in
    omega (
      arith,
      border_fits cs c.loop-group.sums c.loop-group.group (size_before cs (c.loop-group.group * 64)) no_sum (omega (arith, c.loop-group-test.true, i.count)) i.sums_are refl,
      i.offset_is,
      still_fits c.args.start cs c.args.chunks.now i.same c.requires.fits,
    )

pub pass_group-requires-clause-fits : goal.pass_group-requires-clause-fits
pass_group-requires-clause-fits c = still_fits c.args.start c.loop-group.chunks c.args.chunks.now c.loop-group.invariant.same c.requires.fits

pub loop-group-preserved : goal.loop-group-preserved
loop-group-preserved c =
    let cs = c.loop-group.chunks in
    let i = c.loop-group.invariant in
    let next = (c.loop-group.group + 1) * 64 in
    record {
      walked = c.in_ok-refused.ensures.walked (subst (λ (o : Option Refusal). IsNone o) (sym c.in_default.is) refl);
      same = c.in_ok-refused.ensures.bytes ∙ i.same;
      offset_is =
          omega (
            arith,
            border_more cs c.loop-group.sums c.loop-group.group (size_before cs (c.loop-group.group * 64)) no_sum (omega (arith, c.loop-group-test.true, i.count)) i.sums_are refl,
            i.offset_is,
            size_same c.pass_group.new.chunks cs next c.in_ok-refused.ensures.bytes,
          );
      sums_are = c.in_ok-refused.ensures.sums;
      count = c.in_ok-refused.ensures.count ∙ i.count;
    }

pub returns-in-Some-clause-verdict : goal.returns-in-Some-clause-verdict
returns-in-Some-clause-verdict c =
    subst (λ (t : List ℕ). Judged c.args.start t c.args.depth (Refused c.in-Some.refusal)) (text_map c.loop-group.chunks c.args.chunks.now c.loop-group.invariant.same)
    (subst (λ (o : Option Refusal). IfSome o (λ r. Judged c.args.start (text_of c.loop-group.chunks) c.args.depth (Refused r))) c.in-Some.is c.in_ok-refused.ensures.refused)

pub returns-clause-verdict : goal.returns-clause-verdict
returns-clause-verdict c =
    subst (Judged c.args.start (text_of c.args.chunks.now) c.args.depth) (sym c.verdict_behind.ensures)
    (judged_end c.reader_and_grammar.ensures.verdict c.args.depth c.args.start c.loop-group.chunks c.args.chunks.now (c.loop-group.group * 64) (place_behind origin c.loop-group.chunks)
    c.loop-group.invariant.same (omega (arith, c.loop-group.invariant.sums_are.covers)) c.loop-group.invariant.walked
    (ap (place_behind origin) (sym (take_all (c.loop-group.group * 64) c.loop-group.chunks (omega (arith, c.loop-group.invariant.sums_are.covers))))))

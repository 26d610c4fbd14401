use Rattle.std.proofs.Common.{List, ◌+◌, ap, arith, subst, sym, ◌∙◌}
use Rattle.std.specs.Prelude.{slice_range}
use Rattle.jx_lex.specs.declared.alphabet.mark.Mark.{Mark}
use Rattle.jx_lex.specs.declared.alphabet.state.LexState.TheVariants.{Gap}
use Rattle.jx_lex.specs.Counts.{number_of}
use Rattle.jx_lex.specs.Lex.{lex}
use Rattle.jx_lex.specs.Seen.{has_end}
use Rattle.jx_lex.proofs.Counts.{ends-counted}
use Rattle.jx_reduce.specs.Read.{read, went}
use Rattle.jx_reduce.proofs.stack.blocks.block.Goals as goal

pub returns-clause-reads : goal.returns-clause-reads
returns-clause-reads g c =
    let text = c.args.text.now in
    let at = c.args.at in
    let m = c.in_ok-masks.ensures in
    let b = m.bounds in
    let room = c.if-text-at-lt-BLOCK.false in
    record {
      low = omega arith;
      fits = b.2;
      exit = m.exit;
      read = sym (c.in_ok-then.ensures.reads text at (omega (arith, room, c.requires.bounds)) m.kinds)
          ∙ ap (λ (ms : List Mark). read c.args.most ms (went c.args.expect (g.H.Containers.list c.args.holders.now))) (sym m.marks);
    }

pub returns-clause-seen : goal.returns-clause-seen
returns-clause-seen g c =
    let text = c.args.text.now in
    let at = c.args.at in
    let masks = c.in_ok-masks.masks in
    let m = c.in_ok-masks.ensures in
    let room = c.if-text-at-lt-BLOCK.false in
    let bytes = slice_range text at (at + masks.len) in
    let ends = (lex Gap at bytes).ends in
    c.counted.ensures.seen (lex Gap at bytes).marks ends
    (subst (λ (ms : List Mark). g.W.Watch.says c.counts-counts.result ms ends) (sym m.marks)
    (c.counts-counts.ensures text ends at masks.starts masks.len m.kinds (omega (arith, room, c.requires.bounds)) m.bounds.1 m.few
    (ends-counted at bytes m.exit ∙ ap (number_of has_end) m.marks)))

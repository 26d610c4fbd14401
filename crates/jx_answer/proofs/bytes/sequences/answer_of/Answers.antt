use Rattle.std.proofs.Common.{rules, sym, subst, ap, ◌∙◌}
use Rattle.jx_run.specs.Unclosed.{EndsUnclosed}
use Rattle.jx_answer.proofs.Roots.{accepted_as, text_in, ends_at, spans_at}
use Rattle.jx_answer.proofs.bytes.sequences.answer_of.Goals as goal

pub returns-then-ends_unclosed : goal.returns-then-ends_unclosed
returns-then-ends_unclosed c =
    let input = c.args.text.now in
    let s = c.args.started.now in
    let index = c.in_ok-index.index in
    let is = c.in_ok-index.ensures in
    let a = accepted_as input s (search rules) c.requires.readable in
    let u = c.ends_unclosed.ensures s.depth a.0 (text_in input s index a.0 is.text is.span a.1) in
    let end = ends_at input s c.requires.readable in
    record {
      answer = (
        c.requires.readable.marked,
        (a.0, a.1, subst (EndsUnclosed a.0) (ap (λ p. p.end) is.span ∙ sym end) (u.0 c.if-ends_unclosed.true)),
      );
    }

pub returns : goal.returns
returns c =
    let input = c.args.text.now in
    let s = c.args.started.now in
    let index = c.in_ok-index.index in
    let is = c.in_ok-index.ensures in
    let a = accepted_as input s (search rules) c.requires.readable in
    let text = text_in input s index a.0 is.text is.span a.1 in
    let u = c.ends_unclosed.ensures s.depth a.0 text in
    let end = ends_at input s c.requires.readable in
    record {
      answer = (
        c.requires.readable.marked,
        record {
          tree = a.0;
          accepted = a.1;
          closed = λ h.
              let t = u.1 (subst (EndsUnclosed a.0) (end ∙ ap (λ p. p.end) (sym is.span)) h) in
              absurd (cc (t, c.if-ends_unclosed.false));
          text = is.text;
          span = is.span ∙ sym (spans_at input s c.requires.readable);
          rows_are = is.rows s.depth a.0 a.1.is_text;
        },
      );
    }

use Rattle.std.proofs.Common.{rules, sym, subst}
use Rattle.jx_answer.specs.Named.{IsNamed}
use Rattle.jx_answer.proofs.NamedThere.{left_named, named_there, slice_short}
use Rattle.jx_answer.proofs.batches.naming.named_element.Goals as goal

pub returns-then-not-may_be_refused : goal.returns-then-not-may_be_refused
returns-then-not-may_be_refused c = record {
  named = λ input stands. left_named c.args.settings.now input c.args.element (λ both. absurd (cc (c.may_be_refused.ensures.1 both, c.if-not-may_be_refused.true)));
}

pub returns : goal.returns
returns c =
    let both = c.may_be_refused.ensures.0 c.if-not-may_be_refused.false in
    let settings = c.args.settings.now in
    let j = c.args.element in
    let bytes = c.args.bytes.now in
    record {
      named = λ input stands.
          subst (IsNamed settings input j) (sym c.element_unless.ensures)
          (named_there settings input j both.0 both.1 bytes stands c.in_ok-name.name
          (λ tree d. c.in_ok-name.ensures input j.span.end tree stands (slice_short input bytes j.span.start j.span.end stands (search rules) (search rules)) d));
    }

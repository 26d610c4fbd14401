use Rattle.std.proofs.Common.{[], ◌++◌, ◌∙◌, ap}
use Rattle.jx_answer.specs.inside.Pushed.{unmarked}
use Rattle.jx_answer.proofs.Shown.{done_readable, last_behind, last_read, shown_elements}
use Rattle.jx_answer.proofs.bytes.sequences.marked_elements.Goals as goal

pub push_done-requires : goal.push_done-requires
push_done-requires c = record { readable = done_readable c.args.text.now c.args.before.now c.args.done.now c.args.after.now c.requires.shown }

pub push_last-requires-clause-marked : goal.push_last-requires-clause-marked
push_last-requires-clause-marked c = last_behind c.args.text.now c.args.before.now c.args.done.now c.args.after.now c.requires.shown

pub push_last-requires-clause-of : goal.push_last-requires-clause-of
push_last-requires-clause-of c = last_read c.args.text.now c.args.before.now c.args.done.now c.args.after.now c.requires.shown

pub returns : goal.returns
returns c =
    record {
      elements = shown_elements c.args.text.now c.args.before.now c.args.done.now c.args.after.now c.requires.shown c.push_unmarked.new.elements.items
          c.push_done.new.elements.items c.push_last.new.elements.items
          (c.in_ok-push_unmarked.ensures.pushed ∙ ap (λ xs. xs ++ unmarked c.span.result) c.new-elements.ensures.items ∙ ap (λ s. [] ++ unmarked s) c.span.ensures.span)
          c.in_ok-push_done.ensures.pushed c.in_ok-push_last.ensures.pushed;
    }

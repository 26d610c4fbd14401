use Rattle.std.proofs.Common.{◌≡◌, ap, rules, sym, subst, ◌∙◌, Option}
use Rattle.std.specs.Prelude.{IfSome, IsNone, reverse, slice_range}
use Rattle.jx_lex.specs.declared.alphabet.lex_exit.LexExit.{LexExit}
use Rattle.jx_lex.specs.declared.alphabet.state.LexState.TheVariants.{Gap}
use Rattle.jx_lex.specs.Lex as lexical
use Rattle.jx_lex.specs.Lex.{lex, Track}
use Rattle.jx_lex.specs.Exit.{exit_of}
use Rattle.jx_reduce.specs.KnownStack.{IsFault}
use Rattle.jx_sentence.proofs.Behind.{behind, cut_behind, fault_behind, stopped_behind, token_behind}
use Rattle.jx_sentence.proofs.standing.standing_behind.Goals as goal

pub returns-in_default-clause-none : goal.returns-in_default-clause-none
returns-in_default-clause-none c = λ _.
    let none : IsNone c.in_ok-exit.field-0 = search rules in
    stopped_behind c.args.depth c.args.from (slice_range c.args.text.now c.args.from c.args.to) c.new.result c.scan.new.sink.stack c.scan.new.sink.token c.new.ensures.depth c.new.ensures.reads
    c.in_ok-exit.ensures.seen (c.in_ok-exit.ensures.done none)

pub returns-in_default-exit-clause-none : goal.returns-in_default-exit-clause-none
returns-in_default-exit-clause-none c = λ _.
    let bytes = slice_range c.args.text.now c.args.from c.args.to in
    let track : Track = lex Gap c.args.from bytes in
    let there : exit_of c.in-Some.exit ≡ track.exit =
    subst (λ (o : Option LexExit). IfSome o (λ e. exit_of e ≡ track.exit)) c.in-Some.is c.in_ok-exit.ensures.exit in
    let exit : lexical.fault c.in_default-exit.field-0 ≡ track.exit = sym (ap exit_of c.in_default-exit.is) ∙ there in
    cut_behind c.args.depth c.args.from bytes c.new.result c.scan.new.sink.stack c.scan.new.sink.token c.new.ensures.depth c.new.ensures.reads c.in_ok-exit.ensures.seen
    c.in_default-exit.field-0 exit

pub returns-then-is_done-clause-none : goal.returns-then-is_done-clause-none
returns-then-is_done-clause-none c = λ _.
    let fault : IsFault c.scan.new.sink.stack.reading = search rules in
    fault_behind c.args.depth c.args.from (slice_range c.args.text.now c.args.from c.args.to) c.new.result c.scan.new.sink.stack c.scan.new.sink.token c.new.ensures.depth c.new.ensures.reads
    c.in_ok-exit.ensures.seen fault

pub returns-clause-stands : goal.returns-clause-stands
returns-clause-stands c =
    let bytes = slice_range c.args.text.now c.args.from c.args.to in
    let track : Track = lex Gap c.args.from bytes in
    let there : exit_of c.in-Some.exit ≡ track.exit =
    subst (λ (o : Option LexExit). IfSome o (λ e. exit_of e ≡ track.exit)) c.in-Some.is c.in_ok-exit.ensures.exit in
    let exit : lexical.state c.in-State.state ≡ track.exit = sym (ap exit_of c.in-State.is) ∙ there in
    record {
      open_ones = reverse c.in_ok-expect.holders.items;
      reading =
          behind c.args.depth c.args.from bytes c.new.result c.scan.new.sink.stack c.scan.new.sink.token c.new.ensures.depth c.new.ensures.reads c.in_ok-exit.ensures.seen
          c.in-State.state c.in_ok-expect.expect (reverse c.in_ok-expect.holders.items) exit c.in_ok-expect.ensures.standing;
      innermost = c.innermost.ensures;
    }

pub returns-clause-token : goal.returns-clause-token
returns-clause-token c =
    let going : IsFault c.scan.new.sink.stack.reading → ⊥ = search rules in
    token_behind c.args.depth c.args.from (slice_range c.args.text.now c.args.from c.args.to) c.new.result c.scan.new.sink.stack c.scan.new.sink.token c.new.ensures.depth c.new.ensures.reads
    c.in_ok-exit.ensures.seen going

use Rattle.std.proofs.Common.{◌≡◌, ℕ, List, Option, length, ap, rules, subst, sym, ◌∙◌}
use Rattle.std.specs.Prelude.{IfSome, slice_range}
use Rattle.jx_lex.specs.declared.alphabet.lex_exit.LexExit.{LexExit}
use Rattle.jx_lex.specs.Lex as lexical
use Rattle.jx_lex.specs.Lex.{lex}
use Rattle.jx_lex.specs.Seen.{SeesTrack}
use Rattle.jx_lex.specs.Exit.{exit_of}
use Rattle.jx_reduce.specs.KnownStack.{HasSeen, IsFault}
use Rattle.jx_run.proofs.ReaderSteps.{slice_all}
use Rattle.jx_explain.proofs.Standings.{reached_more}
use Rattle.jx_explain.proofs.reached.read_slice.Goals as goal

pub returns : goal.returns
returns c = λ limit from bytes h.
    let slice : List ℕ = c.args.slice.now in
    let part : List ℕ = slice_range slice 0 (length slice) in
    let same : part ≡ slice = slice_all slice in
    let sees : SeesTrack (λ marks ends. HasSeen marks ends c.args.stack) (λ marks ends. HasSeen marks ends c.scan.new.sink.stack) (lex c.args.state 0 slice) =
    subst (λ (xs : List ℕ). SeesTrack (λ marks ends. HasSeen marks ends c.args.stack) (λ marks ends. HasSeen marks ends c.scan.new.sink.stack) (lex c.args.state 0 xs)) same c.in_ok-exit.ensures.seen in
    let there : exit_of c.in-Some.exit ≡ (lex c.args.state 0 part).exit =
    subst (λ (o : Option LexExit). IfSome o (λ e. exit_of e ≡ (lex c.args.state 0 part).exit)) c.in-Some.is c.in_ok-exit.ensures.exit in
    let exit : lexical.state c.in-State.state ≡ (lex c.args.state 0 slice).exit = sym (ap exit_of c.in-State.is) ∙ there ∙ ap (λ (xs : List ℕ). (lex c.args.state 0 xs).exit) same in
    let going : IsFault c.scan.new.sink.stack.reading → ⊥ = search rules in
    reached_more limit from bytes slice c.args.stack c.scan.new.sink.stack c.args.state c.in-State.state h sees exit going

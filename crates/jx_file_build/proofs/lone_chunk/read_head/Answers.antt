use Rattle.std.proofs.Common.{◌≡◌, [], List, Option, Some, length, ℕ, subst, sym}
use Rattle.std.specs.Prelude.{IfSome, slice_range}
use Rattle.std.proofs.lemmas.Result.{IfOk-at_ok}
use Rattle.jx_lex.specs.declared.alphabet.lex_exit.LexExit.{LexExit}
use Rattle.jx_lex.specs.declared.alphabet.lex_exit.LexExit.TheVariants.{State}
use Rattle.jx_lex.specs.declared.alphabet.state.LexState.{LexState}
use Rattle.jx_lex.specs.Exit.{exit_of}
use Rattle.jx_lex.specs.Lex as lexical
use Rattle.jx_lex.specs.Lex.{lex}
use Rattle.jx_run.proofs.ReaderSteps.{slice_all}
use Rattle.jx_file_build.specs.inside.Tallied.{Tells}
use Rattle.jx_file_build.proofs.lone_chunk.read_head.Goals as goal

pub returns-clause-sum : goal.returns-clause-sum
returns-clause-sum c =
    let s = c.args.state in
    let sum = c.scan.new.sink in
    subst (λ (xs : List ℕ). Tells (lex s 0 xs).marks (lex s 0 xs).ends sum.sum sum.begins sum.ends) (slice_all c.args.head.now)
    (IfOk-at_ok _ c.in-Ok.is c.scan.ensures.seen [] [] c.new-sum.ensures)

pub returns-clause-exit : goal.returns-clause-exit
returns-clause-exit c =
    let s = c.args.state in
    let head = c.args.head.now in
    let bytes = slice_range head 0 (length head) in
    let next = c.in-Some.next in
    let at : c.in-Ok.exit ≡ Some (State next) = subst (λ (o : Option LexState). IfSome o (λ q. c.in-Ok.exit ≡ Some (State q))) c.in-Some.is c.state_at.ensures in
    let said : IfSome c.in-Ok.exit (λ e. exit_of e ≡ (lex s 0 bytes).exit) = IfOk-at_ok _ c.in-Ok.is c.scan.ensures.exit in
    let here : exit_of (State next) ≡ (lex s 0 bytes).exit = subst (λ (o : Option LexExit). IfSome o (λ e. exit_of e ≡ (lex s 0 bytes).exit)) at said in
    subst (λ (xs : List ℕ). (lex s 0 xs).exit ≡ lexical.state next) (slice_all head) (sym here)

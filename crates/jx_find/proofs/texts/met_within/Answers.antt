use Rattle.std.proofs.Common.{◌≡◌, ◌-◌, ◌++◌, ℕ, List, [], length, refl, arith}
use Rattle.std.specs.Prelude.{slice_range}
use Rattle.std.proofs.lemmas.List.Edits.{length-between}
use Rattle.std.proofs.lemmas.Result.{IfOk-at_ok}
use Rattle.jx_lex.specs.declared.alphabet.mark.Mark.{Mark}
use Rattle.jx_lex.specs.declared.alphabet.state.LexState.TheVariants.{Gap}
use Rattle.jx_lex.specs.Lex.{lex}
use Rattle.jx_run.specs.Telling.{moved_ends, moved_marks}
use Rattle.jx_find.specs.declared.held.Sought.{Sought}
use Rattle.jx_find.specs.Held.{IsHeld}
use Rattle.jx_find.proofs.Alone.{held_alone}
use Rattle.jx_find.proofs.texts.met_within.Goals as goal

pub returns-in_ok-ended-in-Ok-clause-met : goal.returns-in_ok-ended-in-Ok-clause-met
returns-in_ok-ended-in-Ok-clause-met c =
    let bytes : List ℕ = slice_range c.args.slice.now 0 c.args.to in
    let edges = c.args.edges.now in
    let track = lex Gap 0 bytes in
    let fresh = c.args.fresh in
    let held = c.in-Ok.held in
    let long : length bytes ≡ c.args.to - 0 = length-between c.args.slice.now 0 c.args.to (let w = c.requires.within in omega (arith, w)) in
    let all = IfOk-at_ok
    (λ (next : Sought). (before : List ℕ) (marks : List Mark) (ends : List ℕ) → (0 ≡ length before) × IsHeld before edges marks ends fresh.state fresh.next fresh.begun fresh.name.items
    → IsHeld (before ++ bytes) edges (marks ++ moved_marks (length before) track.marks) (ends ++ moved_ends (length before) track.ends) next.state next.next next.begun next.name.items)
    c.in-Ok.is c.in_ok-read.ensures.held in
    c.in_ok-ended-in-Ok.ensures bytes track.marks track.ends (omega (arith, long))
    (held_alone bytes edges track.marks track.ends held.state held.next held.begun held.name.items (all [] [] [] (refl, c.requires.fresh)))

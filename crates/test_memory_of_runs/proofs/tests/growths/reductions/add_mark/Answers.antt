use Rattle.std.proofs.Common.{ℕ, List, [], ◌∷◌, ◌+◌, ◌<◌, ◌≤◌, arith}
use Rattle.jx_lex.specs.declared.alphabet.mark.Mark.{Mark}
use Rattle.jx_reduce.specs.Offsets.{EachIn}
use Rattle.jx_reduce.proofs.Cuts.{RisingFrom-push, below-push}
use Rattle.test_memory_of_runs.proofs.tests.growths.reductions.add_mark.Goals as goal

later : (at : ℕ) (ms : List Mark) → EachIn (λ m. (0 ≤ m.at) × (m.at < at)) ms → EachIn (λ m. (0 ≤ m.at) × (m.at < at + 1)) ms
later at [] e = e
later at (m ∷ ms) e = ((e.0.0, omega (arith, e.0.1)), later at ms e.1)

pub returns-in_ok-push-clause-rising : goal.returns-in_ok-push-clause-rising
returns-in_ok-push-clause-rising c =
    let next : Mark = record { kind = c.in-Some.kind; at = c.args.at } in
    rw c.in_ok-push.ensures.items (RisingFrom-push 0 0 c.args.marks.now.items next (omega arith) c.requires.rising c.requires.before)

pub returns-in_ok-push-clause-before : goal.returns-in_ok-push-clause-before
returns-in_ok-push-clause-before c =
    let next : Mark = record { kind = c.in-Some.kind; at = c.args.at } in
    rw c.in_ok-push.ensures.items (below-push 0 (c.args.at + 1) c.args.marks.now.items next (omega arith) (omega arith) c.requires.before)

pub returns-in_default-clause-before : goal.returns-in_default-clause-before
returns-in_default-clause-before c = later c.args.at c.args.marks.now.items c.requires.before

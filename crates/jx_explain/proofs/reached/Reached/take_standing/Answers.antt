use Rattle.std.specs.Prelude.{reverse}
use Rattle.jx_explain.proofs.Standings.{stands_there}
use Rattle.jx_explain.proofs.reached.Reached.take_standing.Goals as goal

pub returns : goal.returns
returns c = λ limit from bytes h.
    stands_there limit from bytes c.args.self.now.stack c.args.self.now.state c.in_ok-expect.expect (reverse c.in_ok-expect.holders.items) c.innermost.result c.args.self.now.token h
    c.in_ok-expect.ensures.standing c.innermost.ensures

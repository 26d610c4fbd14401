use Rattle.std.proofs.Common.{Option, subst}
use Rattle.std.specs.Prelude.{IfSome, reverse}
use Rattle.jx_edit.specs.Standing.{StandsBefore}
use Rattle.jx_edit.specs.declared.reading.standing.Stand.{Stand}
use Rattle.jx_serve.proofs.standing.standing_in.Goals as goal

pub returns : goal.returns
returns c =
    let document = c.args.document.now in
    let stood : StandsBefore document.settings document.bytes c.args.at c.in-Some.stand =
    subst (λ (o : Option Stand). IfSome o (StandsBefore document.settings document.bytes c.args.at)) c.in-Some.is c.in_ok-stand.ensures in
    record {
      from = stood.from;
      begins = stood.begins;
      stands = record { open_ones = reverse c.in-Some.stand.holders.items; reading = stood.reading; innermost = c.innermost.ensures };
    }

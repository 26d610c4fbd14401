use Rattle.std.proofs.Common.{map, subst}
use Rattle.std.specs.Prelude.{string_bytes, IfSome}
use Rattle.jx_report.specs.inside.PointerReads.{AreSought}
use Rattle.jx_report.proofs.reading.Reading.of.Goals as goal

pub returns-in-Some : goal.returns-in-Some
returns-in-Some c =
    let task = c.args.command.now.task in
    let sought = subst (λ few. IfSome few (λ read. AreSought task read.pointers.items read.unread.items)) c.in-Some.is c.requires.few in
    record {
      begins = record { spelt = sought.spelt; task_is = sought.task_is; looked_up = c.in_ok-reader.ensures (map string_bytes sought.spelt.items) sought.read };
    }

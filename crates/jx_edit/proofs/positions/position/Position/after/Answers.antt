use Rattle.std.proofs.Common.{sym, ap, ◌∙◌}
use Rattle.jx_edit.specs.inside.Moves.{joined}
use Rattle.jx_edit.proofs.Counting.{behind_joined}
use Rattle.jx_edit.proofs.positions.position.Position.after.Goals as goal

pub returns : goal.returns
returns c = c.joined.ensures ∙ ap (joined c.args.self) c.behind-moved.ensures ∙ sym (behind_joined c.args.encoding c.args.self c.args.bytes.now)

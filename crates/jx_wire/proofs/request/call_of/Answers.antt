use Rattle.std.proofs.Common.{[], refl}
use Rattle.jx_wire.proofs.request.call_of.Goals as goal

pub request_call-requires : goal.request_call-requires
request_call-requires c = c.member-params.ensures refl [] c.root.ensures

pub notification_call-requires : goal.notification_call-requires
notification_call-requires c = c.member-params.ensures refl [] c.root.ensures

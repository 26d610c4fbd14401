use Rattle.std.proofs.Common.{◌≡◌, ◌-◌, List, length, Some, sym, subst}
use Rattle.std.specs.Prelude.{slice_get}
use Rattle.jx_names.specs.declared.name_bytes.Name.{Name}
use Rattle.jx_names.proofs.Lists.{ends_last}
use Rattle.jx_names.proofs.open_names.OpenNames.bytes_end.Goals as goal

pub returns-in-Some : goal.returns-in-Some
returns-in-Some c =
    ends_last 0 c.args.self.now.names.items c.in-Some.name.now
    (subst (λ (names : List Name). slice_get names (length names - 1) ≡ Some c.in-Some.name.now) c.deref.ensures.value (sym c.in-Some.ensures.value))

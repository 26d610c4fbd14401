use Rattle.std.proofs.Common.{◌≡◌, ℕ, ◌-◌, List, Bool, length, take, ap, ◌∙◌, arith}
use Rattle.jx_file_build.specs.declared.open_kinds.NamePlace.TheVariants.{Elsewhere}
use Rattle.jx_file_build.specs.inside.OpenKinds.{Kinds}
use Rattle.jx_file_build.proofs.Mirroring.{one_fewer}
use Rattle.jx_file_build.proofs.open_kinds.OpenKinds.end.Goals as goal

pub returns : goal.returns
returns c =
    let items = c.args.self.now.are_objects.items in
    let fewer = c.saturating_sub.ensures in
    let len = c.len-count.ensures in
    let count : c.saturating_sub.result ≡ length items - 1 = omega (arith, fewer, len) in
    ap (λ (os : List Bool). let k : Kinds = record { opened = os; name = Elsewhere } in k)
    (one_fewer items _ (c.truncate.ensures.items ∙ ap (λ (n : ℕ). take n items) count))

use Rattle.std.proofs.Common.{◌≡◌, ℕ, List, get_or, map, refl, sym, subst}
use Rattle.std.proofs.lemmas.List.{get_or-map}
use Rattle.jx_names.specs.inside.ApartKeys.{StandsIn, key_of}
use Rattle.jx_names.proofs.Apart.{no_name}
use Rattle.jx_names.proofs.KeyTables.{all_new, all_stand}
use Rattle.jx_names.proofs.key_table.are_put.Goals as goal

pub names-preserved : goal.names-preserved
names-preserved c =
    let names = c.args.names.now in
    let keys : List ℕ = map key_of names in
    let l = c.names in
    let is : get_or keys l.at 0 ≡ (get_or names l.at no_name).key = get_or-map key_of names l.at no_name 0 c.names-test.true in
    let put = c.if-not-put.ensures in (
      all_new keys l.table c.args.shift l.at l.invariant.0 l.invariant.1 (λ s. put.new refl (subst (StandsIn l.table c.args.shift) is s)),
      all_stand keys l.table c.args.shift l.at l.invariant.0 l.invariant.1 c.put.new.table (subst (StandsIn c.put.new.table c.args.shift) (sym is) (put.put refl)) (put.kept refl),
    )

use Rattle.std.proofs.Common.{refl}
use Rattle.jx_names.proofs.Apart.{new_by_keys, not_true}
use Rattle.jx_names.proofs.key_pairs.is_new.Goals as goal

pub returns : goal.returns
returns c = λ other. new_by_keys c.args.names.now _ c.args.at refl c.requires (c.has_key.ensures (not_true c.has_key.result other))

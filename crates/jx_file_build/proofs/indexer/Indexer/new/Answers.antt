use Rattle.std.proofs.Common.{List, ℕ, [], arith, refl, subst, sym}
use Rattle.jx_file_build.specs.Held.{AreHeld}
use Rattle.jx_file_build.proofs.Feedings.{part_none}
use Rattle.jx_file_build.proofs.indexer.Indexer.new.Goals as goal

pub returns : goal.returns
returns c =
    let settings = c.args.settings.now in
    let chunk = c.args.chunk in
    record {
      fed = record {
        names = c.requires.any;
        settings_are = refl;
        chunk_is = refl;
        kept = c.new.result;
        kept_is = refl;
        held =
            subst (λ (xs : List ℕ). AreHeld c.args.has_names settings chunk [] c.new.result xs) (sym c.new-2.ensures.items)
            (part_none c.args.has_names settings chunk c.new.result (c.new.ensures chunk) (let low = c.bytes.ensures.within.0 in let is = c.bytes.ensures.value in omega (arith, low, is)));
      };
    }

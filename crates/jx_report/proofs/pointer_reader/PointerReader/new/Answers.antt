use Rattle.std.proofs.Common.{[], subst}
use Rattle.jx_run.specs.declared.texts.settings.Settings.{Settings}
use Rattle.jx_find.specs.Finder.{HasFed}
use Rattle.jx_report.proofs.pointer_reader.PointerReader.new.Goals as goal

pub returns : goal.returns
returns c = λ spelt h.
    let pointers = c.args.read.pointers.items in
    record {
      pointers = pointers;
      read = h;
      fed = subst (λ (s : Settings). HasFed s pointers [] c.in_ok-finder.finder) c.with_any_names.ensures c.in_ok-finder.ensures.fed;
      compared = c.new-2.ensures;
    }

use Rattle.std.proofs.Common.{refl}
use Rattle.jx_index.proofs.InTurns.{all_first}
use Rattle.jx_names.specs.declared.held.Held.{Held}
use Rattle.jx_names.proofs.Feeds.{held_none}
use Rattle.jx_names.proofs.names_reader.NamesReader.new.Goals as goal

pub invariant_of-result : goal.invariant_of-result
invariant_of-result c = record { turn = all_first (λ (h : Held). h.begun) c.new.result c.new-2.result c.new.ensures.reads c.new-2.ensures.begun }

pub returns : goal.returns
returns c =
    let settings = c.args.settings.now in
    record {
      fed = record {
        names = c.requires.unique;
        settings_are = c.new.ensures.settings;
        start = c.new.ensures.start;
        read = c.new.ensures.reads;
        kept = c.new-2.result;
        kept_is = refl;
        held = λ going. held_none settings.mark c.new-2.result (c.slices_are_told_in_turn.ensures.none settings.mark) c.new-2.ensures.held;
      };
    }

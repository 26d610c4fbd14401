use Rattle.std.proofs.Common.{List, map, subst}
use Rattle.std.specs.Prelude.{String, string_bytes}
use Rattle.std.specs.Global.{Global}
use Rattle.jx_words.specs.inside.ReadPointers.{AreReadPointers}
use Rattle.jx_report.proofs.pointer_reader.few_pointers.Goals as goal

pub returns-in_ok-read-in-At : goal.returns-in_ok-read-in-At
returns-in_ok-read-in-At c =
    let read = c.in_ok-read-in-At.read in
    record {
      spelt = c.in-At.pointers;
      task_is = c.in-At.is;
      read = subst (λ (words : List (String Global)). AreReadPointers (map string_bytes words) read.pointers.items read.unread.items) c.deref.ensures.value
          c.in_ok-read-in-At.ensures;
    }

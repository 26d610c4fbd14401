use Rattle.std.proofs.Common.{◌≡◌, ℕ, List, length}
use Rattle.std.specs.List.{AllZip}
use Rattle.jx_run.specs.declared.texts.settings.Settings.{Settings}
use Rattle.jx_run.specs.Elements.{Part}
use Rattle.jx_answer.specs.Sequence.{IsElement}
use Rattle.jx_answer.specs.Settled.{IsElementBy}
use Rattle.jx_run.proofs.InPlace.{Passed}
use Rattle.jx_answer.proofs.bytes.by_names.elements_by_names.Given as goal

-- the elements before this one had their turn
abbrev pub invariant-loop-at : goal.invariant-loop-at
invariant-loop-at l = record {
  long : length l.elements.items ≡ length l.initial.elements.items;
  passed : (settings : Settings) (input : List ℕ) (ps : List Part) → settings.names ≡ l.rule → AllZip (IsElement input settings.depth) ps l.initial.elements.items
      → Passed (IsElement input settings.depth) (IsElementBy settings input) l.at ps l.elements.items;
}

use Rattle.std.proofs.Common.{[], ap}
use Rattle.std.specs.Prelude.{is_some}
use Rattle.std.proofs.lemmas.Result.{IfErr-weaker, IfOk-weaker}
use Rattle.jx_index.proofs.InTurns.{first_turn}
use Rattle.jx_find.specs.Finder.{HasHeld}
use Rattle.jx_find.proofs.Finders.{held_first}
use Rattle.jx_find.proofs.found_each.find_each_through.Goals as goal

pub read_slice-requires-clause-turn : goal.read_slice-requires-clause-turn
read_slice-requires-clause-turn c = first_turn c.new-reader.result c.in_ok-none.none.begun c.new-reader.ensures.reads (ap is_some c.in_ok-none.ensures.begun)

pub returns : goal.returns
returns c =
    let settings = c.args.settings.now in
    let text = c.args.text.now in
    let edges = c.args.edges.now in
    let new = c.new-reader.ensures in
    let none = held_first settings edges c.new-reader.result c.in_ok-none.none c.requires.any new.settings new.start new.reads (c.slices_are_told_in_turn.ensures.none settings.mark) (c.in_ok-none.ensures.held c.requires.trie) in
    let held : HasHeld settings text edges c.read_slice.new.reader c.in_ok-held.held = c.in_ok-held.ensures.held settings [] none in
    let told = c.answers_behind.result in
    record {
      accepted = IfOk-weaker told _ _ (λ read h. IfOk-weaker read _ _ (λ found f. f settings text held) h) c.answers_behind.ensures.accepted;
      refused = IfOk-weaker told _ _ (λ read h. IfErr-weaker read _ _ (λ refusal f. f settings text held) h) c.answers_behind.ensures.refused;
      found = IfOk-weaker told _ _ (λ read h. IfOk-weaker read _ _ (λ found f. f settings text held c.requires.trie c.requires.ways) h) c.answers_behind.ensures.found;
    }

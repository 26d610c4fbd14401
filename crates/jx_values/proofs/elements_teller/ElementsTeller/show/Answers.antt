use Rattle.std.proofs.Common.{◌≡◌, List, ℕ, refl, subst}
use Rattle.jx_values.specs.NameTexts.{text_run}
use Rattle.jx_values.specs.inside.Showing.{texts_of}
use Rattle.jx_values.proofs.ElementsTold.{as_made, as_texts}
use Rattle.jx_values.proofs.elements_teller.ElementsTeller.show.Goals as goal

pub returns-then-not-self : goal.returns-then-not-self
returns-then-not-self c = λ by_texts content settings pointer bytes given h. as_made by_texts content settings pointer bytes given c.args.self.now c.if-not-self.true h

pub returns : goal.returns
returns c = λ by_texts content settings pointer bytes given h.
    as_texts by_texts content settings pointer bytes given c.args.self.now _ c.if-not-self.false h c.take_lines.ensures.by
    (subst (λ (l : List ℕ). texts_of c.take_lines.new.self ≡ text_run (texts_of c.args.self.now.showing) l) c.ready.ensures c.in_ok-take_lines.ensures.run) refl refl
    c.clear_ready.ensures.reader c.clear_ready.ensures.ready (λ lines. c.clear_ready.ensures.taken_by content pointer bytes lines)

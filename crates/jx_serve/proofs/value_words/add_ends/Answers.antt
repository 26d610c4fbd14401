use Rattle.std.proofs.Common.{decimal, suc}
use Rattle.jx_serve.specs.Words.{position}
use Rattle.jx_serve.proofs.Texts.{ends_value, ends_words, position_value}
use Rattle.jx_serve.proofs.value_words.add_ends.Goals as goal

pub returns-clause-words : goal.returns-clause-words
returns-clause-words c =
    ends_words c.args.out.now.items c.extend_from_slice.new.self.items c.add_number.new.out.items c.extend_from_slice-2.new.self.items c.add_number-2.new.out.items c.extend_from_slice-3.new.self.items
    c.add_number-3.new.out.items c.extend_from_slice-4.new.self.items c.add_number-4.new.out.items c.extend_from_slice-5.new.self.items c.args.start c.args.end c.in_ok-extend_from_slice.ensures.items
    c.in_ok-add_number.ensures.words c.in_ok-extend_from_slice-2.ensures.items c.in_ok-add_number-2.ensures.words c.in_ok-extend_from_slice-3.ensures.items c.in_ok-add_number-3.ensures.words
    c.in_ok-extend_from_slice-4.ensures.items c.in_ok-add_number-4.ensures.words c.in_ok-extend_from_slice-5.ensures.items

pub returns-clause-value : goal.returns-clause-value
returns-clause-value c = λ limit.
    ends_value (suc limit) (position c.args.start) (position c.args.end)
    (position_value limit (decimal c.args.start.line) (decimal c.args.start.character) c.in_ok-add_number.ensures.number c.in_ok-add_number-2.ensures.number)
    (position_value limit (decimal c.args.end.line) (decimal c.args.end.character) c.in_ok-add_number-3.ensures.number c.in_ok-add_number-4.ensures.number)

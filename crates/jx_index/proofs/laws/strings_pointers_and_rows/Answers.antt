use Rattle.jx_index.proofs.UnitLaws.{string_is}
use Rattle.jx_index.proofs.TokenLaws.{tokens_are}
use Rattle.std.proofs.Common.{suc, ◌∙◌}
use Rattle.jx_index.specs.Leads.{children_of}
use Rattle.jx_index.proofs.Forms.{has_form}
use Rattle.jx_index.proofs.Rising.{starts_rise}
use Rattle.jx_index.proofs.Spelt.{utf8_of_form, pointer_of_form}
use Rattle.jx_index.proofs.Parents.{children_are, numbers-numbered}
use Rattle.jx_index.proofs.laws.strings_pointers_and_rows.Goals as goal

pub returns-clause-strings : goal.returns-clause-strings
returns-clause-strings c = λ w us h. string_is h

pub returns-clause-pointers : goal.returns-clause-pointers
returns-clause-pointers c = λ p ts h. tokens_are h

pub returns-clause-children : goal.returns-clause-children
returns-clause-children c = λ tree inner t h. children_are h ∙ numbers-numbered (children_of inner) (suc t.number)

pub returns-clause-forms : goal.returns-clause-forms
returns-clause-forms c = λ p u i. has_form p u i

pub returns-clause-starts : goal.returns-clause-starts
returns-clause-starts c = λ start limit bytes tree d. starts_rise (record { reads = c.grammar_of_tokens.ensures.reads; stays = c.grammar_of_tokens.ensures.stays }) d.reads

pub returns-clause-spelt : goal.returns-clause-spelt
returns-clause-spelt c = λ p ts h. (utf8_of_form h, pointer_of_form h)

use Rattle.jx_serve.proofs.Texts.{accepted}
use Rattle.jx_serve.proofs.reply_words.message_of.Goals as goal

pub returns-then-known-clause-text : goal.returns-then-known-clause-text
returns-then-known-clause-text c = accepted c.add_message.new.out.items (c.in_ok-known.ensures.known c.if-known.true)

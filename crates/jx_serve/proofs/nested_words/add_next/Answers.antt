use Rattle.std.proofs.Common.{ap, arith, length}
use Rattle.jx_serve.proofs.Opens.{stepped}
use Rattle.jx_serve.proofs.nested_words.add_next.Goals as goal

pub returns : goal.returns
returns c = λ yes head o.
    stepped head c.in-Some.count c.args.levels.now.items c.go_back.new.levels.items c.push.new.self.items c.args.number c.args.out.now.items c.go_back.new.out.items c.begin_symbol.new.out.items
    (omega (arith, c.in-Some.ensures.within, ap length c.deref.ensures.value)) c.in-Some.ensures.few c.in_ok-go_back.ensures.kept c.in_ok-push.ensures.items c.in_ok-go_back.ensures.bytes (c.in_ok-known.ensures yes) o

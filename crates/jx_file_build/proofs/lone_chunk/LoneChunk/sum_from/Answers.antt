use Rattle.std.proofs.Common.{◌≡◌, List, ℕ, Option, ap, sym, ◌∙◌, subst}
use Rattle.std.specs.Prelude.{IfSome}
use Rattle.std.proofs.lemmas.Option.{IfSome_then}
use Rattle.jx_lex.specs.declared.alphabet.state.LexState.{LexState}
use Rattle.jx_lex.specs.Lex.{LexExit, lex}
use Rattle.jx_file_build.specs.declared.lone_chunk.Head.{Head}
use Rattle.jx_file_build.specs.LoneChunk.{IsReadAlone, lone_of}
use Rattle.jx_file_build.specs.inside.Tallied.{Tells}
use Rattle.jx_file_build.proofs.Lone.{lone_sum}
use Rattle.jx_file_build.proofs.lone_chunk.LoneChunk.sum_from.Goals as goal

pub returns-then-are_same : goal.returns-then-are_same
returns-then-are_same c =
    let a = c.self.inside in
    let s = c.args.state in
    let bytes = a.head.items in
    let head = c.in-Some.head in
    let sums : Tells (lex s 0 bytes).marks (lex s 0 bytes).ends head.sum.sum head.sum.begins head.sum.ends =
    subst (λ (xs : List ℕ). Tells (lex s 0 xs).marks (lex s 0 xs).ends head.sum.sum head.sum.begins head.sum.ends) c.deref.ensures.value
    (subst (λ (o : Option Head). IfSome o (λ read. Tells (lex s 0 c.deref.result.now).marks (lex s 0 c.deref.result.now).ends read.sum.sum read.sum.begins read.sum.ends)) c.in-Some.is c.read_head.ensures.sum) in
    let leads : (lex s 0 bytes).exit ≡ LexExit.state head.state =
    subst (λ (xs : List ℕ). (lex s 0 xs).exit ≡ LexExit.state head.state) c.deref.ensures.value
    (subst (λ (o : Option Head). IfSome o (λ read. (lex s 0 c.deref.result.now).exit ≡ LexExit.state read.state)) c.in-Some.is c.read_head.ensures.exit) in
    let likely : (lex s 0 bytes).exit ≡ LexExit.state a.state = leads ∙ ap (λ (q : LexState). LexExit.state q) (c.are_same.ensures c.if-are_same.true) in
    IfSome_then c.joined.result c.joined.ensures
    (λ both joins depth xs alone.
    lone_sum (lone_of a) depth xs (subst (λ v. IsReadAlone depth xs v) (sym c.self.view_is) alone) s likely (λ q at first rest. c.lex_of_two_parts.ensures.two q at first rest) head.sum both sums joins)

use Rattle.std.proofs.Common.{List, ℕ, Option, subst}
use Rattle.jx_lex.specs.declared.alphabet.mark.Mark.{Mark}
use Rattle.jx_names.specs.inside.HeldNames.{IsHeld}
use Rattle.jx_names.specs.inside.KeptNames.{kept}
use Rattle.jx_names.proofs.Telling.{Tells, stands_all, stands_last}
use Rattle.jx_names.proofs.held.Held.into_names.Goals as goal

pub returns-in_default : goal.returns-in_default
returns-in_default c = λ bytes marks ends h.
    let s = c.args.self in
    stands_all bytes marks ends s.names s.name.items (subst (λ (o : Option Mark). IsHeld bytes marks ends s.names o s.name.items) c.in_default.is h)

pub returns : goal.returns
returns c = λ bytes marks ends h.
    let s = c.args.self in
    let m = c.in-Some.mark in
    stands_last bytes marks ends s.names s.name.items m c.tell.new.self
    (subst (λ (xs : List ℕ). Tells m.kind m.at xs (kept s.names) (kept c.tell.new.self)) c.deref.ensures.value c.in_ok-tell.ensures)
    (subst (λ (o : Option Mark). IsHeld bytes marks ends s.names o s.name.items) c.in-Some.is h)

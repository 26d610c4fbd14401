use Rattle.std.proofs.Common.{List, ℕ, Option, refl, subst}
use Rattle.jx_lex.specs.declared.alphabet.mark.Mark.{Mark}
use Rattle.jx_index.specs.declared.seeker.Seeker.{Seeker}
use Rattle.jx_find.specs.Held.{IsHeld}
use Rattle.jx_find.proofs.Helds.{met_all, met_last}
use Rattle.jx_find.proofs.Soughts.{Tells}
use Rattle.jx_find.proofs.held.Sought.ended.Goals as goal

pub returns-in_default : goal.returns-in_default
returns-in_default c = λ bytes marks ends end h.
    let s = c.args.self in
    met_all bytes c.args.edges.now marks ends s.state s.next s.name.items
    (subst (λ (o : Option Mark). IsHeld bytes c.args.edges.now marks ends s.state s.next o s.name.items) c.in_default.is h)

pub returns : goal.returns
returns c = λ bytes marks ends end h.
    let s = c.args.self in
    let m = c.in-Some.mark in
    let k : Seeker = record { state = s.state; next = s.next; starts = c.args.starts } in
    let tells : Tells c.args.edges.now m.kind m.at c.args.last c.deref.result.now k c.tell.new.self = record { noted = c.in_ok-tell.ensures.noted; ready = c.in_ok-tell.ensures.next } in
    met_last bytes c.args.edges.now marks ends s.state s.next s.name.items m s.begun k c.tell.new.self c.args.last c.in-Some.is end refl refl
    (subst (λ (xs : List ℕ). Tells c.args.edges.now m.kind m.at c.args.last xs k c.tell.new.self) c.deref.ensures.value tells) h

use Rattle.std.proofs.Common.{◌≡◌, ℕ, ◌-◌, Option, arith, refl, subst, sym, take}
use Rattle.std.specs.Prelude.{IfSome, reverse}
use Rattle.jx_run.specs.Reading.{read_text}
use Rattle.jx_edit.specs.Document.{DocumentValue}
use Rattle.jx_edit.specs.Standing.{StandsBefore}
use Rattle.jx_edit.specs.declared.reading.standing.Stand.{Stand}
use Rattle.jx_edit.specs.inside.Chunks.{ChunkedValue}
use Rattle.jx_edit.specs.inside.Fronts.{with_front}
use Rattle.jx_edit.specs.inside.Places.{PlaceValue, came_to}
use Rattle.jx_edit.proofs.Stood.{stood_before, StoodBefore}
use Rattle.jx_edit.proofs.document.Document.stand.Goals as goal

pub returns-in-Some : goal.returns-in-Some
returns-in-Some c =
    let settings = c.self.inside.settings in
    let front = c.self.inside.front in
    let rest : ChunkedValue = c.self.inside.rest in
    let skip = c.in-Skip.skip in
    let at = c.args.at in
    let Reads : PlaceValue → Type 0 = λ p. (start : ℕ) → read_text rest.depth start (take (at - skip) rest.bytes) ≡ came_to p in
    let reads : Reads c.in-Some.place = subst (λ (o : Option PlaceValue). IfSome o Reads) c.in-Some.is c.in_ok-stand.ensures in
    let place : PlaceValue = record { state = c.place.inside.state; expect = c.place.inside.expect; holders = reverse c.place.inside.holders.items } in
    let stood : StoodBefore settings (with_front front rest.bytes) skip at place =
    stood_before settings front rest (with_front front rest.bytes) skip at place c.self.invariant refl c.in-Skip.is (omega arith) (subst Reads (sym c.place.view_is) reads) in
    let stand : Stand = record { state = c.place.inside.state; expect = c.place.inside.expect; holders = c.place.inside.holders } in
    subst (λ (d : DocumentValue). StandsBefore d.settings d.bytes at stand) c.self.view_is (record { from = skip; begins = stood.begins; reading = stood.reading })
